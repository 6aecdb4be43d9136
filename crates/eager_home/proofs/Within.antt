-- How high ages rise by an act.
use Rattle.std.proofs.Common.{ℕ, suc, ◌+◌, ◌≤◌, Bool, not, ◌==◌, ◌&&◌, List, sym, arith, subst, Option}
use Rattle.line_map.specs.Sizes.{Sizes, home_of}
use Rattle.op_model.specs.declared.messages.Msg.{Msg}
use Rattle.op_model.specs.declared.operations.Op.{Op}
use Rattle.op_model.specs.Lines.{Copy, Absent, Shared, Exclusive, For, LineShare, NoService, Outcome, Own, Service, is_empty, is_exclusive, is_pending}
use Rattle.op_model.specs.Messages.{Content, Get, GetX, FwdGet, FwdGetX, Inv, Wb, Rpl, Put, PutX, Nak, InvAck, ShWb, FAck, Nakc, msg_content, msg_line}
use Rattle.op_model.specs.Operations.{Words}
use Rattle.op_model.specs.Shares.{Share, copy_of, line_share}
use Rattle.op_model.specs.Events.Node.{Input, NodeOutcome, TakeFrom}
use Rattle.line_invariant.proofs.Public.{if-either}
use Rattle.eager_model.specs.Ages.{LineAges, age_given, ages_begun, ages_left, ages_taken, filled_age, served_age, with_copy}
use Rattle.eager_model.specs.Node.{NodeAges, aged, ages_by, line_ages, meets_row, put_ages, row_done}
use Rattle.magic_node.specs.declared.acts.LocalEvent.{LocalEvent}
use Rattle.magic_node.specs.declared.acts.LocalEvent.TheVariants.{Hit, Issue, Evict, Reclaim}
use Rattle.magic_node.specs.Nodes.{input_of}
use Rattle.msg_words.specs.SendList.{SendList}
use Rattle.eager_home.specs.Aged.{AgedActs, AreWithin}
use Rattle.eager_home.specs.Views.{RiseWithin}
use Rattle.eager_home.specs.declared.aging.AgedEffect.{AgedEffect}

-- both ages of a line are at most this one
abbrev IsWithin : ℕ → LineAges → Type 0
IsWithin bound pair = (pair.copy ≤ bound) × (pair.memory ≤ bound)

one-more : (n bound : ℕ) → n ≤ bound → n ≤ bound + 1
one-more n bound few = omega arith

next-one : (n bound : ℕ) → n ≤ bound → suc n ≤ bound + 1
next-one n bound few = omega arith

filled : (bound : ℕ) (copy : Copy) (memory : ℕ) → memory ≤ bound → filled_age copy memory ≤ bound + 1
filled bound Absent memory few = one-more memory bound few
filled bound (Shared words) memory few = one-more memory bound few
filled bound (Exclusive words) memory few = next-one memory bound few

module _ (bound : ℕ) (pair : LineAges) (young : IsWithin bound pair) where
  abbrev more : IsWithin (bound + 1) pair
  more = (one-more pair.copy bound young.0, one-more pair.memory bound young.1)

  begun : (row : Outcome) → IsWithin (bound + 1) (ages_begun row pair)
  begun row = if-either (IsWithin (bound + 1)) row.done _ _ (λ _. (filled bound row.share.copy pair.memory young.1, more.1)) (λ _. more)

  left : (at_home : Bool) (share : LineShare) → IsWithin (bound + 1) (ages_left at_home share pair)
  left at_home share = if-either (IsWithin (bound + 1)) (at_home && is_exclusive share.copy) _ _ (λ _. (more.0, more.0)) (λ _. more)

  by-event : (sizes : Sizes) (node : ℕ) (old : Share) (event : LocalEvent) (gate : Bool) (age : ℕ) (out : NodeOutcome) → IsWithin (bound + 1) (ages_by sizes node old (input_of event gate) age out pair)
  by-event sizes node old Hit gate age out = more
  by-event sizes node old Issue gate age out = begun (row_done sizes out)
  by-event sizes node old (Evict line kind) gate age out = left (node == home_of sizes line) (line_share sizes old line)
  by-event sizes node old (Reclaim line) gate age out = more

  module _ (age : ℕ) (of : age ≤ bound) where
    taken : (at_home : Bool) (content : Content) (share : LineShare) → IsWithin bound (ages_taken at_home age content share pair)
    taken at_home (Put words) share = (of, if-either (λ (n : ℕ). n ≤ bound) at_home age pair.memory (λ _. of) (λ _. young.1))
    taken at_home (PutX words) share = (of, young.1)
    taken at_home (Wb words) share = (young.0, of)
    taken at_home (ShWb words) share = (young.0, of)
    taken at_home Get share = if-either (IsWithin bound) (not (is_pending share.header) && share.header.dirty && share.header.local) _ _ (λ _. (young.0, young.0)) (λ _. young)
    taken at_home GetX share = young
    taken at_home (FwdGet r) share = young
    taken at_home (FwdGetX r) share = young
    taken at_home Inv share = young
    taken at_home Rpl share = young
    taken at_home (Nak cause) share = young
    taken at_home InvAck share = young
    taken at_home FAck share = young
    taken at_home Nakc share = young

    by-message : (sizes : Sizes) (node : ℕ) (old : Share) (src : ℕ) (m : Msg) (victim : Option ℕ) (out : NodeOutcome) → IsWithin bound (ages_by sizes node old (TakeFrom src m victim) age out pair)
    by-message sizes node old src m victim out =
        if-either (IsWithin bound) (meets_row sizes node old src m) _ _ (λ _. taken (node == home_of sizes (msg_line m)) (msg_content m) (line_share sizes old (msg_line m))) (λ _. young)

-- the copy's age is none where there is none
copied : (top : ℕ) (copy : Copy) (pair : LineAges) → IsWithin top pair → IsWithin top (with_copy copy pair)
copied top copy pair young = (if-either (λ (n : ℕ). n ≤ top) (is_empty copy) 0 pair.copy (λ _. omega arith) (λ _. young.0), young.1)

given-within : (bound : ℕ) (at_home : Bool) (share : LineShare) (pair : LineAges) → IsWithin bound pair → age_given at_home share pair ≤ bound
given-within bound at_home share pair young = if-either (λ (n : ℕ). n ≤ bound) (at_home && not share.header.dirty) pair.memory pair.copy (λ _. young.1) (λ _. young.0)

served-within : (top given copy : ℕ) (service : Service) → given ≤ top → copy ≤ top → served_age given copy service ≤ top
served-within top given copy NoService g c = omega arith
served-within top given copy (Own op on) g c = c
served-within top given copy (For node on) g c = g

put-within : (bound top line : ℕ) (row : LineAges) (before : NodeAges) → bound ≤ top → AreWithin bound before → IsWithin top row → AreWithin top (put_ages line row before)
put-within bound top line row before more young within k = (
  if-either (λ (n : ℕ). n ≤ top) (k == line) row.copy (before.copy k) (λ _. within.0) (λ _. below (before.copy k) (young k).0),
  if-either (λ (n : ℕ). n ≤ top) (k == line) row.memory (before.memory k) (λ _. within.1) (λ _. below (before.memory k) (young k).1),
)
  where
    below : (n : ℕ) → n ≤ bound → n ≤ top
    below n few = omega arith

module _ (sizes : Sizes) (node : ℕ) (program : List Op) (brought : Words) (old : Share) (before : NodeAges) (new : Share) (after : NodeAges) (out out' : SendList) (did : AgedEffect) where
  rises : (bound top : ℕ) (input : Input) (age : ℕ) → bound ≤ top → AreWithin bound before → (a : AgedActs sizes node program brought old before input age new after out out' did) →
      IsWithin top (ages_by sizes node old input age a.acts.outcome (line_ages before a.acts.outcome.line)) → RiseWithin bound top after did
  unfolding aged
  rises bound top input age more young a within =
      let o = a.acts.outcome in
      let pair = line_ages before o.line in
      let row = copied top (copy_of o.share o.line) (ages_by sizes node old input age o pair) within in
      let given = given-within bound (node == home_of sizes o.line) (line_share sizes old o.line) pair (young o.line) in
      record {
        ages = subst (AreWithin top) (sym a.ages) (put-within bound top o.line _ before more young row);
        given = subst (λ n. n ≤ bound) (sym a.given) given;
        served = subst (λ n. n ≤ top) (sym a.served) (served-within top _ _ o.served (up _ given) row.0);
      }
    where
      up : (n : ℕ) → n ≤ bound → n ≤ top
      up n few = omega arith

  pub event-rises : (bound : ℕ) (event : LocalEvent) (gate : Bool) → AreWithin bound before → AgedActs sizes node program brought old before (input_of event gate) 0 new after out out' did → RiseWithin bound (bound + 1) after did
  event-rises bound event gate young a =
      rises bound (bound + 1) (input_of event gate) 0 (omega arith) young a (by-event bound (line_ages before a.acts.outcome.line) (young a.acts.outcome.line) sizes node old event gate 0 a.acts.outcome)

  pub message-rises : (bound src : ℕ) (m : Msg) (victim : Option ℕ) (age : ℕ) → AreWithin bound before → age ≤ bound → AgedActs sizes node program brought old before (TakeFrom src m victim) age new after out out' did → RiseWithin bound bound after did
  message-rises bound src m victim age young of a =
      rises bound bound (TakeFrom src m victim) age (omega arith) young a (by-message bound (line_ages before a.acts.outcome.line) (young a.acts.outcome.line) age of sizes node old src m victim a.acts.outcome)
