-- What a message leaves begun at its taker while a line drains, what it ends, and what holds of an operation that is begun.
use Rattle.std.proofs.Common.{◌≡◌, ◌≢◌, ℕ, Bool, true, false, nat_le, ◌==◌, List, ◌∷◌, map, inl, inr, refl, arith, ap, sym, ◌∙◌, subst, Option, Some, None}
use Rattle.std.proofs.lemmas.Bool.Decides.{nat_tests}
use Rattle.eager_model.specs.Types.{Class, Op, Reply, Want}
use Rattle.op_model.specs.Operations.{Words, is_load}
use Rattle.op_model.specs.Messages.{Content, Get, GetX, Inv, Wb, Rpl, Put, PutX, Nak, InvAck}
use Rattle.op_model.specs.Lines.{Absent, Copy, Room, LineShare, Outcome, is_empty, marked_load}
use Rattle.op_model.specs.Tables.Home.{on_wb}
use Rattle.op_model.specs.Tables.Remote.{on_inv, on_nak}
use Rattle.line_invariant.specs.Line.{share_of}
use Rattle.line_invariant.specs.Good.{Carrier, Resting, IsCarried, is_put}
use Rattle.line_invariant.specs.Rows.{wanting, IsWantKept, EndsRight}
use Rattle.line_invariant.proofs.Public.{answered, if-either}
use Rattle.eager_model.specs.Rows.{on_inv_ack, on_message}
use Rattle.eager_model.specs.Line.{AgedLine, row_taken}
use Rattle.eager_model.specs.Good.{IsDraining, message_age}
use Rattle.eager_model.proofs.Acknowledgements as acked
use Rattle.eager_model.proofs.Acks.{does-ack}
use Rattle.eager_model.proofs.Hints.{does-rpl}
use Rattle.eager_model.proofs.DrainingFronts.{asks-apart, owes-apart, answers}
use Rattle.eager_model.proofs.DrainingMeets.{does-get, does-getx, does-wb, does-inv, does-put, does-putx, does-nak}
use Rattle.eager_model.proofs.DrainingAtHome.{is_dirty, not_local}
use Rattle.eager_model.proofs.DrainingTakes.{IsComing, get_comes, getx_comes, wb_comes, rpl_comes, ack_comes, inv_comes, put_comes, putx_comes, nak_comes, coming}

kept-want : (want : Option Want) → IsWantKept want want
kept-want None = refl
kept-want (Some want) = inr (want.marked, refl)

marked-want : (want : Option Want) → IsWantKept want (marked_load want)
marked-want None = refl
marked-want (Some want) = inr (_, refl)

gone-want : (want : Option Want) → IsWantKept want None
gone-want None = refl
gone-want (Some want) = inl refl

-- what a row leaves begun is what was begun, and what it ends was served
abbrev Ends : Type 0 → Option Want → Outcome → Type 0
Ends Known want o = EndsRight Known o × IsWantKept want o.share.want

ack-ends : (home from : ℕ) (share : LineShare) (Known : Type 0) → Ends Known share.want (on_inv_ack home from share)
unfolding on_inv_ack
ack-ends home from share Known = if-either (Ends Known share.want) (nat_le share.header.acks 1) _ _ (λ _. (tt, kept-want share.want)) (λ _. (tt, kept-want share.want))

module _ (home : ℕ) (line : AgedLine) (newest : line.words_at line.top ≡ line.line.words) (good : IsDraining home line) (from : ℕ) (rest : List Content) (room : Room) where
  abbrev TakenEnds : ℕ → Content → Type 0
  TakenEnds to content = Ends (line.line.answered to ≡ true) (line.line.want to) (row_taken home from to content room line.line)

  by : (to : ℕ) (content : Content) (row : Outcome) → on_message to home from (is_empty (line.line.copy to)) room content (share_of line.line to) ≡ row → Ends (line.line.answered to ≡ true) (line.line.want to) row → TakenEnds to content
  by to content row does ends = subst (λ o. Ends (line.line.answered to ≡ true) (line.line.want to) o) (sym does) ends

  ends-home : (class : Class) (content : Content) → IsComing true class content → line.line.lane from home class ≡ content ∷ rest → TakenEnds home content
  unfolding on_wb
  ends-home class content get_comes front = by home Get _ (does-get home from (share_of line.line home) good.grantee good.header.waits (asks-apart home line good from Get rest front) room) (tt, kept-want (line.line.want home))
  ends-home class content getx_comes front = by home GetX _ (does-getx home from (share_of line.line home) good.grantee good.header.waits (asks-apart home line good from GetX rest front) room) (tt, kept-want (line.line.want home))
  ends-home class content (wb_comes words) front = by home (Wb words) _ (does-wb home from (share_of line.line home) words (is_dirty home line newest good from rest words front) (not_local home line newest good from rest words front) room) (tt, kept-want (line.line.want home))
  ends-home class content rpl_comes front = by home Rpl _ (does-rpl home from room (share_of line.line home) good.grantee good.header.waits) (tt, kept-want (line.line.want home))
  ends-home class content ack_comes front =
      let first = good.ages.lanes from home Reply ∙ ap (λ ms. map (message_age line.top good.has from home) ms) front in
      by home InvAck _ (does-ack home from room (share_of line.line home) good.grantee good.header.waits (acked.from home line newest good from (owes-apart home line good from InvAck rest front) rest _ _ front first).1)
      (ack-ends home from (share_of line.line home) (line.line.answered home ≡ true))

  ends-away : (to : ℕ) → to ≢ home → (class : Class) (content : Content) → IsComing false class content → line.line.lane from to class ≡ content ∷ rest → TakenEnds to content
  unfolding on_inv on_nak
  ends-away to apart class content inv_comes front = by to Inv _ (does-inv to home apart from (share_of line.line to) room) (tt, marked-want (line.line.want to))
  ends-away to apart class content (put_comes words) front =
      let is = (answers home line good from (Put words) rest to apart front).0 in
      let op = answered (line.line.want to) (line.line.copy to) from (Put words) (rw is at (good.nodes to apart).carried) in
      by to (Put words) _ (does-put to home apart from (share_of line.line to) op.0 op.1 op.2 words room op.3 op.4) ((refl, good.answered to ∙ ap is_put is), gone-want (line.line.want to))
  ends-away to apart class content (putx_comes words) front =
      let is = (answers home line good from (PutX words) rest to apart front).0 in
      let op = answered (line.line.want to) (line.line.copy to) from (PutX words) (rw is at (good.nodes to apart).carried) in
      by to (PutX words) _ (does-putx to home apart from (share_of line.line to) op.0 op.1 op.2 words room op.3 op.4) ((refl, refl), gone-want (line.line.want to))
  ends-away to apart class content (nak_comes cause) front =
      let is = (answers home line good from (Nak cause) rest to apart front).0 in
      let op = answered (line.line.want to) (line.line.copy to) from (Nak cause) (rw is at (good.nodes to apart).carried) in
      by to (Nak cause) _ (does-nak to home apart from (share_of line.line to) op.0 op.1 op.2 cause room) (tt, gone-want (line.line.want to))

  pub take-ends : (to : ℕ) (class : Class) (content : Content) → line.line.lane from to class ≡ content ∷ rest → TakenEnds to content
  take-ends to class content front = go (to == home) refl (coming home line newest good from content rest to class front)
    where
      go : (b : Bool) → (to == home) ≡ b → IsComing b class content → TakenEnds to content
      go true e comes =
          let same : home ≡ to = grind (arith, nat_tests) in
          subst (λ t. line.line.lane from t class ≡ content ∷ rest → TakenEnds t content) same (ends-home class content comes) front
      go false e comes = ends-away to (grind (arith, nat_tests)) class content comes front

module _ (home : ℕ) (line : AgedLine) (newest : line.words_at line.top ≡ line.line.words) (good : IsDraining home line) (from : ℕ) (rest : List Content) where
  -- who takes a Put had its load served
  pub put-answered : (to : ℕ) (class : Class) (words : Words) → line.line.lane from to class ≡ Put words ∷ rest → line.line.answered to ≡ true
  put-answered to class words front = go (to == home) class refl (coming home line newest good from (Put words) rest to class front) front
    where
      go : (b : Bool) (class : Class) → (to == home) ≡ b → IsComing b class (Put words) → line.line.lane from to class ≡ Put words ∷ rest → line.line.answered to ≡ true
      go b class e (put_comes has) front =
          let apart : to ≢ home = grind (arith, nat_tests) in
          good.answered to ∙ ap is_put (answers home line good from (Put words) rest to apart front).0

-- what is begun has one carrier at each node
module _ (home : ℕ) (line : AgedLine) (good : IsDraining home line) (node : ℕ) where
  carried : IsCarried (line.line.want node) (line.line.copy node) (good.status node).carrier
  carried = go (node == home) refl
    where
      go : (b : Bool) → (node == home) ≡ b → IsCarried (line.line.want node) (line.line.copy node) (good.status node).carrier
      go true e = let same : home ≡ node = grind (arith, nat_tests) in subst (λ k. IsCarried (line.line.want k) (line.line.copy k) (good.status k).carrier) same good.at_home.carried
      go false e = let far : node ≢ home = grind (arith, nat_tests) in (good.nodes node far).carried

  pub idle-answered : line.line.want node ≡ None → line.line.answered node ≡ false
  idle-answered none = good.answered node ∙ ap is_put (at-rest (line.line.want node) (line.line.copy node) (good.status node).carrier carried none)
    where
      at-rest : (want : Option Want) (copy : Copy) (carries : Carrier) → IsCarried want copy carries → want ≡ None → carries ≡ Resting
      at-rest want copy carries c e = grind arith

  module _ (op : Op) (marked : Bool) (wants : line.line.want node ≡ wanting op marked) where
    pub writes-answered : is_load op.kind ≡ false → line.line.answered node ≡ false
    writes-answered write = good.answered node ∙ isnt (line.line.want node) (line.line.copy node) (good.status node).carrier carried wants
      where
        isnt : (want : Option Want) (copy : Copy) (carries : Carrier) → IsCarried want copy carries → want ≡ wanting op marked → is_put carries ≡ false
        isnt want copy carries c e = grind arith

    pub wants-empty : line.line.copy node ≡ Absent
    wants-empty = empty (line.line.want node) (line.line.copy node) (good.status node).carrier carried wants
      where
        empty : (want : Option Want) (copy : Copy) (carries : Carrier) → IsCarried want copy carries → want ≡ wanting op marked → copy ≡ Absent
        empty want copy carries c e = grind arith
