-- The last InvAck: the line has drained. It is clean where its grantee has given it back, else the grantee owns it, E4 and E5.
use Rattle.std.proofs.Common.{◌≡◌, ◌≢◌, ℕ, Bool, true, false, cond, not, nat_le, ◌==◌, ◌&&◌, List, ◌∷◌, refl, arith, ap, sym, ◌∙◌, subst}
use Rattle.std.proofs.lemmas.Bool.Decides.{nat_tests}
use Rattle.eager_model.specs.Types.{Reply, Idle}
use Rattle.op_model.specs.Nodes.{listed, unlist, count, none, only, listings, count-unlist, none_of_count}
use Rattle.op_model.specs.Operations.{Words}
use Rattle.op_model.specs.Messages.{Content, InvAck}
use Rattle.op_model.specs.Lines.{Absent}
use Rattle.line_invariant.specs.Good.{Acked, NoDuty, Clean, HomeOwns, Owned, Bare, Holds, Usual, IsGoodNode, asked_role}
use Rattle.line_invariant.proofs.Public.{all_in, alone, bare-any, node-all-in, node-may-share}
use Rattle.std.proofs.lemmas.Bool.{ne_eqb}
use Rattle.eager_model.specs.Rows.{drained_list}
use Rattle.eager_model.specs.Line.{AgedLine}
use Rattle.eager_model.specs.Good.{IsDraining, IsSettled, has_words}
use Rattle.eager_model.proofs.Quiet.{quiet_row}
use Rattle.eager_model.proofs.Acknowledgements.{comes, from, drained, bare-has-none, holder-has, holder-any}

module _ (home : ℕ) (line : AgedLine) (newest : line.words_at line.top ≡ line.line.words) (good : IsDraining home line) (p : ℕ) (apart : p ≢ home)
    (rest : List Content) (age : ℕ) (ages : List ℕ) (front : line.line.lane p home Reply ≡ InvAck ∷ rest) (first : line.lane_age p home Reply ≡ age ∷ ages) (last : nat_le line.line.header.acks 1 ≡ true) where
  acked : (good.status p).duty ≡ Acked
  acked = (comes home line newest good p apart rest age ages front first).1

  here : ((p == good.grantee) ≡ false) × (listed line.line.header.list p ≡ true)
  here = from home line newest good p apart rest age ages front first

  one : count line.line.header.list ≡ 1
  one = let due = good.header.due in let some = good.header.some in grind (arith, nat_tests)

  rid : (q : ℕ) → listed (unlist line.line.header.list p) q ≡ false
  rid = alone line.line.header.list p here.1 one

  all_gone : unlist line.line.header.list p ≡ none
  all_gone = none_of_count _ (count-unlist line.line.header.list p ∙ simp (here.1, one))

  -- a node that was called has no copy now
  called-node : (node : ℕ) → node ≢ home → (node == good.grantee) ≡ false → (next : Words) → IsGoodNode (Bare Usual NoDuty) next false (line.line.copy node) (line.line.want node) (all_in home p good.status node)
  called-node node far other next =
      node-all-in (line.words_at (good.has node)) next (listed line.line.header.list node) (line.line.copy node) (line.line.want node) (good.status node) home p node far (rw other at (good.nodes node far))
      (λ same. rw same acked)
      (λ others. let e = rid node in grind (arith, nat_tests, listings))

  -- the grantee is as it was
  grantee-node : (node : ℕ) → node ≢ home → (node == good.grantee) ≡ true → IsGoodNode (asked_role good.holds NoDuty) (line.words_at (good.has node)) (listed line.line.header.list node) (line.line.copy node) (line.line.want node) (all_in home p good.status node)
  grantee-node node far same =
      let off : (node == home) ≡ false = ne_eqb node home far in
      let other : (node == p) ≡ false = let e = here.0 in grind (arith, nat_tests) in
      rw (off, other) (rw same at (good.nodes node far))

  -- the grantee has given the line back
  drained-clean : good.holds ≡ false → IsSettled home (quiet_row home line p Reply InvAck rest age ages (record line.line.header { wait = Idle; list = unlist line.line.header.list p; acks = 0 }))
  drained-clean gave =
      let copy : line.line.copy home ≡ Absent = rw gave at good.header.own in
      drained home line newest good p apart rest age ages front first Clean (unlist line.line.header.list p)
      (refl, good.header.dirty ∙ gave, (rw gave at good.header.memory), rw copy tt, rw copy tt)
      refl (rid home)
      (λ node far. node-may-share line.line.words false (line.line.copy node) (line.line.want node) (all_in home p good.status node) (listed (unlist line.line.header.list p) node) (bare node far line.line.words (node == good.grantee) refl))
      (λ node far e. absurd (let no = bare-has-none line.line.words false (line.line.copy node) (line.line.want node) (all_in home p good.status node) Usual NoDuty (bare node far line.line.words (node == good.grantee) refl) in grind arith))
    where
      bare : (node : ℕ) → node ≢ home → (next : Words) → (b : Bool) → (node == good.grantee) ≡ b → IsGoodNode (Bare Usual NoDuty) next false (line.line.copy node) (line.line.want node) (all_in home p good.status node)
      bare node far next false e = called-node node far e next
      bare node far next true e = bare-any NoDuty (line.words_at (good.has node)) next _ false (line.line.copy node) (line.line.want node) (all_in home p good.status node) (rw gave at (grantee-node node far e))

  -- the home itself has the line
  drained-home : good.holds ≡ true → (good.grantee == home) ≡ true → IsSettled home (quiet_row home line p Reply InvAck rest age ages (record line.line.header { wait = Idle; list = unlist line.line.header.list p; acks = 0 }))
  drained-home holds own =
      drained home line newest good p apart rest age ages front first HomeOwns (unlist line.line.header.list p)
      (refl, good.header.dirty ∙ holds, all_gone, (rw (holds, own) at good.header.own))
      refl (rid home)
      (λ node far. rw (rid node) (called-node node far (grind (arith, nat_tests)) line.line.words))
      (λ node far e. absurd (let no = bare-has-none line.line.words (listed (unlist line.line.header.list p) node) (line.line.copy node) (line.line.want node) (all_in home p good.status node) Usual NoDuty (rw (rid node) (called-node node far (grind (arith, nat_tests)) line.line.words)) in grind arith))

  -- another node has it
  drained-owned : good.holds ≡ true → (good.grantee == home) ≡ false → IsSettled home (quiet_row home line p Reply InvAck rest age ages (record line.line.header { wait = Idle; list = only good.grantee; acks = 0 }))
  drained-owned holds away =
      let copy : line.line.copy home ≡ Absent = rw (holds, away) at good.header.own in
      let far_grantee : good.grantee ≢ home = grind (arith, nat_tests) in
      drained home line newest good p apart rest age ages front first (Owned good.grantee) (only good.grantee)
      (refl, good.header.dirty ∙ holds, refl, copy, far_grantee)
      refl (grind (arith, nat_tests, listings))
      (λ node far. nodes node far (node == good.grantee) refl)
      (λ node far e. aged node far e (node == good.grantee) refl)
    where
      holder : (node : ℕ) → node ≢ home → (node == good.grantee) ≡ true → IsGoodNode (Holds NoDuty) (line.words_at (good.has node)) (listed line.line.header.list node) (line.line.copy node) (line.line.want node) (all_in home p good.status node)
      holder node far e = rw holds at (grantee-node node far e)

      newest-held : (node : ℕ) → node ≢ home → (node == good.grantee) ≡ true → good.has node ≡ line.top
      newest-held node far e =
          let before : IsGoodNode (asked_role good.holds NoDuty) (line.words_at (good.has node)) (listed line.line.header.list node) (line.line.copy node) (line.line.want node) (good.status node) = rw e at (good.nodes node far) in
          let has = holder-has _ _ (line.line.copy node) (line.line.want node) (good.status node) NoDuty (rw holds at before) in
          rw (e, holds) at (good.ages.aged node far has)

      nodes : (node : ℕ) → node ≢ home → (b : Bool) → (node == good.grantee) ≡ b →
          IsGoodNode (cond b (Holds NoDuty) (Bare Usual NoDuty)) line.line.words (listed (only good.grantee) node) (line.line.copy node) (line.line.want node) (all_in home p good.status node)
      nodes node far false e = bare-any NoDuty line.line.words line.line.words false _ (line.line.copy node) (line.line.want node) (all_in home p good.status node) (called-node node far e line.line.words)
      nodes node far true e =
          let words : line.words_at (good.has node) ≡ line.line.words = ap line.words_at (newest-held node far e) ∙ newest in
          holder-any line.line.words _ (line.line.copy node) (line.line.want node) (all_in home p good.status node) NoDuty _ (rw words at (holder node far e))

      aged : (node : ℕ) → node ≢ home → has_words (line.line.copy node) (line.line.want node) (all_in home p good.status node) ≡ true → (b : Bool) → (node == good.grantee) ≡ b → good.has node ≡ line.top
      aged node far has true e = newest-held node far e
      aged node far has false e = absurd (let no = bare-has-none line.line.words false (line.line.copy node) (line.line.want node) (all_in home p good.status node) Usual NoDuty (called-node node far e line.line.words) in grind arith)

  pub good-drained : IsSettled home (quiet_row home line p Reply InvAck rest age ages (record line.line.header { wait = Idle; list = drained_list home line.line.header (unlist line.line.header.list p); acks = 0 }))
  good-drained = subst (λ list. IsSettled home (quiet_row home line p Reply InvAck rest age ages (record line.line.header { wait = Idle; list = list; acks = 0 }))) (sym told) (go good.holds refl (good.grantee == home) refl)
    where
      told : drained_list home line.line.header (unlist line.line.header.list p) ≡ cond (good.holds && not (good.grantee == home)) (only good.grantee) (unlist line.line.header.list p)
      told = rw (good.header.waits, good.header.dirty)

      go : (h : Bool) → good.holds ≡ h → (b : Bool) → (good.grantee == home) ≡ b → IsSettled home (quiet_row home line p Reply InvAck rest age ages (record line.line.header { wait = Idle; list = cond (h && not b) (only good.grantee) (unlist line.line.header.list p); acks = 0 }))
      go true holds true e = drained-home holds e
      go true holds false e = drained-owned holds e
      go false gave b e = drained-clean gave
