-- A forward at the owner keeps the line good: the owner shares its copy, hands it on, or says that it is gone.
-- The forward under way tells the phase and the requester, whose operation waits for this answer.
use Rattle.std.proofs.Common.{◌≡◌, ◌≢◌, ℕ, Bool, true, false, cond, ◌==◌, ◌&&◌, ◌||◌, not, List, [], ◌∷◌, refl, arith, ap, sym, ◌∙◌}
use Rattle.std.proofs.Math.Bool.{and-true, and-false}
use Rattle.std.proofs.lemmas.Bool.{ne_eqb}
use Rattle.std.proofs.lemmas.Bool.Decides.{nat_tests}
use Rattle.line_invariant.specs.Types.{Gone, Request}
use Rattle.op_model.specs.Nodes.{listed, enlist, only, listings}
use Rattle.op_model.specs.Operations.{Words}
use Rattle.op_model.specs.Messages.{Content, Put, PutX, Nak}
use Rattle.op_model.specs.Lines.{Absent, Shared, Exclusive, For, sending}
use Rattle.op_model.specs.Tables.Remote.{gone}
use Rattle.op_model.proofs.Public.{eqb-self, eqb-swap}
use Rattle.line_invariant.specs.Line.{Line, share_of, after_row, taken}
use Rattle.line_invariant.specs.Good.{is_put, Forwarded, Answered, Duty, NoDuty, ToGive, Returned, Handed, Refused, Asked, SharedOut, HandedOn, MayShare, Bare, Usual, ByForward, asked_role, asked_list, told_part, IsGoodNode, IsGood, IsGoodHeader, IsGoodHome}
use Rattle.line_invariant.proofs.ForwardLanes.{answered_by, backs, lanes-answered}
use Rattle.line_invariant.proofs.ForwardNodes.{node-gets, node-gets-all, node-fails, node-shares, node-gives, node-refuses, node-bare-shares, home-fails, home-gets, home-gets-all}
use Rattle.line_invariant.proofs.Marks.{at-one, at-one-gets}
use Rattle.line_invariant.proofs.Steps.{remote-step-all}

asked-owner : (home : ℕ) (write : Bool) (r p : ℕ) → listed (asked_list home write r p) p ≡ true
asked-owner home write r p = go (write || (r == home))
  where
    go : (c : Bool) → listed (cond c (only p) (enlist (only p) r)) p ≡ true
    go true = grind (arith, nat_tests, listings)
    go false = grind (arith, nat_tests, listings)

asked-requester : (home r p : ℕ) → r ≢ home → listed (asked_list home false r p) r ≡ true
asked-requester home r p far = rw (ne_eqb r home far) (grind (arith, nat_tests, listings))

module _ (home : ℕ) (line : Line) (good : IsGood home line) (p : ℕ) (apart : p ≢ home) (rest : List Content) (empty : rest ≡ []) (write : Bool) (r : ℕ) (holds : Bool)
    (phase : good.phase ≡ Asked write r p false holds) (duty : (good.status p).duty ≡ ToGive write r) where
  header_is : IsGoodHeader home (Asked write r p false holds) line.words line.header (line.copy home)
  header_is = rw phase at good.header

  at_home_is : IsGoodHome home (Asked write r p false holds) line.words (line.copy home) (line.want home) (good.status home)
  at_home_is = rw phase at good.at_home

  it_is : IsGoodNode (asked_role holds (ToGive write r)) line.words (listed line.header.list p) (line.copy p) (line.want p) (good.status p)
  it_is = rw (eqb-self p) at (rw phase at (good.nodes p apart))

  node_is : (node : ℕ) → node ≢ home → node ≢ p → IsGoodNode (Bare (cond (node == r) (ByForward write) Usual) NoDuty) line.words (listed line.header.list node) (line.copy node) (line.want node) (good.status node)
  node_is node far other = simp (ne_eqb node p other, and-true) at (rw phase at (good.nodes node far))

  pub waits_is : (good.status r).carrier ≡ Forwarded write
  waits_is = go (r == home) refl
    where
      go : (c : Bool) → (r == home) ≡ c → (good.status r).carrier ≡ Forwarded write
      go true e = let same : r ≡ home = grind (arith, nat_tests) in let c : (good.status home).carrier ≡ Forwarded write = rw e at at_home_is.carrier in ap (λ k. (good.status k).carrier) same ∙ c
      go false e = let far : r ≢ home = grind (arith, nat_tests) in (rw (eqb-self r) at (node_is r far header_is.6)).waiting

  -- the owner has nothing to give
  pub good-gone : IsGood home (after_row home p (gone home r (share_of line p)) (record line { lane = taken home p Request rest line.lane }))
  good-gone =
      remote-step-all home p line good apart (gone home r (share_of line p)) (Asked write r p true holds) (answered_by p r (Nak Gone) Refused good.status) (taken home p Request rest line.lane) refl
      (at-one line.answered good.status good.answered r (Answered p (Nak Gone)) (sym (ap is_put waits_is)))
      (lanes-answered home p line.lane good.status apart good.lanes write r rest empty duty waits_is header_is.6 (Nak Gone) refl Refused refl)
      header_is
      (rw (eqb-swap home r, ne_eqb home p away) (home-fails home line.words r p holds (line.copy home) (line.want home) (good.status home) write (r == home) Gone refl at_home_is))
      (rw (eqb-self p, ne_eqb p r differs) (node-refuses line.words _ (line.copy p) (line.want p) (good.status p) holds (ToGive write r) Refused it_is))
      (λ node far other. rw (ne_eqb node p other, and-false) (go node (node == r) refl (node_is node far other)))
    where
      away : home ≢ p
      away e = apart (sym e)

      differs : p ≢ r
      differs e = header_is.6 (sym e)

      go : (node : ℕ) (c : Bool) → (node == r) ≡ c → IsGoodNode (Bare (cond c (ByForward write) Usual) NoDuty) line.words (listed line.header.list node) (line.copy node) (line.want node) (good.status node) →
          IsGoodNode (Bare Usual NoDuty) line.words (listed line.header.list node) (line.copy node) (line.want node) (record (good.status node) { carrier = cond c (Answered p (Nak Gone)) (good.status node).carrier })
      go node true e it = node-fails line.words _ (line.copy node) (line.want node) (good.status node) write p Gone _ it
      go node false e it = it

module _ (home : ℕ) (line : Line) (good : IsGood home line) (p : ℕ) (apart : p ≢ home) (rest : List Content) (empty : rest ≡ []) (r : ℕ) (has : Words) (is : line.copy p ≡ Exclusive has) where
  -- the owner shares its copy
  pub good-shared : good.phase ≡ Asked false r p false true → (good.status p).duty ≡ ToGive false r → (next : Duty) → next ≡ cond (r == home) NoDuty (Returned has) →
      IsGood home (after_row home p (record { share = record (share_of line p) { copy = Shared has }; sends = (r, Put has) ∷ backs home next; served = For r has; done = false }) (record line { lane = taken home p Request rest line.lane }))
  good-shared phase duty next next_is =
      let header = header_is home line good p apart rest empty false r true phase duty in
      let at_home = at_home_is home line good p apart rest empty false r true phase duty in
      let it = it_is home line good p apart rest empty false r true phase duty in
      let waits = waits_is home line good p apart rest empty false r true phase duty in
      let lists : listed line.header.list p ≡ true = ap (λ l. listed l p) header.3 ∙ asked-owner home false r p in
      let shares = node-shares line.words _ (line.copy p) (line.want p) (good.status p) (ToGive false r) has _ next it is lists in
      remote-step-all home p line good apart (record { share = record (share_of line p) { copy = Shared has }; sends = (r, Put has) ∷ backs home next; served = For r has; done = false }) (SharedOut r p) (answered_by p r (Put has) next good.status) (taken home p Request rest line.lane) refl
      (at-one-gets line.answered good.status good.answered r (Answered p (Put has)) refl)
      (lanes-answered home p line.lane good.status apart good.lanes false r rest empty duty waits header.6 (Put has) refl next (rw next_is (quiet (r == home))))
      (header.0, header.1, header.3, header.4, header.5, header.6)
      (rw (eqb-swap home r, ne_eqb home p away) (home-gets home line.words r p true (line.copy home) (line.want home) (good.status home) (r == home) has shares.1 refl at_home))
      (rw (eqb-self p, ne_eqb p r (differs header.6), ← duty-is shares.1 (r == home), ← next_is) shares.0)
      (λ node far other. rw (ne_eqb node p other) (go node far (node == r) refl header.3 shares.1 (node_is home line good p apart rest empty false r true phase duty node far other)))
    where
      away : home ≢ p
      away e = apart (sym e)

      differs : r ≢ p → p ≢ r
      differs n e = n (sym e)

      quiet : (c : Bool) → told_part (cond c NoDuty (Returned has)) ≡ []
      quiet true = refl
      quiet false = refl

      duty-is : has ≡ line.words → (c : Bool) → cond c NoDuty (Returned has) ≡ cond (true && not c) (Returned line.words) NoDuty
      duty-is same true = refl
      duty-is same false = ap Returned same

      go : (node : ℕ) → node ≢ home → (c : Bool) → (node == r) ≡ c → line.header.list ≡ asked_list home false r p → has ≡ line.words → IsGoodNode (Bare (cond c (ByForward false) Usual) NoDuty) line.words (listed line.header.list node) (line.copy node) (line.want node) (good.status node) →
          IsGoodNode (MayShare NoDuty) line.words (listed line.header.list node) (line.copy node) (line.want node) (record (good.status node) { carrier = cond c (Answered p (Put has)) (good.status node).carrier })
      go node far true e list same it =
          let is_r : node ≡ r = grind (arith, nat_tests) in
          let far_r : r ≢ home = grind (arith, nat_tests) in
          node-gets line.words _ (line.copy node) (line.want node) (good.status node) p has _ it same (ap (λ l. listed l node) list ∙ ap (listed (asked_list home false r p)) is_r ∙ asked-requester home r p far_r)
      go node far false e list same it = node-bare-shares line.words _ (line.copy node) (line.want node) (good.status node) NoDuty _ it

  -- the owner hands its copy on
  pub good-handed : good.phase ≡ Asked true r p false true → (good.status p).duty ≡ ToGive true r → (next : Duty) → next ≡ cond (r == home) NoDuty Handed →
      IsGood home (after_row home p (sending (record (share_of line p) { copy = Absent }) ((r, PutX has) ∷ backs home next)) (record line { lane = taken home p Request rest line.lane }))
  good-handed phase duty next next_is =
      let header = header_is home line good p apart rest empty true r true phase duty in
      let at_home = at_home_is home line good p apart rest empty true r true phase duty in
      let it = it_is home line good p apart rest empty true r true phase duty in
      let waits = waits_is home line good p apart rest empty true r true phase duty in
      let gives = node-gives line.words (listed line.header.list p) (line.copy p) (line.want p) (good.status p) (ToGive true r) has (listed line.header.list p) next it is in
      remote-step-all home p line good apart (sending (record (share_of line p) { copy = Absent }) ((r, PutX has) ∷ backs home next)) (HandedOn r p true) (answered_by p r (PutX has) next good.status) (taken home p Request rest line.lane) refl
      (at-one line.answered good.status good.answered r (Answered p (PutX has)) (sym (ap is_put waits)))
      (lanes-answered home p line.lane good.status apart good.lanes true r rest empty duty waits header.6 (PutX has) refl next (rw next_is (quiet (r == home))))
      (header.0, header.1, tt, header.3, header.4, header.5, header.6, λ _. refl)
      (rw (eqb-swap home r, ne_eqb home p away) (home-gets-all home line.words r p true (line.copy home) (line.want home) (good.status home) (r == home) has gives.1 refl at_home))
      (rw (eqb-self p, ne_eqb p r (differs header.6), ← next_is) gives.0)
      (λ node far other. rw (ne_eqb node p other) (go node (node == r) gives.1 (node_is home line good p apart rest empty true r true phase duty node far other)))
    where
      away : home ≢ p
      away e = apart (sym e)

      differs : r ≢ p → p ≢ r
      differs n e = n (sym e)

      quiet : (c : Bool) → told_part (cond c NoDuty Handed) ≡ []
      quiet true = refl
      quiet false = refl

      go : (node : ℕ) (c : Bool) → has ≡ line.words → IsGoodNode (Bare (cond c (ByForward true) Usual) NoDuty) line.words (listed line.header.list node) (line.copy node) (line.want node) (good.status node) →
          IsGoodNode (asked_role (true && c) NoDuty) line.words (listed line.header.list node) (line.copy node) (line.want node) (record (good.status node) { carrier = cond c (Answered p (PutX has)) (good.status node).carrier })
      go node true same it = node-gets-all line.words _ (line.copy node) (line.want node) (good.status node) p has _ it same
      go node false same it = it
