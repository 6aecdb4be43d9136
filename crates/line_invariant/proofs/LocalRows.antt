-- Each row of a processor keeps the line good: hits, requests, the home's own rows, evictions and calls.
-- A hit's copy and the home's header tell the phase.
use Rattle.std.proofs.Common.{◌≡◌, ◌≢◌, ℕ, Bool, true, false, cond, ◌==◌, ◌||◌, not, refl, arith, ap, sym, ◌∙◌, None}
use Rattle.std.proofs.lemmas.Bool.{ne_eqb}
use Rattle.std.proofs.lemmas.Bool.Decides.{nat_tests}
use Rattle.line_invariant.specs.Types.{Op, Nobody, Me, ForwardGet, ForwardGetX, EvictKind}
use Rattle.op_model.specs.declared.events.EvictKind.TheVariants as way
use Rattle.op_model.specs.Nodes.{listed, enlist, none, only, listed-none, none_of_count}
use Rattle.op_model.specs.Operations.{Words, is_load, after_op}
use Rattle.op_model.specs.Messages.{Get, GetX, Wb, Rpl, FwdGet, FwdGetX}
use Rattle.op_model.specs.Lines.{Copy, Absent, Shared, Exclusive, sending, no_message, one_to, is_empty, is_pending, nobody_listed, without_shared, words_of, is_idle, owner, begun}
use Rattle.op_model.specs.Tables.Processor.{serves, ask, load_at_home, write_at_home, invalidate_for_home, fits, leave_remote, leave_home, hit, done_on, call_in}
use Rattle.op_model.proofs.Public.{eqb-self}
use Rattle.line_invariant.specs.Line.{Line, share_of, after_row}
use Rattle.line_invariant.specs.Good.{is_put, Forwarded, Granted, Resting, Asking, AskingX, NotLeaving, WritesBack, Hints, NoDuty, Clean, HomeOwns, Owned, Called, Asked, Holds, Bare, Usual, ToGive, role_in, IsGoodNode, IsGood, IsGoodHeader, IsGoodHome}
use Rattle.line_invariant.proofs.Basics.{if-either, owner-only}
use Rattle.line_invariant.proofs.RemoteLanes.{lanes-ask, lanes-leave}
use Rattle.line_invariant.proofs.HomeLanes.{lanes-quiet, lanes-call, lanes-call-home, lanes-same, all_told, all_told_home, forwarded_home, lanes-forward-home}
use Rattle.line_invariant.proofs.HomeNodes.{node-may-share, node-called}
use Rattle.line_invariant.proofs.HomeRows.{clean-phase, home-rests, owned-phase}
use Rattle.line_invariant.proofs.LocalNodes.{after-load, node-ask, node-unlisted, node-leave, leaving_by, node-writes, held-alone, held-header, held-home, done-load, role-same, home-owns, header-drop, carried-empty, bare-fresh, may-keep, node-asked, serving-rests, exclusive-rests}
use Rattle.line_invariant.proofs.Marks.{keep, done, at-one, rests}
use Rattle.line_invariant.proofs.Steps.{remote-step, home-step-all}

module _ (home : ℕ) (line : Line) (good : IsGood home line) where
  -- an operation is begun, elsewhere than at the home
  pub good-ask : (p : ℕ) → p ≢ home → (op : Op) → line.want p ≡ None → serves op (line.copy p) ≡ false → IsGood home (after_row home p (ask home op (share_of line p)) line)
  unfolding ask
  good-ask p apart op free miss =
      let it = good.nodes p apart in
      let rests-now : (good.status p).carrier ≡ Resting = rw free at it.carried in
      if-either (λ o. IsGood home (after_row home p o line)) (is_load op.kind) _ _
      (λ load. remote-step home p line good apart (sending (record (share_of line p) { want = begun op }) (one_to home Get)) good.phase (record (good.status p) { carrier = Asking }) line.lane
      (keep line.answered good.status good.answered p _ (sym (ap is_put rests-now)))
      (lanes-ask home p line.lane good.status apart good.lanes true rests-now) good.header good.at_home
      (node-ask _ line.words _ (line.copy p) (line.want p) (good.status p) op true it free load miss)
      (λ node far other. good.nodes node far))
      (λ write. remote-step home p line good apart (sending (record (share_of line p) { want = begun op; copy = without_shared (line.copy p) }) (one_to home GetX)) good.phase (record (good.status p) { carrier = AskingX }) line.lane
      (keep line.answered good.status good.answered p _ (sym (ap is_put rests-now)))
      (lanes-ask home p line.lane good.status apart good.lanes false rests-now) good.header good.at_home
      (node-ask _ line.words _ (line.copy p) (line.want p) (good.status p) op false it free write miss)
      (λ node far other. good.nodes node far))

  -- a copy leaves a cache that isn't the home's
  pub good-leave-remote : (p : ℕ) → p ≢ home → (kind : EvictKind) → fits false kind (line.copy p) ≡ true → IsGood home (after_row home p (leave_remote home kind (share_of line p)) line)
  good-leave-remote p apart kind fit =
      let left = node-leave _ line.words _ (line.copy p) (line.want p) (good.status p) kind (good.nodes p apart) fit in
      go kind left.0
    where
      left-rests : ((good.status p).carrier ≡ Resting) × ((good.status p).leaving ≡ NotLeaving)
      left-rests = let left = node-leave _ line.words _ (line.copy p) (line.want p) (good.status p) kind (good.nodes p apart) fit in (left.1, left.2)

      go : (kind : EvictKind) → IsGoodNode (role_in home line.words good.phase p) line.words (listed line.header.list p) Absent (line.want p) (record (good.status p) { leaving = leaving_by kind (line.copy p) }) → IsGood home (after_row home p (leave_remote home kind (share_of line p)) line)
      go way.Wb it = remote-step home p line good apart (leave_remote home way.Wb (share_of line p)) good.phase (record (good.status p) { leaving = WritesBack (words_of (line.copy p)) }) line.lane
          (keep line.answered good.status good.answered p _ refl)
          (lanes-leave home p line.lane good.status apart good.lanes (WritesBack (words_of (line.copy p))) left-rests.0 left-rests.1 (one_to home (Wb (words_of (line.copy p)))) (rw (eqb-self home)) (λ b. grind (arith, nat_tests)) (λ b far. grind (arith, nat_tests)))
          good.header good.at_home it (λ node far other. good.nodes node far)
      go way.Hint it = remote-step home p line good apart (leave_remote home way.Hint (share_of line p)) good.phase (record (good.status p) { leaving = Hints }) line.lane
          (keep line.answered good.status good.answered p _ refl)
          (lanes-leave home p line.lane good.status apart good.lanes Hints left-rests.0 left-rests.1 (one_to home Rpl) (rw (eqb-self home)) (λ b. grind (arith, nat_tests)) (λ b far. grind (arith, nat_tests)))
          good.header good.at_home it (λ node far other. good.nodes node far)
      go way.Silent it = remote-step home p line good apart (leave_remote home way.Silent (share_of line p)) good.phase (record (good.status p) { leaving = NotLeaving }) line.lane
          (keep line.answered good.status good.answered p _ refl)
          (lanes-leave home p line.lane good.status apart good.lanes NotLeaving left-rests.0 left-rests.1 no_message refl (λ b. refl) (λ b far. refl))
          good.header good.at_home it (λ node far other. good.nodes node far)

  -- the home loads a clean line
  pub good-load-home : (op : Op) → line.want home ≡ None → serves op (line.copy home) ≡ false → is_pending line.header ≡ false → line.header.dirty ≡ false → is_load op.kind ≡ true →
      IsGood home (after_row home home (load_at_home op (share_of line home)) line)
  good-load-home op free miss idle clean load =
      let phase = clean-phase home good.phase line.words line.header (line.copy home) good.header idle clean in
      let header : IsGoodHeader home Clean line.words line.header (line.copy home) = rw phase at good.header in
      let at_home : IsGoodHome home Clean line.words (line.copy home) (line.want home) (good.status home) = rw phase at good.at_home in
      let same : after_op op line.words ≡ line.words = after-load op line.words load in
      home-step-all home line (load_at_home op (share_of line home)) Clean good.status line.lane
      (rests line.answered good.status good.answered home (ap is_put at_home.carrier))
      (lanes-quiet home line.lane good.status good.lanes home)
      (rw same (header.0, header.1, header.2, tt, (header.2, tt)))
      refl good.unlisted
      (home-rests home Clean Clean line.words _ (line.copy home) _ (line.want home) (good.status home) at_home at_home.carrier refl)
      (λ node far. rw same (rw phase at (good.nodes node far)))

  -- the home writes a clean line that no node has
  pub good-write-home : (op : Op) → line.want home ≡ None → is_pending line.header ≡ false → line.header.dirty ≡ false → nobody_listed line.header.list ≡ true →
      IsGood home (after_row home home (write_at_home op (share_of line home)) line)
  good-write-home op free idle clean nobody =
      let phase = clean-phase home good.phase line.words line.header (line.copy home) good.header idle clean in
      let header : IsGoodHeader home Clean line.words line.header (line.copy home) = rw phase at good.header in
      let at_home : IsGoodHome home Clean line.words (line.copy home) (line.want home) (good.status home) = rw phase at good.at_home in
      let empty : line.header.list ≡ none = none_of_count _ (grind (arith, nat_tests)) in
      home-step-all home line (write_at_home op (share_of line home)) HomeOwns good.status line.lane
      (rests line.answered good.status good.answered home (ap is_put at_home.carrier))
      (lanes-quiet home line.lane good.status good.lanes home)
      (header.0, refl, empty, ap (λ w. Exclusive (after_op op w)) header.2)
      refl good.unlisted
      (home-rests home Clean HomeOwns line.words _ (line.copy home) _ (line.want home) (good.status home) at_home at_home.carrier refl)
      (λ node far. node-unlisted line.words _ _ (line.copy node) (line.want node) (good.status node) (rw phase at (good.nodes node far)) (ap (λ l. listed l node) empty ∙ listed-none node))

  -- the home's write calls all copies in
  pub good-call-home : (op : Op) → line.want home ≡ None → is_pending line.header ≡ false → line.header.dirty ≡ false → nobody_listed line.header.list ≡ false → is_load op.kind ≡ false →
      IsGood home (after_row home home (invalidate_for_home op (share_of line home)) line)
  good-call-home op free idle clean some write =
      let phase = clean-phase home good.phase line.words line.header (line.copy home) good.header idle clean in
      let header : IsGoodHeader home Clean line.words line.header (line.copy home) = rw phase at good.header in
      let at_home : IsGoodHome home Clean line.words (line.copy home) (line.want home) (good.status home) = rw phase at good.at_home in
      home-step-all home line (invalidate_for_home op (share_of line home)) (Called Me) (all_told_home home line.header.list good.status) line.lane
      (at-one line.answered good.status good.answered home Granted (sym (ap is_put at_home.carrier)))
      (lanes-call-home home line.lane good.status good.lanes line.header.list good.unlisted (λ node far. (rw phase at (good.nodes node far)).duty) at_home.off_duty at_home.carrier)
      (refl, header.1, header.2, grind (arith, nat_tests), refl, tt, tt, tt)
      refl good.unlisted
      (simp (eqb-self home, good.unlisted) (record { carried = (refl, write); stays = at_home.stays; off_duty = at_home.off_duty; carrier = refl }))
      (λ node far. let off : (node == home) ≡ false = ne_eqb node home far in
      simp off (node-called line.words (listed line.header.list node) (line.copy node) (line.want node) (good.status node) (rw phase at (good.nodes node far))))

  -- a load on a copy changes nothing
  pub good-hit-load : (p : ℕ) → p ≢ home → (op : Op) → is_load op.kind ≡ true → serves op (line.copy p) ≡ true → IsGood home (after_row home p (hit op (share_of line p)) line)
  unfolding hit
  good-hit-load p apart op load serve =
      let same : after_op op line.words ≡ line.words = after-load op line.words load in
      remote-step home p line good apart (hit op (share_of line p)) good.phase (good.status p) line.lane
      (done line.answered good.status good.answered p (good.status p) (ap is_put (serving-rests op (line.want p) (line.copy p) (good.status p).carrier (good.nodes p apart).carried serve)))
      (lanes-same home line.lane good.status good.lanes p)
      (rw same good.header) (rw same good.at_home)
      (rw same (simp (done-load op (line.copy p) load) (good.nodes p apart)))
      (λ node far other. rw same (good.nodes node far))

  -- a write on an exclusive copy
  pub good-hit-write : (p : ℕ) → p ≢ home → (op : Op) (has : Words) → line.copy p ≡ Exclusive has → IsGood home (after_row home p (hit op (share_of line p)) line)
  unfolding hit
  good-hit-write p apart op has is =
      let it = node-writes _ line.words _ (line.copy p) has (line.want p) (good.status p) op (good.nodes p apart) is in
      let next : Words = after_op op line.words in
      let it' : IsGoodNode (role_in home next good.phase p) next (listed line.header.list p) (done_on op (line.copy p)) (line.want p) (good.status p) = rw (is, role-same home line.words next good.phase p it.0) it.2 in
      let at_home = good.at_home in
      remote-step home p line good apart (hit op (share_of line p)) good.phase (good.status p) line.lane
      (done line.answered good.status good.answered p (good.status p) (ap is_put (exclusive-rests (line.want p) (line.copy p) (good.status p).carrier has (good.nodes p apart).carried is)))
      (lanes-same home line.lane good.status good.lanes p)
      (held-header home line.words next good.phase p it.0 line.header (line.copy home) good.header)
      (record { carried = at_home.carried; stays = at_home.stays; off_duty = at_home.off_duty; carrier = held-home home line.words next good.phase p apart it.0 _ at_home.carrier })
      it'
      (λ node far other. held-alone home line.words next good.phase p node it.0 other _ (line.copy node) (line.want node) (good.status node) (good.nodes node far))

  -- the home's copy leaves
  pub good-leave-home : (kind : EvictKind) → fits true kind (line.copy home) ≡ true → IsGood home (after_row home home (leave_home (line.copy home) (share_of line home)) line)
  good-leave-home kind fit = go (line.copy home) refl
    where
      go : (copy : Copy) → line.copy home ≡ copy → IsGood home (after_row home home (leave_home copy (share_of line home)) line)
      go Absent e = absurd (grind arith)
      go (Shared has) e =
          let at_home = good.at_home in
          home-step-all home line (leave_home (Shared has) (share_of line home)) good.phase good.status line.lane
          good.answered
          (lanes-quiet home line.lane good.status good.lanes home)
          (header-drop home good.phase line.words line.header (line.copy home) has good.header e) refl good.unlisted
          (record { carried = carried-empty (line.want home) (line.copy home) _ at_home.carried; stays = at_home.stays; off_duty = at_home.off_duty; carrier = at_home.carrier })
          good.nodes
      go (Exclusive has) e =
          let owns = home-owns home good.phase line.words line.header (line.copy home) has good.header e in
          let header : IsGoodHeader home HomeOwns line.words line.header (line.copy home) = rw owns.0 at good.header in
          let at_home : IsGoodHome home HomeOwns line.words (line.copy home) (line.want home) (good.status home) = rw owns.0 at good.at_home in
          home-step-all home line (leave_home (Exclusive has) (share_of line home)) Clean good.status line.lane
          good.answered
          (lanes-quiet home line.lane good.status good.lanes home)
          (header.0, refl, owns.1, tt, tt) refl good.unlisted
          (home-rests home HomeOwns Clean line.words line.words (line.copy home) _ (line.want home) (good.status home) at_home at_home.carrier refl)
          (λ node far. node-may-share line.words _ (line.copy node) (line.want node) (good.status node) _ (rw owns.0 at (good.nodes node far)))

  -- the home writes on its exclusive copy
  pub good-hit-home : (op : Op) (has : Words) → line.copy home ≡ Exclusive has → IsGood home (after_row home home (hit op (share_of line home)) line)
  unfolding hit
  good-hit-home op has is =
      let owns = home-owns home good.phase line.words line.header (line.copy home) has good.header is in
      let header : IsGoodHeader home HomeOwns line.words line.header (line.copy home) = rw owns.0 at good.header in
      let at_home : IsGoodHome home HomeOwns line.words (line.copy home) (line.want home) (good.status home) = rw owns.0 at good.at_home in
      let local : line.header.local ≡ true = good.local ∙ ap (λ c. not (is_empty c)) is in
      home-step-all home line (hit op (share_of line home)) HomeOwns good.status line.lane
      (rests line.answered good.status good.answered home (ap is_put at_home.carrier))
      (lanes-quiet home line.lane good.status good.lanes home)
      (header.0, header.1, header.2, ap (done_on op) is ∙ ap (λ w. Exclusive (after_op op w)) owns.1)
      (local ∙ ap (λ c. not (is_empty (done_on op c))) (sym is)) good.unlisted
      (home-rests home HomeOwns HomeOwns line.words _ (line.copy home) _ (line.want home) (good.status home) at_home at_home.carrier refl)
      (λ node far. bare-fresh Usual NoDuty line.words _ _ (line.copy node) (line.want node) (good.status node) (rw owns.0 at (good.nodes node far)))

  -- the home loads from its own copy
  pub good-hit-home-load : (op : Op) → is_load op.kind ≡ true → serves op (line.copy home) ≡ true → IsGood home (after_row home home (hit op (share_of line home)) line)
  unfolding hit
  good-hit-home-load op load serve =
      let same : after_op op line.words ≡ line.words = after-load op line.words load in
      let copy : done_on op (line.copy home) ≡ line.copy home = done-load op (line.copy home) load in
      home-step-all home line (hit op (share_of line home)) good.phase good.status line.lane
      (rests line.answered good.status good.answered home (ap is_put (serving-rests op (line.want home) (line.copy home) (good.status home).carrier good.at_home.carried serve)))
      (lanes-quiet home line.lane good.status good.lanes home)
      (rw (same, copy) good.header) (rw copy good.local) good.unlisted (rw (same, copy) good.at_home)
      (λ node far. rw same (good.nodes node far))

  -- the home calls all copies in
  pub good-call-in : good.phase ≡ Clean → nobody_listed line.header.list ≡ false → IsGood home (after_row home home (call_in (share_of line home)) line)
  good-call-in phase some =
      let header : IsGoodHeader home Clean line.words line.header (line.copy home) = rw phase at good.header in
      let at_home : IsGoodHome home Clean line.words (line.copy home) (line.want home) (good.status home) = rw phase at good.at_home in
      home-step-all home line (call_in (share_of line home)) (Called Nobody) (all_told line.header.list good.status) line.lane
      good.answered
      (lanes-call home line.lane good.status good.lanes line.header.list good.unlisted (λ node far. (rw phase at (good.nodes node far)).duty) at_home.off_duty)
      (refl, header.1, header.2, grind (arith, nat_tests), refl, header.3, may-keep line.words (line.copy home) header.4, tt)
      good.local good.unlisted
      (simp good.unlisted (record { carried = at_home.carried; stays = at_home.stays; off_duty = at_home.off_duty; carrier = at_home.carrier }))
      (λ node far. node-called line.words (listed line.header.list node) (line.copy node) (line.want node) (good.status node) (rw phase at (good.nodes node far)))

  -- the home's own operation is forwarded to the owner
  pub good-forward-home : (write : Bool) (op : Op) → line.want home ≡ None → is_load op.kind ≡ not write → is_idle line.header.wait ≡ true → line.header.dirty ≡ true → line.header.local ≡ false →
      IsGood home (after_row home home (sending (record (share_of line home) { want = begun op; header = record line.header { wait = cond write (ForwardGetX home) (ForwardGet home) } }) (one_to (owner line.header) (cond write (FwdGetX home) (FwdGet home)))) line)
  good-forward-home write op free kind idle dirty away =
      let owned = owned-phase home good.phase line.words line.header (line.copy home) good.header idle dirty good.local away in
      at-owner owned.0 owned.1
    where
      at-owner : (o : ℕ) → good.phase ≡ Owned o → IsGood home (after_row home home (sending (record (share_of line home) { want = begun op; header = record line.header { wait = cond write (ForwardGetX home) (ForwardGet home) } }) (one_to (owner line.header) (cond write (FwdGetX home) (FwdGet home)))) line)
      at-owner o phase =
          let header : IsGoodHeader home (Owned o) line.words line.header (line.copy home) = rw phase at good.header in
          let at_home : IsGoodHome home (Owned o) line.words (line.copy home) (line.want home) (good.status home) = rw phase at good.at_home in
          let owns : owner line.header ≡ o = owner-only line.header o header.2 in
          let it : IsGoodNode (Holds NoDuty) line.words (listed line.header.list o) (line.copy o) (line.want o) (good.status o) = rw (eqb-self o) at (rw phase at (good.nodes o header.4)) in
          let off : (home == o) ≡ false = let f = header.4 in grind (arith, nat_tests) in
          rw owns (home-step-all home line (sending (record (share_of line home) { want = begun op; header = record line.header { wait = cond write (ForwardGetX home) (ForwardGet home) } }) (one_to o (cond write (FwdGetX home) (FwdGet home)))) (Asked write home o false true) (forwarded_home home o write good.status) line.lane
          (at-one line.answered good.status good.answered home (Forwarded write) (sym (ap is_put at_home.carrier)))
          (lanes-forward-home home o line.lane good.status header.4 good.lanes write at_home.carrier it.duty)
          (refl, header.1, tt, rw (eqb-self home) (list write header.2), header.3, header.4, λ e. header.4 (sym e))
          good.local good.unlisted
          (rw (eqb-self home, off) (record { carried = (header.3, kind); stays = at_home.stays; off_duty = at_home.off_duty; carrier = rw (eqb-self home) refl }))
          (λ node far. rw (ne_eqb node home far) (go node (node == o) (rw phase at (good.nodes node far)))))
        where
          list : (c : Bool) → line.header.list ≡ only o → line.header.list ≡ cond (c || true) (only o) (enlist (only o) home)
          list true e = e
          list false e = e

          go : (node : ℕ) (c : Bool) → IsGoodNode (cond c (Holds NoDuty) (Bare Usual NoDuty)) line.words (listed line.header.list node) (line.copy node) (line.want node) (good.status node) →
              IsGoodNode (cond c (Holds (ToGive write home)) (Bare Usual NoDuty)) line.words (listed line.header.list node) (line.copy node) (line.want node) (record { carrier = (good.status node).carrier; leaving = (good.status node).leaving; duty = cond c (ToGive write home) (good.status node).duty })
          go node true it = node-asked line.words _ (line.copy node) (line.want node) (good.status node) write home it
          go node false it = it
