-- A GetX at the home keeps the line good: the sender is given the line at once, after the acknowledgements of all other listed nodes, or by the owner.
-- Where it is given, no other node has a copy.
use Rattle.std.proofs.Common.{◌≡◌, ◌≢◌, ℕ, Bool, true, false, cond, ◌==◌, ◌&&◌, List, [], ◌∷◌, refl, arith, ap, sym, ◌∙◌, Option}
use Rattle.std.proofs.lemmas.Bool.{ne_eqb}
use Rattle.std.proofs.lemmas.Bool.Decides.{nat_tests}
use Rattle.line_invariant.specs.Types.{Want, Node, Pending, Budget, Request}
use Rattle.op_model.specs.Nodes.{listed, unlist, none, listings, listed-none, none_of_count}
use Rattle.op_model.specs.Operations.{Words}
use Rattle.op_model.specs.Messages.{Content, GetX, PutX}
use Rattle.op_model.specs.Lines.{Copy, Room, Outcome, is_pending, words_of}
use Rattle.op_model.specs.Tables.Home.{on_getx, no_other, give_home_copy, give_memory, invalidate_for}
use Rattle.op_model.proofs.Public.{eqb-self}
use Rattle.line_invariant.specs.Line.{Line, share_of, after_row, after_take, taken}
use Rattle.line_invariant.specs.Good.{is_put, Status, AskingX, Granted, Answered, NotLeaving, NoDuty, Told, Clean, HomeOwns, Owned, Called, MayShare, Bare, Holds, Usual, ByGrant, Recalled, IsGoodNode, IsGood, IsGoodHeader, IsGoodHome}
use Rattle.line_invariant.proofs.Basics.{if-either}
use Rattle.line_invariant.proofs.Fronts.{getx-comes}
use Rattle.line_invariant.proofs.Meets.{by-row, does-getx}
use Rattle.line_invariant.proofs.HomeLanes.{lanes-reply, lanes-call-for, all_told_for}
use Rattle.line_invariant.proofs.LocalNodes.{node-unlisted, bare-any}
use Rattle.line_invariant.proofs.HomeRows.{clean-phase, home-phase, owned-phase, not-owner, home-rests, good-refuse, good-forward}
use Rattle.line_invariant.proofs.Marks.{keep, at-one}
use Rattle.line_invariant.proofs.Steps.{home-step, home-step-all}

module _ (words : Words) (lists : Bool) (copy : Copy) (want : Option Want) (status : Status) where
  -- who asks to write is given the line
  node-given : (from : ℕ) (has : Words) (listed : Bool) → IsGoodNode (Bare Usual NoDuty) words lists copy want status → status.carrier ≡ AskingX → status.leaving ≡ NotLeaving → has ≡ words →
      IsGoodNode (Holds NoDuty) words listed copy want (record status { carrier = Answered from (PutX has) })
  node-given from has listed good asking stays same = grind arith

  node-given-clean : (from : ℕ) (has : Words) (listed : Bool) → IsGoodNode (MayShare NoDuty) words lists copy want status → status.carrier ≡ AskingX → status.leaving ≡ NotLeaving → has ≡ words →
      IsGoodNode (Holds NoDuty) words listed copy want (record status { carrier = Answered from (PutX has) })
  node-given-clean from has listed good asking stays same = grind arith

  -- or waits for the acknowledgements
  node-granted : (listed : Bool) → IsGoodNode (MayShare NoDuty) words lists copy want status → status.carrier ≡ AskingX → status.leaving ≡ NotLeaving → listed ≡ false →
      IsGoodNode (Bare ByGrant NoDuty) words listed copy want (record { carrier = Granted; leaving = status.leaving; duty = cond listed Told status.duty })
  node-granted listed good asking stays isnt = grind arith

  node-called-too : (listed : Bool) → listed ≡ lists → IsGoodNode (MayShare NoDuty) words lists copy want status → IsGoodNode Recalled words listed copy want (record { carrier = status.carrier; leaving = status.leaving; duty = cond listed Told status.duty })
  node-called-too listed same good = grind arith

module _ (home : ℕ) (line : Line) (good : IsGood home line) (p : ℕ) (apart : p ≢ home) (rest : List Content) (empty : rest ≡ []) (asking : (good.status p).carrier ≡ AskingX) (stays : (good.status p).leaving ≡ NotLeaving) where
  good-give-home : is_pending line.header ≡ false → line.header.dirty ≡ true → line.header.local ≡ true →
      IsGood home (after_row home home (give_home_copy p (share_of line home)) (record line { lane = taken p home Request rest line.lane }))
  good-give-home idle dirty here =
      let phase = home-phase home good.phase line.words line.header (line.copy home) good.header idle dirty good.local here in
      let header : IsGoodHeader home HomeOwns line.words line.header (line.copy home) = rw phase at good.header in
      let has : words_of (line.copy home) ≡ line.words = rw header.3 in
      let at_home : IsGoodHome home HomeOwns line.words (line.copy home) (line.want home) (good.status home) = rw phase at good.at_home in
      home-step home p line good apart (give_home_copy p (share_of line home)) (Owned p) (record (good.status p) { carrier = Answered home (PutX (words_of (line.copy home))) }) (taken p home Request rest line.lane)
      (keep line.answered good.status good.answered p _ (sym (ap is_put asking)))
      (lanes-reply home p line.lane good.status apart good.lanes false rest (PutX (words_of (line.copy home))) refl empty asking stays)
      (header.0, dirty, refl, refl, apart) refl (grind (arith, nat_tests, listings))
      (home-rests home HomeOwns (Owned p) line.words line.words (line.copy home) _ (line.want home) (good.status home) at_home at_home.carrier refl)
      (rw (eqb-self p) (node-given line.words _ (line.copy p) (line.want p) (good.status p) home (words_of (line.copy home)) _ (rw phase at (good.nodes p apart)) asking stays has))
      (λ node far other. rw (ne_eqb node p other) (bare-any NoDuty line.words _ _ _ (line.copy node) (line.want node) (good.status node) (rw phase at (good.nodes node far))))

  good-give-memory : is_pending line.header ≡ false → line.header.dirty ≡ false → no_other p line.header.list ≡ true →
      IsGood home (after_row home home (give_memory p (share_of line home)) (record line { lane = taken p home Request rest line.lane }))
  good-give-memory idle clean nobody =
      let phase = clean-phase home good.phase line.words line.header (line.copy home) good.header idle clean in
      let header : IsGoodHeader home Clean line.words line.header (line.copy home) = rw phase at good.header in
      let at_home : IsGoodHome home Clean line.words (line.copy home) (line.want home) (good.status home) = rw phase at good.at_home in
      let left : unlist line.header.list p ≡ none = none_of_count _ (grind (arith, nat_tests)) in
      home-step home p line good apart (give_memory p (share_of line home)) (Owned p) (record (good.status p) { carrier = Answered home (PutX line.header.memory) }) (taken p home Request rest line.lane)
      (keep line.answered good.status good.answered p _ (sym (ap is_put asking)))
      (lanes-reply home p line.lane good.status apart good.lanes false rest (PutX line.header.memory) refl empty asking stays)
      (header.0, refl, refl, refl, apart) refl (grind (arith, nat_tests, listings))
      (home-rests home Clean (Owned p) line.words line.words (line.copy home) _ (line.want home) (good.status home) at_home at_home.carrier refl)
      (rw (eqb-self p) (node-given-clean line.words _ (line.copy p) (line.want p) (good.status p) home line.header.memory _ (rw phase at (good.nodes p apart)) asking stays header.2))
      (λ node far other.
      let e : listed (unlist line.header.list p) node ≡ false = ap (λ l. listed l node) left ∙ listed-none node in
      let isnt : listed line.header.list node ≡ false = grind (arith, nat_tests, listings) in
      rw (ne_eqb node p other) (bare-any NoDuty line.words _ _ _ (line.copy node) (line.want node) (good.status node) (node-unlisted line.words line.words _ (line.copy node) (line.want node) (good.status node) (rw phase at (good.nodes node far)) isnt)))

  good-invalidate-for : is_pending line.header ≡ false → line.header.dirty ≡ false → no_other p line.header.list ≡ false →
      IsGood home (after_row home home (invalidate_for p (share_of line home)) (record line { lane = taken p home Request rest line.lane }))
  good-invalidate-for idle clean some =
      let phase = clean-phase home good.phase line.words line.header (line.copy home) good.header idle clean in
      let header : IsGoodHeader home Clean line.words line.header (line.copy home) = rw phase at good.header in
      let at_home : IsGoodHome home Clean line.words (line.copy home) (line.want home) (good.status home) = rw phase at good.at_home in
      let off : (home == p) ≡ false = ne_eqb home p (λ e. apart (sym e)) in
      let gone : listed (unlist line.header.list p) p ≡ false = grind (arith, nat_tests, listings) in
      let home_off : listed (unlist line.header.list p) home ≡ false = grind (arith, nat_tests, listings, good.unlisted) in
      home-step-all home line (invalidate_for p (share_of line home)) (Called (Node p)) (all_told_for p (unlist line.header.list p) good.status) (taken p home Request rest line.lane)
      (at-one line.answered good.status good.answered p Granted (sym (ap is_put asking)))
      (lanes-call-for home p line.lane good.status apart good.lanes (unlist line.header.list p) home_off (λ node far. (rw phase at (good.nodes node far)).duty) at_home.off_duty rest empty asking stays)
      (refl, clean, header.2, grind (arith, nat_tests), refl, tt, tt, (apart, gone)) refl home_off
      (simp (off, home_off) (home-rests home Clean (Called (Node p)) line.words line.words (line.copy home) _ (line.want home) (good.status home) at_home at_home.carrier refl))
      (λ node far. go node far (node == p) refl phase)
    where
      go : (node : ℕ) → node ≢ home → (c : Bool) → (node == p) ≡ c → good.phase ≡ Clean →
          IsGoodNode (cond c (Bare ByGrant NoDuty) Recalled) line.words (listed (unlist line.header.list p) node) (line.copy node) (line.want node) (record { carrier = cond c Granted (good.status node).carrier; leaving = (good.status node).leaving; duty = cond (listed (unlist line.header.list p) node) Told (good.status node).duty })
      go node far true e phase =
          let same : node ≡ p = grind (arith, nat_tests) in
          let isnt : listed (unlist line.header.list p) node ≡ false = grind (arith, nat_tests, listings) in
          node-granted line.words _ (line.copy node) (line.want node) (good.status node) _ (rw phase at (good.nodes node far)) (rw same asking) (rw same stays) isnt
      go node far false e phase =
          let lists : listed (unlist line.header.list p) node ≡ listed line.header.list node = grind (arith, nat_tests, listings) in
          node-called-too line.words _ (line.copy node) (line.want node) (good.status node) _ lists (rw phase at (good.nodes node far))

module _ (home : ℕ) (line : Line) (good : IsGood home line) (p : ℕ) (apart : p ≢ home) (rest : List Content) (room : Room) where
  pub good-getx : line.lane p home Request ≡ GetX ∷ rest → IsGood home (after_take home p home Request GetX rest room line)
  unfolding on_getx
  good-getx front =
      let comes = getx-comes home line good p apart rest front in
      let header = line.header in
      let Keeps : Outcome → Type 0 = λ o. IsGood home (after_row home home o (record line { lane = taken p home Request rest line.lane })) in
      by-row home p home Request GetX rest room line (on_getx room p (share_of line home))
      (does-getx home p room (share_of line home) apart (not-owner home good.phase line.words header (line.copy home) (line.copy p) p (line.want p) (good.status p) false good.header good.local (good.nodes p apart) comes.1 comes.0))
      (if-either Keeps (is_pending header) _ _ (λ _. good-refuse home line good p apart rest room false Pending comes.2 comes.1 comes.0) (λ idle.
      (if-either Keeps (header.dirty && header.local) _ _ (λ own. good-give-home home line good p apart rest comes.2 comes.1 comes.0 idle (grind arith) (grind arith)) (λ not_own.
      (if-either Keeps (header.dirty && room.full) _ _ (λ _. good-refuse home line good p apart rest room false Budget comes.2 comes.1 comes.0) (λ _.
      (if-either Keeps header.dirty _ _
      (λ dirty. let owned = owned-phase home good.phase line.words header (line.copy home) good.header (grind arith) dirty good.local (grind arith) in good-forward home line good p apart rest room true owned.0 owned.1 comes.2 comes.1 comes.0) (λ clean.
      (if-either Keeps (no_other p header.list) _ _ (λ nobody. good-give-memory home line good p apart rest comes.2 comes.1 comes.0 idle clean nobody) (λ some.
      (if-either Keeps room.full _ _ (λ _. good-refuse home line good p apart rest room false Budget comes.2 comes.1 comes.0)
      (λ _. good-invalidate-for home line good p apart rest comes.2 comes.1 comes.0 idle clean some))))))))))))
