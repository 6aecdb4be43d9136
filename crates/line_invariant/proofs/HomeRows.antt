-- A Get at the home keeps the line good: it is refused, answered from memory or the home's copy, or forwarded to the owner.
-- The header tells the phase, and who asks neither holds the line nor is its owner.
use Rattle.std.proofs.Common.{◌≡◌, ◌≢◌, ℕ, Bool, true, false, cond, ◌==◌, ◌&&◌, not, List, [], ◌∷◌, refl, arith, ap, ◌∙◌, sym, Option, Some, None}
use Rattle.std.proofs.lemmas.Bool.{ne_eqb}
use Rattle.std.proofs.lemmas.Bool.Decides.{nat_tests}
use Rattle.line_invariant.specs.Types.{Want, ForwardGet, ForwardGetX, NakCause, Pending, NoLink, Budget, Request}
use Rattle.op_model.specs.Nodes.{listed, enlist, only, listings}
use Rattle.op_model.specs.Operations.{Words}
use Rattle.op_model.specs.Messages.{FwdGet, FwdGetX, Content, Get, Put, Nak}
use Rattle.op_model.specs.Lines.{Copy, Header, Room, Outcome, sending, one_to, is_pending, is_idle, is_empty, words_of, owner}
use Rattle.op_model.specs.Tables.Home.{on_get, refuse, lacks_link, share_home_copy, share_memory}
use Rattle.op_model.proofs.Public.{eqb-self}
use Rattle.line_invariant.specs.Line.{Line, share_of, after_row, after_take, taken}
use Rattle.line_invariant.specs.Good.{is_put, Status, Resting, Asking, AskingX, Answered, NotLeaving, NoDuty, Phase, Clean, HomeOwns, Owned, Called, Asked, SharedOut, HandedOn, Bare, Usual, Holds, IsCarried, IsHomeCarrier, asked_list, role_in, IsGoodNode, IsGood, IsGoodHeader, IsGoodHome, Forwarded}
use Rattle.line_invariant.proofs.Basics.{if-either, owner-only}
use Rattle.line_invariant.proofs.Fronts.{get-comes}
use Rattle.line_invariant.proofs.Meets.{by-row, does-get}
use Rattle.line_invariant.proofs.HomeLanes.{lanes-reply, forwarded, lanes-forward}
use Rattle.line_invariant.proofs.HomeNodes.{node-refused, node-loaded, node-may-share, node-forward}
use Rattle.line_invariant.proofs.Marks.{keep, gets, at-one, asks-no-put}
use Rattle.line_invariant.proofs.Steps.{home-step, home-step-all}

-- the phase, told from the header
pub clean-phase : (home : ℕ) (phase : Phase) (words : Words) (header : Header) (copy : Copy) → IsGoodHeader home phase words header copy → is_pending header ≡ false → header.dirty ≡ false → phase ≡ Clean
clean-phase home phase words header copy good idle clean = grind arith

pub home-phase : (home : ℕ) (phase : Phase) (words : Words) (header : Header) (copy : Copy) → IsGoodHeader home phase words header copy → is_pending header ≡ false → header.dirty ≡ true → header.local ≡ not (is_empty copy) → header.local ≡ true → phase ≡ HomeOwns
home-phase home phase words header copy good idle dirty local here = grind arith

pub owned-phase : (home : ℕ) (phase : Phase) (words : Words) (header : Header) (copy : Copy) → IsGoodHeader home phase words header copy → is_idle header.wait ≡ true → header.dirty ≡ true → header.local ≡ not (is_empty copy) → header.local ≡ false → (o : ℕ) × (phase ≡ Owned o)
owned-phase home (Owned o) words header copy good idle dirty local away = (o, refl)
owned-phase home Clean words header copy good idle dirty local away = absurd (grind arith)
owned-phase home HomeOwns words header copy good idle dirty local away = absurd (grind arith)
owned-phase home (Called g) words header copy good idle dirty local away = absurd (grind arith)
owned-phase home (Asked false r o f h) words header copy good idle dirty local away = absurd (grind arith)
owned-phase home (Asked true r o f h) words header copy good idle dirty local away = absurd (grind arith)
owned-phase home (SharedOut r o) words header copy good idle dirty local away = absurd (grind arith)
owned-phase home (HandedOn r o h) words header copy good idle dirty local away = absurd (grind arith)

-- who holds the line doesn't ask for it
asker-isnt : (words : Words) (lists : Bool) (copy : Copy) (want : Option Want) (status : Status) (load holds : Bool) → IsGoodNode (cond holds (Holds NoDuty) (Bare Usual NoDuty)) words lists copy want status → status.carrier ≡ cond load Asking AskingX → status.leaving ≡ NotLeaving → holds ≡ false
asker-isnt words lists copy want status load false good asking stays = refl
asker-isnt words lists copy want status true true good asking stays = grind arith
asker-isnt words lists copy want status false true good asking stays = grind arith

-- a node that asks isn't the owner
pub not-owner : (home : ℕ) (phase : Phase) (words : Words) (header : Header) (homes copy : Copy) (p : ℕ) (want : Option Want) (status : Status) (load : Bool) →
    IsGoodHeader home phase words header homes → header.local ≡ not (is_empty homes) → IsGoodNode (role_in home words phase p) words (listed header.list p) copy want status → status.carrier ≡ cond load Asking AskingX → status.leaving ≡ NotLeaving →
    is_idle header.wait ≡ true → header.dirty ≡ true → header.local ≡ false → listed header.list p ≡ false
not-owner home phase words header homes copy p want status load good local node asking stays idle dirty away =
    let owned = owned-phase home phase words header homes good idle dirty local away in
    at-owner owned.0 (rw owned.1 at good) (rw owned.1 at node)
  where
    at-owner : (o : ℕ) → IsGoodHeader home (Owned o) words header homes → IsGoodNode (role_in home words (Owned o) p) words (listed header.list p) copy want status → listed header.list p ≡ false
    at-owner o header_is node_is =
        let other = asker-isnt words (listed header.list p) copy want status load (p == o) node_is asking stays in
        let e : listed header.list p ≡ listed (only o) p = ap (λ l. listed l p) header_is.2 in
        grind (arith, nat_tests, listings)

-- at the home, an operation that isn't begun stays so
pub home-rests : (home : ℕ) (phase next : Phase) (words words' : Words) (copy copy' : Copy) (want : Option Want) (status : Status) → IsGoodHome home phase words copy want status → status.carrier ≡ Resting → IsHomeCarrier home words' next Resting → IsGoodHome home next words' copy' want status
home-rests home phase next words words' copy copy' want status good rests fits =
    record { carried = still want good.carried rests; stays = good.stays; off_duty = good.off_duty; carrier = rw rests fits }
  where
    still : (w : Option Want) → IsCarried w copy status.carrier → status.carrier ≡ Resting → IsCarried w copy' status.carrier
    still None c e = c
    still (Some want) c e = absurd (rw e at c)

module _ (home : ℕ) (line : Line) (good : IsGood home line) (p : ℕ) (apart : p ≢ home) (rest : List Content) (room : Room) where
  -- a request is refused
  pub good-refuse : (load : Bool) (cause : NakCause) → rest ≡ [] → (good.status p).carrier ≡ cond load Asking AskingX → (good.status p).leaving ≡ NotLeaving →
      IsGood home (after_row home home (refuse p cause (share_of line home)) (record line { lane = taken p home Request rest line.lane }))
  good-refuse load cause empty asking stays =
      home-step home p line good apart (refuse p cause (share_of line home)) good.phase (record (good.status p) { carrier = Answered home (Nak cause) }) (taken p home Request rest line.lane)
      (keep line.answered good.status good.answered p _ (sym (ap is_put asking ∙ asks-no-put load)))
      (lanes-reply home p line.lane good.status apart good.lanes load rest (Nak cause) refl empty asking stays)
      good.header good.local good.unlisted good.at_home
      (node-refused line.words _ (line.copy p) (line.want p) (good.status p) _ load home cause (good.nodes p apart) asking stays)
      (λ node far other. good.nodes node far)

  good-share-memory : rest ≡ [] → (good.status p).carrier ≡ Asking → (good.status p).leaving ≡ NotLeaving → is_pending line.header ≡ false → line.header.dirty ≡ false →
      IsGood home (after_row home home (share_memory p (share_of line home)) (record line { lane = taken p home Request rest line.lane }))
  good-share-memory empty asking stays idle clean =
      let phase = clean-phase home good.phase line.words line.header (line.copy home) good.header idle clean in
      let header : IsGoodHeader home Clean line.words line.header (line.copy home) = rw phase at good.header in
      home-step home p line good apart (share_memory p (share_of line home)) Clean (record (good.status p) { carrier = Answered home (Put line.header.memory) }) (taken p home Request rest line.lane)
      (gets line.answered good.status good.answered p _ refl)
      (lanes-reply home p line.lane good.status apart good.lanes true rest (Put line.header.memory) refl empty asking stays)
      header good.local (grind (arith, nat_tests, listings, good.unlisted)) (rw phase at good.at_home)
      (node-loaded line.words _ (line.copy p) (line.want p) (good.status p) home line.header.memory _ (rw phase at (good.nodes p apart)) asking stays header.2 (grind (arith, nat_tests, listings)))
      (λ node far other.
      let stays : listed (enlist line.header.list p) node ≡ listed line.header.list node = grind (arith, nat_tests, listings) in
      rw stays (rw phase at (good.nodes node far)))

  good-share-home : rest ≡ [] → (good.status p).carrier ≡ Asking → (good.status p).leaving ≡ NotLeaving → is_pending line.header ≡ false → line.header.dirty ≡ true → line.header.local ≡ true →
      IsGood home (after_row home home (share_home_copy p (share_of line home)) (record line { lane = taken p home Request rest line.lane }))
  good-share-home empty asking stays idle dirty here =
      let phase = home-phase home good.phase line.words line.header (line.copy home) good.header idle dirty good.local here in
      let header : IsGoodHeader home HomeOwns line.words line.header (line.copy home) = rw phase at good.header in
      let has : words_of (line.copy home) ≡ line.words = rw header.3 in
      let at_home : IsGoodHome home HomeOwns line.words (line.copy home) (line.want home) (good.status home) = rw phase at good.at_home in
      home-step home p line good apart (share_home_copy p (share_of line home)) Clean (record (good.status p) { carrier = Answered home (Put (words_of (line.copy home))) }) (taken p home Request rest line.lane)
      (gets line.answered good.status good.answered p _ refl)
      (lanes-reply home p line.lane good.status apart good.lanes true rest (Put (words_of (line.copy home))) refl empty asking stays)
      (header.0, refl, has, tt, (has, tt)) here (grind (arith, nat_tests, listings, good.unlisted))
      (home-rests home HomeOwns Clean line.words line.words (line.copy home) _ (line.want home) (good.status home) at_home at_home.carrier refl)
      (node-loaded line.words (listed line.header.list p) (line.copy p) (line.want p) (good.status p) home (words_of (line.copy home)) _ (node-may-share line.words _ (line.copy p) (line.want p) (good.status p) _ (rw phase at (good.nodes p apart))) asking stays has (grind (arith, nat_tests, listings)))
      (λ node far other. node-may-share line.words _ (line.copy node) (line.want node) (good.status node) _ (rw phase at (good.nodes node far)))

  -- a request is forwarded to the owner
  pub good-forward : (write : Bool) (o : ℕ) → good.phase ≡ Owned o → rest ≡ [] → (good.status p).carrier ≡ cond write AskingX Asking → (good.status p).leaving ≡ NotLeaving →
      IsGood home (after_row home home (sending (record (share_of line home) { header = record line.header { wait = cond write (ForwardGetX p) (ForwardGet p); list = cond write line.header.list (enlist line.header.list p) } }) (one_to (owner line.header) (cond write (FwdGetX p) (FwdGet p)))) (record line { lane = taken p home Request rest line.lane }))
  good-forward write o phase empty asking stays =
      let header : IsGoodHeader home (Owned o) line.words line.header (line.copy home) = rw phase at good.header in
      let at_home : IsGoodHome home (Owned o) line.words (line.copy home) (line.want home) (good.status home) = rw phase at good.at_home in
      let owns : owner line.header ≡ o = owner-only line.header o header.2 in
      let it : IsGoodNode (cond (p == o) (Holds NoDuty) (Bare Usual NoDuty)) line.words (listed line.header.list p) (line.copy p) (line.want p) (good.status p) = rw phase at (good.nodes p apart) in
      let other : (p == o) ≡ false = asker-isnt line.words _ (line.copy p) (line.want p) (good.status p) (not write) (p == o) it (asking ∙ turned write) stays in
      let owner_is : IsGoodNode (cond (o == o) (Holds NoDuty) (Bare Usual NoDuty)) line.words (listed line.header.list o) (line.copy o) (line.want o) (good.status o) = rw phase at (good.nodes o header.4) in
      let off_duty : (good.status o).duty ≡ NoDuty = (rw (eqb-self o) at owner_is).duty in
      let differs : p ≢ o = grind (arith, nat_tests) in
      let off : (p == home) ≡ false = ne_eqb p home apart in
      let away : (home == p) ≡ false = grind (arith, nat_tests) in
      let far_o : (home == o) ≡ false = let f = header.4 in grind (arith, nat_tests) in
      let out : Outcome = sending (record (share_of line home) { header = record line.header { wait = cond write (ForwardGetX p) (ForwardGet p); list = cond write line.header.list (enlist line.header.list p) } }) (one_to o (cond write (FwdGetX p) (FwdGet p))) in
      rw owns
      (home-step-all home line out (Asked write p o false true) (forwarded p o write good.status) (taken p home Request rest line.lane)
      (at-one line.answered good.status good.answered p (Forwarded write) (sym (ap is_put (asking ∙ turned write) ∙ asks-no-put (not write))))
      (lanes-forward home p line.lane good.status apart good.lanes write o rest empty differs header.4 asking stays off_duty)
      (refl, header.1, tt, lists write off header.2, header.3, header.4, differs)
      good.local (unlisted write)
      (simp (away, far_o) (home-rests home (Owned o) (Asked write p o false true) line.words line.words (line.copy home) _ (line.want home) (good.status home) at_home at_home.carrier (simp off refl)))
      (λ node far. node-forward home p o write line.words (listed line.header.list node) _ (line.copy node) (line.want node) (good.status node) node differs (λ same. (rw same asking, rw same stays)) (rw phase at (good.nodes node far))))
    where
      turned : (c : Bool) → cond c AskingX Asking ≡ cond (not c) Asking AskingX
      turned true = refl
      turned false = refl

      lists : (c : Bool) → (p == home) ≡ false → line.header.list ≡ only o → cond c line.header.list (enlist line.header.list p) ≡ asked_list home c p o
      lists true off e = e
      lists false off e = rw off (ap (λ l. enlist l p) e)

      unlisted : (c : Bool) → listed (cond c line.header.list (enlist line.header.list p)) home ≡ false
      unlisted true = good.unlisted
      unlisted false = grind (arith, nat_tests, listings, good.unlisted)

  pub good-get : line.lane p home Request ≡ Get ∷ rest → IsGood home (after_take home p home Request Get rest room line)
  unfolding on_get
  good-get front =
      let comes = get-comes home line good p apart rest front in
      let header = line.header in
      let Keeps : Outcome → Type 0 = λ o. IsGood home (after_row home home o (record line { lane = taken p home Request rest line.lane })) in
      by-row home p home Request Get rest room line (on_get room p (share_of line home))
      (does-get home p room (share_of line home) apart (not-owner home good.phase line.words header (line.copy home) (line.copy p) p (line.want p) (good.status p) true good.header good.local (good.nodes p apart) comes.1 comes.0))
      (if-either Keeps (is_pending header) _ _ (λ _. good-refuse true Pending comes.2 comes.1 comes.0) (λ idle.
      (if-either Keeps (lacks_link room p header && room.link_pending) _ _ (λ _. good-refuse true NoLink comes.2 comes.1 comes.0) (λ _.
      (if-either Keeps (lacks_link room p header && room.full) _ _ (λ _. good-refuse true Budget comes.2 comes.1 comes.0) (λ _.
      (if-either Keeps (lacks_link room p header) _ _ (λ _. good-refuse true NoLink comes.2 comes.1 comes.0) (λ _.
      (if-either Keeps (header.dirty && header.local) _ _ (λ own. good-share-home comes.2 comes.1 comes.0 idle (grind arith) (grind arith)) (λ not_own.
      (if-either Keeps (header.dirty && room.full) _ _ (λ _. good-refuse true Budget comes.2 comes.1 comes.0) (λ _.
      (if-either Keeps header.dirty _ _ (λ dirty. let owned = owned-phase home good.phase line.words header (line.copy home) good.header (grind arith) dirty good.local (grind arith) in good-forward false owned.0 owned.1 comes.2 comes.1 comes.0) (λ clean. good-share-memory comes.2 comes.1 comes.0 idle clean))))))))))))))
