-- A write-back or a hint at the home keeps the line good.
-- Who writes back held the line, so its phase is one of three; a hint unlists a node only where it has no copy and none is under way to it.
use Rattle.std.proofs.Common.{◌≡◌, ◌≢◌, ℕ, Bool, true, false, cond, ◌==◌, ◌&&◌, not, List, refl, arith, ap, ◌∙◌, subst, Option}
use Rattle.std.proofs.lemmas.Bool.{ne_eqb}
use Rattle.std.proofs.lemmas.Bool.Decides.{nat_tests}
use Rattle.line_invariant.specs.Types.{Want, Nobody, Me, Node, ForwardGet, ForwardGetX, Class, Request, Reply}
use Rattle.op_model.specs.Nodes.{listed, unlist, none, listings, listed-none}
use Rattle.op_model.specs.Operations.{Words}
use Rattle.op_model.specs.Messages.{Content}
use Rattle.op_model.specs.Lines.{Copy, Header, sending, no_message, is_idle, is_empty}
use Rattle.op_model.specs.Tables.Home.{on_wb, on_rpl}
use Rattle.op_model.specs.Tables.Remote.{is_invalidate}
use Rattle.op_model.specs.Events.Step.{put_at}
use Rattle.op_model.proofs.Public.{eqb-self}
use Rattle.line_invariant.specs.Line.{Lanes, Line, share_of, after_row, sent, taken}
use Rattle.line_invariant.specs.Good.{Status, NotLeaving, WritesBack, Hints, Duty, NoDuty, Phase, Clean, HomeOwns, Owned, Called, Asked, SharedOut, HandedOn, Role, MayShare, Bare, Holds, Usual, asking_part, expected, role_in, holds_in, IsGoodNode, IsGood, IsGoodHeader, IsGoodHome}
use Rattle.line_invariant.proofs.Basics.{if-either}
use Rattle.line_invariant.proofs.ForwardNodes.{node-bare-shares}
use Rattle.line_invariant.proofs.HomeRows.{home-rests, clean-phase}
use Rattle.line_invariant.proofs.Marks.{keep}
use Rattle.line_invariant.proofs.Steps.{home-step}

pub lanes-departed : (home p : ℕ) (lane : Lanes) (status : ℕ → Status) → p ≢ home → ((a b : ℕ) (class : Class) → lane a b class ≡ expected home status a b class) →
    (rest : List Content) → rest ≡ asking_part (status p).carrier →
    (a b : ℕ) (class : Class) → sent home no_message (taken p home Request rest lane) a b class ≡ expected home (put_at status p (record (status p) { leaving = NotLeaving })) a b class
lanes-departed home p lane status apart lanes rest left a b Request = grind (arith, nat_tests, lanes a b Request)
lanes-departed home p lane status apart lanes rest left a b Reply = grind (arith, nat_tests, lanes a b Reply)

pub data HeldIn (p : ℕ) : Phase → Type 0 where
  in_owned : HeldIn p (Owned p)
  in_asked : (w : Bool) (r : ℕ) (f : Bool) → HeldIn p (Asked w r p f true)
  in_handed : (o : ℕ) → HeldIn p (HandedOn p o true)

-- the phases in which a node holds the line
pub held-in : (home : ℕ) (words : Words) (phase : Phase) (p : ℕ) → holds_in (role_in home words phase p) ≡ true → HeldIn p phase
held-in home words Clean p holds = absurd (grind arith)
held-in home words HomeOwns p holds = absurd (grind arith)
held-in home words (Owned o) p holds = let same : p ≡ o = grind (arith, nat_tests) in subst (λ q. HeldIn p (Owned q)) same in_owned
held-in home words (Called Nobody) p holds = absurd (grind arith)
held-in home words (Called Me) p holds = absurd (grind arith)
held-in home words (Called (Node g)) p holds = absurd (grind (arith, nat_tests))
held-in home words (Asked w r o f true) p holds = let same : p ≡ o = grind (arith, nat_tests) in subst (λ q. HeldIn p (Asked w r q f true)) same (in_asked w r f)
held-in home words (Asked w r o f false) p holds = absurd (grind (arith, nat_tests))
held-in home words (SharedOut r o) p holds = absurd (grind arith)
held-in home words (HandedOn r o true) p holds = let same : p ≡ r = grind (arith, nat_tests) in subst (λ q. HeldIn p (HandedOn q o true)) same (in_handed o)
held-in home words (HandedOn r o false) p holds = absurd (grind (arith, nat_tests))

module _ (words : Words) (lists : Bool) (copy : Copy) (want : Option Want) (status : Status) where
  pub node-wrote-back : (role : Role) (has : Words) → IsGoodNode role words lists copy want status → status.leaving ≡ WritesBack has → (holds_in role ≡ true) × (has ≡ words)
  node-wrote-back role has good leaves = (grind arith, grind arith)

  node-departed : (duty : Duty) (has : Words) (listed : Bool) → IsGoodNode (Holds duty) words lists copy want status → status.leaving ≡ WritesBack has → IsGoodNode (Bare Usual duty) words listed copy want (record status { leaving = NotLeaving })
  node-departed duty has listed good leaves = grind arith

  node-hinted : (role : Role) → IsGoodNode role words lists copy want status → status.leaving ≡ Hints → IsGoodNode role words lists copy want (record status { leaving = NotLeaving })
  node-hinted role good leaves = grind arith

  node-unlists : (listed : Bool) → IsGoodNode (MayShare NoDuty) words lists copy want status → status.leaving ≡ Hints → IsGoodNode (MayShare NoDuty) words listed copy want (record status { leaving = NotLeaving })
  node-unlists listed good leaves = grind arith

module _ (home : ℕ) (line : Line) (good : IsGood home line) (p : ℕ) (apart : p ≢ home) (rest : List Content) (left : rest ≡ asking_part (good.status p).carrier) where
  good-wb-in : (phase : Phase) → good.phase ≡ phase → HeldIn p phase → (has : Words) → has ≡ line.words → (good.status p).leaving ≡ WritesBack has →
      IsGood home (after_row home home (on_wb has (share_of line home)) (record line { lane = taken p home Request rest line.lane }))
  unfolding on_wb
  good-wb-in phase e in_owned has same leaves =
      let header : IsGoodHeader home (Owned p) line.words line.header (line.copy home) = rw e at good.header in
      let at_home : IsGoodHome home (Owned p) line.words (line.copy home) (line.want home) (good.status home) = rw e at good.at_home in
      let list : cond (is_idle line.header.wait) none line.header.list ≡ none = ap (λ w. cond (is_idle w) none line.header.list) header.0 in
      home-step home p line good apart (on_wb has (share_of line home)) Clean (record (good.status p) { leaving = NotLeaving }) (taken p home Request rest line.lane)
      (keep line.answered good.status good.answered p _ refl)
      (lanes-departed home p line.lane good.status apart good.lanes rest left)
      (header.0, refl, same, rw header.3 tt, rw header.3 tt)
      good.local (ap (λ l. listed l home) list ∙ listed-none home)
      (home-rests home (Owned p) Clean line.words line.words (line.copy home) _ (line.want home) (good.status home) at_home at_home.carrier refl)
      (node-bare-shares line.words (listed line.header.list p) (line.copy p) (line.want p) _ NoDuty _ (node-departed line.words _ (line.copy p) (line.want p) (good.status p) NoDuty has _ (rw (eqb-self p) at (rw e at (good.nodes p apart))) leaves))
      (λ node far other. node-bare-shares line.words _ (line.copy node) (line.want node) (good.status node) NoDuty _ (rw (ne_eqb node p other) at (rw e at (good.nodes node far))))
  good-wb-in phase e (in_asked w r f) has same leaves =
      let header : IsGoodHeader home (Asked w r p f true) line.words line.header (line.copy home) = rw e at good.header in
      let list : cond (is_idle line.header.wait) none line.header.list ≡ line.header.list = ap (λ v. cond (is_idle v) none line.header.list) header.0 ∙ either w in
      home-step home p line good apart (on_wb has (share_of line home)) (Asked w r p f false) (record (good.status p) { leaving = NotLeaving }) (taken p home Request rest line.lane)
      (keep line.answered good.status good.answered p _ refl)
      (lanes-departed home p line.lane good.status apart good.lanes rest left)
      (header.0, refl, same, list ∙ header.3, header.4, header.5, header.6)
      good.local (ap (λ l. listed l home) list ∙ good.unlisted)
      (let h : IsGoodHome home (Asked w r p f true) line.words (line.copy home) (line.want home) (good.status home) = rw e at good.at_home in record { carried = h.carried; stays = h.stays; off_duty = h.off_duty; carrier = h.carrier })
      (rw (eqb-self p) (node-departed line.words _ (line.copy p) (line.want p) (good.status p) _ has _ (rw (eqb-self p) at (rw e at (good.nodes p apart))) leaves))
      (λ node far other. rw (ne_eqb node p other, list) (rw (ne_eqb node p other) at (rw e at (good.nodes node far))))
    where
      either : (c : Bool) → cond (is_idle (cond c (ForwardGetX r) (ForwardGet r))) none line.header.list ≡ line.header.list
      either true = refl
      either false = refl
  good-wb-in phase e (in_handed o) has same leaves =
      let header : IsGoodHeader home (HandedOn p o true) line.words line.header (line.copy home) = rw e at good.header in
      let list : cond (is_idle line.header.wait) none line.header.list ≡ line.header.list = ap (λ v. cond (is_idle v) none line.header.list) header.0 in
      let off : (p == o) ≡ false = ne_eqb p o header.6 in
      home-step home p line good apart (on_wb has (share_of line home)) (HandedOn p o false) (record (good.status p) { leaving = NotLeaving }) (taken p home Request rest line.lane)
      (keep line.answered good.status good.answered p _ refl)
      (lanes-departed home p line.lane good.status apart good.lanes rest left)
      (header.0, refl, same, list ∙ header.3, header.4, header.5, header.6, λ h. absurd (apart h))
      good.local (ap (λ l. listed l home) list ∙ good.unlisted)
      (let h : IsGoodHome home (HandedOn p o true) line.words (line.copy home) (line.want home) (good.status home) = rw e at good.at_home in record { carried = h.carried; stays = h.stays; off_duty = h.off_duty; carrier = h.carrier })
      (rw off (node-departed line.words _ (line.copy p) (line.want p) (good.status p) _ has _ (rw (off, eqb-self p) at (rw e at (good.nodes p apart))) leaves))
      (λ node far other. rw list (rw (ne_eqb node p other) at (rw e at (good.nodes node far))))

  pub good-wb : (has : Words) → (good.status p).leaving ≡ WritesBack has →
      IsGood home (after_row home home (on_wb has (share_of line home)) (record line { lane = taken p home Request rest line.lane }))
  good-wb has leaves =
      let it = node-wrote-back line.words _ (line.copy p) (line.want p) (good.status p) _ has (good.nodes p apart) leaves in
      good-wb-in good.phase refl (held-in home line.words good.phase p it.0) has it.1 leaves

  pub good-rpl : (good.status p).leaving ≡ Hints → IsGood home (after_row home home (on_rpl p (share_of line home)) (record line { lane = taken p home Request rest line.lane }))
  unfolding on_rpl
  good-rpl leaves =
      if-either (λ o. IsGood home (after_row home home o (record line { lane = taken p home Request rest line.lane }))) (is_idle line.header.wait && not line.header.dirty) _ _
      (λ clean.
      let phase = clean-phase home good.phase line.words line.header (line.copy home) good.header (grind arith) (grind arith) in
      home-step home p line good apart (sending (record (share_of line home) { header = record line.header { list = unlist line.header.list p } }) no_message) Clean (record (good.status p) { leaving = NotLeaving }) (taken p home Request rest line.lane)
      (keep line.answered good.status good.answered p _ refl)
      (lanes-departed home p line.lane good.status apart good.lanes rest left)
      (rw phase at good.header) good.local (grind (arith, nat_tests, listings, good.unlisted)) (rw phase at good.at_home)
      (node-unlists line.words _ (line.copy p) (line.want p) (good.status p) _ (rw phase at (good.nodes p apart)) leaves)
      (λ node far other.
      let stays : listed (unlist line.header.list p) node ≡ listed line.header.list node = grind (arith, nat_tests, listings) in
      rw stays (rw phase at (good.nodes node far))))
      (λ not_clean.
      home-step home p line good apart (sending (share_of line home) no_message) good.phase (record (good.status p) { leaving = NotLeaving }) (taken p home Request rest line.lane)
      (keep line.answered good.status good.answered p _ refl)
      (lanes-departed home p line.lane good.status apart good.lanes rest left)
      good.header good.local good.unlisted good.at_home
      (node-hinted line.words _ (line.copy p) (line.want p) (good.status p) _ (good.nodes p apart) leaves)
      (λ node far other. good.nodes node far))

-- a write-back is met at the home
pub wb-meets : (home : ℕ) (phase : Phase) (words : Words) (header : Header) (copy : Copy) (p : ℕ) → IsGoodHeader home phase words header copy → header.local ≡ not (is_empty copy) → HeldIn p phase → (header.dirty ≡ true) × (header.local ≡ false) × (is_invalidate header.wait ≡ false)
wb-meets home phase words header copy p good local in_owned = (grind arith, grind arith, grind arith)
wb-meets home phase words header copy p good local (in_asked w r f) = asked w good
  where
    asked : (w : Bool) → IsGoodHeader home (Asked w r p f true) words header copy → (header.dirty ≡ true) × (header.local ≡ false) × (is_invalidate header.wait ≡ false)
    asked true good = (grind arith, grind arith, grind arith)
    asked false good = (grind arith, grind arith, grind arith)
wb-meets home phase words header copy p good local (in_handed o) = (grind arith, grind arith, grind arith)
