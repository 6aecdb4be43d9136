-- A PutX elsewhere, and each answer at the home, keep the line good.
-- An answer at the home tells the phase by the home's own carrier.
use Rattle.std.proofs.Common.{◌≡◌, ◌≢◌, ℕ, Bool, true, false, cond, ◌==◌, List, [], refl, arith, ap, sym, None}
use Rattle.std.proofs.Math.Bool.{and-false}
use Rattle.std.proofs.lemmas.Bool.{ne_eqb}
use Rattle.std.proofs.lemmas.Bool.Decides.{nat_tests}
use Rattle.line_invariant.specs.Types.{Op, Nobody, Me, Node, Idle, NakCause, Class, Request, Reply}
use Rattle.op_model.specs.Nodes.{listed, none, listed-none}
use Rattle.op_model.specs.Operations.{Words, after_op}
use Rattle.op_model.specs.Messages.{Content, Put, PutX, Nak}
use Rattle.op_model.specs.Lines.{Shared, Exclusive, NoService, Own, no_message}
use Rattle.op_model.specs.Tables.Remote.{on_nak}
use Rattle.op_model.specs.Events.Step.{put_at}
use Rattle.op_model.proofs.Public.{eqb-self}
use Rattle.line_invariant.specs.Line.{Lanes, Line, share_of, after_row, sent, taken}
use Rattle.line_invariant.specs.Good.{is_put, Status, Carrier, Resting, Answered, NoDuty, Phase, Clean, HomeOwns, Owned, Called, Asked, SharedOut, HandedOn, Bare, Usual, reply_part, expected, IsGoodNode, IsGood, IsHomeCarrier, IsAskedBy}
use Rattle.line_invariant.specs.Rows.{wanting}
use Rattle.line_invariant.proofs.RemoteLanes.{lanes-answer}
use Rattle.line_invariant.proofs.LocalNodes.{node-putx, held-header, held-home, held-alone, role-same, bare-any}
use Rattle.line_invariant.proofs.Marks.{keep, done}
use Rattle.line_invariant.proofs.Steps.{remote-step, home-step-all}

lanes-home-answer : (home from : ℕ) (lane : Lanes) (status : ℕ → Status) → ((a b : ℕ) (class : Class) → lane a b class ≡ expected home status a b class) →
    (content : Content) (rest : List Content) → rest ≡ reply_part (status from).duty → (status home).carrier ≡ Answered from content →
    (a b : ℕ) (class : Class) → sent home no_message (taken from home Reply rest lane) a b class ≡ expected home (put_at status home (record (status home) { carrier = Resting })) a b class
lanes-home-answer home from lane status lanes content rest left answered a b Request = grind (arith, nat_tests, lanes a b Request)
lanes-home-answer home from lane status lanes content rest left answered a b Reply = grind (arith, nat_tests, lanes a b Reply)

-- the phase in which the home is given words
pub put-phase : (home : ℕ) (words : Words) (phase : Phase) (carries : Carrier) (from : ℕ) (has : Words) → IsHomeCarrier home words phase carries → carries ≡ Answered from (Put has) → (phase ≡ SharedOut home from) × (has ≡ words)
put-phase home words (SharedOut r o) carries from has is answered = go (r == home) refl is
  where
    go : (c : Bool) → (r == home) ≡ c → carries ≡ cond c (Answered o (Put words)) Resting → (SharedOut r o ≡ SharedOut home from) × (has ≡ words)
    go true e is = let same : r ≡ home = grind (arith, nat_tests) in (cc, cc)
    go false e is = absurd (grind arith)
put-phase home words Clean carries from has is answered = absurd (grind arith)
put-phase home words HomeOwns carries from has is answered = absurd (grind arith)
put-phase home words (Owned o) carries from has is answered = absurd (grind arith)
put-phase home words (Called Nobody) carries from has is answered = absurd (grind arith)
put-phase home words (Called Me) carries from has is answered = absurd (grind arith)
put-phase home words (Called (Node n)) carries from has is answered = absurd (grind arith)
put-phase home words (Asked w r o f h) carries from has is answered = absurd (asked (r == home) f is)
  where
    asked : (c f : Bool) → IsAskedBy c f w o carries → ⊥
    asked true true is = grind arith
    asked true false is = grind arith
    asked false f is = grind arith
put-phase home words (HandedOn r o h) carries from has is answered = absurd (handed (r == home) is)
  where
    handed : (c : Bool) → carries ≡ cond c (Answered o (PutX words)) Resting → ⊥
    handed true is = grind arith
    handed false is = grind arith

pub putx-phase : (home : ℕ) (words : Words) (phase : Phase) (carries : Carrier) (from : ℕ) (has : Words) → IsHomeCarrier home words phase carries → carries ≡ Answered from (PutX has) → (h : Bool) × (phase ≡ HandedOn home from h) × (has ≡ words)
putx-phase home words (HandedOn r o h) carries from has is answered = let t = go (r == home) refl is in (h, t.0, t.1)
  where
    go : (c : Bool) → (r == home) ≡ c → carries ≡ cond c (Answered o (PutX words)) Resting → (HandedOn r o h ≡ HandedOn home from h) × (has ≡ words)
    go true e is = let same : r ≡ home = grind (arith, nat_tests) in (cc, cc)
    go false e is = absurd (grind arith)
putx-phase home words Clean carries from has is answered = absurd (grind arith)
putx-phase home words HomeOwns carries from has is answered = absurd (grind arith)
putx-phase home words (Owned o) carries from has is answered = absurd (grind arith)
putx-phase home words (Called Nobody) carries from has is answered = absurd (grind arith)
putx-phase home words (Called Me) carries from has is answered = absurd (grind arith)
putx-phase home words (Called (Node n)) carries from has is answered = absurd (grind arith)
putx-phase home words (Asked w r o f h) carries from has is answered = absurd (asked (r == home) f is)
  where
    asked : (c f : Bool) → IsAskedBy c f w o carries → ⊥
    asked true true is = grind arith
    asked true false is = grind arith
    asked false f is = grind arith
putx-phase home words (SharedOut r o) carries from has is answered = absurd (shared (r == home) is)
  where
    shared : (c : Bool) → carries ≡ cond c (Answered o (Put words)) Resting → ⊥
    shared true is = grind arith
    shared false is = grind arith

pub nak-phase : (home : ℕ) (words : Words) (phase : Phase) (carries : Carrier) (from : ℕ) (cause : NakCause) → IsHomeCarrier home words phase carries → carries ≡ Answered from (Nak cause) → (w : Bool) × (h : Bool) × (phase ≡ Asked w home from true h)
nak-phase home words (Asked w r o f h) carries from cause is answered = (w, h, asked (r == home) f refl is)
  where
    asked : (c f : Bool) → (r == home) ≡ c → IsAskedBy c f w o carries → Asked w r o f h ≡ Asked w home from true h
    asked true true e is = let same : r ≡ home = grind (arith, nat_tests) in let owner : from ≡ o = rw answered at is in cc
    asked true false e is = absurd (grind arith)
    asked false f e is = absurd (grind arith)
nak-phase home words Clean carries from cause is answered = absurd (grind arith)
nak-phase home words HomeOwns carries from cause is answered = absurd (grind arith)
nak-phase home words (Owned o) carries from cause is answered = absurd (grind arith)
nak-phase home words (Called Nobody) carries from cause is answered = absurd (grind arith)
nak-phase home words (Called Me) carries from cause is answered = absurd (grind arith)
nak-phase home words (Called (Node n)) carries from cause is answered = absurd (grind arith)
nak-phase home words (SharedOut r o) carries from cause is answered = absurd (shared (r == home) is)
  where
    shared : (c : Bool) → carries ≡ cond c (Answered o (Put words)) Resting → ⊥
    shared true is = grind arith
    shared false is = grind arith
nak-phase home words (HandedOn r o h) carries from cause is answered = absurd (handed (r == home) is)
  where
    handed : (c : Bool) → carries ≡ cond c (Answered o (PutX words)) Resting → ⊥
    handed true is = grind arith
    handed false is = grind arith

module _ (home : ℕ) (line : Line) (good : IsGood home line) (rest : List Content) where
  -- a node that isn't the home gets the line, and writes
  pub good-putx : (p : ℕ) → p ≢ home → (from : ℕ) (has : Words) (op : Op) (marked : Bool) → rest ≡ [] → (good.status p).carrier ≡ Answered from (PutX has) → line.want p ≡ wanting op marked →
      IsGood home (after_row home p (record { share = record (share_of line p) { copy = Exclusive (after_op op has); want = None }; sends = no_message; served = Own op has; done = true }) (record line { lane = taken from p Reply rest line.lane }))
  good-putx p apart from has op marked empty answered wants =
      let it = node-putx _ line.words _ (line.copy p) (line.want p) (good.status p) op marked from has (good.nodes p apart) wants answered in
      let next : Words = after_op op line.words in
      let at_home = good.at_home in
      remote-step home p line good apart (record { share = record (share_of line p) { copy = Exclusive (after_op op has); want = None }; sends = no_message; served = Own op has; done = true }) good.phase (record (good.status p) { carrier = Resting }) (taken from p Reply rest line.lane)
      (done line.answered good.status good.answered p _ refl)
      (lanes-answer home p line.lane good.status apart good.lanes from (PutX has) rest empty answered)
      (held-header home line.words next good.phase p it.0 line.header (line.copy home) good.header)
      (record { carried = at_home.carried; stays = at_home.stays; off_duty = at_home.off_duty; carrier = held-home home line.words next good.phase p apart it.0 _ at_home.carrier })
      (rw (role-same home line.words next good.phase p it.0) it.2)
      (λ node far other. held-alone home line.words next good.phase p node it.0 other _ (line.copy node) (line.want node) (good.status node) (good.nodes node far))

  -- the home's load is done
  pub good-home-put : (from : ℕ) (has : Words) → rest ≡ reply_part (good.status from).duty → (good.status home).carrier ≡ Answered from (Put has) →
      IsGood home (after_row home home (record { share = record (share_of line home) { copy = Shared has; want = None; header = record line.header { local = true; dirty = false; wait = Idle; memory = has } }; sends = no_message; served = NoService; done = true }) (record line { lane = taken from home Reply rest line.lane }))
  good-home-put from has left answered =
      let at_home = good.at_home in
      let is = put-phase home line.words good.phase _ from has at_home.carrier answered in
      home-step-all home line (record { share = record (share_of line home) { copy = Shared has; want = None; header = record line.header { local = true; dirty = false; wait = Idle; memory = has } }; sends = no_message; served = NoService; done = true }) Clean (put_at good.status home (record (good.status home) { carrier = Resting })) (taken from home Reply rest line.lane)
      (done line.answered good.status good.answered home _ refl)
      (lanes-home-answer home from line.lane good.status good.lanes (Put has) rest left answered)
      (refl, refl, is.1, tt, (is.1, tt))
      refl good.unlisted
      (rw (eqb-self home) (record { carried = refl; stays = at_home.stays; off_duty = at_home.off_duty; carrier = refl }))
      (λ node far. rw (ne_eqb node home far) (rw (eqb-self home, and-false) at (rw is.0 at (good.nodes node far))))

  -- the home's write is done
  pub good-home-putx : (from : ℕ) (has : Words) (op : Op) (marked : Bool) → rest ≡ reply_part (good.status from).duty → (good.status home).carrier ≡ Answered from (PutX has) → line.want home ≡ wanting op marked →
      IsGood home (after_row home home (record { share = record (share_of line home) { copy = Exclusive (after_op op has); want = None; header = record line.header { local = true; dirty = true; wait = Idle; list = none } }; sends = no_message; served = Own op has; done = true }) (record line { lane = taken from home Reply rest line.lane }))
  good-home-putx from has op marked left answered wants =
      let at_home = good.at_home in
      let is = putx-phase home line.words good.phase _ from has at_home.carrier answered in
      home-step-all home line (record { share = record (share_of line home) { copy = Exclusive (after_op op has); want = None; header = record line.header { local = true; dirty = true; wait = Idle; list = none } }; sends = no_message; served = Own op has; done = true }) HomeOwns (put_at good.status home (record (good.status home) { carrier = Resting })) (taken from home Reply rest line.lane)
      (done line.answered good.status good.answered home _ refl)
      (lanes-home-answer home from line.lane good.status good.lanes (PutX has) rest left answered)
      (refl, refl, refl, ap (λ w. Exclusive (after_op op w)) is.2)
      refl (listed-none home)
      (rw (eqb-self home) (record { carried = refl; stays = at_home.stays; off_duty = at_home.off_duty; carrier = refl }))
      (λ node far. rw (ne_eqb node home far) (home-has node (node == from) is.0 (rw (eqb-self home, ne_eqb node home far, and-false) at (rw is.1 at (good.nodes node far)))))
    where
      home-has : (node : ℕ) (c : Bool) (h : Bool) → IsGoodNode (cond c (Bare Usual NoDuty) (Bare Usual NoDuty)) line.words (listed line.header.list node) (line.copy node) (line.want node) (good.status node) →
          IsGoodNode (Bare Usual NoDuty) (after_op op line.words) (listed none node) (line.copy node) (line.want node) (good.status node)
      home-has node true h it = bare-any NoDuty line.words _ _ _ (line.copy node) (line.want node) (good.status node) it
      home-has node false h it = bare-any NoDuty line.words _ _ _ (line.copy node) (line.want node) (good.status node) it

  -- the home may begin its operation again
  pub good-home-nak : (from : ℕ) (cause : NakCause) → rest ≡ reply_part (good.status from).duty → (good.status home).carrier ≡ Answered from (Nak cause) →
      IsGood home (after_row home home (on_nak (share_of line home)) (record line { lane = taken from home Reply rest line.lane }))
  unfolding on_nak
  good-home-nak from cause left answered =
      let at_home = good.at_home in
      let is = nak-phase home line.words good.phase _ from cause at_home.carrier answered in
      home-step-all home line (on_nak (share_of line home)) good.phase (put_at good.status home (record (good.status home) { carrier = Resting })) (taken from home Reply rest line.lane)
      (keep line.answered good.status good.answered home _ (sym (ap is_put answered)))
      (lanes-home-answer home from line.lane good.status good.lanes (Nak cause) rest left answered)
      good.header good.local good.unlisted
      (rw (eqb-self home) (record { carried = refl; stays = at_home.stays; off_duty = at_home.off_duty; carrier = rw (is.2, eqb-self home) tt }))
      (λ node far. rw (ne_eqb node home far) (good.nodes node far))
