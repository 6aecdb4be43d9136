-- An Inv, a Put and a Nak, taken by a node that isn't the home, keep the line good.
-- The phase stays, and no other node changes.
use Rattle.std.proofs.Common.{◌≡◌, ◌≢◌, ℕ, Bool, true, cond, List, ◌∷◌, refl, sym, ap, Option, Some, None}
use Rattle.line_invariant.specs.Types.{Op, Want, NakCause, Request, Reply}
use Rattle.op_model.specs.Operations.{Words, is_load}
use Rattle.op_model.specs.Messages.{Content, Put, Nak, Inv}
use Rattle.op_model.specs.Lines.{Copy, Absent, Shared, Room, Outcome, NoService, no_message}
use Rattle.op_model.specs.Tables.Remote.{on_inv, on_put, on_nak, row_of}
use Rattle.line_invariant.specs.Line.{Line, share_of, after_take, taken}
use Rattle.line_invariant.specs.Good.{is_put, Resting, Answered, Acked, IsGood, IsCarried, IsAnswerTo}
use Rattle.line_invariant.specs.Rows.{wanting}
use Rattle.line_invariant.proofs.Fronts.{inv-comes, answer-comes}
use Rattle.line_invariant.proofs.Meets.{by-row, does-inv, does-nak, does-put}
use Rattle.line_invariant.proofs.RemoteLanes.{lanes-inv, lanes-answer}
use Rattle.line_invariant.proofs.RemoteNodes.{told-role, node-inv, node-put, node-nak}
use Rattle.line_invariant.proofs.Marks.{keep, done}
use Rattle.line_invariant.proofs.Steps.{remote-step}

-- the operation that is answered
pub answered : (want : Option Want) (copy : Copy) (from : ℕ) (content : Content) → IsCarried want copy (Answered from content) → (op : Op) × (marked : Bool) × (want ≡ wanting op marked) × IsAnswerTo (is_load op.kind) content × (copy ≡ Absent)
answered None copy from content h = cc
answered (Some want) copy from content h = (want.op, want.marked, refl, h.1, h.0)

module _ (home : ℕ) (line : Line) (good : IsGood home line) (p : ℕ) (apart : p ≢ home) (rest : List Content) (room : Room) where
  pub good-inv : (from : ℕ) → line.lane from p Request ≡ Inv ∷ rest → IsGood home (after_take home from p Request Inv rest room line)
  unfolding row_of on_inv
  good-inv from front =
      let comes = inv-comes home line good p apart rest from front in
      let it = good.nodes p apart in
      let recalled = told-role home line.words good.phase p _ _ it.duty comes.1 in
      by-row home from p Request Inv rest room line (on_inv home (share_of line p)) (rw comes.0 (does-inv p home apart home room (share_of line p)))
      (rw comes.0 (remote-step home p line good apart (on_inv home (share_of line p)) good.phase (record (good.status p) { duty = Acked }) (taken home p Request rest line.lane)
      (keep line.answered good.status good.answered p _ refl)
      (lanes-inv home p line.lane good.status apart good.lanes rest comes.2 comes.1)
      good.header
      good.at_home
      (node-inv _ line.words _ (line.copy p) (line.want p) (good.status p) it recalled comes.1)
      (λ node far other. good.nodes node far)))

  pub good-nak : (from : ℕ) (cause : NakCause) → line.lane from p Reply ≡ Nak cause ∷ rest → IsGood home (after_take home from p Reply (Nak cause) rest room line)
  unfolding row_of on_nak
  good-nak from cause front =
      let comes = answer-comes home line good p apart rest from (Nak cause) front in
      let it = good.nodes p apart in
      let op = answered (line.want p) (line.copy p) from (Nak cause) (rw comes.0 at it.carried) in
      by-row home from p Reply (Nak cause) rest room line (on_nak (share_of line p)) (does-nak p home apart from room (share_of line p) cause op.0 op.1 op.2)
      (remote-step home p line good apart (on_nak (share_of line p)) good.phase (record (good.status p) { carrier = Resting }) (taken from p Reply rest line.lane)
      (keep line.answered good.status good.answered p _ (sym (ap is_put comes.0)))
      (lanes-answer home p line.lane good.status apart good.lanes from (Nak cause) rest comes.1 comes.0)
      good.header
      good.at_home
      (node-nak _ line.words _ (line.copy p) (line.want p) (good.status p) it from cause comes.0)
      (λ node far other. good.nodes node far))

  pub good-put : (from : ℕ) (words : Words) → line.lane from p Reply ≡ Put words ∷ rest → IsGood home (after_take home from p Reply (Put words) rest room line)
  unfolding row_of on_put
  good-put from words front =
      let comes = answer-comes home line good p apart rest from (Put words) front in
      let it = good.nodes p apart in
      let op = answered (line.want p) (line.copy p) from (Put words) (rw comes.0 at it.carried) in
      let out : Outcome = record { share = record (share_of line p) { copy = cond op.1 (line.copy p) (Shared words); want = None }; sends = no_message; served = NoService; done = true } in
      by-row home from p Reply (Put words) rest room line out (does-put p home apart from room (share_of line p) words op.0 op.1 op.2 op.3 op.4)
      (remote-step home p line good apart out good.phase (record (good.status p) { carrier = Resting }) (taken from p Reply rest line.lane)
      (done line.answered good.status good.answered p _ refl)
      (lanes-answer home p line.lane good.status apart good.lanes from (Put words) rest comes.1 comes.0)
      good.header
      good.at_home
      (node-put _ line.words _ (line.copy p) (line.want p) (good.status p) it op.0 op.1 from words op.2 comes.0)
      (λ node far other. good.nodes node far))
