-- By the law of this kind of step.
use Rattle.std.proofs.Common.{◌≡◌, ℕ, sym, ap, ◌∙◌, subst}
use Rattle.op_model.specs.Parts.Part.{Part}
use Rattle.lane_table.specs.Layout.{cell_word}
use Rattle.lane_table.specs.Rule.{Keeps}
use Rattle.lane_table.specs.Steps.{looked_out}
use Rattle.lane_table.specs.Views.{first_of}
use Rattle.lane_table.specs.Told.{IsOutgoing}
use Rattle.lane_table.proofs.Keeping.{keeps_out}
use Rattle.lane_table.proofs.seat.NodeSeat.space.Goals as goal

pub load_of-found-requires-clause-keeps : goal.load_of-found-requires-clause-keeps
load_of-found-requires-clause-keeps c =
    let z = c.args.t.now.setup.sizes in
    let p : Part = first_of c.self.inside.seat.me in
    let P : ℕ → Type 0 = λ i. Keeps c.args.t.now.setup i (λ n. n) p (looked_out p c.args.dst c.args.class) (λ n. Unit {0} × IsOutgoing z (looked_out p c.args.dst c.args.class n)) in
    let at : cell_word z p.number c.args.dst c.args.class 0 ≡ c.header_at-at.result = ap (λ k. cell_word z k c.args.dst c.args.class 0) c.self.invariant.1 ∙ sym c.header_at-at.ensures.place in
    subst P at (keeps_out c.args.t.now.setup p c.args.dst c.args.class c.requires.dst)
