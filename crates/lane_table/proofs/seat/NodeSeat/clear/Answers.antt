-- By the law of this kind of step.
use Rattle.std.proofs.Common.{◌≡◌, ℕ, ◌+◌, sym, ap, ◌∙◌, subst}
use Rattle.op_model.specs.Parts.Part.{Part, taken_from, cleared_from}
use Rattle.lane_table.specs.Layout.{cell_word}
use Rattle.lane_table.specs.Rule.{Keeps}
use Rattle.lane_table.specs.Steps.{freed}
use Rattle.lane_table.specs.Views.{SeatView, first_of}
use Rattle.lane_table.specs.Told.{tells_none}
use Rattle.lane_table.proofs.Keeping.{keeps_freed}
use Rattle.lane_table.proofs.seat.NodeSeat.clear.Goals as goal

pub store_of-requires-clause-keeps : goal.store_of-requires-clause-keeps
store_of-requires-clause-keeps c =
    let z = c.args.t.now.setup.sizes in
    let p : Part = first_of c.self.inside.seat.me in
    let a = c.args.src in
    let d = c.args.class in
    let same : c.args.self.now.part ≡ p = sym (ap (λ (s : SeatView). s.part) c.self.view_is) in
    let P : ℕ → Type 0 = λ i. Keeps c.args.t.now.setup i (λ _. 0) p (λ _. freed p a d) tells_none in
    let at : cell_word z a p.number d 0 ≡ c.header_at-at.result = ap (λ k. cell_word z a k d 0) c.self.invariant.1 ∙ sym c.header_at-at.ensures.place in
    let Q : Part → Type 0 = λ x. taken_from x a d ≡ cleared_from x a d + 1 in
    subst P at (keeps_freed c.args.t.now.setup p a d c.requires.src (subst Q same c.requires.made))
