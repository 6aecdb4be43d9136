-- By the law of one step, for a seat with one part.
use Rattle.std.proofs.Common.{◌≡◌, ◌<◌, List, [], ◌∷◌, sym, subst}
use Rattle.atomic_table.specs.Table.{Allows}
use Rattle.op_model.specs.Parts.Part.{Part}
use Rattle.lane_table.specs.Rule.{IsKept}
use Rattle.lane_table.specs.Views.{TableView, first_of}
use Rattle.lane_table.specs.Told.{tells_none}
use Rattle.lane_table.proofs.Seating.{one_step_at}
use Rattle.lane_table.proofs.steps.store_of.Goals as goal

pub store-requires : goal.store-requires
store-requires g c =
    let me = c.args.seat.now.me in
    let p = first_of me in
    let P : TableView → Type 0 = λ t. (c.args.seat.now.table_id ≡ t.id) × (c.args.at < t.id.words)
    × Allows {S = Unit {0}} {V = List Part} (IsKept t.setup) t.id.slots c.args.seat.now.id me c.args.at (λ _. c.args.new) (λ n w. (w ≡ (g.A.About.after p c.args.new ∷ [], [])) × Unit {0}) in
    subst P (sym c.t.view_is) (
      c.requires.table,
      c.requires.at,
      one_step_at c.args.t.now.setup c.args.t.now.id.slots c.args.seat.now.id c.args.at (λ _. c.args.new) p me (λ _. g.A.About.after p c.args.new) tells_none c.requires.one c.requires.keeps,
    )
