-- By the law of one step, for a seat with one part.
use Rattle.std.proofs.Common.{◌≡◌, ◌<◌, List, [], ◌∷◌, sym, subst}
use Rattle.atomic_table.specs.Table.{Allows}
use Rattle.op_model.specs.Parts.Part.{Part}
use Rattle.lane_table.specs.Rule.{IsKept}
use Rattle.lane_table.specs.Views.{TableView, first_of}
use Rattle.lane_table.proofs.Seating.{one_step_at}
use Rattle.lane_table.proofs.steps.load_of.Goals as goal

pub load-requires : goal.load-requires
load-requires g c =
    let me = c.args.seat.now.me in
    let p = first_of me in
    let P : TableView → Type 0 = λ t. (c.args.seat.now.table_id ≡ t.id) × (c.args.at < t.id.words)
    × Allows {S = Unit {0}} {V = List Part} (IsKept t.setup) t.id.slots c.args.seat.now.id me c.args.at (λ n. n) (λ n w. (w ≡ (g.A.About.after p n ∷ [], [])) × g.A.About.tells p n) in
    subst P (sym c.t.view_is) (
      c.requires.table,
      c.requires.at,
      one_step_at c.args.t.now.setup c.args.t.now.id.slots c.args.seat.now.id c.args.at (λ n. n) p me (g.A.About.after p) (g.A.About.tells p) c.requires.one c.requires.keeps,
    )
