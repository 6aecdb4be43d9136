-- By the law of one step, for a seat with one part.
use Rattle.std.proofs.Common.{◌≡◌, ◌+◌, ◌%◌, ◌^◌, ◌<◌, List, [], ◌∷◌, sym, ap, subst, arith}
use Rattle.atomic_table.specs.Table.{Allows}
use Rattle.op_model.specs.Parts.Part.{Part}
use Rattle.lane_table.specs.Rule.{IsKept}
use Rattle.lane_table.specs.Views.{TableView, first_of}
use Rattle.lane_table.proofs.Seating.{one_step_at}
use Rattle.lane_table.proofs.steps.draw_of.Goals as goal

pub fetch_add-requires : goal.fetch_add-requires
fetch_add-requires g c =
    let me = c.args.seat.now.me in
    let p = first_of me in
    let P : TableView → Type 0 = λ t. (c.args.seat.now.table_id ≡ t.id) × (0 < t.id.words)
    × Allows {S = Unit {0}} {V = List Part} (IsKept t.setup) t.id.slots c.args.seat.now.id me 0 (λ n. (n + 1) % 2 ^ 64) (λ n w. (w ≡ (g.A.About.after p n ∷ [], [])) × g.A.About.tells p n) in
    subst P (sym c.t.view_is) (
      c.requires.table,
      (let w = ap (λ (v : TableView). v.id.words) c.t.view_is in let k = c.t.invariant.1 in omega arith),
      one_step_at c.args.t.now.setup c.args.t.now.id.slots c.args.seat.now.id 0 (λ n. (n + 1) % 2 ^ 64) p me (g.A.About.after p) (g.A.About.tells p) c.requires.one c.requires.keeps,
    )
