-- The rule holds of a table in which nothing is under way.
use Rattle.std.proofs.Common.{rules, ◌≡◌, List, [], sym, ap, ◌∙◌, subst, length, replicate}
use Rattle.std.specs.Prelude.{map}
use Rattle.atomic_table.specs.Table.{Me}
use Rattle.op_model.specs.declared.operations.Op.{Op}
use Rattle.op_model.specs.Programs.{ArePrograms}
use Rattle.op_model.specs.Parts.Part.{Part}
use Rattle.lane_table.specs.Setups.{Setup}
use Rattle.lane_table.specs.Rule.{parts_from}
use Rattle.lane_table.specs.Views.{SeatsView, NumberedFrom}
use Rattle.lane_table.proofs.Opening.{opens, numbered_start, length_start, seats_start}
use Rattle.lane_table.proofs.table.LaneTable.laid.Goals as goal

pub of_words-requires : goal.of_words-requires
of_words-requires c =
    let told : Setup = record { sizes = c.args.cfg; programs = map (λ s. s.value) c.in_ok-shown.field-0.items } in
    let P : List (List Op) → Type 0 = λ programs. ArePrograms c.args.cfg programs in
    opens told c.as_slice.result.now c.requires.sized (subst P (sym c.in_ok-shown.ensures) c.requires.programs)
    (c.as_slice.ensures.value ∙ (c.in_ok-words.ensures.items_if_clones_equal (search rules) ∙ ap (λ n. replicate n 0) c.word_count.ensures))

pub all-requires-clause-count : goal.all-requires-clause-count
all-requires-clause-count c =
    let e : c.in_ok-table.seat.me ≡ (parts_from c.args.cfg 0 (map (λ s. s.value) c.in_ok-shown.field-0.items), []) = c.in_ok-table.ensures.4 in
    let P : Me (Unit {0}) (List Part) → Type 0 = λ m. length m.0 ≡ c.nodes.result in
    let len = ap length c.in_ok-shown.ensures ∙ (c.requires.programs.count ∙ sym c.nodes.ensures.value) in
    subst P (sym e) (length_start c.args.cfg 0 (map (λ s. s.value) c.in_ok-shown.field-0.items) ∙ len)

pub all-requires-clause-numbered : goal.all-requires-clause-numbered
all-requires-clause-numbered c =
    let e : c.in_ok-table.seat.me ≡ (parts_from c.args.cfg 0 (map (λ s. s.value) c.in_ok-shown.field-0.items), []) = c.in_ok-table.ensures.4 in
    let P : Me (Unit {0}) (List Part) → Type 0 = λ m. NumberedFrom 0 m.0 in
    subst P (sym e) (numbered_start c.args.cfg 0 (map (λ s. s.value) c.in_ok-shown.field-0.items))

pub returns-clause-seats : goal.returns-clause-seats
returns-clause-seats c =
    let e = c.in_ok-table.ensures in
    let P : List (List Op) → Type 0 = λ programs. ArePrograms c.args.cfg programs in
    let Q : Setup → Type 0 = λ setup. ArePrograms setup.sizes setup.programs in
    let told : Setup = record { sizes = c.args.cfg; programs = map (λ s. s.value) c.in_ok-shown.field-0.items } in
    let key : c.in_ok-table.table.shared.key ≡ told = e.5 in
    seats_start (record { id = c.in_ok-table.table.shared.table_id; setup = c.in_ok-table.table.shared.key }) c.all.result
    (subst Q (sym key) (subst P (sym c.in_ok-shown.ensures) c.requires.programs))
    (ap (λ (s : SeatsView). s.id) c.all.ensures ∙ e.2)
    (ap (λ (s : SeatsView). s.parts) c.all.ensures ∙ (ap (λ (m : Me (Unit {0}) (List Part)). m.0) e.4 ∙ ap (λ (s : Setup). parts_from s.sizes 0 s.programs) (sym key)))
