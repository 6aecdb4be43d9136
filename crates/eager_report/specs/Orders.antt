-- The order in which entries are printed.
use Rattle.std.specs.Prelude.{ℕ, ◌==◌, List, filter}
use Rattle.std.specs.List.{flat_map, range_with_len}
use Rattle.line_map.specs.Sizes.{Sizes, all_lines, line_of}
use Rattle.eager_model.specs.History.{in_age_order}
use Rattle.eager_model.specs.Runs.{AgedEntry}
use Rattle.eager_report.specs.declared.aged.AgedEntry.{AgedEntry as Kept}

-- an entry as the definition of a run has it
abbrev pub as_aged : Kept → AgedEntry
as_aged kept = record { age = kept.age; entry = kept.entry }

-- the entries of a line in the order of their ages
abbrev pub on_line : Sizes → List AgedEntry → ℕ → List AgedEntry
on_line sizes entries line = in_age_order (filter (λ aged. line_of sizes aged.entry.word == line) entries)

-- those of all lines, line by line
abbrev pub by_lines : Sizes → List AgedEntry → List AgedEntry
by_lines sizes entries = flat_map (on_line sizes entries) (range_with_len 0 (all_lines sizes))
