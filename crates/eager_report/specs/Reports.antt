-- The text of a run of the eager core: the histories of all lines with their ages, the lines whose header isn't the first one, and the counts.
use Rattle.std.specs.Prelude.{ℕ, ◌++◌, List, length, filter, codes, decimal}
use Rattle.std.specs.List.{flat_map, range_with_len}
use Rattle.line_map.specs.Sizes.{Sizes, all_lines, line_of}
use Rattle.decimal_text.specs.Text.{named}
use Rattle.op_model.specs.declared.events.Event.{Event}
use Rattle.op_model.specs.Events.Step.{Programs}
use Rattle.op_model.specs.Run.History.{is_completed}
use Rattle.dir_report.specs.declared.mode.Mode.TheVariants.{Eager}
use Rattle.dir_report.specs.Reports.{entry_line, lines_text, counts_text}
use Rattle.eager_model.specs.History.{aged_history}
use Rattle.eager_model.specs.Runs.{AgedEntry, Past, start}
use Rattle.eager_report.specs.Moments.{moments}

-- <line> <age> <entry as in a report>
abbrev pub aged_line : Sizes → AgedEntry → List ℕ
aged_line sizes aged = decimal (line_of sizes aged.entry.word) ++ codes " " ++ decimal aged.age ++ codes " " ++ entry_line aged.entry

-- the completed operations, line by line, those of each line as its history has them
abbrev pub all_histories : Sizes → Past → List AgedEntry
all_histories sizes past = flat_map (aged_history sizes past) (range_with_len 0 (all_lines sizes))

-- how many entries there are, and each of them
unfoldable pub histories_text : Sizes → List AgedEntry → List ℕ
histories_text sizes entries = named (codes "history ") (length entries) ++ flat_map (aged_line sizes) entries

-- the completed ones of what was served, in the order of the events that served them
abbrev pub completed_of : Past → List AgedEntry
completed_of past = filter (λ aged. is_completed past.state aged.entry) past.served

-- the text of a run of these programs that made these events and ended so
unfoldable pub report_text : Sizes → Programs → List Event → Past → List ℕ
report_text sizes programs events past =
    codes "flash eager 1\n"
    ++ histories_text sizes (all_histories sizes past)
    ++ lines_text Eager (codes "lines ") sizes past.state
    ++ counts_text sizes (moments sizes programs (start sizes) events)
    ++ codes "end\n"
