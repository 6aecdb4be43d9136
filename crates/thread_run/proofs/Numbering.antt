-- Logs that are merged into a journal are numbered: told place by place, they are the logs of parts that have this journal.
use Rattle.std.proofs.Common.{◌≡◌, ℕ, zero, suc, ◌+◌, ◌≤◌, List, [], ◌∷◌, length, take, get_or, refl, sym, ap, subst, ◌∙◌, add-one, arith}
use Rattle.std.specs.Prelude.{sum_by}
use Rattle.std.proofs.lemmas.List.{length-map, take_all, get_or_default, get_or-map}
use Rattle.std.proofs.lemmas.List.Sums.{sum_by-cons, sum_by_more}
use Rattle.op_model.specs.declared.events.Event.{Event}
use Rattle.op_model.specs.declared.events.Numbered.{Numbered}
use Rattle.op_model.specs.Run.Weight.{total}
use Rattle.op_model.specs.Parts.Part.{Part}
use Rattle.op_model.specs.Parts.Journal.{drawn, Agrees, IsJournal}
use Rattle.one_journal.specs.SameLogs.{IsMerged}
use Rattle.step_journal.specs.Logs.{LogList, entries_of, AreNumbered, AreLogsOf}
use Rattle.step_journal.proofs.Public.{parts_numbered}
use Rattle.lane_table.specs.Views.{no_part}

abbrev no_log : LogList
no_log = record { entries = []; room = 0 }

-- a part with the log at this place
abbrev part_at : List LogList → ℕ → Part
part_at logs place = record no_part { log = (get_or logs place no_log).entries }

by_place : (g : List Numbered → ℕ) (logs : List LogList) (n : ℕ) → n ≤ length logs → total (λ place. g (part_at logs place).log) n ≡ sum_by (λ (log : LogList). g log.entries) (take n logs)
unfolding total
by_place g logs zero le = refl
by_place g logs (suc n) le =
    let rest = by_place g logs n (omega arith) in
    let more : sum_by (λ (log : LogList). g log.entries) (take (suc n) logs) ≡ sum_by (λ (log : LogList). g log.entries) (take n logs) + g (get_or logs n no_log).entries =
    rw (← add-one) (sum_by_more (λ (log : LogList). g log.entries) logs n no_log (omega arith)) in
    omega arith

in_entries : (g : List Numbered → ℕ) (logs : List LogList) → sum_by g (entries_of logs) ≡ sum_by (λ (log : LogList). g log.entries) logs
in_entries g [] = refl
in_entries g (log ∷ logs) =
    let here = sum_by-cons g log.entries (entries_of logs) in
    let there = sum_by-cons (λ (l : LogList). g l.entries) log logs in
    let rest = in_entries g logs in
    omega arith

pub merged_numbered : (logs : List LogList) (journal : List Event) → IsMerged (entries_of logs) journal → AreNumbered logs
merged_numbered logs journal is = parts_numbered (length logs) (part_at logs) journal logs are_logs is_journal
  where
    are_logs : AreLogsOf (length logs) (part_at logs) logs
    are_logs = record { count = refl; entries = λ place other lt. ap (λ (log : LogList). log.entries) (get_or_default logs place other no_log lt) }

    is_journal : IsJournal (length logs) (part_at logs) journal
    is_journal = record {
      once = λ t. by_place (drawn t) logs (length logs) (omega arith) ∙ (ap (sum_by (λ (log : LogList). drawn t log.entries)) (take_all (length logs) logs (omega arith)) ∙ (sym (in_entries (drawn t) logs) ∙ is.once t));
      agrees = λ place lt. subst (Agrees journal) (get_or-map (λ (log : LogList). log.entries) logs place no_log [] lt)
          (is.agrees place [] (let long = length-map logs (λ (log : LogList). log.entries) in omega arith));
    }
