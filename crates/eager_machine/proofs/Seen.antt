-- What the text of a machine's run reads: the shares of its nodes, and the completed operations, each on a word of the machine.
use Rattle.std.proofs.Common.{◌≡◌, ℕ, ◌<◌, suc, List, [], ◌∷◌, filter, map, refl, arith, ap, sym, subst, ◌∙◌, Option, Some, None}
use Rattle.std.specs.Prelude.{slice_get, unwrap_or, All}
use Rattle.std.proofs.lemmas.List.Elements.{All-cons, All-nil}
use Rattle.line_map.specs.Sizes.{Sizes, all_words}
use Rattle.op_model.specs.declared.events.Event.{Event}
use Rattle.op_model.specs.declared.operations.Entry.{Entry}
use Rattle.op_model.specs.declared.operations.Op.{Op}
use Rattle.op_model.specs.Programs.{programs_of, IsProgramOf}
use Rattle.op_model.specs.Run.History.{Follows, IsNext, entries_by, is_completed}
use Rattle.op_model.specs.Shares.{program}
use Rattle.one_history.proofs.Public as entries
use Rattle.one_history.proofs.Public.{by-node}
use Rattle.machine.proofs.Public.{program-of, some-words, trace_by}
use Rattle.eager_model.specs.Runs.{AgedEntry, start}
use Rattle.eager_history.specs.Project.{plain}
use Rattle.eager_history.proofs.Public.{sound-run}
use Rattle.eager_report.specs.declared.aged.AgedEntry.{AgedEntry as Kept}
use Rattle.eager_report.specs.Reports.{completed_of}
use Rattle.eager_report.proofs.Public.{filter-kept}
use Rattle.eager_home.specs.Views.{EagerView}
use Rattle.eager_machine.specs.Journals.{served_in}
use Rattle.eager_machine.specs.Kept.{past_of, programs_in, state_of, AreNodes, IsKept}
use Rattle.eager_machine.specs.Lanes.{UnderWay}
use Rattle.eager_machine.specs.Machines.{EagerMachineView}
use Rattle.eager_machine.specs.Seen.{seen_of}
use Rattle.eager_machine.proofs.Laws.{programs-are, traced}
use Rattle.eager_machine.proofs.Views.{view_by, view-ran}

-- ---- words

program-at : (sizes : Sizes) (nodes : List EagerView) → AreNodes sizes nodes → (node : ℕ) → IsProgramOf sizes node (programs_of (programs_in nodes) node)
program-at sizes nodes are node = go (slice_get (programs_in nodes) node) refl
  where
    go : (o : Option (List Op)) → slice_get (programs_in nodes) node ≡ o → IsProgramOf sizes node (unwrap_or o [])
    go None at = λ i op none. absurd (let n : ◌≡◌ {A = Option Op} None (Some op) = none in cc)
    go (Some ops) at = programs-are sizes nodes are node ops at

-- entries of a program's operations are on words of the machine
on-words : (sizes : Sizes) (node : ℕ) (ops : List Op) → IsProgramOf sizes node ops → (index : ℕ) (es : List Entry) → Follows ops index es → entries.Each (λ e. e.word < all_words sizes) es
on-words sizes node ops are index [] follows = tt
on-words sizes node ops are index (e ∷ es) follows = (go (slice_get ops index) refl follows.0, on-words sizes node ops are (suc index) es follows.1)
  where
    go : (o : Option Op) → slice_get ops index ≡ o → IsNext index o e → e.word < all_words sizes
    go None at is = absurd is
    go (Some op) at is = subst (λ w. w < all_words sizes) (sym is.2) (are index op at).word

kept-words : (bound : ℕ) (ks : List Kept) → entries.Each (λ e. e.word < bound) (plain (served_in ks)) → All (λ (k : Kept). k.entry.word < bound) ks
kept-words bound [] each = All-nil (λ (k : Kept). k.entry.word < bound)
kept-words bound (k ∷ ks) each = All-cons (λ (k : Kept). k.entry.word < bound) k ks each.0 (kept-words bound ks each.1)

module _ (sizes : Sizes) (nodes : List EagerView) (way : UnderWay) (events : List Event) (ks : List Kept) (view : EagerMachineView) (kept : IsKept sizes nodes way events (served_in ks)) (is : view_by sizes nodes events ≡ view) where
  past-is : (seen_of view).past ≡ past_of sizes nodes way (served_in ks)
  past-is = ap (λ o. unwrap_or o (start view.sizes)) (view-ran sizes nodes way events (served_in ks) view kept is)

  -- the completed operations
  pub seen-completed : (done : List Kept) → done ≡ filter (λ k. is_completed (state_of sizes nodes way) k.entry) ks → served_in done ≡ completed_of (seen_of view).past
  seen-completed done are = ap served_in are ∙ sym (filter-kept (λ aged. is_completed (state_of sizes nodes way) aged.entry) ks) ∙ ap completed_of (sym past-is)

  -- each served one is on a word of the machine
  pub seen-words : All (λ (k : Kept). k.entry.word < all_words view.sizes) ks
  seen-words =
      let trace = trace_by sizes (programs_in nodes) in
      let sound = sound-run trace events (past_of sizes nodes way (served_in ks)) (some-words sizes kept.sizes_are) (traced sizes nodes kept.nodes_are events (past_of sizes nodes way (served_in ks)) kept.ran) in
      let same = sym (program-of sizes (programs_in nodes) (programs-are sizes nodes kept.nodes_are)) in
      subst (λ (s : Sizes). All (λ (k : Kept). k.entry.word < all_words s) ks) (ap (λ (v : EagerMachineView). v.sizes) is)
      (kept-words (all_words sizes) ks
      (by-node (λ e. e.word < all_words sizes) (plain (served_in ks))
      (λ n. on-words sizes n (program trace n) (subst (λ ps. IsProgramOf sizes n (ps n)) same (program-at sizes nodes kept.nodes_are n)) 0 (entries_by n (plain (served_in ks))) (sound.ordered n).order)))
