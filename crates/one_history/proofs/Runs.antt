-- Every run is sound, from the start on: at the start no node has a copy, nothing is begun and every line is as it is at first, and
-- each event keeps what holds.
use Rattle.std.proofs.Common.{true, false, ap, inl, ◌≡◌, ℕ, ◌<◌, List, [], ◌∷◌, ◌+◌, ◌*◌, replicate, get_or, refl, arith, sym, ◌∙◌, subst, Option, Some, None, Result, Ok, Err}
use Rattle.std.proofs.lemmas.List.{ext_get_or, get_or-replicate}
use Rattle.std.proofs.lemmas.List.FromFn.{get_or-map-range_with_len, length-map-range_with_len}
use Rattle.std.proofs.Math.ListN.{length-replicate}
use Rattle.std.specs.List.{range_with_len}
use Rattle.std.specs.FinMap as fin
use Rattle.std.specs.FinMap.{gets}
use Rattle.line_map.specs.Sizes.{Sizes, home_of}
use Rattle.op_model.specs.declared.events.Cause.{Cause}
use Rattle.op_model.specs.declared.events.Event.{Event}
use Rattle.op_model.specs.Events.Step.{Done, and_then, effect}
use Rattle.op_model.specs.Flat.{flat_at}
use Rattle.op_model.specs.Lines.{Absent}
use Rattle.op_model.specs.Run.History.{entries_by}
use Rattle.op_model.specs.Run.Runs.{Past, past_after, run, run_from, start, start_share}
use Rattle.op_model.specs.Shares.{Charge, Trace, copy_of, first_header, header_of, program, header_in}
use Rattle.op_model.proofs.Public.{first_headers-same}
use Rattle.line_invariant.specs.Good.{IsGood}
use Rattle.line_invariant.specs.Line.{first_line}
use Rattle.line_invariant.proofs.Public.{good-first}
use Rattle.one_history.specs.Project.{line_words, project, words_at}
use Rattle.one_history.specs.Sound.{IsCached, IsOrdered, IsSound, answered_of, is_kept}
use Rattle.one_history.proofs.Events.{keeps-event}
use Rattle.one_history.proofs.Project.{same_line}

pub first-copy : (sizes : Sizes) (node line : ℕ) → copy_of (start_share sizes node) line ≡ Absent
unfolding copy_of
first-copy sizes node line = grind (arith, gets)

pub first-header : (sizes : Sizes) (node line : ℕ) → header_of sizes (start_share sizes node) line ≡ first_header sizes
unfolding header_in
first-header sizes node line = first_headers-same sizes (range_with_len (node * sizes.lines) sizes.lines) line

first-words : (size line : ℕ) → words_at size fin.empty line ≡ replicate size 0
unfolding words_at
first-words size line =
    ext_get_or 0 _ _ (length-map-range_with_len f 0 size ∙ sym (length-replicate size (Prim.Native.Nat.zero)))
    (λ i lt. let below : i < size = omega (arith, length-map-range_with_len f 0 size) in
    get_or-map-range_with_len f 0 size i i 0 below (omega arith) ∙ empty-at (line * size + i) ∙ sym (at-replicate size i below))
  where
    f : ℕ → ℕ
    f i = flat_at fin.empty (line * size + i)

    empty-at : (w : ℕ) → flat_at fin.empty w ≡ 0
    empty-at w = grind (arith, gets)

    at-replicate : (n i : ℕ) → i < n → get_or {A = ℕ} (replicate n 0) i 0 ≡ 0
    at-replicate n i h = get_or-replicate n i 0 0 h

-- at the start each line is as it is at first
pub first-line : (sizes : Sizes) (line : ℕ) → project sizes (start sizes).state (line_words sizes [] line) (answered_of sizes (start sizes) line) line ≡ first_line (line_words sizes [] line)
unfolding project
first-line sizes line =
    same_line _ _
    (λ node. first-copy sizes node line)
    (λ node. refl)
    (first-header sizes (home_of sizes line) line ∙ ap (λ words. record (first_header sizes) { memory = words }) (sym (first-words sizes.words line)))
    (λ a b class. refl)
    refl
    (λ node. refl)

good-start : (trace : Trace) (line : ℕ) → IsGood (home_of trace.sizes line) (project trace.sizes (start trace.sizes).state (line_words trace.sizes [] line) (answered_of trace.sizes (start trace.sizes) line) line)
good-start trace line = subst (IsGood (home_of trace.sizes line)) (sym (first-line trace.sizes line)) (good-first (home_of trace.sizes line) (line_words trace.sizes [] line))

none-kept : (sizes : Sizes) (node a : ℕ) → is_kept sizes (start_share sizes node) a ≡ true → ⊥
none-kept sizes node a kept = let e = first-copy sizes node a in let f : is_kept sizes (start_share sizes node) a ≡ false = rw e refl in let d : true ≡ false = sym kept ∙ f in cc

pub sound-start : (trace : Trace) → IsSound trace (start trace.sizes)
sound-start trace = record { cached = λ node a b kept. absurd (none-kept trace.sizes node a kept); legal = tt; ordered = λ node. record { begun = tt; order = tt; count = inl refl; rests = λ _. refl }; lines = good-start trace }

-- one event, and what comes after it
go-on : (charge : Charge) (trace : Trace) (past past' : Past) (events : List Event) (r : Result Done Cause) →
    ((d : Done) → r ≡ Ok d → IsSound trace (past_after trace.sizes past d)) →
    ((next : Past) → IsSound trace next → run_from charge trace next events ≡ Some past' → IsSound trace past') →
    and_then r (λ done. run_from charge trace (past_after trace.sizes past done) events) ≡ Some past' → IsSound trace past'
go-on charge trace past past' events (Ok done) keeps rest e = rest (past_after trace.sizes past done) (keeps done refl) e
go-on charge trace past past' events (Err cause) keeps rest e = absurd (let d : ◌≡◌ {A = Option Past} None (Some past') = e in cc)

pub sound-from : (charge : Charge) (trace : Trace) → 0 < trace.sizes.words → (past past' : Past) (events : List Event) → IsSound trace past → run_from charge trace past events ≡ Some past' → IsSound trace past'
sound-from charge trace positive past past' [] sound e = let is : past ≡ past' = cc in subst (IsSound trace) is sound
sound-from charge trace positive past past' (event ∷ events) sound e =
    go-on charge trace past past' events (effect charge trace.sizes (program trace) past.state event) (λ d is. keeps-event charge trace positive past sound event d is) (λ next s n. sound-from charge trace positive next past' events s n) e

-- every state that a run reaches is sound
pub sound_run : (charge : Charge) (trace : Trace) (events : List Event) (past : Past) → 0 < trace.sizes.words → run charge trace events ≡ Some past → IsSound trace past
sound_run charge trace events past positive e = sound-from charge trace positive (start trace.sizes) past events (sound-start trace) e

-- each node's entries are the operations of its program in order, as many as its place says, and after them the one that it has begun where that was served
pub ordered_run : (charge : Charge) (trace : Trace) (events : List Event) (past : Past) (node : ℕ) → 0 < trace.sizes.words → run charge trace events ≡ Some past → IsOrdered trace node (past.state.share node) (entries_by node past.served)
ordered_run charge trace events past node positive e = (sound_run charge trace events past positive e).ordered node

-- no cache set has two lines
pub cached_run : (charge : Charge) (trace : Trace) (events : List Event) (past : Past) (node : ℕ) → 0 < trace.sizes.words → run charge trace events ≡ Some past → IsCached trace.sizes (past.state.share node)
cached_run charge trace events past node positive e = (sound_run charge trace events past positive e).cached node
