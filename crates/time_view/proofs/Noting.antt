-- The story of a line in a run, event by event.
use Rattle.std.proofs.Common.{◌≡◌, ℕ, zero, suc, ◌+◌, ◌<◌, ◌≤◌, List, [], ◌∷◌, ◌++◌, length, codes, refl, sym, ap, subst, ◌∙◌, append_assoc, arith}
use Rattle.std.specs.List.{flat_map, range_with_len}
use Rattle.std.proofs.lemmas.List.{take-append-le, take_all, length_push}
use Rattle.line_map.specs.Sizes.{Sizes}
use Rattle.op_model.specs.Nodes.{in_order-none}
use Rattle.op_model.specs.Lines.{Header}
use Rattle.op_model.specs.Shares.{first_header}
use Rattle.op_model.specs.declared.events.Event.{Event}
use Rattle.op_model.specs.Run.Runs.{Past, past_after, start, run_by}
use Rattle.op_model.specs.Run.Machines.{MachineRun, IsRunning, IsApplied}
use Rattle.dir_report.specs.declared.mode.Mode.TheVariants.{Delayed}
use Rattle.dir_report.specs.Reports.{header_at, header_words, nodes_word}
use Rattle.dir_report.proofs.Public.{flat_map-range_more, header_first}
use Rattle.time_view.specs.Stories.{StoryView, changed, first_story, noted, printed_in, printed_after, change_at, changes_of, story_of}

abbrev pub story : ℕ → ℕ → List ℕ → List ℕ → StoryView
story line steps last text = record { line = line; steps = steps; last = last; text = text }

-- ---- a run without events

first_printed : (sizes : Sizes) → header_words Delayed (first_header sizes) ≡ codes "- clean idle -"
first_printed sizes = ap (λ (nodes : List ℕ). codes "- clean idle " ++ nodes_word nodes) in_order-none

pub first_told : (m : MachineRun) (line : ℕ) → m.events ≡ [] → first_story line ≡ story_of m line
unfolding story_of
first_told m line none_yet =
    let at_first : printed_after m line 0 ≡ codes "- clean idle -" = ap (λ (h : Header). header_words Delayed h) (header_first m.sizes line) ∙ first_printed m.sizes in
    rw none_yet (ap (λ (words : List ℕ). story line 0 words (codes "0 - clean idle -\n" ++ [])) (sym at_first))

-- ---- one event more

same_below : {A : Type 0} (f g : ℕ → List A) (n : ℕ) → ((k : ℕ) → k < n → f k ≡ g k) → flat_map f (range_with_len 0 n) ≡ flat_map g (range_with_len 0 n)
same_below f g zero same = refl
same_below f g (suc n) same =
    let below = same_below f g n (λ k lt. same k (omega arith)) in
    let last = same n (omega arith) in
    let more = flat_map-range_more f n in
    let other = flat_map-range_more g n in
    let next : n + 1 ≡ suc n = omega arith in
    subst (λ (k : ℕ). flat_map f (range_with_len 0 k) ≡ flat_map g (range_with_len 0 k)) next (more ∙ ap (λ xs. xs ++ f n) below ∙ ap (λ xs. flat_map g (range_with_len 0 n) ++ xs) last ∙ sym other)

-- what was printed before is printed in the longer run too
same_printed : (m : MachineRun) (events : List Event) (past : Past) (line k : ℕ) → k ≤ length m.events → printed_after (record m { events = m.events ++ events; past = past }) line k ≡ printed_after m line k
same_printed m events past line k within =
    ap (λ (es : List Event). printed_in m.sizes line (run_by m.charge m.sizes m.programs (start m.sizes) es)) (take-append-le k m.events events within)

-- what is printed at the end of a run
last_printed : (m : MachineRun) (line : ℕ) → IsRunning m → printed_after m line (length m.events) ≡ header_words Delayed (header_at m.sizes m.past.state line)
last_printed m line running =
    ap (λ (es : List Event). printed_in m.sizes line (run_by m.charge m.sizes m.programs (start m.sizes) es)) (take_all (length m.events) m.events (omega arith))
    ∙ ap (printed_in m.sizes line) running.ran

pub same_story : (line m n : ℕ) (a b c d : List ℕ) → m ≡ n → a ≡ b → c ≡ d → story line m a c ≡ story line n b d
same_story line m n a b c d steps last text = rw (steps, last, text) refl

-- a run with one event more, of which the last header printed is this one
abbrev longer : MachineRun → Event → Past → MachineRun
longer m event past = record m { events = m.events ++ event ∷ []; past = past }

same_change : (k : ℕ) (a b c d : List ℕ) → a ≡ b → c ≡ d → changed k a c ≡ changed k b d
same_change k a b c d before now = ap (λ (x : List ℕ). changed k x c) before ∙ ap (λ (x : List ℕ). changed k b x) now

longer_changes : (m : MachineRun) (event : Event) (past : Past) (line : ℕ) (now : List ℕ) → printed_after (longer m event past) line (suc (length m.events)) ≡ now → changes_of (longer m event past) line ≡ changes_of m line ++ changed (suc (length m.events)) (printed_after m line (length m.events)) now
longer_changes m event past line now is =
    let n = length m.events in
    let same = same_printed m (event ∷ []) past line in
    let below = same_below (change_at (longer m event past) line) (change_at m line) n (λ k lt. same_change (suc k) _ _ _ _ (same k (omega arith)) (same (suc k) (omega arith))) in
    let last = same_change (suc n) _ _ _ _ (same n (omega arith)) is in
    let count : length (m.events ++ event ∷ []) ≡ n + 1 = length_push m.events event in
    ap (λ (c : ℕ). codes "0 - clean idle -\n" ++ flat_map (change_at (longer m event past) line) (range_with_len 0 c)) count
    ∙ ap (λ (zs : List ℕ). codes "0 - clean idle -\n" ++ zs)
    (flat_map-range_more (change_at (longer m event past) line) n ∙ ap (λ (zs : List ℕ). zs ++ change_at (longer m event past) line n) below
    ∙ ap (λ (zs : List ℕ). flat_map (change_at m line) (range_with_len 0 n) ++ zs) last)
    ∙ sym (append_assoc (codes "0 - clean idle -\n") (flat_map (change_at m line) (range_with_len 0 n)) (changed (suc n) (printed_after m line n) now))

longer_told : (m : MachineRun) (event : Event) (past : Past) (line : ℕ) → IsRunning (longer m event past) → noted (story_of m line) (header_words Delayed (header_at m.sizes past.state line)) ≡ story_of (longer m event past) line
unfolding story_of
longer_told m event past line running =
    let now = header_words Delayed (header_at m.sizes past.state line) in
    let count : suc (length m.events) ≡ length (m.events ++ event ∷ []) = omega (arith, length_push m.events event) in
    let last = last_printed (longer m event past) line running in
    let printed = ap (λ (k : ℕ). printed_after (longer m event past) line k) count ∙ last in
    same_story line _ _ _ _ _ _ count (sym last) (sym (longer_changes m event past line now printed))

event_told : (before after : MachineRun) (event : Event) (line : ℕ) → IsApplied before event after → IsRunning after → noted (story_of before line) (header_words Delayed (header_at after.sizes after.past.state line)) ≡ story_of after line
event_told before after event line applied running =
    subst (λ (m : MachineRun). IsRunning m → noted (story_of before line) (header_words Delayed (header_at m.sizes m.past.state line)) ≡ story_of m line) (sym applied.2)
    (longer_told before event (past_after before.sizes before.past applied.0) line) running

-- a story that was noted after an event is that of the longer run, where it was that of the run before
pub still_told : (new old : StoryView) (before after : MachineRun) (event : Event) → new ≡ noted old (header_words Delayed (header_at after.sizes after.past.state old.line)) → old ≡ story_of before old.line → IsApplied before event after → IsRunning after → new ≡ story_of after old.line
still_told new old before after event is was applied running =
    is ∙ ap (λ (story : StoryView). noted story (header_words Delayed (header_at after.sizes after.past.state old.line))) was ∙ event_told before after event old.line applied running
