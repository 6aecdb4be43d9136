-- The logs of parts that have a journal: each ticket below its length is drawn once, so they have as many entries as it has events.
use Rattle.std.proofs.Common.{◌≡◌, ℕ, zero, suc, ◌+◌, ◌<◌, ◌≤◌, cond, ◌==◌, List, [], ◌∷◌, length, take, get_or, refl, sym, ap, subst, ◌∙◌, inl, inr, add-one, arith}
use Rattle.std.specs.Prelude.{map, sum_by}
use Rattle.std.specs.List.{All}
use Rattle.std.proofs.lemmas.Bool.{ne_eqb, eq-eqb, cases_lt, lt-ltb}
use Rattle.std.proofs.lemmas.List.{take_all}
use Rattle.std.proofs.lemmas.List.Elements.{All-head, All-tail, All-map}
use Rattle.std.proofs.lemmas.List.Sums.{sum_by-cons, sum_by_more, get_or-le-sum_by}
use Rattle.op_model.specs.declared.events.Event.{Event}
use Rattle.op_model.specs.declared.events.Numbered.{Numbered}
use Rattle.op_model.specs.Run.Weight.{total}
use Rattle.op_model.specs.Parts.Part.{Part}
use Rattle.op_model.specs.Parts.Journal.{drawn, Agrees, IsJournal}
use Rattle.op_model.proofs.Public.{total-add, total-alike, total-zero}
use Rattle.step_journal.specs.Logs.{LogList, all_entries, all_drawn, entries_of, AreNumbered, AreLogsOf}
use Rattle.one_journal.specs.SameLogs.{IsMerged}
use Rattle.step_journal.proofs.Tickets.{has, has_own, drawn_cons, in_log, one_or_none, some_below}

-- ---- sums over the numbers below a bound

abbrev is_this : ℕ → ℕ → ℕ
is_this k i = cond (k == i) 1 0

not_reached : (k n : ℕ) → n ≤ k → total (is_this k) n ≡ 0
unfolding total
not_reached k zero le = refl
not_reached k (suc n) le =
    let rest = not_reached k n (omega arith) in
    let last : is_this k n ≡ 0 = rw (ne_eqb k n (λ e. omega arith)) refl in
    omega arith

total_one : (k n : ℕ) → k < n → total (is_this k) n ≡ 1
unfolding total
total_one k zero lt = absurd (omega arith)
total_one k (suc n) lt = elim (cases_lt k n) [
  | inl below ↦
      let rest = total_one k n below in
      let last : is_this k n ≡ 0 = rw (ne_eqb k n (λ e. omega arith)) refl in
      omega arith
  | inr high ↦
      let rest = not_reached k n high in
      let last : is_this k n ≡ 1 = rw (eq-eqb k n (omega arith)) refl in
      omega arith
]

all_below : (m n : ℕ) → m ≤ n → total (λ i. one_or_none i n) m ≡ m
unfolding total
all_below zero n le = refl
all_below (suc m) n le =
    let rest = all_below m n (omega arith) in
    let last : one_or_none m n ≡ 1 = rw (lt-ltb m n (omega arith)) refl in
    omega arith

-- ---- how often tickets are drawn

drawn_in : (n : ℕ) (entries : List Numbered) → All (λ (e : Numbered). e.ticket < n) entries → total (λ t. drawn t entries) n ≡ length entries
drawn_in n [] within = total-zero n
drawn_in n (e ∷ entries) within =
    let here = total_one e.ticket n (All-head (λ (x : Numbered). x.ticket < n) e entries within) in
    let rest = drawn_in n entries (All-tail (λ (x : Numbered). x.ticket < n) e entries within) in
    let each = total-alike (λ t. is_this e.ticket t + drawn t entries) (λ t. drawn t (e ∷ entries)) n (λ t lt. drawn_cons t e entries) in
    let both = total-add (is_this e.ticket) (λ t. drawn t entries) n in
    omega arith

abbrev AreWithin : ℕ → List LogList → Type 0
AreWithin n logs = All (λ (log : LogList). All (λ (e : Numbered). e.ticket < n) log.entries) logs

drawn_in_all : (n : ℕ) (logs : List LogList) → AreWithin n logs → total (λ t. all_drawn t logs) n ≡ all_entries logs
drawn_in_all n [] within = total-zero n
drawn_in_all n (log ∷ logs) within =
    let P = (λ (l : LogList). All (λ (e : Numbered). e.ticket < n) l.entries) in
    let here = drawn_in n log.entries (All-head P log logs within) in
    let rest = drawn_in_all n logs (All-tail P log logs within) in
    let each = total-alike (λ t. drawn t log.entries + all_drawn t logs) (λ t. all_drawn t (log ∷ logs)) n (λ t lt. sum_by-cons (in_log t) log logs) in
    let both = total-add (λ t. drawn t log.entries) (λ t. all_drawn t logs) n in
    let long = sum_by-cons (λ (l : LogList). length l.entries) log logs in
    omega arith

-- the tickets are below the number below which each is drawn once
all_within : (n : ℕ) (logs : List LogList) → ((t : ℕ) → all_drawn t logs ≡ one_or_none t n) → AreWithin n logs
all_within n logs once = λ i d i_lt k x k_lt.
    let entries = (get_or logs i d).entries in
    let e = get_or entries k x in
    let a = get_or-le-sum_by (has e.ticket) entries k x k_lt in
    let one = has_own e.ticket e refl in
    let b = get_or-le-sum_by (in_log e.ticket) logs i d i_lt in
    let c = once e.ticket in
    some_below e.ticket n (omega arith)

as_many : (n : ℕ) (logs : List LogList) → ((t : ℕ) → all_drawn t logs ≡ one_or_none t n) → all_entries logs ≡ n
as_many n logs once =
    let counted = drawn_in_all n logs (all_within n logs once) in
    let each = total-alike (λ t. one_or_none t n) (λ t. all_drawn t logs) n (λ t lt. once t) in
    let whole = all_below n n (omega arith) in
    omega arith

-- ---- the logs of parts

abbrev no_log : LogList
no_log = record { entries = []; room = 0 }

total_take : (f : ℕ → ℕ) (g : LogList → ℕ) (logs : List LogList) (n : ℕ) → n ≤ length logs → ((i : ℕ) → i < n → g (get_or logs i no_log) ≡ f i) → total f n ≡ sum_by g (take n logs)
unfolding total
total_take f g logs zero le same = refl
total_take f g logs (suc n) le same =
    let rest = total_take f g logs n (omega arith) (λ i lt. same i (omega arith)) in
    let more : sum_by g (take (suc n) logs) ≡ sum_by g (take n logs) + g (get_or logs n no_log) = rw (← add-one) (sum_by_more g logs n no_log (omega arith)) in
    let last = same n (omega arith) in
    omega arith

once_in_all : (nodes : ℕ) (parts : ℕ → Part) (journal : List Event) (logs : List LogList) → AreLogsOf nodes parts logs → IsJournal nodes parts journal → (t : ℕ) → all_drawn t logs ≡ one_or_none t (length journal)
once_in_all nodes parts journal logs are is t =
    let sum = total_take (λ node. drawn t (parts node).log) (in_log t) logs nodes (omega (arith, are.count)) (λ i lt. ap (drawn t) (are.entries i no_log lt)) in
    let whole = take_all nodes logs (omega (arith, are.count)) in
    sym (ap (sum_by (in_log t)) whole) ∙ sym sum ∙ is.once t

pub parts_numbered : (nodes : ℕ) (parts : ℕ → Part) (journal : List Event) (logs : List LogList) → AreLogsOf nodes parts logs → IsJournal nodes parts journal → AreNumbered logs
parts_numbered nodes parts journal logs are is =
    let once = once_in_all nodes parts journal logs are is in
    λ t. once t ∙ ap (one_or_none t) (sym (as_many (length journal) logs once))

sum_by-map : {X : Type 0} (g : X → ℕ) (f : LogList → X) (logs : List LogList) → sum_by g (map f logs) ≡ sum_by (λ log. g (f log)) logs
sum_by-map g f [] = refl
sum_by-map g f (log ∷ logs) =
    let a = sum_by-cons g (f log) (map f logs) in
    let b = sum_by-cons (λ (l : LogList). g (f l)) log logs in
    let rest = sum_by-map g f logs in
    omega arith

-- a list with as many events as the tickets that are drawn, each of these once, and that agrees with each log
pub merged_of : (logs : List LogList) (journal : List Event) → ((t : ℕ) → all_drawn t logs ≡ one_or_none t (length journal)) → All (λ (log : LogList). Agrees journal log.entries) logs → IsMerged (entries_of logs) journal
merged_of logs journal once agree = record {
  once = λ t. sum_by-map (drawn t) (λ log. log.entries) logs ∙ once t;
  agrees = All-map (Agrees journal) (λ (log : LogList). log.entries) logs agree;
}

pub parts_merged : (nodes : ℕ) (parts : ℕ → Part) (journal : List Event) (logs : List LogList) → AreLogsOf nodes parts logs → IsJournal nodes parts journal → IsMerged (entries_of logs) journal
parts_merged nodes parts journal logs are is =
    merged_of logs journal (once_in_all nodes parts journal logs are is)
    (λ k d lt. let node : k < nodes = omega (arith, are.count) in subst (Agrees journal) (sym (are.entries k d node)) (is.agrees k node))
