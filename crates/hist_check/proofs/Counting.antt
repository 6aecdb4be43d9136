-- Sums over the first nodes, and the counts of entries by node.
use Rattle.std.proofs.Common.{◌≡◌, ℕ, zero, suc, ◌+◌, ◌-◌, ◌<◌, ◌==◌, cond, List, [], ◌∷◌, ◌++◌, length, get_or, refl, arith, ap, sym, ◌∙◌, Option}
use Rattle.std.specs.Prelude.{slice_set, sum_by, unwrap_or}
use Rattle.std.specs.List.{range_with_len}
use Rattle.std.proofs.lemmas.Grind.{common_steps}
use Rattle.std.proofs.lemmas.Bool.Decides.{nat_tests}
use Rattle.std.proofs.lemmas.List.Sums.{sum_by-cons}
use Rattle.std.proofs.lemmas.Option.{slice_get-get_or}
use Rattle.op_model.specs.declared.operations.Op.{Op}
use Rattle.op_model.specs.declared.operations.Entry.{Entry}
use Rattle.op_model.specs.Events.Step.{Programs}
use Rattle.op_model.specs.Run.History.{entries_by}
use Rattle.op_model.specs.Programs.{programs_of}
use Rattle.hist_check.specs.Good.{all_missing, missing_at}
use Rattle.one_history.proofs.Public.{by-append}
use Rattle.hist_check.specs.Counts.{missing_by}

sum-more : (f : ℕ → ℕ) (a n j : ℕ) → a + n ≡ j → sum_by f (range_with_len a (suc n)) ≡ sum_by f (range_with_len a n) + f j
sum-more f a zero j e = let same : a ≡ j = omega arith in sum_by-cons f a [] ∙ ap (λ k. f k + 0) same ∙ omega arith
sum-more f a (suc n) j e =
    let h = sum-more f (a + 1) n j (omega arith) in
    omega (arith, sum_by-cons f a (range_with_len (a + 1) (suc n)), sum_by-cons f a (range_with_len (a + 1) n), h)

sum-same : (f g : ℕ → ℕ) (a n : ℕ) → ((k : ℕ) → k < a + n → f k ≡ g k) → sum_by f (range_with_len a n) ≡ sum_by g (range_with_len a n)
sum-same f g a zero same = refl
sum-same f g a (suc n) same =
    let h = sum-same f g (a + 1) n (λ k lt. same k (omega arith)) in
    let here = same a (omega arith) in
    omega (arith, sum_by-cons f a (range_with_len (a + 1) n), sum_by-cons g a (range_with_len (a + 1) n), h, here)

pub missing-none : (programs : Programs) (counts : ℕ → ℕ) → missing_by programs counts 0 ≡ 0
unfolding missing_by
missing-none programs counts = refl

pub missing-more : (programs : Programs) (counts : ℕ → ℕ) (nodes : ℕ) → missing_by programs counts (nodes + 1) ≡ missing_by programs counts nodes + (length (programs nodes) - counts nodes)
unfolding missing_by
missing-more programs counts nodes =
    let on : nodes + 1 ≡ suc nodes = omega arith in
    let f : ℕ → ℕ = λ node. length (programs node) - counts node in
    ap (λ n. sum_by f (range_with_len 0 n)) on ∙ sum-more f 0 nodes nodes (omega arith)

-- the program at a node, however the list is read
program-at : (programs : List (List Op)) (node : ℕ) (p : List Op) → node < length programs → p ≡ get_or programs node p → programs_of programs node ≡ p
program-at programs node p lt is = ap (λ (o : Option (List Op)). unwrap_or o []) (slice_get-get_or programs node p lt) ∙ sym is

pub missing-step : (programs : List (List Op)) (counts : ℕ → ℕ) (node so_far more : ℕ) (p : List Op) → node < length programs → p ≡ get_or programs node p → so_far ≡ missing_by (programs_of programs) counts node → more ≡ length p - counts node → so_far + more ≡ missing_by (programs_of programs) counts (node + 1)
missing-step programs counts node so_far more p lt is was now =
    let long = ap length (program-at programs node p lt is) in
    let rest : length (programs_of programs node) - counts node ≡ more = ap (λ n. n - counts node) long ∙ sym now in
    omega (arith, missing-more (programs_of programs) counts node, was, rest)

pub missing-all : (programs : Programs) (counts : ℕ → ℕ) (nodes : ℕ) (entries : List Entry) → ((node : ℕ) → node < nodes → counts node ≡ length (entries_by node entries)) → missing_by programs counts nodes ≡ all_missing programs nodes entries
unfolding missing_by all_missing
missing-all programs counts nodes entries counted =
    sum-same (λ node. length (programs node) - counts node) (missing_at programs entries) 0 nodes (λ node lt. ap (λ n. length (programs node) - n) (counted node (omega arith)))

by-push : (node : ℕ) (entries : List Entry) (e : Entry) → length (entries_by node (entries ++ e ∷ [])) ≡ length (entries_by node entries) + cond (e.node == node) 1 0
by-push node entries e = let h = by-append node entries (e ∷ []) in grind (arith, common_steps)

-- one entry more is counted at its node
pub counted-more : (counts : List ℕ) (entries : List Entry) (e : Entry) → length counts ≡ 64 → e.node < 64 → ((n : ℕ) → n < 64 → get_or counts n 0 ≡ length (entries_by n entries)) → (n : ℕ) → n < 64 → get_or (slice_set counts e.node (get_or counts e.node 0 + 1)) n 0 ≡ length (entries_by n (entries ++ e ∷ []))
counted-more counts entries e wide few so_far n lt = let h = so_far n lt in let k = so_far e.node few in let p = by-push n entries e in grind (arith, common_steps, nat_tests)
