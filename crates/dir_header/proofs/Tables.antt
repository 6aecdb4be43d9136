-- A table of headers: the lines of its range have theirs and no other line has one. So a table that differs at one line is the other
-- one with that header put in, and the table of first headers is that of the start.
use Rattle.std.proofs.Common.{◌≡◌, ◌≢◌, ℕ, zero, suc, ◌+◌, ◌-◌, ◌*◌, ◌/◌, ◌%◌, ◌<◌, ◌≤◌, Bool, true, false, cond, ◌==◌, ◌⊎◌, Some, None, inl, inr, refl, sym, ap, ◌∙◌, arith}
use Rattle.std.specs.List.{range_with_len}
use Rattle.std.proofs.Math.Nat.{div-add-mod}
use Rattle.std.proofs.lemmas.Nat.{div-mul-add, mod-mul-add}
use Rattle.std.proofs.lemmas.Bool.{cases_lt}
use Rattle.std.proofs.lemmas.Bool.Decides.{nat_tests}
use Rattle.std.specs.Ordering.{nat_cmp}
use Rattle.std.specs.Cmp.{nat_cmp_total}
use Rattle.std.specs.FinMap as fin
use Rattle.line_map.specs.Sizes.{Sizes, home_of}
use Rattle.op_model.specs.Lines.{Header}
use Rattle.op_model.specs.Shares.{Headers, first_header, first_headers}
use Rattle.op_model.proofs.Public.{get-put}
use Rattle.dir_header.specs.HomeParts.{table}

pub get-before : (f : ℕ → Header) (a n q : ℕ) → q < a → fin.get (table f a n) q ≡ None
unfolding table
get-before f a zero q h = fin.get-empty nat_cmp q
get-before f a (suc n) q h =
    let ih = get-before f (a + 1) n q (omega arith) in
    let p = get-put (table f (a + 1) n) a (f a) q in
    grind (arith, nat_tests)

pub get-after : (f : ℕ → Header) (a n q : ℕ) → a + n ≤ q → fin.get (table f a n) q ≡ None
unfolding table
get-after f a zero q h = fin.get-empty nat_cmp q
get-after f a (suc n) q h =
    let ih = get-after f (a + 1) n q (omega arith) in
    let p = get-put (table f (a + 1) n) a (f a) q in
    grind (arith, nat_tests)

pub get-within : (f : ℕ → Header) (a n q : ℕ) → a ≤ q → q < a + n → fin.get (table f a n) q ≡ Some (f q)
unfolding table
get-within f a zero q from to = absurd (omega arith)
get-within f a (suc n) q from to = get-put (table f (a + 1) n) a (f a) q ∙ by_first (q == a) refl (λ h. get-within f (a + 1) n q h (omega arith))
  where
    by_first : (b : Bool) → (q == a) ≡ b → (a + 1 ≤ q → fin.get (table f (a + 1) n) q ≡ Some (f q)) → cond (q == a) (Some (f a)) (fin.get (table f (a + 1) n) q) ≡ Some (f q)
    by_first true e later = ap (λ b. cond b (Some (f a)) (fin.get (table f (a + 1) n) q)) e ∙ ap (λ k. Some (f k)) (let same : a ≡ q = grind (arith, nat_tests) in same)
    by_first false e later = ap (λ b. cond b (Some (f a)) (fin.get (table f (a + 1) n) q)) e ∙ later (let other : q ≢ a = grind (arith, nat_tests) in omega arith)

-- a table that differs at one line
pub table-put : (f f' : ℕ → Header) (a n k : ℕ) → a ≤ k → k < a + n → ((q : ℕ) → a ≤ q → q < a + n → q ≢ k → f' q ≡ f q) → table f' a n ≡ fin.insert (table f a n) k (f' k)
table-put f f' a n k from to kept = fin.same_map nat_cmp_total fin.nat_cmp-IsAntisymmetric _ _ (λ q. alike q (cases_lt q a) (cases_lt q (a + n)) (q == k) refl)
  where
    off : (q : ℕ) → (q == k) ≡ false → fin.get (fin.insert (table f a n) k (f' k)) q ≡ fin.get (table f a n) q
    off q e = get-put (table f a n) k (f' k) q ∙ ap (λ b. cond b (Some (f' k)) (fin.get (table f a n) q)) e

    alike : (q : ℕ) → (q < a) ⊎ (a ≤ q) → (q < a + n) ⊎ (a + n ≤ q) → (b : Bool) → (q == k) ≡ b → fin.get (table f' a n) q ≡ fin.get (fin.insert (table f a n) k (f' k)) q
    alike q (inl before) to b e = get-before f' a n q before ∙ sym (off q (let other : q ≢ k = omega arith in grind (arith, nat_tests)) ∙ get-before f a n q before)
    alike q (inr later) (inr past) b e = get-after f' a n q past ∙ sym (off q (let other : q ≢ k = omega arith in grind (arith, nat_tests)) ∙ get-after f a n q past)
    alike q (inr later) (inl within) true e =
        let same : q ≡ k = grind (arith, nat_tests) in
        get-within f' a n q later within ∙ ap (λ i. Some (f' i)) same ∙ sym (get-put (table f a n) k (f' k) q ∙ ap (λ b. cond b (Some (f' k)) (fin.get (table f a n) q)) e)
    alike q (inr later) (inl within) false e =
        get-within f' a n q later within ∙ ap (λ h. Some h) (kept q later within (let other : q ≢ k = grind (arith, nat_tests) in other)) ∙ sym (off q e ∙ get-within f a n q later within)

pub table-alike : (f f' : ℕ → Header) (a n : ℕ) → ((q : ℕ) → a ≤ q → q < a + n → f' q ≡ f q) → table f' a n ≡ table f a n
unfolding table
table-alike f f' a zero same = refl
table-alike f f' a (suc n) same =
    let here = same a (omega arith) (omega arith) in
    let rest = table-alike f f' (a + 1) n (λ q from to. same q (omega arith) (omega arith)) in
    λ i. fin.insert (rest i) a (here i)

pub table-first : (sizes : Sizes) (a n : ℕ) → table (λ line. first_header sizes) a n ≡ first_headers sizes (range_with_len a n)
unfolding table
table-first sizes a zero = refl
table-first sizes a (suc n) = ap (λ hs. fin.insert hs a (first_header sizes)) (table-first sizes (a + 1) n)

-- the lines of a home are those of its range
module _ (sizes : Sizes) (node : ℕ) (some : 0 < sizes.lines) where
  pub line_is : (line : ℕ) → home_of sizes line ≡ node → line ≡ node * sizes.lines + line % sizes.lines
  line_is line own =
      let split = div-add-mod line sizes.lines in
      let at : sizes.lines * node + line % sizes.lines ≡ line = ap (λ n. sizes.lines * n + line % sizes.lines) (sym own) ∙ split in
      omega arith

  pub line_from : (line : ℕ) → home_of sizes line ≡ node → node * sizes.lines ≤ line
  line_from line own = let is = line_is line own in omega arith

  pub line_to : (line : ℕ) → home_of sizes line ≡ node → line < node * sizes.lines + sizes.lines
  line_to line own = let is = line_is line own in omega arith

  pub line_own : (line : ℕ) → node * sizes.lines ≤ line → line < node * sizes.lines + sizes.lines → home_of sizes line ≡ node
  line_own line from to =
      let is : line ≡ node * sizes.lines + (line - node * sizes.lines) = omega arith in
      ap (λ l. l / sizes.lines) is ∙ div-mul-add node sizes.lines (line - node * sizes.lines) (omega arith)

  pub own_of : (m : ℕ) → m < sizes.lines → home_of sizes (node * sizes.lines + m) ≡ node
  own_of m below = div-mul-add node sizes.lines m below

  pub place_of_line : (m : ℕ) → m < sizes.lines → (node * sizes.lines + m) % sizes.lines ≡ m
  place_of_line m below = mod-mul-add node sizes.lines m below

-- a header that is put where it stands already
pub put-same : (headers : Headers) (line : ℕ) (header : Header) → fin.get headers line ≡ Some header → fin.insert headers line header ≡ headers
put-same headers line header there = fin.same_map nat_cmp_total fin.nat_cmp-IsAntisymmetric _ _ (λ q. get-put headers line header q ∙ at (q == line) q refl)
  where
    at : (b : Bool) (q : ℕ) → (q == line) ≡ b → cond b (Some header) (fin.get headers q) ≡ fin.get headers q
    at true q e = let same : line ≡ q = grind (arith, nat_tests) in sym there ∙ ap (fin.get headers) same
    at false q e = refl
