-- Sums over the nodes.
use Rattle.std.proofs.Common.{◌≡◌, ◌≢◌, ℕ, zero, suc, ◌*◌, ◌<◌, ◌≤◌, true, false, cond, ◌==◌, refl, sym, ap, ◌∙◌, ⊎_elim, arith, suc-mul, ne_eqb}
use Rattle.std.proofs.lemmas.Bool.Decides.{eqb_tells}
use Rattle.op_model.specs.Run.Weight.{total}

pub total_most : (n k : ℕ) (f : ℕ → ℕ) → ((m : ℕ) → f m ≤ k) → total f n ≤ n * k
unfolding total
total_most zero k f le = omega arith
total_most (suc n) k f le = let h = total_most n k f le in let i = le n in omega (arith, suc-mul n k)

-- what stands at one number alone
total_past : (n k : ℕ) (f : ℕ → ℕ) → n ≤ k → total (λ m. cond (k == m) (f m) 0) n ≡ 0
unfolding total
total_past zero k f le = refl
total_past (suc n) k f le = let h = total_past n k f (omega arith) in let ne : k ≢ n = (λ e. omega arith) in let e : cond (k == n) (f n) 0 ≡ 0 = ap (λ v. cond v (f n) 0) (ne_eqb k n ne) in omega arith

pub total_at : (n k : ℕ) (f : ℕ → ℕ) → k < n → total (λ m. cond (k == m) (f m) 0) n ≡ f k
unfolding total
total_at zero k f lt = absurd (omega arith)
total_at (suc n) k f lt =
    ⊎_elim
    (λ (t : ((k == n) ≡ true) × (k ≡ n)).
    let h = total_past n k f (let e = t.1 in omega arith) in
    let e : cond (k == n) (f n) 0 ≡ f n = ap (λ v. cond v (f n) 0) t.0 in
    let s : f n ≡ f k = ap f (sym t.1) in omega arith)
    (λ (t : ((k == n) ≡ false) × (k ≢ n)).
    let ne : k ≢ n = t.1 in
    let h = total_at n k f (omega arith) in
    let e : cond (k == n) (f n) 0 ≡ 0 = ap (λ v. cond v (f n) 0) t.0 in omega arith)
    (eqb_tells k n)

-- where no term is above one, a sum of n terms that is n has ones
ones_most : (n : ℕ) (f : ℕ → ℕ) → ((m : ℕ) → f m ≤ 1) → total f n ≤ n
unfolding total
ones_most zero f le = omega arith
ones_most (suc n) f le = let h = ones_most n f le in let k = le n in omega arith

pub each_one : (n : ℕ) (f : ℕ → ℕ) → ((m : ℕ) → f m ≤ 1) → total f n ≡ n → (m : ℕ) → m < n → f m ≡ 1
unfolding total
each_one zero f le e m lt = absurd (omega arith)
each_one (suc n) f le e m lt =
    let most = ones_most n f le in let k = le n in
    let rest : total f n ≡ n = omega arith in
    let last : f n ≡ 1 = omega arith in
    ⊎_elim (λ (t : ((m == n) ≡ true) × (m ≡ n)). ap f t.1 ∙ last) (λ (t : ((m == n) ≡ false) × (m ≢ n)). let ne : m ≢ n = t.1 in each_one n f le rest m (omega arith)) (eqb_tells m n)
