-- Finite maps of numbers with few entries: what they answer, their entries in order, and what putting and removing leaves as it is.
use Rattle.std.proofs.Common.{◌≡◌, ℕ, Bool, true, false, [], cond, Some, None, Option, refl, sym, ap, ◌==◌, ◌∙◌, arith}
use Rattle.std.specs.Ordering.{nat_cmp, eq_by_cmp}
use Rattle.std.specs.Cmp.{nat_cmp_total, unsigned_tied}
use Rattle.std.proofs.lemmas.Bool.Decides.{nat_tests}
use Rattle.std.proofs.lemmas.List.{nil_from_length}
use Rattle.std.specs.FinMap as fin
use Rattle.std.specs.FinMap.{put}

pub entries-empty : {X : Type 0} → fin.entries {X = X} {R = nat_cmp} fin.empty ≡ []
entries-empty {X} = nil_from_length _ (sym (fin.len-entries fin.empty) ∙ fin.len-empty nat_cmp X)

pub entries-put : {X : Type 0} (m : fin.FinMap nat_cmp X) (k : ℕ) (v : X) → fin.entries (fin.insert m k v) ≡ put nat_cmp k v (fin.entries m)
entries-put m k v = fin.entries-insert nat_cmp_total m k v

pub get-none : {X : Type 0} (q : ℕ) → fin.get (fin.empty {X = X} {R = nat_cmp}) q ≡ None
get-none q = fin.get-empty nat_cmp q

pub get-put : {X : Type 0} (m : fin.FinMap nat_cmp X) (k : ℕ) (v : X) (q : ℕ) → fin.get (fin.insert m k v) q ≡ cond (eq_by_cmp nat_cmp q k) (Some v) (fin.get m q)
get-put m k v q = fin.get-insert nat_cmp_total m k v q

-- a map that is changed at a key to what it has there answers as before
unchanged : {X : Type 0} (m : fin.FinMap nat_cmp X) (k q : ℕ) (is : Option X) → fin.get m k ≡ is → cond (eq_by_cmp nat_cmp q k) is (fin.get m q) ≡ fin.get m q
unchanged m k q is has = ap (λ same. cond same is (fin.get m q)) (unsigned_tied q k) ∙ cases (q == k) refl
  where
    cases : (same : Bool) → (q == k) ≡ same → cond same is (fin.get m q) ≡ fin.get m q
    cases true at = let here : q ≡ k = grind (arith, nat_tests) in sym (ap (fin.get m) here ∙ has)
    cases false apart = refl

pub put-same : {X : Type 0} (m : fin.FinMap nat_cmp X) (k : ℕ) (v : X) → fin.get m k ≡ Some v → fin.insert m k v ≡ m
put-same m k v has = fin.same_map nat_cmp_total fin.nat_cmp-IsAntisymmetric _ _ (λ q. get-put m k v q ∙ unchanged m k q (Some v) has)

pub remove-absent : {X : Type 0} (m : fin.FinMap nat_cmp X) (k : ℕ) → fin.get m k ≡ None → fin.remove m k ≡ m
remove-absent m k has = fin.same_map nat_cmp_total fin.nat_cmp-IsAntisymmetric _ _ (λ q. fin.get-remove nat_cmp_total m k q ∙ unchanged m k q None has)

pub put-1-of-2 : {X : Type 0} (a b : X) → fin.insert {R = nat_cmp} (fin.insert (fin.insert fin.empty 1 b) 0 a) 1 b ≡ fin.insert (fin.insert fin.empty 1 b) 0 a
put-1-of-2 a b = put-same _ 1 b (simp get-put refl)

pub put-1-of-3 : {X : Type 0} (a b c : X) → fin.insert {R = nat_cmp} (fin.insert (fin.insert (fin.insert fin.empty 2 c) 1 b) 0 a) 1 b ≡ fin.insert (fin.insert (fin.insert fin.empty 2 c) 1 b) 0 a
put-1-of-3 a b c = put-same _ 1 b (simp get-put refl)

pub remove-empty : {X : Type 0} (k : ℕ) → fin.remove (fin.empty {X = X} {R = nat_cmp}) k ≡ fin.empty
remove-empty k = remove-absent fin.empty k (get-none k)

pub remove-0-of-1 : {X : Type 0} (a : X) → fin.remove (fin.insert {R = nat_cmp} fin.empty 1 a) 0 ≡ fin.insert fin.empty 1 a
remove-0-of-1 a = remove-absent _ 0 (simp (get-put, get-none) refl)

pub remove-1-of-0 : {X : Type 0} (a : X) → fin.remove (fin.insert {R = nat_cmp} fin.empty 0 a) 1 ≡ fin.insert fin.empty 0 a
remove-1-of-0 a = remove-absent _ 1 (simp (get-put, get-none) refl)

-- what was put at a key is gone when the key is put again, or removed
pub over : {A : Type 0} (same : Bool) (new old other : A) → cond same new (cond same old other) ≡ cond same new other
over true new old other = refl
over false new old other = refl

pub put-put : {X : Type 0} (m : fin.FinMap nat_cmp X) (k : ℕ) (a b : X) → fin.insert (fin.insert m k a) k b ≡ fin.insert m k b
put-put m k a b =
    fin.same_map nat_cmp_total fin.nat_cmp-IsAntisymmetric _ _ (λ q. simp get-put (over (eq_by_cmp nat_cmp q k) (Some b) (Some a) (fin.get m q)))

pub remove-put : {X : Type 0} (m : fin.FinMap nat_cmp X) (k : ℕ) (a : X) → fin.remove (fin.insert m k a) k ≡ fin.remove m k
remove-put m k a =
    fin.same_map nat_cmp_total fin.nat_cmp-IsAntisymmetric _ _ (λ q.
    fin.get-remove nat_cmp_total (fin.insert m k a) k q ∙ ap (cond (eq_by_cmp nat_cmp q k) None) (get-put m k a q) ∙ over (eq_by_cmp nat_cmp q k) None (Some a) (fin.get m q) ∙ sym (fin.get-remove nat_cmp_total m k q))

pub ruleset maps = (entries-empty, entries-put, get-none, get-put)
