-- An entry of a map that passes a test is what the map answers at its key: the keys rise, so that no other entry has that key.
use Rattle.std.proofs.Common.{◌≡◌, ℕ, Bool, true, false, ◌==◌, T, List, [], ◌∷◌, Option, Some, None, refl, arith, ap, sym, ◌∙◌}
use Rattle.std.proofs.lemmas.Bool.Decides.{nat_tests}
use Rattle.std.specs.List.{list_any}
use Rattle.std.specs.Ordering.{nat_cmp}
use Rattle.std.specs.FinMap.{find, is_sorted}
use Rattle.std.specs.FinMap.Entries.{below_all}

-- an entry of a list in order, by its key
abbrev pub Found : {X : Type 0} → (X → Bool) → List (ℕ × X) → Type 0
Found {X} test es = (k : ℕ) × (x : X) × (find nat_cmp k es ≡ Some x) × (test x ≡ true)

-- a key beyond the first
later : {X : Type 0} (k : ℕ) (x : X) (e : ℕ × X) (es : List (ℕ × X)) → T (below_all nat_cmp e.0 es) → find nat_cmp k es ≡ Some x → find nat_cmp k (e ∷ es) ≡ Some x
later {X = X} k x e es below is = go (k == e.0) refl
  where
    absent : (fs : List (ℕ × X)) → T (below_all nat_cmp e.0 fs) → find nat_cmp e.0 fs ≡ None
    absent [] h = refl
    absent (f ∷ fs) h = let ih = absent fs in grind (arith, nat_tests)

    go : (c : Bool) → (k == e.0) ≡ c → find nat_cmp k (e ∷ es) ≡ Some x
    go true same = let at : k ≡ e.0 = grind (arith, nat_tests) in absurd (let n : find nat_cmp k es ≡ None = ap (λ q. find nat_cmp q es) at ∙ absent es below in let m : ◌≡◌ {A = Option X} None (Some x) = sym n ∙ is in cc)
    go false other = grind (arith, nat_tests)

pub found : {X : Type 0} (test : X → Bool) (es : List (ℕ × X)) → T (is_sorted nat_cmp es) → list_any (λ e. test e.1) es ≡ true → Found test es
found test [] h any = cc
found test (e ∷ es) h any = go (test e.1) refl (found test es)
  where
    go : (c : Bool) → test e.1 ≡ c → (T (is_sorted nat_cmp es) → list_any (λ d. test d.1) es ≡ true → Found test es) → Found test (e ∷ es)
    go true is rest = (e.0, e.1, grind (arith, nat_tests), is)
    go false is rest =
        let f = rest (grind arith) (grind arith) in
        (f.0, f.1, later f.0 f.1 e es (grind arith) f.2, f.3)
