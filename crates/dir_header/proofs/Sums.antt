-- Sums over the headers of a finite map: where one line's header is replaced, a sum changes by what that header counts.
use Rattle.std.proofs.Common.{◌≡◌, ℕ, ◌+◌, ◌<◌, ◌≤◌, Bool, true, false, cond, ◌&&◌, ◌==◌, List, [], ◌∷◌, Some, None, refl, sym, ap, ◌∙◌, arith}
use Rattle.std.specs.Prelude.{sum_by, nat_lt, T}
use Rattle.std.proofs.lemmas.Bool.Decides.{nat_tests}
use Rattle.std.proofs.lemmas.List.{nil_from_length}
use Rattle.std.proofs.lemmas.Option.{same_Some}
use Rattle.std.proofs.lemmas.List.Sums.{sum_by-cons}
use Rattle.std.specs.Ordering.{nat_cmp}
use Rattle.std.specs.Cmp.{nat_cmp_total, unsigned_tied}
use Rattle.std.specs.FinMap as fin
use Rattle.line_map.specs.Sizes.{Sizes}
use Rattle.op_model.specs.Lines.{Header}
use Rattle.op_model.specs.Shares.{first_header, first_headers}
use Rattle.std.specs.FinMap.{find, put, is_sorted}
use Rattle.std.specs.declared.cmp.Ordering.TheVariants.{Less, Equal, Greater}
use Rattle.std.specs.FinMap.Entries.{below_all, by_order}

below-absent : {X : Type 0} (k x : ℕ) (es : List (ℕ × X)) → k < x → T (below_all nat_cmp x es) → find nat_cmp k es ≡ None
below-absent k x [] before h = refl
below-absent k x (e ∷ es) before h = let ih = below-absent k x es in grind (arith, nat_tests)

both : (a b : Bool) → T (a && b) → T a × T b
both true b h = (tt, h)
both false b h = absurd h

find-first : {X : Type 0} (k : ℕ) (e : ℕ × X) (es : List (ℕ × X)) → find nat_cmp k (e ∷ es) ≡ cond (k == e.0) (Some e.1) (find nat_cmp k es)
find-first k e es = ap (λ b. cond b (Some e.1) (find nat_cmp k es)) (unsigned_tied k e.0)

put-first : {X : Type 0} (k : ℕ) (v : X) (e : ℕ × X) (es : List (ℕ × X)) → nat_lt k e.0 ≡ false → put nat_cmp k v (e ∷ es) ≡ cond (k == e.0) ((e.0, v) ∷ es) (e ∷ put nat_cmp k v es)
put-first k v e es off = ap (λ b. by_order (cond b Less (cond (k == e.0) Equal Greater)) ((k, v) ∷ e ∷ es) ((e.0, v) ∷ es) (e ∷ put nat_cmp k v es)) off ∙ by_test (k == e.0)
  where
    by_test : (c : Bool) → by_order (cond c Equal Greater) ((k, v) ∷ e ∷ es) ((e.0, v) ∷ es) (e ∷ put nat_cmp k v es) ≡ cond c ((e.0, v) ∷ es) (e ∷ put nat_cmp k v es)
    by_test true = refl
    by_test false = refl

module _ {X : Type 0} (g : X → ℕ) where
  abbrev total : List (ℕ × X) → ℕ
  total es = sum_by (λ e. g e.1) es

  total-cons : (e : ℕ × X) (es : List (ℕ × X)) → total (e ∷ es) ≡ g e.1 + total es
  total-cons e es = sum_by-cons (λ e. g e.1) e es

  module _ (k : ℕ) (v old : X) where
    sum-put : (es : List (ℕ × X)) → T (is_sorted nat_cmp es) → find nat_cmp k es ≡ Some old → total (put nat_cmp k v es) + g old ≡ total es + g v
    sum-put [] h has = absurd (nothing has)
      where
        nothing : None ≡ Some old → ⊥
        nothing e = cc
    sum-put (e ∷ es) h has = by_test (nat_lt k e.0) refl (k == e.0) refl (sum-put es)
      where
        sorted : T (below_all nat_cmp e.0 es) × T (is_sorted nat_cmp es)
        sorted = both _ _ h

        has_first : cond (k == e.0) (Some e.1) (find nat_cmp k es) ≡ Some old
        has_first = sym (find-first k e es) ∙ has

        by_test : (b : Bool) → nat_lt k e.0 ≡ b → (c : Bool) → (k == e.0) ≡ c → (T (is_sorted nat_cmp es) → find nat_cmp k es ≡ Some old → total (put nat_cmp k v es) + g old ≡ total es + g v) →
            total (put nat_cmp k v (e ∷ es)) + g old ≡ total (e ∷ es) + g v
        by_test true is c test later =
            let less : k < e.0 = grind (arith, nat_tests) in
            let apart : (k == e.0) ≡ false = grind (arith, nat_tests) in
            let none = below-absent k e.0 es less sorted.0 in
            let f = ap (λ b. cond b (Some e.1) (find nat_cmp k es)) (sym apart) ∙ has_first in
            absurd (nothing (sym none ∙ f))
          where
            nothing : None ≡ Some old → ⊥
            nothing e = cc
        by_test false is true test later =
            let value : e.1 ≡ old = same_Some e.1 old (ap (λ b. cond b (Some e.1) (find nat_cmp k es)) (sym test) ∙ has_first) in
            let p = ap total (put-first k v e es is ∙ ap (λ b. cond b ((e.0, v) ∷ es) (e ∷ put nat_cmp k v es)) test) ∙ total-cons (e.0, v) es in
            let q = total-cons e es ∙ ap (λ x. g x + total es) value in
            omega arith
        by_test false is false test later =
            let f = ap (λ b. cond b (Some e.1) (find nat_cmp k es)) (sym test) ∙ has_first in
            let p = ap total (put-first k v e es is ∙ ap (λ b. cond b ((e.0, v) ∷ es) (e ∷ put nat_cmp k v es)) test) ∙ total-cons e (put nat_cmp k v es) in
            let q = total-cons e es in
            let ih = later sorted.1 f in
            omega arith

    sum-has : (es : List (ℕ × X)) → find nat_cmp k es ≡ Some old → g old ≤ total es
    sum-has [] has = absurd (nothing has)
      where
        nothing : None ≡ Some old → ⊥
        nothing e = cc
    sum-has (e ∷ es) has = by_test (k == e.0) refl (sum-has es)
      where
        by_test : (c : Bool) → (k == e.0) ≡ c → (find nat_cmp k es ≡ Some old → g old ≤ total es) → g old ≤ total (e ∷ es)
        by_test true test later =
            let value : e.1 ≡ old = same_Some e.1 old (ap (λ b. cond b (Some e.1) (find nat_cmp k es)) (sym test) ∙ (sym (find-first k e es) ∙ has)) in
            let q = total-cons e es ∙ ap (λ x. g x + total es) value in omega arith
        by_test false test later =
            let ih = later (ap (λ b. cond b (Some e.1) (find nat_cmp k es)) (sym test) ∙ (sym (find-first k e es) ∙ has)) in
            let q = total-cons e es in omega arith

    -- a header is replaced
    pub sum-insert : (m : fin.FinMap nat_cmp X) → fin.get m k ≡ Some old → total (fin.entries (fin.insert m k v)) + g old ≡ total (fin.entries m) + g v
    sum-insert m has = ap (λ es. total es + g old) (fin.entries-insert nat_cmp_total m k v) ∙ sum-put (fin.entries m) (fin.entries_sorted m) (sym (fin.get-entries m k) ∙ has)

    pub sum-at-least : (m : fin.FinMap nat_cmp X) → fin.get m k ≡ Some old → g old ≤ total (fin.entries m)
    sum-at-least m has = sum-has (fin.entries m) (sym (fin.get-entries m k) ∙ has)

no-entries : {X : Type 0} → fin.entries (fin.empty {X = X} {R = nat_cmp}) ≡ []
no-entries {X} = nil_from_length _ (sym (fin.len-entries fin.empty) ∙ fin.len-empty nat_cmp X)

-- the first headers count nothing where one of them counts nothing
module _ {X : Type 0} (g : X → ℕ) (k : ℕ) (v : X) (off : g v ≡ 0) where
  put-nothing : (es : List (ℕ × X)) → total g es ≡ 0 → total g (put nat_cmp k v es) ≡ 0
  put-nothing [] none = total-cons g (k, v) [] ∙ (let n = none in omega arith)
  put-nothing (e ∷ es) none = by_test (nat_lt k e.0) refl (k == e.0) refl (put-nothing es (let c = total-cons g e es in omega arith))
    where
      by_test : (b : Bool) → nat_lt k e.0 ≡ b → (c : Bool) → (k == e.0) ≡ c → total g (put nat_cmp k v es) ≡ 0 → total g (put nat_cmp k v (e ∷ es)) ≡ 0
      by_test true is c test ih = ap (λ b. total g (by_order (cond b Less (cond (k == e.0) Equal Greater)) ((k, v) ∷ e ∷ es) ((e.0, v) ∷ es) (e ∷ put nat_cmp k v es))) is ∙ total-cons g (k, v) (e ∷ es) ∙ (let n = none in omega arith)
      by_test false is true test ih =
          ap (total g) (put-first k v e es is ∙ ap (λ b. cond b ((e.0, v) ∷ es) (e ∷ put nat_cmp k v es)) test) ∙ total-cons g (e.0, v) es ∙ (let c = total-cons g e es in let n = none in omega arith)
      by_test false is false test ih =
          ap (total g) (put-first k v e es is ∙ ap (λ b. cond b ((e.0, v) ∷ es) (e ∷ put nat_cmp k v es)) test) ∙ total-cons g e (put nat_cmp k v es) ∙ (let c = total-cons g e es in let n = none in omega arith)

pub sum-first : (g : Header → ℕ) (sizes : Sizes) → g (first_header sizes) ≡ 0 → (lines : List ℕ) → sum_by (λ e. g e.1) (fin.entries (first_headers sizes lines)) ≡ 0
sum-first g sizes off [] = ap (sum_by (λ e. g e.1)) no-entries
sum-first g sizes off (line ∷ lines) =
    ap (sum_by (λ e. g e.1)) (fin.entries-insert nat_cmp_total (first_headers sizes lines) line (first_header sizes))
    ∙ put-nothing g line (first_header sizes) off (fin.entries (first_headers sizes lines)) (sum-first g sizes off lines)
