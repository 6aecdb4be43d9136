-- Whose part each node has: a step of one seat, the cut of a seat in two, and the join of two, where all else is kept.
use Rattle.std.proofs.Common.{◌≡◌, ◌≢◌, ◌⊎◌, ℕ, zero, suc, ◌<◌, true, false, cond, ◌==◌, List, [], ◌∷◌, ◌++◌, length, length-set, set, refl, sym, ap, ◌∙◌, subst, ⊎_elim, inl, inr, arith, eq-eqb, ne_eqb}
use Rattle.std.specs.Prelude.{slice_index}
use Rattle.std.proofs.lemmas.Bool.Decides.{eqb_tells}
use mathlib.Core.Option.{some, some-injective, some-ne-none}
use lib.ListN.{get_elem?}
use Rattle.atomic_table.specs.Table.{Me, Allows, Splits, Joins, keeps}
use Rattle.atomic_table.proofs.Lists.{at_set, at_longer, at_last, set_else}
use Rattle.op_model.specs.Events.Step.{put_at}
use Rattle.op_model.specs.Parts.Part.{Part}
use Rattle.lane_table.specs.Setups.{Setup}
use Rattle.lane_table.specs.Rule.{NotIn, Holds, IsIn, AreSeats, IsKept, Keeps}
use Rattle.lane_table.specs.Views.{heads, tails}
use Rattle.lane_table.proofs.Fields.{put_here, put_else}

-- another seat has no part of node n
holds_other : (nodes : ℕ) (parts : ℕ → Part) (owner : ℕ → ℕ) (n : ℕ) (q : Part) (id j : ℕ) (v : List Part) → owner n ≡ id → j ≢ id
    → Holds nodes parts owner j v → Holds nodes (put_at parts n q) owner j v
holds_other nodes parts owner n q id j [] own apart h = tt
holds_other nodes parts owner n q id j (r ∷ v) own apart h =
    let other : r.number ≢ n = λ e. apart (sym h.0.2 ∙ (ap owner e ∙ own)) in
    ((h.0.0, h.0.1 ∙ sym (put_else parts n r.number q other), h.0.2, h.0.3), holds_other nodes parts owner n q id j v own apart h.1)

set_at : {A : Type 0} (l : List A) (i : ℕ) (a b : A) → get_elem? l i ≡ some a → get_elem? (set l i b) i ≡ some b
set_at [] i a b e = absurd (some-ne-none a (sym e))
set_at (x ∷ xs) zero a b e = refl
set_at (x ∷ xs) (suc i) a b e = set_at xs i a b e

seats_step : (nodes : ℕ) (parts : ℕ → Part) (owner : ℕ → ℕ) (views : List (List Part)) (id : ℕ) (p q : Part) → AreSeats nodes parts owner views
    → get_elem? views id ≡ some (p ∷ []) → q.number ≡ p.number → AreSeats nodes (put_at parts p.number q) owner (set views id (q ∷ []))
seats_step nodes parts owner views id p q h is same =
    let mine = h.held id (p ∷ []) is in
    record {
      held = λ j v e. ⊎_elim
          (λ (t : (j ≡ id) × ((q ∷ []) ≡ v)).
          let P : ℕ × List Part → Type 0 = λ x. Holds nodes (put_at parts p.number q) owner x.0 x.1 in
          let Q : ℕ → Type 0 = λ x. x < nodes in
          subst P (λ i. (sym t.0 i, t.1 i)) ((subst Q (sym same) mine.0.0, sym (put_here parts p.number q.number q same), ap owner same ∙ mine.0.2, tt), tt))
          (λ (t : (j ≢ id) × (get_elem? views j ≡ some v)). holds_other nodes parts owner p.number q id j v mine.0.2 t.0 (h.held j v t.1))
          (at_set views id j (q ∷ []) v e);
      there = λ m lt. let (v, at, is_in) = h.there m lt in
          ⊎_elim
          (λ (t : ((owner m == id) ≡ true) × (owner m ≡ id)).
          let P : ℕ → Type 0 = λ k. get_elem? (set views id (q ∷ [])) k ≡ some (q ∷ []) in
          let Q : List Part → Type 0 = λ w. IsIn m w in
          let same_view : v ≡ p ∷ [] = some-injective v (p ∷ []) (sym at ∙ (ap (λ k. get_elem? views k) t.1 ∙ is)) in
          (q ∷ [], subst P (sym t.1) (set_at views id (p ∷ []) (q ∷ []) is), one_in p q m same (subst Q same_view is_in)))
          (λ (t : ((owner m == id) ≡ false) × (owner m ≢ id)). (v, set_else views id (owner m) (q ∷ []) t.1 ∙ at, is_in))
          (eqb_tells (owner m) id);
    }
  where
    one_in : (p q : Part) (m : ℕ) → q.number ≡ p.number → IsIn m (p ∷ []) → IsIn m (q ∷ [])
    one_in p q m same (inl e) = inl (same ∙ e)
    one_in p q m same (inr e) = inr e

pub one_step : (setup : Setup) (slots id i : ℕ) (f : ℕ → ℕ) (p : Part) (after : ℕ → Part) (tells : ℕ → Type 0) → Keeps setup i f p after tells
    → Allows {S = Unit {0}} {V = List Part} (IsKept setup) slots id (p ∷ [], []) i f (λ n w. (w ≡ (after n ∷ [], [])) × tells n)
one_step setup slots id i f p after tells step s h homes at small =
    let mine = h.seats.held id (p ∷ []) at in
    let q : Part = after (slice_index s.words i) in
    let (same, kept, told) = step s.words h.parts h.table mine.0.1 mine.0.0 small in (
      q ∷ [],
      keeps,
      tt,
      record { parts = put_at h.parts p.number q; owner = h.owner; seats = seats_step setup.sizes.nodes h.parts h.owner s.views id p q h.seats at same; table = kept },
      (refl, told),
    )

-- the same, where the seat is known to have one part
pub one_step_at : (setup : Setup) (slots id i : ℕ) (f : ℕ → ℕ) (p : Part) (me : Me (Unit {0}) (List Part)) (after : ℕ → Part) (tells : ℕ → Type 0) → me ≡ (p ∷ [], []) → Keeps setup i f p after tells
    → Allows {S = Unit {0}} {V = List Part} (IsKept setup) slots id me i f (λ n w. (w ≡ (after n ∷ [], [])) × tells n)
one_step_at setup slots id i f p me after tells is step =
    let P : Me (Unit {0}) (List Part) → Type 0 = λ x. Allows {S = Unit {0}} {V = List Part} (IsKept setup) slots id x i f (λ n w. (w ≡ (after n ∷ [], [])) × tells n) in
    subst P (sym is) (one_step setup slots id i f p after tells step)

-- an entry of a list with one more is old, at a place below, or the new one, at the last place
at_snoc_place : {A : Type 0} (l : List A) (a b : A) (j : ℕ) → get_elem? (l ++ a ∷ []) j ≡ some b → ((get_elem? l j ≡ some b) × (j < length l)) ⊎ ((a ≡ b) × (j ≡ length l))
at_snoc_place [] a b zero e = inr (some-injective a b e, refl)
at_snoc_place [] a b (suc j) e = absurd (some-ne-none b (sym e))
at_snoc_place (x ∷ xs) a b zero e = inl (e, omega arith)
at_snoc_place (x ∷ xs) a b (suc j) e = ⊎_elim (λ t. let h = t.1 in inl (t.0, omega arith)) (λ t. let h = t.1 in inr (t.0, omega arith)) (at_snoc_place xs a b j e)

abbrev moved : (ℕ → ℕ) → ℕ → ℕ → ℕ → ℕ
moved owner n k m = cond ((m == n)) k (owner m)

moved_else : (owner : ℕ → ℕ) (n k m : ℕ) → m ≢ n → moved owner n k m ≡ owner m
moved_else owner n k m e = ap (λ v. cond v k (owner m)) (ne_eqb m n e)

moved_here : (owner : ℕ → ℕ) (n k : ℕ) → moved owner n k n ≡ k
moved_here owner n k = ap (λ v. cond v k (owner n)) (eq-eqb n n refl)

holds_moved : (nodes : ℕ) (parts : ℕ → Part) (owner : ℕ → ℕ) (n k j : ℕ) (v : List Part) → NotIn n v → Holds nodes parts owner j v → Holds nodes parts (moved owner n k) j v
holds_moved nodes parts owner n k j [] out h = tt
holds_moved nodes parts owner n k j (r ∷ v) out h =
    ((h.0.0, h.0.1, moved_else owner n k r.number out.0 ∙ h.0.2, h.0.3), holds_moved nodes parts owner n k j v out.1 h.1)

not_there : (nodes : ℕ) (parts : ℕ → Part) (owner : ℕ → ℕ) (n j : ℕ) (v : List Part) → owner n ≢ j → Holds nodes parts owner j v → NotIn n v
not_there nodes parts owner n j [] apart h = tt
not_there nodes parts owner n j (r ∷ v) apart h = ((λ e. apart (sym (ap owner e) ∙ h.0.2)), not_there nodes parts owner n j v apart h.1)

not_first : (p : Part) (v : List Part) (m : ℕ) → m ≢ p.number → IsIn m (p ∷ v) → IsIn m v
not_first p v m apart (inl e) = absurd (apart (sym e))
not_first p v m apart (inr e) = e

seats_cut : (nodes : ℕ) (parts : ℕ → Part) (owner : ℕ → ℕ) (views : List (List Part)) (id : ℕ) (p : Part) (v : List Part) → AreSeats nodes parts owner views
    → get_elem? views id ≡ some (p ∷ v) → AreSeats nodes parts (moved owner p.number (length views)) (set views id v ++ (p ∷ []) ∷ [])
seats_cut nodes parts owner views id p v h is =
    let mine = h.held id (p ∷ v) is in
    let n : ℕ = p.number in
    let k : ℕ = length views in
    let len = length-set views id v in
    record {
      held = λ j w e. ⊎_elim
          (λ (t : (get_elem? (set views id v) j ≡ some w) × (j < length (set views id v))).
          ⊎_elim
          (λ (u : (j ≡ id) × (v ≡ w)).
          let P : ℕ × List Part → Type 0 = λ x. Holds nodes parts (moved owner n k) x.0 x.1 in
          subst P (λ i. (sym u.0 i, u.1 i)) (holds_moved nodes parts owner n k id v mine.0.3 mine.1))
          (λ (u : (j ≢ id) × (get_elem? views j ≡ some w)).
          let old = h.held j w u.1 in
          holds_moved nodes parts owner n k j w (not_there nodes parts owner n j w (λ e'. u.0 (sym e' ∙ mine.0.2)) old) old)
          (at_set views id j v w t.0))
          (λ (t : ((p ∷ []) ≡ w) × (j ≡ length (set views id v))).
          let P : ℕ × List Part → Type 0 = λ x. Holds nodes parts (moved owner n k) x.0 x.1 in
          let at : k ≡ j = sym (t.1 ∙ len) in
          subst P (λ i. (at i, t.0 i)) ((mine.0.0, mine.0.1, moved_here owner n k, tt), tt))
          (at_snoc_place (set views id v) (p ∷ []) w j e);
      there = λ m lt. ⊎_elim
          (λ (t : ((m == n) ≡ true) × (m ≡ n)).
          let P : ℕ → Type 0 = λ x. (w : List Part) × (get_elem? (set views id v ++ (p ∷ []) ∷ []) (moved owner n k x) ≡ some w) × IsIn x w in
          let Q : ℕ → Type 0 = λ x. get_elem? (set views id v ++ (p ∷ []) ∷ []) x ≡ some (p ∷ []) in
          subst P (sym t.1) (p ∷ [], subst Q (sym (moved_here owner n k)) (at_last (set views id v) (p ∷ []) k len), inl refl))
          (λ (t : ((m == n) ≡ false) × (m ≢ n)).
          let (w, at, is_in) = h.there m lt in
          let Q : ℕ → Type 0 = λ x. (w : List Part) × (get_elem? (set views id v ++ (p ∷ []) ∷ []) x ≡ some w) × IsIn m w in
          subst Q (sym (moved_else owner n k m t.1))
          (⊎_elim
          (λ (u : ((owner m == id) ≡ true) × (owner m ≡ id)).
          let same_view : w ≡ p ∷ v = some-injective w (p ∷ v) (sym at ∙ (ap (λ x. get_elem? views x) u.1 ∙ is)) in
          let P : List Part → Type 0 = λ x. IsIn m x in
          let R : ℕ → Type 0 = λ x. get_elem? (set views id v ++ (p ∷ []) ∷ []) x ≡ some v in
          (v, subst R (sym u.1) (at_longer (set views id v) ((p ∷ []) ∷ []) id v (set_at views id (p ∷ v) v is)), not_first p v m t.1 (subst P same_view is_in)))
          (λ (u : ((owner m == id) ≡ false) × (owner m ≢ id)).
          (w, at_longer (set views id v) ((p ∷ []) ∷ []) (owner m) w (set_else views id (owner m) v u.1 ∙ at), is_in))
          (eqb_tells (owner m) id)))
          (eqb_tells m n);
    }

pub cut : (setup : Setup) (id : ℕ) (w : List Part) → 0 < length w → Splits {S = Unit {0}} {V = List Part} (IsKept setup) id w (tails w) (heads w)
cut setup id [] some_part s h at = absurd (omega arith)
cut setup id (p ∷ v) some_part s h at =
    record { parts = h.parts; owner = moved h.owner p.number (length s.views); seats = seats_cut setup.sizes.nodes h.parts h.owner s.views id p v h.seats at; table = h.table }

abbrev joined : (ℕ → ℕ) → ℕ → ℕ → ℕ → ℕ
joined owner other id m = cond (owner m == other) id (owner m)

joined_here : (owner : ℕ → ℕ) (other id m : ℕ) → owner m ≡ other → joined owner other id m ≡ id
joined_here owner other id m e = ap (λ v. cond v id (owner m)) (eq-eqb (owner m) other e)

joined_else : (owner : ℕ → ℕ) (other id m : ℕ) → owner m ≢ other → joined owner other id m ≡ owner m
joined_else owner other id m e = ap (λ v. cond v id (owner m)) (ne_eqb (owner m) other e)

not_in_both : (n : ℕ) (v w : List Part) → NotIn n v → NotIn n w → NotIn n (v ++ w)
not_in_both n [] w a b = b
not_in_both n (p ∷ v) w a b = (a.0, not_in_both n v w a.1 b)

in_right : (n : ℕ) (v w : List Part) → IsIn n w → IsIn n (v ++ w)
in_right n [] w h = h
in_right n (p ∷ v) w h = inr (in_right n v w h)

in_left : (n : ℕ) (v w : List Part) → IsIn n v → IsIn n (v ++ w)
in_left n [] w h = absurd h
in_left n (p ∷ v) w (inl e) = inl e
in_left n (p ∷ v) w (inr e) = inr (in_left n v w e)

module _ (nodes : ℕ) (parts : ℕ → Part) (owner : ℕ → ℕ) (id other : ℕ) (apart : other ≢ id) where
  holds_taken : (w : List Part) → Holds nodes parts owner other w → Holds nodes parts (joined owner other id) id w
  holds_taken [] h = tt
  holds_taken (r ∷ w) h = ((h.0.0, h.0.1, joined_here owner other id r.number h.0.2, h.0.3), holds_taken w h.1)

  holds_both : (v w : List Part) → Holds nodes parts owner id v → Holds nodes parts owner other w → Holds nodes parts (joined owner other id) id (v ++ w)
  holds_both [] w h k = holds_taken w k
  holds_both (r ∷ v) w h k = (
    (
      h.0.0,
      h.0.1,
      joined_else owner other id r.number (λ e. apart (sym e ∙ h.0.2)) ∙ h.0.2,
      not_in_both r.number v w h.0.3 (not_there nodes parts owner r.number other w (λ e. apart (sym e ∙ h.0.2)) k),
    ),
    holds_both v w h.1 k,
  )

  holds_apart : (j : ℕ) (u : List Part) → j ≢ other → Holds nodes parts owner j u → Holds nodes parts (joined owner other id) j u
  holds_apart j [] ne h = tt
  holds_apart j (r ∷ u) ne h = ((h.0.0, h.0.1, joined_else owner other id r.number (λ e. ne (sym h.0.2 ∙ e)) ∙ h.0.2, h.0.3), holds_apart j u ne h.1)

seats_join : (nodes : ℕ) (parts : ℕ → Part) (owner : ℕ → ℕ) (views : List (List Part)) (id other : ℕ) (v w : List Part) → other ≢ id → AreSeats nodes parts owner views
    → get_elem? views id ≡ some v → get_elem? views other ≡ some w → AreSeats nodes parts (joined owner other id) (set (set views id (v ++ w)) other [])
seats_join nodes parts owner views id other v w apart h is at =
    let both : List Part = v ++ w in
    let last : List (List Part) = set (set views id both) other [] in
    let apart' : id ≢ other = λ e. apart (sym e) in
    let mine : get_elem? last id ≡ some both = set_else (set views id both) other id [] apart' ∙ set_at views id v both is in
    record {
      held = λ j u e. ⊎_elim
          (λ (t : (j ≡ other) × ([] ≡ u)). let P : List Part → Type 0 = λ x. Holds nodes parts (joined owner other id) j x in subst P t.1 tt)
          (λ (t : (j ≢ other) × (get_elem? (set views id both) j ≡ some u)).
          ⊎_elim
          (λ (k : (j ≡ id) × (both ≡ u)).
          let P : ℕ × List Part → Type 0 = λ x. Holds nodes parts (joined owner other id) x.0 x.1 in
          subst P (λ i. (sym k.0 i, k.1 i)) (holds_both nodes parts owner id other apart v w (h.held id v is) (h.held other w at)))
          (λ (k : (j ≢ id) × (get_elem? views j ≡ some u)). holds_apart nodes parts owner id other apart j u t.0 (h.held j u k.1))
          (at_set views id j both u t.1))
          (at_set (set views id both) other j [] u e);
      there = λ m lt. let (u, there, is_in) = h.there m lt in
          let Q : ℕ → Type 0 = λ x. (y : List Part) × (get_elem? last x ≡ some y) × IsIn m y in
          ⊎_elim
          (λ (t : ((owner m == other) ≡ true) × (owner m ≡ other)).
          let same : u ≡ w = some-injective u w (sym there ∙ (ap (λ x. get_elem? views x) t.1 ∙ at)) in
          let P : List Part → Type 0 = λ x. IsIn m x in
          subst Q (sym (joined_here owner other id m t.1)) (both, mine, in_right m v w (subst P same is_in)))
          (λ (t : ((owner m == other) ≡ false) × (owner m ≢ other)).
          subst Q (sym (joined_else owner other id m t.1))
          (⊎_elim
          (λ (k : ((owner m == id) ≡ true) × (owner m ≡ id)).
          let same : u ≡ v = some-injective u v (sym there ∙ (ap (λ x. get_elem? views x) k.1 ∙ is)) in
          let P : List Part → Type 0 = λ x. IsIn m x in
          subst Q (sym k.1) (both, mine, in_left m v w (subst P same is_in)))
          (λ (k : ((owner m == id) ≡ false) × (owner m ≢ id)).
          (u, set_else (set views id both) other (owner m) [] t.1 ∙ (set_else views id (owner m) both k.1 ∙ there), is_in))
          (eqb_tells (owner m) id)))
          (eqb_tells (owner m) other);
    }

pub join_both : (setup : Setup) (id : ℕ) (v : List Part) (other : ℕ) (w : List Part) → Joins {S = Unit {0}} {V = List Part} (IsKept setup) id v other w (v ++ w) []
join_both setup id v other w s h is apart at =
    record {
      parts = h.parts;
      owner = joined h.owner other id;
      table = h.table;
      seats = seats_join setup.sizes.nodes h.parts h.owner s.views id other v w apart h.seats is (sym (set_else s.views id other (v ++ w) apart) ∙ at);
    }
