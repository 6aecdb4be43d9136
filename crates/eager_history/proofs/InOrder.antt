-- Entries in the order of their ages. One more entry goes behind all that are no older: a load changes no words, and a write of the greatest age goes to the end.
use Rattle.std.proofs.Common.{◌≡◌, ℕ, ◌≤◌, ◌<◌, Bool, true, false, cond, ◌==◌, nat_lt, List, [], ◌∷◌, ◌++◌, filter, append-nil, refl, arith, ap, sym, ◌∙◌, subst}
use Rattle.std.proofs.lemmas.Bool.Decides.{nat_tests}
use Rattle.op_model.specs.Flat.{FlatMemory, IsLegalAt, IsLegalFrom, after_entry, after_from}
use Rattle.op_model.specs.Operations.{is_load}
use Rattle.op_model.specs.Run.History.{entries_by}
use Rattle.eager_model.specs.Runs.{AgedEntry}
use Rattle.eager_model.specs.History.{put_by_age, put_all, in_age_order}
use Rattle.eager_history.specs.Project.{plain, up_to, last_age}
use Rattle.eager_history.specs.Sound.{Each, AreInOrder}

pub each-put : (P : AgedEntry → Type 0) (new : AgedEntry) (xs : List AgedEntry) → P new → Each P xs → Each P (put_by_age new xs)
each-put P new [] p each = (p, tt)
each-put P new (x ∷ xs) p each = go (nat_lt new.age x.age) (each-put P new xs p each.1)
  where
    go : (c : Bool) → Each P (put_by_age new xs) → Each P (cond c (new ∷ x ∷ xs) (x ∷ put_by_age new xs))
    go true rest = (p, each)
    go false rest = (each.0, rest)

pub each-put-all : (P : AgedEntry → Type 0) (history xs : List AgedEntry) → Each P history → Each P xs → Each P (put_all history xs)
each-put-all P history [] h each = h
each-put-all P history (x ∷ xs) h each = each-put-all P (put_by_age x history) xs (each-put P x history each.0 h) each.1

pub each-map : (P Q : AgedEntry → Type 0) (xs : List AgedEntry) → ((x : AgedEntry) → P x → Q x) → Each P xs → Each Q xs
each-map P Q [] f each = tt
each-map P Q (x ∷ xs) f each = (f x each.0, each-map P Q xs f each.1)

pub each-filter : (P : AgedEntry → Type 0) (p : AgedEntry → Bool) (xs : List AgedEntry) → Each P xs → Each P (filter p xs)
each-filter P p [] each = tt
each-filter P p (x ∷ xs) each = go (p x) (each-filter P p xs each.1)
  where
    go : (c : Bool) → Each P (filter p xs) → Each P (cond c (x ∷ filter p xs) (filter p xs))
    go true rest = (each.0, rest)
    go false rest = rest

-- the order is kept
pub order-put : (new : AgedEntry) (xs : List AgedEntry) → AreInOrder xs → AreInOrder (put_by_age new xs)
order-put new [] order = (tt, tt)
order-put new (x ∷ xs) order = go (nat_lt new.age x.age) refl (order-put new xs order.1)
  where
    go : (c : Bool) → nat_lt new.age x.age ≡ c → AreInOrder (put_by_age new xs) → AreInOrder (cond c (new ∷ x ∷ xs) (x ∷ put_by_age new xs))
    go true e rest =
        let lt : new.age < x.age = grind (arith, nat_tests) in
        ((omega (arith, lt), each-map (λ next. x.age ≤ next.age) (λ next. new.age ≤ next.age) xs (λ next le. omega (arith, lt, le)) order.0), order)
    go false e rest = let le : x.age ≤ new.age = grind (arith, nat_tests) in (each-put (λ next. x.age ≤ next.age) new xs le order.0, rest)

order-all : (history xs : List AgedEntry) → AreInOrder history → AreInOrder (put_all history xs)
order-all history [] order = order
order-all history (x ∷ xs) order = order-all (put_by_age x history) xs (order-put x history order)

pub in-order : (xs : List AgedEntry) → AreInOrder (in_age_order xs)
in-order xs = order-all [] xs tt

put-all-append : (history xs : List AgedEntry) (new : AgedEntry) → put_all history (xs ++ new ∷ []) ≡ put_by_age new (put_all history xs)
put-all-append history [] new = refl
put-all-append history (x ∷ xs) new = put-all-append (put_by_age x history) xs new

pub order-append : (xs : List AgedEntry) (new : AgedEntry) → in_age_order (xs ++ new ∷ []) ≡ put_by_age new (in_age_order xs)
order-append xs new = put-all-append [] xs new

-- an entry that is no older than any goes to the end
pub put-last : (new : AgedEntry) (xs : List AgedEntry) → Each (λ old. old.age ≤ new.age) xs → put_by_age new xs ≡ xs ++ new ∷ []
put-last new [] each = refl
put-last new (x ∷ xs) each = let e : nat_lt new.age x.age ≡ false = (let le = each.0 in grind (arith, nat_tests)) in rw e (ap (λ l. x ∷ l) (put-last new xs each.1))

pub up-to-all : (age : ℕ) (xs : List AgedEntry) → Each (λ old. old.age ≤ age) xs → up_to age xs ≡ xs
up-to-all age [] each = refl
up-to-all age (x ∷ xs) each = let e : nat_lt age x.age ≡ false = (let le = each.0 in grind (arith, nat_tests)) in rw e (ap (λ l. x ∷ l) (up-to-all age xs each.1))

-- what is older than the entry stays as it was
pub up-to-older : (age : ℕ) (new : AgedEntry) (xs : List AgedEntry) → age < new.age → up_to age (put_by_age new xs) ≡ up_to age xs
up-to-older age new [] older = let e : nat_lt age new.age ≡ true = grind (arith, nat_tests) in rw e refl
up-to-older age new (x ∷ xs) older = go (nat_lt new.age x.age) (nat_lt age x.age) refl refl (up-to-older age new xs older)
  where
    first : nat_lt age new.age ≡ true
    first = grind (arith, nat_tests)

    go : (c d : Bool) → nat_lt new.age x.age ≡ c → nat_lt age x.age ≡ d → up_to age (put_by_age new xs) ≡ up_to age xs → up_to age (cond c (new ∷ x ∷ xs) (x ∷ put_by_age new xs)) ≡ cond d [] (x ∷ up_to age xs)
    go true true e f rest = rw first refl
    go true false e f rest = absurd (grind (arith, nat_tests))
    go false true e f rest = rw f refl
    go false false e f rest = rw f (ap (λ l. x ∷ l) rest)

-- a load changes no words
module _ (new : AgedEntry) (load : is_load new.entry.kind ≡ true) where
  same-memory : (flat : FlatMemory) → after_entry flat new.entry ≡ flat
  same-memory flat = rw load refl

  pub after-load-up-to : (age : ℕ) → new.age ≤ age → (flat : FlatMemory) (xs : List AgedEntry) → after_from flat (plain (up_to age (put_by_age new xs))) ≡ after_from flat (plain (up_to age xs))
  after-load-up-to age le flat [] = let e : nat_lt age new.age ≡ false = grind (arith, nat_tests) in rw e (same-memory flat)
  after-load-up-to age le flat (x ∷ xs) = go (nat_lt new.age x.age) refl (λ next. after-load-up-to age le next xs)
    where
      first : nat_lt age new.age ≡ false
      first = grind (arith, nat_tests)

      go : (c : Bool) → nat_lt new.age x.age ≡ c → ((next : FlatMemory) → after_from next (plain (up_to age (put_by_age new xs))) ≡ after_from next (plain (up_to age xs))) →
          after_from flat (plain (up_to age (cond c (new ∷ x ∷ xs) (x ∷ put_by_age new xs)))) ≡ after_from flat (plain (up_to age (x ∷ xs)))
      go true e rest = rw first (ap (λ f. after_from f (plain (up_to age (x ∷ xs)))) (same-memory flat))
      go false e rest = both (nat_lt age x.age)
        where
          both : (d : Bool) → after_from flat (plain (cond d [] (x ∷ up_to age (put_by_age new xs)))) ≡ after_from flat (plain (cond d [] (x ∷ up_to age xs)))
          both true = refl
          both false = rest (after_entry flat x.entry)

  pub after-load : (flat : FlatMemory) (xs : List AgedEntry) → after_from flat (plain (put_by_age new xs)) ≡ after_from flat (plain xs)
  after-load flat [] = same-memory flat
  after-load flat (x ∷ xs) = go (nat_lt new.age x.age) (λ next. after-load next xs)
    where
      go : (c : Bool) → ((next : FlatMemory) → after_from next (plain (put_by_age new xs)) ≡ after_from next (plain xs)) → after_from flat (plain (cond c (new ∷ x ∷ xs) (x ∷ put_by_age new xs))) ≡ after_from flat (plain (x ∷ xs))
      go true rest = ap (λ f. after_from f (plain (x ∷ xs))) (same-memory flat)
      go false rest = rest (after_entry flat x.entry)

  -- it is legal where it has what the memory of its age has
  pub legal-load : (flat : FlatMemory) (xs : List AgedEntry) → IsLegalFrom flat (plain xs) → IsLegalAt (after_from flat (plain (up_to new.age xs))) new.entry → IsLegalFrom flat (plain (put_by_age new xs))
  legal-load flat [] legal at = (at, tt)
  legal-load flat (x ∷ xs) legal at = go (nat_lt new.age x.age) at (λ a. legal-load (after_entry flat x.entry) xs legal.1 a)
    where
      go : (c : Bool) → IsLegalAt (after_from flat (plain (cond c [] (x ∷ up_to new.age xs)))) new.entry →
          (IsLegalAt (after_from (after_entry flat x.entry) (plain (up_to new.age xs))) new.entry → IsLegalFrom (after_entry flat x.entry) (plain (put_by_age new xs))) → IsLegalFrom flat (plain (cond c (new ∷ x ∷ xs) (x ∷ put_by_age new xs)))
      go true at rest = (at, subst (λ f. IsLegalFrom f (plain (x ∷ xs))) (sym (same-memory flat)) legal)
      go false at rest = (legal.0, rest at)

-- a node's entries are in the order in which they were served, where its last age doesn't fall
module _ (node : ℕ) where
  pub by-put : (new : AgedEntry) (xs : List AgedEntry) → AreInOrder xs → ((new.entry.node ≡ node) → Each (λ old. old.entry.node ≡ node → old.age ≤ new.age) xs) →
      entries_by node (plain (put_by_age new xs)) ≡ entries_by node (plain xs) ++ cond (new.entry.node == node) (new.entry ∷ []) []
  by-put new [] order last = refl
  by-put new (x ∷ xs) order last = go (nat_lt new.age x.age) refl (by-put new xs order.1 (λ mine. (last mine).1))
    where
      none : (ys : List AgedEntry) → Each (λ next. x.age ≤ next.age) ys → new.age < x.age → Each (λ old. old.entry.node ≡ node → old.age ≤ new.age) ys → entries_by node (plain ys) ≡ []
      none [] above lt each = refl
      none (y ∷ ys) above lt each = skip (y.entry.node == node) refl (none ys above.1 lt each.1)
        where
          skip : (c : Bool) → (y.entry.node == node) ≡ c → entries_by node (plain ys) ≡ [] → cond c (y.entry ∷ entries_by node (plain ys)) (entries_by node (plain ys)) ≡ []
          skip true e rest = let le = each.0 (grind (arith, nat_tests)) in let up = above.0 in absurd (omega (arith, le, up, lt))
          skip false e rest = rest

      go : (c : Bool) → nat_lt new.age x.age ≡ c → entries_by node (plain (put_by_age new xs)) ≡ entries_by node (plain xs) ++ cond (new.entry.node == node) (new.entry ∷ []) [] →
          entries_by node (plain (cond c (new ∷ x ∷ xs) (x ∷ put_by_age new xs))) ≡ entries_by node (plain (x ∷ xs)) ++ cond (new.entry.node == node) (new.entry ∷ []) []
      go true e rest = mine (new.entry.node == node) refl
        where
          mine : (d : Bool) → (new.entry.node == node) ≡ d → cond d (new.entry ∷ entries_by node (plain (x ∷ xs))) (entries_by node (plain (x ∷ xs))) ≡ entries_by node (plain (x ∷ xs)) ++ cond d (new.entry ∷ []) []
          mine false f = sym (append-nil _)
          mine true f =
              let lt : new.age < x.age = grind (arith, nat_tests) in
              let empty : entries_by node (plain (x ∷ xs)) ≡ [] = none (x ∷ xs) (omega arith, order.0) lt (last (grind (arith, nat_tests))) in
              rw empty refl
      go false e rest = mine (x.entry.node == node)
        where
          mine : (d : Bool) → cond d (x.entry ∷ entries_by node (plain (put_by_age new xs))) (entries_by node (plain (put_by_age new xs))) ≡ cond d (x.entry ∷ entries_by node (plain xs)) (entries_by node (plain xs)) ++ cond (new.entry.node == node) (new.entry ∷ []) []
          mine true = ap (λ l. x.entry ∷ l) rest
          mine false = rest

-- entries that are left out by a test that looks at each alone
pub put-kept : (p : AgedEntry → Bool) (new : AgedEntry) (xs : List AgedEntry) → AreInOrder xs → p new ≡ true → put_by_age new (filter p xs) ≡ filter p (put_by_age new xs)
put-kept p new [] order e = rw e refl
put-kept p new (x ∷ xs) order e = go (nat_lt new.age x.age) (p x) refl refl (put-kept p new xs order.1 e)
  where
    -- it goes in front of entries that are all younger
    in-front : (ys : List AgedEntry) → new.age < x.age → Each (λ next. x.age ≤ next.age) ys → put_by_age new ys ≡ new ∷ ys
    in-front [] lt above = refl
    in-front (y ∷ ys) lt above = let younger : nat_lt new.age y.age ≡ true = (let up = above.0 in grind (arith, nat_tests)) in rw younger refl

    go : (c d : Bool) → nat_lt new.age x.age ≡ c → p x ≡ d → put_by_age new (filter p xs) ≡ filter p (put_by_age new xs) → put_by_age new (cond d (x ∷ filter p xs) (filter p xs)) ≡ filter p (cond c (new ∷ x ∷ xs) (x ∷ put_by_age new xs))
    go true true f g rest = rw (f, e, g) refl
    go true false f g rest = rw (e, g) (in-front (filter p xs) (grind (arith, nat_tests)) (each-filter (λ next. x.age ≤ next.age) p xs order.0))
    go false true f g rest = rw (f, g) (ap (λ l. x ∷ l) rest)
    go false false f g rest = rw g rest

pub put-dropped : (p : AgedEntry → Bool) (new : AgedEntry) (xs : List AgedEntry) → p new ≡ false → filter p (put_by_age new xs) ≡ filter p xs
put-dropped p new [] e = rw e refl
put-dropped p new (x ∷ xs) e = go (nat_lt new.age x.age) (put-dropped p new xs e)
  where
    go : (c : Bool) → filter p (put_by_age new xs) ≡ filter p xs → filter p (cond c (new ∷ x ∷ xs) (x ∷ put_by_age new xs)) ≡ filter p (x ∷ xs)
    go true rest = rw e refl
    go false rest = ap (λ l. cond (p x) (x ∷ l) l) rest

pub filter-order : (p : AgedEntry → Bool) (history xs : List AgedEntry) → AreInOrder history → put_all (filter p history) (filter p xs) ≡ filter p (put_all history xs)
filter-order p history [] order = refl
filter-order p history (x ∷ xs) order = go (p x) refl (filter-order p (put_by_age x history) xs (order-put x history order))
  where
    go : (c : Bool) → p x ≡ c → put_all (filter p (put_by_age x history)) (filter p xs) ≡ filter p (put_all (put_by_age x history) xs) → put_all (filter p history) (cond c (x ∷ filter p xs) (filter p xs)) ≡ filter p (put_all (put_by_age x history) xs)
    go true e rest = ap (λ h. put_all h (filter p xs)) (put-kept p x history order e) ∙ rest
    go false e rest = ap (λ h. put_all h (filter p xs)) (sym (put-dropped p x history e)) ∙ rest

-- the last age of a node after one more entry
pub last-append : (node before : ℕ) (xs : List AgedEntry) (new : AgedEntry) → last_age node before (xs ++ new ∷ []) ≡ cond (new.entry.node == node) new.age (last_age node before xs)
last-append node before [] new = refl
last-append node before (x ∷ xs) new = last-append node (cond (x.entry.node == node) x.age before) xs new
