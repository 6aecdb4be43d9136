-- The history of a line is its entries in the order of their ages, without those that aren't completed. So it is legal, as these are loads, and has each node's operations on the line in the order of its program.
use Rattle.std.proofs.Common.{◌≡◌, ℕ, zero, suc, ◌+◌, Bool, true, false, cond, ◌==◌, ◌&&◌, ◌⊎◌, inl, inr, List, [], ◌∷◌, filter, take, drop, length, slice_get, refl, arith, ap, sym, ◌∙◌, subst, Option, Some, None}
use Rattle.std.specs.FinMap as fin
use Rattle.line_map.specs.Sizes.{Sizes, home_of, line_of}
use Rattle.op_model.specs.Flat.{IsLegal}
use Rattle.op_model.specs.Run.History.{Follows, IsNext, entries_by, is_completed, kept_of}
use Rattle.op_model.specs.Shares.{State, Trace, program}
use Rattle.eager_model.specs.Types.{Entry, Op}
use Rattle.eager_model.specs.History.{in_age_order, line_history}
use Rattle.eager_model.specs.Laws.{FollowsOn, NextOn, IsLineHistory}
use Rattle.eager_model.specs.Runs.{AgedEntry, Past}
use Rattle.eager_model.proofs.Public.{any-writes}
use Rattle.one_history.specs.Project.{project}
use Rattle.one_history.proofs.Public.{Done_or_load, by-kept, each-served, kept-first, legal-kept, of-node}
use Rattle.one_history.proofs.Public as entries
use Rattle.eager_history.specs.Project.{plain, plain_past, served_on, history_on, aged_line}
use Rattle.eager_history.specs.Sound.{Each, IsEagerSound}
use Rattle.eager_history.proofs.InOrder.{each-filter, each-put-all, filter-order}

-- what holds of each entry
to-aged : (P : Entry → Type 0) (xs : List AgedEntry) → entries.Each P (plain xs) → Each (λ x. P x.entry) xs
to-aged P [] each = tt
to-aged P (x ∷ xs) each = (each.0, to-aged P xs each.1)

of-aged : (P : Entry → Type 0) (xs : List AgedEntry) → Each (λ x. P x.entry) xs → entries.Each P (plain xs)
of-aged P [] each = tt
of-aged P (x ∷ xs) each = (each.0, of-aged P xs each.1)

-- two tests one after the other
filter-both : (p q : AgedEntry → Bool) (xs : List AgedEntry) → filter (λ x. p x && q x) xs ≡ filter p (filter q xs)
filter-both p q [] = refl
filter-both p q (x ∷ xs) = go (p x) (q x) refl (filter-both p q xs)
  where
    go : (c d : Bool) → p x ≡ c → filter (λ x. p x && q x) xs ≡ filter p (filter q xs) → cond (c && d) (x ∷ filter (λ x. p x && q x) xs) (filter (λ x. p x && q x) xs) ≡ filter p (cond d (x ∷ filter q xs) (filter q xs))
    go true true e rest = rw e (ap (λ l. x ∷ l) rest)
    go true false e rest = rest
    go false true e rest = rw e rest
    go false false e rest = rest

plain-kept : (state : State) (xs : List AgedEntry) → plain (filter (λ x. is_completed state x.entry) xs) ≡ kept_of state (plain xs)
plain-kept state [] = refl
plain-kept state (x ∷ xs) = go (is_completed state x.entry) (plain-kept state xs)
  where
    go : (c : Bool) → plain (filter (λ x. is_completed state x.entry) xs) ≡ kept_of state (plain xs) → plain (cond c (x ∷ filter (λ x. is_completed state x.entry) xs) (filter (λ x. is_completed state x.entry) xs)) ≡ cond c (x.entry ∷ kept_of state (plain xs)) (kept_of state (plain xs))
    go true rest = ap (λ l. x.entry ∷ l) rest
    go false rest = rest

pub history-is : (sizes : Sizes) (past : Past) (line : ℕ) → line_history sizes past line ≡ kept_of past.state (plain (history_on sizes line past.served))
history-is sizes past line =
    ap (λ es. plain (in_age_order es)) (filter-both (λ x. is_completed past.state x.entry) (λ x. line_of sizes x.entry.word == line) past.served)
    ∙ ap plain (filter-order (λ x. is_completed past.state x.entry) [] (served_on sizes line past.served) tt)
    ∙ plain-kept past.state (history_on sizes line past.served)

-- the entries of a line
abbrev pub on_line : Sizes → ℕ → List Entry → List Entry
on_line sizes line es = filter (λ e. line_of sizes e.word == line) es

by-line : (sizes : Sizes) (line node : ℕ) (xs : List AgedEntry) → entries_by node (plain (served_on sizes line xs)) ≡ on_line sizes line (entries_by node (plain xs))
by-line sizes line node [] = refl
by-line sizes line node (x ∷ xs) = go (line_of sizes x.entry.word == line) (x.entry.node == node) refl refl (by-line sizes line node xs)
  where
    go : (c d : Bool) → (line_of sizes x.entry.word == line) ≡ c → (x.entry.node == node) ≡ d → entries_by node (plain (served_on sizes line xs)) ≡ on_line sizes line (entries_by node (plain xs)) →
        entries_by node (plain (cond c (x ∷ served_on sizes line xs) (served_on sizes line xs))) ≡ on_line sizes line (cond d (x.entry ∷ entries_by node (plain xs)) (entries_by node (plain xs)))
    go true true e f rest = rw (e, f) (ap (λ l. x.entry ∷ l) rest)
    go true false e f rest = rw f rest
    go false true e f rest = rw e rest
    go false false e f rest = rest

kept-line : (sizes : Sizes) (line : ℕ) (state : State) (es : List Entry) → kept_of state (on_line sizes line es) ≡ on_line sizes line (kept_of state es)
kept-line sizes line state [] = refl
kept-line sizes line state (x ∷ es) = go (line_of sizes x.word == line) (is_completed state x) refl refl (kept-line sizes line state es)
  where
    go : (c d : Bool) → (line_of sizes x.word == line) ≡ c → is_completed state x ≡ d → kept_of state (on_line sizes line es) ≡ on_line sizes line (kept_of state es) →
        kept_of state (cond c (x ∷ on_line sizes line es) (on_line sizes line es)) ≡ on_line sizes line (cond d (x ∷ kept_of state es) (kept_of state es))
    go true true e f rest = rw (e, f) (ap (λ l. x ∷ l) rest)
    go true false e f rest = rw f rest
    go false true e f rest = rw e rest
    go false false e f rest = rest

-- the operations of a program from a place on
drop-at : (ops : List Op) (i : ℕ) (op : Op) → slice_get ops i ≡ Some op → drop i ops ≡ op ∷ drop (suc i) ops
drop-at [] i op e = absurd (let d : ◌≡◌ {A = Option Op} None (Some op) = e in cc)
drop-at (o ∷ ops) zero op e = ap (λ k. k ∷ ops) (let d : Some o ≡ Some op = e in cc)
drop-at (o ∷ ops) (suc i) op e = drop-at ops i op e

follows-on : (sizes : Sizes) (line : ℕ) (ops : List Op) (index : ℕ) (es : List Entry) → Follows ops index es → FollowsOn sizes line (take (length es) (drop index ops)) index (on_line sizes line es)
follows-on sizes line ops index [] follows = none (drop index ops)
  where
    none : (rest : List Op) → FollowsOn sizes line (take 0 rest) index []
    none [] = refl
    none (op ∷ rest) = refl
follows-on sizes line ops index (x ∷ es) follows = by-op (slice_get ops index) refl follows.0 (follows-on sizes line ops (suc index) es follows.1)
  where
    by-op : (o : Option Op) → slice_get ops index ≡ o → IsNext index o x → FollowsOn sizes line (take (length es) (drop (suc index) ops)) (suc index) (on_line sizes line es) → FollowsOn sizes line (take (length (x ∷ es)) (drop index ops)) index (on_line sizes line (x ∷ es))
    by-op None e is rest = absurd is
    by-op (Some op) e is rest =
        subst (λ l. FollowsOn sizes line (take (length (x ∷ es)) l) index (on_line sizes line (x ∷ es))) (sym (drop-at ops index op e)) (go (line_of sizes op.word == line) refl rest)
      where
        go : (c : Bool) → (line_of sizes op.word == line) ≡ c → FollowsOn sizes line (take (length es) (drop (suc index) ops)) (suc index) (on_line sizes line es) →
            NextOn c index op (FollowsOn sizes line (take (length es) (drop (suc index) ops)) (suc index)) (cond (line_of sizes x.word == line) (x ∷ on_line sizes line es) (on_line sizes line es))
        go true e rest = let here : (line_of sizes x.word == line) ≡ true = ap (λ w. line_of sizes w == line) is.2 ∙ e in rw here (is, rest)
        go false e rest = let off : (line_of sizes x.word == line) ≡ false = ap (λ w. line_of sizes w == line) is.2 ∙ e in rw off rest

module _ (trace : Trace) (past : Past) (sound : IsEagerSound trace past) where
  each-done : entries.Each (Done_or_load past.state) (plain past.served)
  unfolding aged_line project
  each-done = each-served trace (plain_past past) sound.ordered (λ n line op marked. any-writes (home_of trace.sizes line) (aged_line trace.sizes past (sound.lines line).top line) (sound.lines line).good n op marked)

  each-of-line : (line : ℕ) → entries.Each (Done_or_load past.state) (plain (history_on trace.sizes line past.served))
  each-of-line line = of-aged (Done_or_load past.state) (history_on trace.sizes line past.served)
      (each-put-all (λ x. Done_or_load past.state x.entry) [] (served_on trace.sizes line past.served) tt
      (each-filter (λ x. Done_or_load past.state x.entry) (λ x. line_of trace.sizes x.entry.word == line) past.served (to-aged (Done_or_load past.state) past.served each-done)))

  pub one-line-history : (line : ℕ) → IsLineHistory trace past line
  one-line-history line =
      record {
        legal = subst IsLegal (sym (history-is trace.sizes past line)) (legal-kept past.state fin.empty (plain (history_on trace.sizes line past.served)) (each-of-line line) (sound.lines line).history.legal);
        order = order;
      }
    where
      counts : (n : ℕ) → (length (entries_by n (plain past.served)) ≡ (past.state.share n).place) ⊎ (length (entries_by n (plain past.served)) ≡ suc (past.state.share n).place) → (0 + length (entries_by n (plain past.served)) ≡ (past.state.share n).place) ⊎ (0 + length (entries_by n (plain past.served)) ≡ suc (past.state.share n).place)
      counts n (inl e) = inl (omega (arith, e))
      counts n (inr e) = inr (omega (arith, e))

      order : (node : ℕ) → FollowsOn trace.sizes line (take (past.state.share node).place (program trace node)) 0 (entries_by node (line_history trace.sizes past line))
      order node =
          let first = kept-first past.state node (program trace node) 0 (entries_by node (plain past.served)) (of-node node (plain past.served)) (sound.ordered node).order (omega arith) (counts node (sound.ordered node).count) in
          let told : entries_by node (line_history trace.sizes past line) ≡ on_line trace.sizes line (kept_of past.state (entries_by node (plain past.served))) =
          ap (entries_by node) (history-is trace.sizes past line) ∙ by-kept past.state node (plain (history_on trace.sizes line past.served)) ∙ ap (kept_of past.state) ((sound.lines line).history.order node ∙ by-line trace.sizes line node past.served) ∙ kept-line trace.sizes line past.state (entries_by node (plain past.served)) in
          let long : length (kept_of past.state (entries_by node (plain past.served))) ≡ (past.state.share node).place = omega (arith, first.1) in
          subst (λ k. FollowsOn trace.sizes line (take k (program trace node)) 0 (entries_by node (line_history trace.sizes past line))) long
          (subst (FollowsOn trace.sizes line (take (length (kept_of past.state (entries_by node (plain past.served)))) (program trace node)) 0) (sym told) (follows-on trace.sizes line (program trace node) 0 (kept_of past.state (entries_by node (plain past.served))) first.0))
