-- Dropping the operations that aren't completed leaves the history legal: each is the last entry of its node and a load, since a
-- write that was served is done.
use Rattle.std.proofs.Common.{◌≡◌, ℕ, suc, ◌+◌, ◌<◌, Bool, true, false, cond, ◌==◌, nat_lt, ◌⊎◌, inl, inr, List, [], ◌∷◌, length, refl, arith, ap, sym, ◌∙◌, Option, Some, None, slice_get}
use Rattle.std.proofs.lemmas.Bool.Decides.{nat_tests}
use Rattle.line_map.specs.Sizes.{home_of, line_of}
use Rattle.op_model.specs.declared.operations.Entry.{Entry}
use Rattle.op_model.specs.declared.operations.Op.{Op}
use Rattle.op_model.specs.declared.state.Want.{Want}
use Rattle.op_model.specs.Flat.{FlatMemory, IsLegal, IsLegalFrom, after_entry}
use Rattle.op_model.specs.Operations.{is_load}
use Rattle.op_model.specs.Run.History.{Follows, IsNext, entries_by, history, is_completed, kept_of}
use Rattle.op_model.specs.Run.Runs.{Past}
use Rattle.op_model.specs.Shares.{State, Trace, program, want_on}
use Rattle.op_model.proofs.Public.{eqb-self}
use Rattle.line_invariant.specs.Rows.{wanting}
use Rattle.line_invariant.proofs.Public.{writes-answered}
use Rattle.one_history.specs.Project.{project}
use Rattle.one_history.specs.Sound.{IsBegunWell, IsOrdered, IsSound, answered_of}

-- an entry is completed, or of a load
abbrev pub Done_or_load : State → Entry → Type 0
Done_or_load state entry = (is_completed state entry ≡ true) ⊎ (is_load entry.kind ≡ true)

abbrev pub Each : (Entry → Type 0) → List Entry → Type 0
Each P [] = Unit {0}
Each P (entry ∷ entries) = P entry × Each P entries

pub legal-kept : (state : State) (flat : FlatMemory) (xs : List Entry) → Each (Done_or_load state) xs → IsLegalFrom flat xs → IsLegalFrom flat (kept_of state xs)
legal-kept state flat [] each legal = tt
legal-kept state flat (x ∷ xs) each legal = go (is_completed state x) refl each.0 (λ next l. legal-kept state next xs each.1 l)
  where
    go : (c : Bool) → is_completed state x ≡ c → Done_or_load state x → ((next : FlatMemory) → IsLegalFrom next xs → IsLegalFrom next (kept_of state xs)) → IsLegalFrom flat (cond c (x ∷ kept_of state xs) (kept_of state xs))
    go true e d rest = (legal.0, rest (after_entry flat x) legal.1)
    go false e (inl d) rest = absurd (let f : true ≡ false = sym d ∙ e in cc)
    go false e (inr load) rest = rest flat (rw load at legal.1)

-- what holds of each node's entries holds of all
pub by-node : (P : Entry → Type 0) (xs : List Entry) → ((n : ℕ) → Each P (entries_by n xs)) → Each P xs
by-node P [] each = tt
by-node P (x ∷ xs) each = ((rw (eqb-self x.node) at (each x.node)).0, by-node P xs (λ n. tail n (x.node == n) (each n)))
  where
    tail : (n : ℕ) (c : Bool) → Each P (cond c (x ∷ entries_by n xs) (entries_by n xs)) → Each P (entries_by n xs)
    tail n true h = h.1
    tail n false h = h

pub of-node : (n : ℕ) (xs : List Entry) → Each (λ e. e.node ≡ n) (entries_by n xs)
of-node n [] = tt
of-node n (x ∷ xs) = go (x.node == n) refl (of-node n xs)
  where
    go : (c : Bool) → (x.node == n) ≡ c → Each (λ e. e.node ≡ n) (entries_by n xs) → Each (λ e. e.node ≡ n) (cond c (x ∷ entries_by n xs) (entries_by n xs))
    go true e rest = (grind (arith, nat_tests), rest)
    go false e rest = rest

completed-or-load : (state : State) (n index : ℕ) (o : Option Op) (x : Entry) → x.node ≡ n → IsNext index o x → index < suc (state.share n).place → ((next : Op) → o ≡ Some next → index ≡ (state.share n).place → is_load next.kind ≡ true) → Done_or_load state x
completed-or-load state n index None x mine is short last = absurd is
completed-or-load state n index (Some op) x mine is short last = go (nat_lt index (state.share n).place) refl
  where
    go : (c : Bool) → nat_lt index (state.share n).place ≡ c → Done_or_load state x
    go true e = inl (rw (mine, is.0) e)
    go false e = inr (ap is_load is.1 ∙ last op refl (grind (arith, nat_tests)))

-- the entries of a node up to its place are completed
pub follows-each : (state : State) (n : ℕ) (ops : List Op) (index : ℕ) (xs : List Entry) → Each (λ e. e.node ≡ n) xs → Follows ops index xs → ((k : ℕ) (next : Op) → k ≡ (state.share n).place → slice_get ops k ≡ Some next → k < index + length xs → is_load next.kind ≡ true) → index + length xs < suc (suc (state.share n).place) → Each (Done_or_load state) xs
follows-each state n ops index [] mine f last short = tt
follows-each state n ops index (x ∷ xs) mine f last short = (
  completed-or-load state n index (slice_get ops index) x mine.0 f.0 (omega arith) (λ next e at. last index next at e (omega arith)),
  follows-each state n ops (suc index) xs mine.1 f.1 (λ k next at e below. last k next at e (omega arith)) (omega arith),
)

pub both-some : (o : Option Op) (a b : Op) → o ≡ Some a → o ≡ Some b → a ≡ b
both-some o a b e f = cc

pub long-one : (l k p : ℕ) → (l ≡ p) ⊎ (l ≡ suc p) → k ≡ p → k < 0 + l → l ≡ suc p
long-one l k p h e b = omega arith

pub short-one : (l p : ℕ) → (l ≡ p) ⊎ (l ≡ suc p) → 0 + l < suc (suc p)
short-one l p h = omega arith

-- where no write that was served waits, what is served is completed, or a load
module _ (trace : Trace) (past : Past) (ordered : (n : ℕ) → IsOrdered trace n (past.state.share n) (entries_by n past.served))
    (unserved : (n line : ℕ) (op : Op) (marked : Bool) → want_on trace.sizes (past.state.share n).want line ≡ wanting op marked → is_load op.kind ≡ false → answered_of trace.sizes past line n ≡ false) where
  last-loads : (n : ℕ) (next : Op) → slice_get (program trace n) (past.state.share n).place ≡ Some next → length (entries_by n past.served) ≡ suc (past.state.share n).place → is_load next.kind ≡ true
  last-loads n next e long = go (past.state.share n).want refl (ordered n).begun
    where
      go : (begun : Option Want) → (past.state.share n).want ≡ begun → IsBegunWell trace n (past.state.share n).place begun → is_load next.kind ≡ true
      go None b well = absurd (let r = (ordered n).rests b in omega arith)
      go (Some want) b well =
          let same : want.op ≡ next = both-some _ _ _ well e in
          ap (λ o. is_load o.kind) (sym same) ∙ loads (is_load want.op.kind) refl
        where
          line : ℕ
          line = line_of trace.sizes want.op.word

          loads : (c : Bool) → is_load want.op.kind ≡ c → c ≡ true
          loads true load = refl
          loads false write =
              let wants : want_on trace.sizes (past.state.share n).want line ≡ wanting want.op want.marked = rw (b, eqb-self line) in
              let no : answered_of trace.sizes past line n ≡ false = unserved n line want.op want.marked wants write in
              let t : (length (entries_by n past.served) == suc (past.state.share n).place) ≡ true = grind (arith, nat_tests) in
              let yes : answered_of trace.sizes past line n ≡ true = rw (b, eqb-self line, t) in
              let d : true ≡ false = sym yes ∙ no in cc

  pub each-served : Each (Done_or_load past.state) past.served
  each-served = by-node (Done_or_load past.state) past.served (λ n.
      follows-each past.state n (program trace n) 0 (entries_by n past.served) (of-node n past.served) (ordered n).order
      (λ k next at e below. last-loads n next (rw (← at) e) (long-one _ _ _ (ordered n).count at below)) (short-one _ _ (ordered n).count))

pub legal-history : (trace : Trace) (past : Past) → IsSound trace past → IsLegal (history past)
unfolding project
legal-history trace past sound =
    legal-kept past.state _ past.served (each-served trace past sound.ordered (λ n line op marked. writes-answered (home_of trace.sizes line) _ (sound.lines line) n op marked)) sound.legal
