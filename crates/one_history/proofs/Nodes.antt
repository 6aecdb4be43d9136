-- The nodes after a row: each one's entries in the order of its program, and whether the load that it has begun was served.
use Rattle.std.proofs.Common.{◌≡◌, ◌≢◌, ℕ, inl, inr, append-nil, slice_get, Bool, true, false, cond, ◌==◌, ◌⊎◌, List, [], ◌∷◌, ◌++◌, refl, arith, sym, ◌∙◌, subst, Option, Some, None}
use Rattle.std.proofs.lemmas.Bool.Decides.{nat_tests}
use Rattle.line_map.specs.Sizes.{line_of}
use Rattle.op_model.specs.declared.operations.Entry.{Entry}
use Rattle.op_model.specs.declared.operations.Op.{Op}
use Rattle.op_model.specs.declared.state.Want.{Want}
use Rattle.op_model.specs.Events.Step.{put_at}
use Rattle.op_model.specs.Lines.{For, LineShare, NoService, Own, Service}
use Rattle.op_model.specs.Operations.{Words, entry_of}
use Rattle.op_model.specs.Run.History.{IsNext, entries_by}
use Rattle.op_model.specs.Run.Runs.{Past, entries_of, entry_for}
use Rattle.op_model.specs.Shares.{Share, Trace, program, put_share, want_on}
use Rattle.line_invariant.specs.Line.{answered_after}
use Rattle.line_invariant.specs.Rows.{IsDoneRight, IsLoadWanted, IsOwnServed, IsOwnWant, wanting}
use Rattle.one_history.specs.Sound.{IsNextOp, IsOrdered, answered_in, answered_of, is_begun_on}
use Rattle.one_history.proofs.Order.{IsNextWant, begun-next, by-append, ordered-done, ordered-own, ordered-row, ordered-served}

-- the operation that a row serves is of its line, and is served on the line's words
abbrev pub IsServedIn : Trace → Past → ℕ → ℕ → Words → Service → Type 0
IsServedIn trace past me line words NoService = Unit {0}
IsServedIn trace past me line words (Own op on) =
    (on ≡ words) × IsNextOp trace me (past.state.share me).place line op × (((past.state.share me).want ≡ None) ⊎ (is_begun_on trace.sizes (past.state.share me).want line ≡ true)) × (answered_of trace.sizes past line me ≡ false)
IsServedIn trace past me line words (For node on) =
    (on ≡ words) × IsLoadWanted (want_on trace.sizes (past.state.share node).want line) × (answered_of trace.sizes past line node ≡ false) × (node ≢ me)

-- the entry of a node's next operation follows its entries
pub next-entry : (trace : Trace) (node place line : ℕ) (op : Op) (on : Words) → IsNextOp trace node place line op → IsNext place (slice_get (program trace node) place) (entry_of node place op on)
next-entry trace node place line op on is = subst (λ o. IsNext place o (entry_of node place op on)) (sym is.0) (refl, refl, refl, λ write. rw write refl)

-- a node after a row, with its entries and its mark
module _ (trace : Trace) (past : Past) (ordered : (n : ℕ) → IsOrdered trace n (past.state.share n) (entries_by n past.served)) (node line : ℕ) (at_home : Bool) (row : LineShare) where
  abbrev entries : ℕ → List Entry
  entries n = entries_by n past.served

  abbrev Fine : ℕ → Share → List Entry → Bool → Type 0
  Fine n share es mark = IsOrdered trace n share es × ((q : ℕ) → q ≢ line → answered_in trace.sizes share es q ≡ answered_of trace.sizes past q n) × (answered_in trace.sizes share es line ≡ mark)

  abbrev after : Bool → Share
  after done = put_share trace.sizes at_home line done row (past.state.share node)

  same-fine : (n : ℕ) → Fine n (past.state.share n) (entries n) (answered_of trace.sizes past line n)
  same-fine n = (ordered n, (λ q other. refl), refl)

  row-fine : IsNextWant trace node (past.state.share node).place line row.want → (row.want ≡ None → answered_of trace.sizes past line node ≡ false) → Fine node (after false) (entries node) (answered_of trace.sizes past line node)
  row-fine begins idle = let r = ordered-row trace node (past.state.share node) (entries node) (ordered node) at_home line row begins idle in (r.0, (λ q other. r.1 q), r.1 line)

  away : (begun : Option Want) → (begun ≡ None) ⊎ (is_begun_on trace.sizes begun line ≡ true) → (q : ℕ) → q ≢ line → is_begun_on trace.sizes begun q ≡ false
  away None h q other = refl
  away (Some want) (inl e) q other = absurd (let d : Some want ≡ None = e in cc)
  away (Some want) (inr e) q other = apart (line_of trace.sizes want.op.word) e
    where
      apart : (at : ℕ) → (at == line) ≡ true → (at == q) ≡ false
      apart at e = grind (arith, nat_tests)

  done-fine : row.want ≡ None → answered_of trace.sizes past line node ≡ true → Fine node (after true) (entries node) false
  done-fine none served =
      let r = ordered-done trace node (past.state.share node) (entries node) (ordered node) at_home line row none served in
      let here : is_begun_on trace.sizes (past.state.share node).want line ≡ true = grind arith in
      (r.0, (λ q other. r.1 q ∙ sym (rw (away (past.state.share node).want (inr here) q other))), r.1 line)

  own-fine : (e : Entry) → row.want ≡ None → ((past.state.share node).want ≡ None) ⊎ (is_begun_on trace.sizes (past.state.share node).want line ≡ true) → answered_of trace.sizes past line node ≡ false → IsNext (past.state.share node).place (slice_get (program trace node) (past.state.share node).place) e → Fine node (after true) (entries node ++ e ∷ []) false
  own-fine e none begun unserved next =
      let r = ordered-own trace node (past.state.share node) (entries node) (ordered node) at_home line row e none begun unserved next in
      (r.0, (λ q other. r.1 q ∙ sym (rw (away (past.state.share node).want begun q other))), r.1 line)

  gets-fine : (r : ℕ) (op : Op) (marked : Bool) (e : Entry) → want_on trace.sizes (past.state.share r).want line ≡ wanting op marked → answered_of trace.sizes past line r ≡ false → IsNext (past.state.share r).place (slice_get (program trace r) (past.state.share r).place) e → Fine r (past.state.share r) (entries r ++ e ∷ []) true
  gets-fine r op marked e wants unserved next =
      let t = ordered-served trace r (past.state.share r) (entries r) (ordered r) line op marked e wants unserved next in
      (t.0, t.2, t.1)

  -- every node
  pub nodes-after : (words : Words) (served : Service) (done : Bool) → IsServedIn trace past node line words served → IsDoneRight (answered_of trace.sizes past line node ≡ true) served done row.want →
      IsNextWant trace node (past.state.share node).place line row.want → (row.want ≡ None → done ≡ false → answered_of trace.sizes past line node ≡ false) →
      (n : ℕ) → Fine n (put_at past.state.share node (after done) n) (entries_by n (past.served ++ entries_of trace.sizes past.state node line served)) (answered_after node served done (answered_of trace.sizes past line) n)
  nodes-after words NoService false well right begins idle n = rw (append-nil) (go (n == node) refl)
    where
      go : (c : Bool) → (n == node) ≡ c → Fine n (cond c (after false) (past.state.share n)) (entries n) (answered_of trace.sizes past line n)
      go true e = let is : node ≡ n = grind (arith, nat_tests) in subst (λ k. Fine k (after false) (entries k) (answered_of trace.sizes past line k)) is (row-fine begins (λ none. idle none refl))
      go false e = same-fine n
  nodes-after words NoService true well right begins idle n = rw (append-nil) (go (n == node) refl)
    where
      go : (c : Bool) → (n == node) ≡ c → Fine n (cond c (after true) (past.state.share n)) (entries n) (cond c false (answered_of trace.sizes past line n))
      go true e = let is : node ≡ n = grind (arith, nat_tests) in subst (λ k. Fine k (after true) (entries k) false) is (done-fine right.0 right.1)
      go false e = same-fine n
  nodes-after words (Own op on) false well right begins idle n = absurd (let d = right.1 in cc)
  nodes-after words (Own op on) true well right begins idle n = rw (by-append) (go (n == node) refl)
    where
      entry : Entry
      entry = entry_of node (past.state.share node).place op on

      go : (c : Bool) → (n == node) ≡ c → Fine n (cond c (after true) (past.state.share n)) (entries n ++ cond (node == n) (entry ∷ []) []) (cond c false (answered_of trace.sizes past line n))
      go true e =
          let is : node ≡ n = grind (arith, nat_tests) in
          let on_it : (node == n) ≡ true = grind (arith, nat_tests) in
          rw on_it (subst (λ k. Fine k (after true) (entries k ++ entry ∷ []) false) is (own-fine entry right.0 well.2 well.3 (next-entry trace node (past.state.share node).place line op on well.1)))
      go false e = let off : (node == n) ≡ false = grind (arith, nat_tests) in rw (off, append-nil) (same-fine n)
  nodes-after words (For r on) true well right begins idle n = absurd (let d = right in cc)
  nodes-after words (For r on) false well right begins idle n = wanted-by (want_on trace.sizes (past.state.share r).want line) refl well.1
    where
      wanted-by : (want : Option Want) → want_on trace.sizes (past.state.share r).want line ≡ want → IsLoadWanted want → Fine n (put_at past.state.share node (after false) n) (entries_by n (past.served ++ entry_for r (past.state.share r).place on want)) (put_at (answered_of trace.sizes past line) r true n)
      wanted-by None w load = absurd load
      wanted-by (Some want) w load = rw (by-append) (go (n == node) (n == r) refl refl)
        where
          entry : Entry
          entry = entry_of r (past.state.share r).place want.op on

          go : (c d : Bool) → (n == node) ≡ c → (n == r) ≡ d → Fine n (cond c (after false) (past.state.share n)) (entries n ++ cond (r == n) (entry ∷ []) []) (cond d true (answered_of trace.sizes past line n))
          go true true e f = let apart = well.3 in absurd (grind (arith, nat_tests))
          go true false e f =
              let is : node ≡ n = grind (arith, nat_tests) in
              let off : (r == n) ≡ false = grind (arith, nat_tests) in
              rw (off, append-nil) (subst (λ k. Fine k (after false) (entries k) (answered_of trace.sizes past line k)) is (row-fine begins (λ none. idle none refl)))
          go false true e f =
              let is : r ≡ n = grind (arith, nat_tests) in
              let on_it : (r == n) ≡ true = grind (arith, nat_tests) in
              rw on_it (subst (λ k. Fine k (past.state.share k) (entries k ++ entry ∷ []) true) is (gets-fine r want.op want.marked entry w well.2 (next-entry trace r (past.state.share r).place line want.op on (begun-next trace r (past.state.share r).place (past.state.share r).want line want.op want.marked (ordered r).begun w))))
          go false false e f = let off : (r == n) ≡ false = grind (arith, nat_tests) in rw (off, append-nil) (same-fine n)

pub unserved-before : (trace : Trace) (past : Past) (node line : ℕ) (words : Words) (served : Service) (done : Bool) (want : Option Want) → IsServedIn trace past node line words served → IsDoneRight (answered_of trace.sizes past line node ≡ true) served done want → done ≡ false →
    answered_after node served done (answered_of trace.sizes past line) node ≡ false → answered_of trace.sizes past line node ≡ false
unserved-before trace past node line words NoService false want well right still e = e
unserved-before trace past node line words NoService true want well right still e = cc
unserved-before trace past node line words (Own op on) false want well right still e = absurd (let d = right.1 in cc)
unserved-before trace past node line words (Own op on) true want well right still e = cc
unserved-before trace past node line words (For r on) true want well right still e = cc
unserved-before trace past node line words (For r on) false want well right still e = let apart = well.3 in let off : (node == r) ≡ false = grind (arith, nat_tests) in rw off at e

-- what a node's own processor serves or begins is its next operation
pub own-served : (trace : Trace) (past : Past) (node line : ℕ) (words : Words) (op : Op) (served : Service) → IsNextOp trace node (past.state.share node).place line op → (past.state.share node).want ≡ None → answered_of trace.sizes past line node ≡ false → IsOwnServed op words served →
    IsServedIn trace past node line words served
own-served trace past node line words op NoService is free unserved h = tt
own-served trace past node line words op (Own served on) is free unserved h = (h.0, subst (IsNextOp trace node (past.state.share node).place line) (sym h.1) is, inl free, unserved)
own-served trace past node line words op (For other on) is free unserved h = absurd h

pub own-want : (trace : Trace) (node place line : ℕ) (op : Op) (want : Option Want) → IsNextOp trace node place line op → IsOwnWant op want → IsNextWant trace node place line want
own-want trace node place line op None is h = tt
own-want trace node place line op (Some want) is h = subst (IsNextOp trace node place line) (sym h) is

-- a row that is done right where nothing was served before is done right whatever was served
pub own-done : (Known : Type 0) (served : Service) (done : Bool) (want : Option Want) → IsDoneRight ⊥ served done want → IsDoneRight Known served done want
own-done Known NoService true want h = absurd h.1
own-done Known NoService false want h = tt
own-done Known (Own op on) done want h = h
own-done Known (For node on) done want h = h
