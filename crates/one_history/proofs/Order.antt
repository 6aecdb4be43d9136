-- Program order: one node's entries after a row. They are its operations below its place, and after them the one that it has begun
-- where that was served; so an operation that is served comes next, and one that is done moves the place over its entry.
use Rattle.std.proofs.Common.{◌≡◌, ◌≢◌, ℕ, suc, ◌+◌, Bool, true, false, cond, ◌==◌, ◌&&◌, ◌⊎◌, inl, inr, List, [], ◌∷◌, ◌++◌, length, length-append, refl, arith, ap, sym, ◌∙◌, subst, slice_get, Option, Some, None}
use Rattle.std.proofs.lemmas.Bool.Decides.{nat_tests}
use Rattle.line_map.specs.Sizes.{Sizes, line_of}
use Rattle.op_model.specs.declared.operations.Entry.{Entry}
use Rattle.op_model.specs.declared.operations.Op.{Op}
use Rattle.op_model.specs.declared.state.Want.{Want}
use Rattle.op_model.specs.Lines.{LineShare}
use Rattle.op_model.specs.Run.History.{Follows, IsNext, entries_by}
use Rattle.op_model.specs.Shares.{Share, Trace, program, put_share, want_after, want_on}
use Rattle.line_invariant.specs.Rows.{wanting}
use Rattle.one_history.specs.Sound.{IsBegunWell, IsNextOp, IsOrdered, answered_in, is_begun_on}
use Rattle.one_history.proofs.Shares.{IsOn}

pub by-append : (node : ℕ) (xs ys : List Entry) → entries_by node (xs ++ ys) ≡ entries_by node xs ++ entries_by node ys
by-append node [] ys = refl
by-append node (x ∷ xs) ys = let e = by-append node xs ys in grind arith

pub follows-push : (ops : List Op) (index at : ℕ) (xs : List Entry) (e : Entry) → at ≡ index + length xs → Follows ops index xs → IsNext at (slice_get ops at) e → Follows ops index (xs ++ e ∷ [])
follows-push ops index at [] e is f next = let same : at ≡ index = omega arith in (subst (λ k. IsNext k (slice_get ops k) e) same next, tt)
follows-push ops index at (x ∷ xs) e is f next = (f.0, follows-push ops (suc index) at xs e (omega arith) f.1 next)

length-push : (xs : List Entry) (e : Entry) → length (xs ++ e ∷ []) ≡ suc (length xs)
length-push xs e = omega (arith, length-append xs (e ∷ []))

-- what a row of this line leaves begun is the next operation of its node, and of this line
abbrev pub IsNextWant : Trace → ℕ → ℕ → ℕ → Option Want → Type 0
IsNextWant trace node place line None = Unit {0}
IsNextWant trace node place line (Some want) = IsNextOp trace node place line want.op

pub next-begun : (trace : Trace) (node place line : ℕ) (want : Option Want) → IsNextWant trace node place line want → IsBegunWell trace node place want
next-begun trace node place line None next = tt
next-begun trace node place line (Some want) next = next.0

pub next-on : (trace : Trace) (node place line : ℕ) (want : Option Want) → IsNextWant trace node place line want → IsOn trace.sizes line want
next-on trace node place line None next = tt
next-on trace node place line (Some want) next = next.1

-- whether a line's load was served, after a row that neither serves nor ends the operation
module _ (sizes : Sizes) (line : ℕ) (b : Bool) where
  mark-row : (begun want : Option Want) (q : ℕ) → IsOn sizes line want → (begun ≡ None → b ≡ false) → (want ≡ None → (is_begun_on sizes begun line && b) ≡ false) → (is_begun_on sizes (want_after sizes begun line want) q && b) ≡ (is_begun_on sizes begun q && b)
  mark-row None want q on none idle = still (is_begun_on sizes want q) false (none refl)
    where
      still : (c d : Bool) → b ≡ false → (c && b) ≡ (d && b)
      still c d e = grind arith
  mark-row (Some began) want q on none idle = go (line_of sizes began.op.word == line) refl want on idle
    where
      still : (c : Bool) → b ≡ false → false ≡ (c && b)
      still c e = grind arith

      same : (at to : ℕ) → (at == line) ≡ true → to ≡ line → ((to == q) && b) ≡ ((at == q) && b)
      same at to e f = grind (arith, nat_tests)

      go : (c : Bool) → (line_of sizes began.op.word == line) ≡ c → (want : Option Want) → IsOn sizes line want → (want ≡ None → (c && b) ≡ false) → (is_begun_on sizes (cond c want (Some began)) q && b) ≡ (is_begun_on sizes (Some began) q && b)
      go false e want on idle = refl
      go true e None on idle = still (line_of sizes began.op.word == q) (idle refl)
      go true e (Some next) on idle = same (line_of sizes began.op.word) (line_of sizes next.op.word) e on

  rests-row : (begun want : Option Want) → (begun ≡ None → b ≡ false) → (want ≡ None → (is_begun_on sizes begun line && b) ≡ false) → want_after sizes begun line want ≡ None → b ≡ false
  rests-row None want none idle e = none refl
  rests-row (Some began) want none idle e = go (line_of sizes began.op.word == line) e idle
    where
      go : (c : Bool) → cond c want (Some began) ≡ None → (want ≡ None → (c && b) ≡ false) → b ≡ false
      go true e idle = idle e
      go false e idle = absurd (let d : Some began ≡ None = e in cc)

begun-row : (trace : Trace) (node place : ℕ) (begun : Option Want) (line : ℕ) (want : Option Want) → IsBegunWell trace node place begun → IsBegunWell trace node place want → IsBegunWell trace node place (want_after trace.sizes begun line want)
begun-row trace node place None line want old new = new
begun-row trace node place (Some began) line want old new = go (line_of trace.sizes began.op.word == line)
  where
    go : (c : Bool) → IsBegunWell trace node place (cond c want (Some began))
    go true = new
    go false = old

-- the operation of this line is done
pub done-row : (sizes : Sizes) (begun : Option Want) (line : ℕ) → (begun ≡ None) ⊎ (is_begun_on sizes begun line ≡ true) → want_after sizes begun line None ≡ None
done-row sizes None line h = refl
done-row sizes (Some began) line (inl e) = absurd (let d : Some began ≡ None = e in cc)
done-row sizes (Some began) line (inr e) = ap (λ c. cond c None (Some began)) e

pub wanted : (sizes : Sizes) (begun : Option Want) (line : ℕ) (op : Op) (marked : Bool) → want_on sizes begun line ≡ wanting op marked → (is_begun_on sizes begun line ≡ true) × (begun ≡ wanting op marked) × (line_of sizes op.word ≡ line)
wanted sizes None line op marked e = absurd (let d : None ≡ wanting op marked = e in cc)
wanted sizes (Some began) line op marked e = go (line_of sizes began.op.word == line) refl e
  where
    op_in : Option Want → Op
    op_in None = op
    op_in (Some want) = want.op

    same : (at : ℕ) → (at == line) ≡ true → at ≡ line
    same at f = grind (arith, nat_tests)

    go : (c : Bool) → (line_of sizes began.op.word == line) ≡ c → cond c (Some began) None ≡ wanting op marked → (c ≡ true) × (Some began ≡ wanting op marked) × (line_of sizes op.word ≡ line)
    go true f e = (refl, e, sym (ap (λ w. line_of sizes (op_in w).word) e) ∙ same (line_of sizes began.op.word) f)
    go false f e = absurd (let d : None ≡ wanting op marked = e in cc)

-- what a node wants of a line is its next operation
pub begun-next : (trace : Trace) (node place : ℕ) (begun : Option Want) (line : ℕ) (op : Op) (marked : Bool) → IsBegunWell trace node place begun → want_on trace.sizes begun line ≡ wanting op marked → IsNextOp trace node place line op
begun-next trace node place begun line op marked well e =
    let is = wanted trace.sizes begun line op marked e in (subst (IsBegunWell trace node place) is.1 well, is.2)

short : (n k : ℕ) → (n ≡ k) ⊎ (n ≡ suc k) → (n == suc k) ≡ false → n ≡ k
short n k (inl e) b = e
short n k (inr e) b = grind (arith, nat_tests)

module _ (trace : Trace) (node : ℕ) (share : Share) (entries : List Entry) (ordered : IsOrdered trace node share entries) where
  none_long : share.want ≡ None → (length entries == suc share.place) ≡ false
  none_long e = let s = ordered.rests e in grind (arith, nat_tests)

  -- its load is served
  pub ordered-served : (line : ℕ) (op : Op) (marked : Bool) (e : Entry) → want_on trace.sizes share.want line ≡ wanting op marked → answered_in trace.sizes share entries line ≡ false → IsNext share.place (slice_get (program trace node) share.place) e →
      IsOrdered trace node share (entries ++ e ∷ []) × (answered_in trace.sizes share (entries ++ e ∷ []) line ≡ true) × ((q : ℕ) → q ≢ line → answered_in trace.sizes share (entries ++ e ∷ []) q ≡ answered_in trace.sizes share entries q)
  ordered-served line op marked e wants unserved next =
      let is = wanted trace.sizes share.want line op marked wants in
      let now : length entries ≡ share.place = short _ _ ordered.count (rw is.0 at unserved) in
      let long : length (entries ++ e ∷ []) ≡ suc share.place = length-push entries e ∙ ap suc now in (
        record {
          begun = ordered.begun;
          order = follows-push (program trace node) 0 share.place entries e (omega arith) ordered.order next;
          count = inr long;
          rests = λ none. absurd (let d : wanting op marked ≡ None = sym is.1 ∙ none in cc);
        },
        (let t : (length (entries ++ e ∷ []) == suc share.place) ≡ true = grind (arith, nat_tests) in rw (is.0, t)),
        (λ q other. elsewhere share.want q other is.1 is.2),
      )
    where
      apart : (at q : ℕ) → q ≢ line → at ≡ line → (at == q) ≡ false
      apart at q other here = grind (arith, nat_tests)

      elsewhere : (begun : Option Want) (q : ℕ) → q ≢ line → begun ≡ wanting op marked → line_of trace.sizes op.word ≡ line → (is_begun_on trace.sizes begun q && (length (entries ++ e ∷ []) == suc share.place)) ≡ (is_begun_on trace.sizes begun q && (length entries == suc share.place))
      elsewhere begun q other is here = let off : (line_of trace.sizes op.word == q) ≡ false = apart (line_of trace.sizes op.word) q other here in rw (is, off)

  -- a row at the node that neither serves nor ends its operation
  pub ordered-row : (at_home : Bool) (line : ℕ) (row : LineShare) → IsNextWant trace node share.place line row.want → (row.want ≡ None → answered_in trace.sizes share entries line ≡ false) →
      IsOrdered trace node (put_share trace.sizes at_home line false row share) entries × ((q : ℕ) → answered_in trace.sizes (put_share trace.sizes at_home line false row share) entries q ≡ answered_in trace.sizes share entries q)
  unfolding put_share
  ordered-row at_home line row begins idle = (
    record {
      begun = begun-row trace node share.place share.want line row.want ordered.begun (next-begun trace node share.place line row.want begins);
      order = ordered.order;
      count = ordered.count;
      rests = λ none. short _ _ ordered.count (rests-row trace.sizes line (length entries == suc share.place) share.want row.want none_long idle none);
    },
    (λ q. mark-row trace.sizes line (length entries == suc share.place) share.want row.want q (next-on trace node share.place line row.want begins) none_long idle),
  )

  -- a load that was served is done
  pub ordered-done : (at_home : Bool) (line : ℕ) (row : LineShare) → row.want ≡ None → answered_in trace.sizes share entries line ≡ true →
      IsOrdered trace node (put_share trace.sizes at_home line true row share) entries × ((q : ℕ) → answered_in trace.sizes (put_share trace.sizes at_home line true row share) entries q ≡ false)
  unfolding put_share
  ordered-done at_home line row none served =
      let here : is_begun_on trace.sizes share.want line ≡ true = grind arith in
      let long : (length entries == suc share.place) ≡ true = grind arith in
      let is : length entries ≡ suc share.place = grind (arith, nat_tests) in
      let gone : want_after trace.sizes share.want line row.want ≡ None = ap (want_after trace.sizes share.want line) none ∙ done-row trace.sizes share.want line (inr here) in
      (record { begun = rw gone tt; order = ordered.order; count = inl is; rests = λ _. is }, (λ q. rw gone))

  -- the node's own operation is served and done
  pub ordered-own : (at_home : Bool) (line : ℕ) (row : LineShare) (e : Entry) → row.want ≡ None → (share.want ≡ None) ⊎ (is_begun_on trace.sizes share.want line ≡ true) → answered_in trace.sizes share entries line ≡ false → IsNext share.place (slice_get (program trace node) share.place) e →
      IsOrdered trace node (put_share trace.sizes at_home line true row share) (entries ++ e ∷ []) × ((q : ℕ) → answered_in trace.sizes (put_share trace.sizes at_home line true row share) (entries ++ e ∷ []) q ≡ false)
  unfolding put_share
  ordered-own at_home line row e none begun unserved next =
      let now : length entries ≡ share.place = at-place begun unserved in
      let long : length (entries ++ e ∷ []) ≡ suc share.place = length-push entries e ∙ ap suc now in
      let gone : want_after trace.sizes share.want line row.want ≡ None = ap (want_after trace.sizes share.want line) none ∙ done-row trace.sizes share.want line begun in
      (record { begun = rw gone tt; order = follows-push (program trace node) 0 share.place entries e (omega arith) ordered.order next; count = inl long; rests = λ _. long }, (λ q. rw gone))
    where
      at-place : (share.want ≡ None) ⊎ (is_begun_on trace.sizes share.want line ≡ true) → answered_in trace.sizes share entries line ≡ false → length entries ≡ share.place
      at-place (inl free) unserved = ordered.rests free
      at-place (inr here) unserved = short _ _ ordered.count (rw here at unserved)
