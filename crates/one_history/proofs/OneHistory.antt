-- The history of a run is one history. Each node's completed operations are the first ones of its program, in order. What was
-- completed before a moment was served before it, and what was begun by no event before it is served after it.
use Rattle.std.proofs.Common.{◌≡◌, ℕ, zero, suc, ◌+◌, ◌<◌, ◌≤◌, Bool, true, false, cond, ◌==◌, nat_lt, ◌⊎◌, inl, inr, List, [], ◌∷◌, ◌++◌, append_assoc, append-nil, length, refl, arith, ap, sym, ◌∙◌, subst, Option, Some, None, Result, Ok, Err, slice_get}
use Rattle.std.proofs.lemmas.Bool.Decides.{nat_tests}
use Rattle.line_map.specs.Sizes.{Sizes}
use Rattle.op_model.specs.declared.events.Cause.{Cause}
use Rattle.op_model.specs.declared.events.Event.{Event}
use Rattle.op_model.specs.declared.operations.Entry.{Entry}
use Rattle.op_model.specs.declared.operations.Op.{Op}
use Rattle.op_model.specs.Events.Step.{Done, after, and_then, effect}
use Rattle.op_model.specs.Run.History.{Follows, IsNext, IsOneHistory, entries_by, history, is_completed, kept_of}
use Rattle.op_model.specs.Run.Runs.{Past, entries_of, past_after, run, run_from, start}
use Rattle.op_model.specs.Shares.{Charge, State, Trace, program}
use Rattle.one_history.specs.Sound.{IsSound}
use Rattle.one_history.proofs.Completed.{Each, by-node, legal-history, of-node}
use Rattle.one_history.proofs.Moves.{IsBegunIn, never-begun}
use Rattle.one_history.proofs.Order.{by-append}
use Rattle.one_history.proofs.Runs.{sound-from, sound-start}

pub by-kept : (state : State) (n : ℕ) (xs : List Entry) → entries_by n (kept_of state xs) ≡ kept_of state (entries_by n xs)
by-kept state n [] = refl
by-kept state n (x ∷ xs) = go (is_completed state x) (x.node == n) refl (by-kept state n xs)
  where
    go : (c d : Bool) → is_completed state x ≡ c → entries_by n (kept_of state xs) ≡ kept_of state (entries_by n xs) → entries_by n (cond c (x ∷ kept_of state xs) (kept_of state xs)) ≡ kept_of state (cond (x.node == n) (x ∷ entries_by n xs) (entries_by n xs))
    go c d e rest = both c (x.node == n) e refl rest
      where
        both : (c d : Bool) → is_completed state x ≡ c → (x.node == n) ≡ d → entries_by n (kept_of state xs) ≡ kept_of state (entries_by n xs) → entries_by n (cond c (x ∷ kept_of state xs) (kept_of state xs)) ≡ kept_of state (cond d (x ∷ entries_by n xs) (entries_by n xs))
        both true true e f rest = rw (e, f) (ap (λ l. x ∷ l) rest)
        both true false e f rest = rw f rest
        both false true e f rest = rw e rest
        both false false e f rest = rest

next-index : (index : ℕ) (o : Option Op) (x : Entry) → IsNext index o x → x.index ≡ index
next-index index None x is = absurd is
next-index index (Some op) x is = is.0

-- the kept entries of a node are the first ones
module _ (state : State) (n : ℕ) (ops : List Op) where
  abbrev place : ℕ
  place = (state.share n).place

  First : ℕ → List Entry → Type 0
  First index xs = Follows ops index (kept_of state xs) × (index + length (kept_of state xs) ≡ place)

  pub kept-first : (index : ℕ) (xs : List Entry) → Each (λ e. e.node ≡ n) xs → Follows ops index xs → index ≤ place → (index + length xs ≡ place) ⊎ (index + length xs ≡ suc place) → Follows ops index (kept_of state xs) × (index + length (kept_of state xs) ≡ place)
  kept-first index [] mine follows below count = (tt, omega arith)
  kept-first index (x ∷ xs) mine follows below count = go (nat_lt index place) refl xs mine.1 follows.1 (λ lt. kept-first (suc index) xs mine.1 follows.1 (omega arith) (moved count)) count
    where
      moved : (index + length (x ∷ xs) ≡ place) ⊎ (index + length (x ∷ xs) ≡ suc place) → (suc index + length xs ≡ place) ⊎ (suc index + length xs ≡ suc place)
      moved (inl e) = inl (omega arith)
      moved (inr e) = inr (omega arith)

      at : is_completed state x ≡ nat_lt index place
      at = λ i. nat_lt (next-index index (slice_get ops index) x follows.0 i) (state.share (mine.0 i)).place

      go : (c : Bool) → nat_lt index place ≡ c → (ys : List Entry) → Each (λ e. e.node ≡ n) ys → Follows ops (suc index) ys →
          (index < place → Follows ops (suc index) (kept_of state ys) × (suc index + length (kept_of state ys) ≡ place)) → (index + length (x ∷ ys) ≡ place) ⊎ (index + length (x ∷ ys) ≡ suc place) →
          Follows ops index (kept_of state (x ∷ ys)) × (index + length (kept_of state (x ∷ ys)) ≡ place)
      go true e ys mine after rest count =
          let lt : index < place = grind (arith, nat_tests) in
          let r = rest lt in
          let c : is_completed state x ≡ true = at ∙ e in
          rw c ((follows.0, r.0), omega (arith, r.1))
      go false e [] mine after rest count =
          let c : is_completed state x ≡ false = at ∙ e in
          let no : place ≤ index = grind (arith, nat_tests) in
          rw c (tt, omega (arith, no, below))
      go false e (y ∷ ys) mine after rest count =
          let no : place ≤ index = grind (arith, nat_tests) in
          absurd (omega (arith, no))

follows-split : (ops : List Op) (index : ℕ) (xs ys : List Entry) → Follows ops index (xs ++ ys) → Each (λ e. index + length xs ≤ e.index) ys
follows-split ops index [] ys f = since index ys f (omega arith)
  where
    since : (k : ℕ) (ys : List Entry) → Follows ops k ys → index ≤ k → Each (λ e. index + 0 ≤ e.index) ys
    since k [] f le = tt
    since k (y ∷ ys) f le = (let e = next-index k (slice_get ops k) y f.0 in omega arith, since (suc k) ys f.1 (omega arith))
follows-split ops index (x ∷ xs) ys f = more ys (follows-split ops (suc index) xs ys f.1)
  where
    more : (ys : List Entry) → Each (λ e. suc index + length xs ≤ e.index) ys → Each (λ e. index + length (x ∷ xs) ≤ e.index) ys
    more [] each = tt
    more (y ∷ ys) each = (let h = each.0 in omega arith, more ys each.1)

-- what was served was begun
module _ (state : State) (n : ℕ) (ops : List Op) where
  follows-begun : (index : ℕ) (xs : List Entry) → Each (λ e. e.node ≡ n) xs → Follows ops index xs → index + length xs ≤ suc (state.share n).place → ((state.share n).want ≡ None → index + length xs ≤ (state.share n).place) → Each (IsBegunIn state) xs
  follows-begun index [] mine f short rests = tt
  follows-begun index (x ∷ xs) mine f short rests = (one (nat_lt index (state.share n).place) refl, follows-begun (suc index) xs mine.1 f.1 (omega arith) (λ e. let r = rests e in omega arith))
    where
      is : x.index ≡ index
      is = next-index index (slice_get ops index) x f.0

      one : (c : Bool) → nat_lt index (state.share n).place ≡ c → IsBegunIn state x
      one true e = inl ((λ i. nat_lt (is i) (state.share (mine.0 i)).place) ∙ e)
      one false e =
          let no : (state.share n).place ≤ index = grind (arith, nat_tests) in
          let at : index ≡ (state.share n).place = omega (arith, no) in
          inr (is ∙ at ∙ ap (λ k. (state.share k).place) (sym mine.0), λ none. let r = rests (ap (λ k. (state.share k).want) (sym mine.0) ∙ none) in omega (arith, r, no))

kept-each : (P : Entry → Type 0) (state : State) (xs : List Entry) → Each P xs → Each P (kept_of state xs)
kept-each P state [] each = tt
kept-each P state (x ∷ xs) each = go (is_completed state x) (kept-each P state xs each.1)
  where
    go : (c : Bool) → Each P (kept_of state xs) → Each P (cond c (x ∷ kept_of state xs) (kept_of state xs))
    go true rest = (each.0, rest)
    go false rest = rest

kept-append : (state : State) (xs ys : List Entry) → kept_of state (xs ++ ys) ≡ kept_of state xs ++ kept_of state ys
kept-append state [] ys = refl
kept-append state (x ∷ xs) ys = go (is_completed state x) (kept-append state xs ys)
  where
    go : (c : Bool) → kept_of state (xs ++ ys) ≡ kept_of state xs ++ kept_of state ys → cond c (x ∷ kept_of state (xs ++ ys)) (kept_of state (xs ++ ys)) ≡ cond c (x ∷ kept_of state xs) (kept_of state xs) ++ kept_of state ys
    go true e = ap (λ l. x ∷ l) e
    go false e = e

-- an entry of a list in two pieces stands in the first piece, or has what each of the second has
first-or : (P : Entry → Type 0) (xs ys : List Entry) → Each P ys → (i : ℕ) (e : Entry) → slice_get (xs ++ ys) i ≡ Some e → (i < length xs) ⊎ P e
first-or P [] [] each i e at = absurd (let d : ◌≡◌ {A = Option Entry} None (Some e) = at in cc)
first-or P [] (y ∷ ys) each zero e at = inr (subst P (let d : Some y ≡ Some e = at in cc) each.0)
first-or P [] (y ∷ ys) each (suc i) e at = rest (first-or P [] ys each.1 i e at)
  where
    rest : (i < 0) ⊎ P e → (suc i < 0) ⊎ P e
    rest (inl lt) = absurd (omega arith)
    rest (inr p) = inr p
first-or P (x ∷ xs) ys each zero e at = inl (omega arith)
first-or P (x ∷ xs) ys each (suc i) e at = rest (first-or P xs ys each i e at)
  where
    rest : (i < length xs) ⊎ P e → (suc i < length (x ∷ xs)) ⊎ P e
    rest (inl lt) = inl (omega arith)
    rest (inr p) = inr p

past-or : (P : Entry → Type 0) (xs ys : List Entry) → Each P xs → (i : ℕ) (e : Entry) → slice_get (xs ++ ys) i ≡ Some e → (length xs ≤ i) ⊎ P e
past-or P [] ys each i e at = inl (omega arith)
past-or P (x ∷ xs) ys each zero e at = inr (subst P (let d : Some x ≡ Some e = at in cc) each.0)
past-or P (x ∷ xs) ys each (suc i) e at = rest (past-or P xs ys each.1 i e at)
  where
    rest : (length xs ≤ i) ⊎ P e → (length (x ∷ xs) ≤ suc i) ⊎ P e
    rest (inl le) = inl (omega arith)
    rest (inr p) = inr p

-- what is served stays so
grows : (charge : Charge) (trace : Trace) (past last : Past) (events : List Event) → run_from charge trace past events ≡ Some last → (more : List Entry) × (last.served ≡ past.served ++ more)
grows charge trace past last [] e = ([], let is : past ≡ last = cc in ap (λ p. p.served) (sym is) ∙ sym (append-nil past.served))
grows charge trace past last (event ∷ events) e = go (effect charge trace.sizes (program trace) past.state event) (λ next. grows charge trace next last events) e
  where
    go : (r : Result Done Cause) → ((next : Past) → run_from charge trace next events ≡ Some last → (more : List Entry) × (last.served ≡ next.served ++ more)) →
        and_then r (λ done. run_from charge trace (past_after trace.sizes past done) events) ≡ Some last → (more : List Entry) × (last.served ≡ past.served ++ more)
    go (Err c) rest e = absurd (let d : ◌≡◌ {A = Option Past} None (Some last) = e in cc)
    go (Ok done) rest e =
        let r = rest (past_after trace.sizes past done) e in
        let new : List Entry = entries_of trace.sizes past.state done.node done.out.line done.out.served in
        (new ++ r.0, r.1 ∙ append_assoc past.served new r.0)

run-append : (charge : Charge) (trace : Trace) (past moment last : Past) (first rest : List Event) → run_from charge trace past first ≡ Some moment → run_from charge trace past (first ++ rest) ≡ Some last → run_from charge trace moment rest ≡ Some last
run-append charge trace past moment last [] rest e f = let is : past ≡ moment = cc in subst (λ p. run_from charge trace p rest ≡ Some last) is f
run-append charge trace past moment last (event ∷ events) rest e f = go (effect charge trace.sizes (program trace) past.state event) (λ next. run-append charge trace next moment last events rest) e f
  where
    go : (r : Result Done Cause) → ((next : Past) → run_from charge trace next events ≡ Some moment → run_from charge trace next (events ++ rest) ≡ Some last → run_from charge trace moment rest ≡ Some last) →
        and_then r (λ done. run_from charge trace (past_after trace.sizes past done) events) ≡ Some moment → and_then r (λ done. run_from charge trace (past_after trace.sizes past done) (events ++ rest)) ≡ Some last → run_from charge trace moment rest ≡ Some last
    go (Ok done) on e f = on (past_after trace.sizes past done) e f
    go (Err c) on e f = absurd (let d : ◌≡◌ {A = Option Past} None (Some moment) = e in cc)

module _ (trace : Trace) (moment last : Past) (early : IsSound trace moment) (late : IsSound trace last) (more : List Entry) (is : last.served ≡ moment.served ++ more) where
  abbrev Later : Entry → Type 0
  Later e = (moment.state.share e.node).place ≤ e.index

  early-begun : Each (IsBegunIn moment.state) moment.served
  early-begun = by-node (IsBegunIn moment.state) moment.served (λ n. follows-begun moment.state n (program trace n) 0 (entries_by n moment.served) (of-node n moment.served) (early.ordered n).order (short n (early.ordered n).count) (λ none. let r = (early.ordered n).rests none in omega arith))
    where
      short : (n : ℕ) → (length (entries_by n moment.served) ≡ (moment.state.share n).place) ⊎ (length (entries_by n moment.served) ≡ suc (moment.state.share n).place) → 0 + length (entries_by n moment.served) ≤ suc (moment.state.share n).place
      short n (inl e) = omega arith
      short n (inr e) = omega arith

  late-later : Each Later more
  late-later = by-node Later more (λ n. of (entries_by n more) n (of-node n more) (follows-split (program trace n) 0 (entries_by n moment.served) (entries_by n more) (subst (Follows (program trace n) 0) (ap (entries_by n) is ∙ by-append n moment.served more) (late.ordered n).order)) (long n (early.ordered n).count))
    where
      long : (n : ℕ) → (length (entries_by n moment.served) ≡ (moment.state.share n).place) ⊎ (length (entries_by n moment.served) ≡ suc (moment.state.share n).place) → (moment.state.share n).place ≤ length (entries_by n moment.served)
      long n (inl e) = omega arith
      long n (inr e) = omega arith

      of : (ys : List Entry) (n : ℕ) → Each (λ e. e.node ≡ n) ys → Each (λ e. 0 + length (entries_by n moment.served) ≤ e.index) ys → (moment.state.share n).place ≤ length (entries_by n moment.served) → Each Later ys
      of [] n mine each le = tt
      of (y ∷ ys) n mine each le = (let h = each.0 in let p : (moment.state.share y.node).place ≡ (moment.state.share n).place = ap (λ k. (moment.state.share k).place) mine.0 in omega (arith, h, p, le), of ys n mine.1 each.1 le)

  in-time : (x y : Entry) (i j : ℕ) → is_completed moment.state x ≡ true → (IsBegunIn moment.state y → ⊥) → slice_get (history last) i ≡ Some x → slice_get (history last) j ≡ Some y → i < j
  in-time x y i j done fresh at_x at_y =
      let shares : history last ≡ kept_of last.state moment.served ++ kept_of last.state more = ap (kept_of last.state) is ∙ kept-append last.state moment.served more in
      let a = first-or Later (kept_of last.state moment.served) (kept_of last.state more) (kept-each Later last.state more late-later) i x (ap (λ l. slice_get l i) (sym shares) ∙ at_x) in
      let b = past-or (IsBegunIn moment.state) (kept_of last.state moment.served) (kept_of last.state more) (kept-each (IsBegunIn moment.state) last.state moment.served early-begun) j y (ap (λ l. slice_get l j) (sym shares) ∙ at_y) in
      both (length (kept_of last.state moment.served)) a b
    where
      below : Later x → ⊥
      below le = let lt : x.index < (moment.state.share x.node).place = grind (arith, nat_tests) in omega (arith, lt, le)

      both : (k : ℕ) → (i < k) ⊎ Later x → (k ≤ j) ⊎ IsBegunIn moment.state y → i < j
      both k (inl a) (inl b) = omega arith
      both k (inr a) b = absurd (below a)
      both k (inl a) (inr b) = absurd (fresh b)

not-first : (sizes : Sizes) (y : Entry) → IsBegunIn (start sizes).state y → ⊥
not-first sizes y (inl e) = grind (arith, nat_tests)
not-first sizes y (inr h) = h.1 refl

pub one_history : (charge : Charge) (trace : Trace) (events : List Event) (past : Past) → 0 < trace.sizes.words → run charge trace events ≡ Some past → IsOneHistory charge trace events past
one_history charge trace events past positive e =
    let sound = sound-from charge trace positive (start trace.sizes) past events (sound-start trace) e in
    record {
      legal = legal-history trace past sound;
      order = λ n. subst (Follows (program trace n) 0) (sym (by-kept past.state n past.served)) (first sound n).0;
      count = λ n. ap length (by-kept past.state n past.served) ∙ omega (arith, (first sound n).1);
      time = λ x y i j before.
          let f : List Event = before.first in
          let ran = run-append charge trace (start trace.sizes) before.moment past f before.rest before.ran (ap (run charge trace) (sym before.split) ∙ e) in
          let more = grows charge trace before.moment past before.rest ran in
          in-time trace before.moment past (sound-from charge trace positive (start trace.sizes) before.moment f (sound-start trace) before.ran) sound more.0 more.1 x y i j before.completed (never-begun charge trace (start trace.sizes) before.moment f y before.not_started before.ran (λ h. not-first trace.sizes y h));
    }
  where
    first : IsSound trace past → (n : ℕ) → Follows (program trace n) 0 (kept_of past.state (entries_by n past.served)) × (0 + length (kept_of past.state (entries_by n past.served)) ≡ (past.state.share n).place)
    first sound n = kept-first past.state n (program trace n) 0 (entries_by n past.served) (of-node n past.served) (sound.ordered n).order (omega arith) (counts (sound.ordered n).count)
      where
        counts : (length (entries_by n past.served) ≡ (past.state.share n).place) ⊎ (length (entries_by n past.served) ≡ suc (past.state.share n).place) → (0 + length (entries_by n past.served) ≡ (past.state.share n).place) ⊎ (0 + length (entries_by n past.served) ≡ suc (past.state.share n).place)
        counts (inl e) = inl (omega arith)
        counts (inr e) = inr (omega arith)
