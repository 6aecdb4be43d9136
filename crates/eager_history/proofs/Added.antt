-- A line's history after one more operation is served: a load on the words of its age, or a write of the greatest age on the newest words. It stays legal, and has each node's operations in their order.
use Rattle.std.proofs.Common.{◌≡◌, ◌≢◌, ℕ, ◌≤◌, ◌<◌, Bool, true, false, cond, ◌==◌, nat_lt, List, [], ◌∷◌, ◌++◌, append-nil, refl, arith, ap, sym, ◌∙◌, subst}
use Rattle.std.proofs.lemmas.Bool.Decides.{nat_tests}
use Rattle.std.proofs.lemmas.List.{map-append}
use Rattle.std.proofs.lemmas.List.Elements.{filter-append}
use Rattle.std.specs.FinMap as fin
use Rattle.line_map.specs.Sizes.{Sizes, line_of}
use Rattle.op_model.specs.Events.Step.{put_at}
use Rattle.op_model.specs.Flat.{FlatMemory, IsLegalFrom, after_from}
use Rattle.op_model.specs.Lines.{Service, NoService, Own, For}
use Rattle.op_model.specs.Operations.{Words, entry_of, is_load, after_op}
use Rattle.op_model.specs.Run.History.{entries_by}
use Rattle.op_model.specs.Shares.{Trace}
use Rattle.line_invariant.specs.Line.{words_after}
use Rattle.line_invariant.proofs.Public.{after-load}
use Rattle.eager_model.specs.Types.{Op}
use Rattle.eager_model.specs.Runs.{AgedEntry}
use Rattle.eager_model.specs.History.{put_by_age, in_age_order}
use Rattle.eager_model.specs.Line.{last_after}
use Rattle.one_history.specs.Project.{words_at, line_words}
use Rattle.one_history.proofs.Public.{after-append, by-append, entry-here, entry-legal, legal-append}
use Rattle.eager_history.specs.Project.{plain, served_on, history_on, up_to, words_up_to, last_age}
use Rattle.eager_history.specs.Sound.{IsPastOf}
use Rattle.eager_history.proofs.InOrder as sorted

-- the words of a line after these entries
abbrev pub words_of : Sizes → ℕ → List AgedEntry → Words
words_of sizes line entries = line_words sizes (plain entries) line

-- what a row that serves this at a node, at this age, makes of a line's history, where the greatest age is then this
pub record IsAdded (trace : Trace) (served : List AgedEntry) (line top me age : ℕ) (service : Service) (now : List AgedEntry) : Type 0 where
  pub past : IsPastOf trace now line top
  pub words : words_of trace.sizes line (history_on trace.sizes line now) ≡ words_after service (words_of trace.sizes line (history_on trace.sizes line served))
  pub words_at : (at : ℕ) → words_up_to trace.sizes now line at ≡ cond (nat_lt at top) (words_up_to trace.sizes served line at) (words_after service (words_of trace.sizes line (history_on trace.sizes line served)))
  pub last : (node : ℕ) → last_age node 0 (served_on trace.sizes line now) ≡ last_after me service age (λ n. last_age n 0 (served_on trace.sizes line served)) node
  pub others : (q : ℕ) → q ≢ line → served_on trace.sizes q now ≡ served_on trace.sizes q served

-- the greatest age may rise
pub past-up : (trace : Trace) (served : List AgedEntry) (line top next : ℕ) → top ≤ next → IsPastOf trace served line top → IsPastOf trace served line next
past-up trace served line top next le past = record { legal = past.legal; within = sorted.each-map (λ x. x.age ≤ top) (λ x. x.age ≤ next) _ (λ x below. omega (arith, below, le)) past.within; last = past.last; order = past.order }

module _ (trace : Trace) (served : List AgedEntry) (line top next : ℕ) (le : top ≤ next) (past : IsPastOf trace served line top) where
  abbrev sizes : Sizes
  sizes = trace.sizes

  abbrev history : List AgedEntry
  history = history_on sizes line served

  -- all is as old as the greatest age
  all-words : (at : ℕ) → top ≤ at → words_up_to sizes served line at ≡ words_of sizes line history
  all-words at up = ap (words_of sizes line) (sorted.up-to-all at history (sorted.each-map (λ x. x.age ≤ top) (λ x. x.age ≤ at) history (λ x below. omega (arith, below, up)) past.within))

  at-ages : (new : Words) → ((at : ℕ) → next ≤ at → new ≡ words_of sizes line history) → (at : ℕ) → words_up_to sizes served line at ≡ cond (nat_lt at next) (words_up_to sizes served line at) new
  at-ages new same at = go (nat_lt at next) refl
    where
      go : (c : Bool) → nat_lt at next ≡ c → words_up_to sizes served line at ≡ cond c (words_up_to sizes served line at) new
      go true e = refl
      go false e = let up : next ≤ at = grind (arith, nat_tests) in all-words at (omega (arith, up, le)) ∙ sym (same at up)

  pub none-added : (me age : ℕ) → IsAdded trace served line next me age NoService served
  none-added me age =
      record {
        past = past-up trace served line top next le past;
        words = refl;
        words_at = at-ages (words_of sizes line history) (λ at up. refl);
        last = λ node. refl;
        others = λ q other. refl;
      }

  module _ (who index : ℕ) (op : Op) (on : Words) (age : ℕ) (here : line_of sizes op.word ≡ line) (since : last_age who 0 (served_on sizes line served) ≤ age) (positive : 0 < trace.sizes.words) where
    abbrev new : AgedEntry
    new = record { age = age; entry = entry_of who index op on }

    more-served : served_on sizes line (served ++ new ∷ []) ≡ served_on sizes line served ++ new ∷ []
    more-served = filter-append (λ aged. line_of sizes aged.entry.word == line) served (new ∷ []) ∙ ap (λ c. served_on sizes line served ++ cond c (new ∷ []) []) (same (line_of sizes op.word) here)
      where
        same : (at : ℕ) → at ≡ line → (at == line) ≡ true
        same at e = grind (arith, nat_tests)

    other-served : (q : ℕ) → q ≢ line → served_on sizes q (served ++ new ∷ []) ≡ served_on sizes q served
    other-served q other = filter-append (λ aged. line_of sizes aged.entry.word == q) served (new ∷ []) ∙ ap (λ c. served_on sizes q served ++ cond c (new ∷ []) []) (apart (line_of sizes op.word) here) ∙ append-nil _
      where
        apart : (at : ℕ) → at ≡ line → (at == q) ≡ false
        apart at e = grind (arith, nat_tests)

    is-put : history_on sizes line (served ++ new ∷ []) ≡ put_by_age new history
    is-put = ap in_age_order more-served ∙ sorted.order-append (served_on sizes line served) new

    last-now : (node : ℕ) → last_age node 0 (served_on sizes line (served ++ new ∷ [])) ≡ cond (who == node) age (last_age node 0 (served_on sizes line served))
    last-now node = ap (last_age node 0) more-served ∙ sorted.last-append node 0 (served_on sizes line served) new

    -- what holds of the history with the entry in its place
    placed : age ≤ next → IsLegalFrom fin.empty (plain (put_by_age new history)) → IsPastOf trace (served ++ new ∷ []) line next
    placed below legal =
        record {
          legal = rw is-put legal;
          within = rw is-put (sorted.each-put (λ x. x.age ≤ next) new history below (sorted.each-map (λ x. x.age ≤ top) (λ x. x.age ≤ next) history (λ x under. omega (arith, under, le)) past.within));
          last = rw is-put (sorted.each-put Under new history mine (sorted.each-map (λ x. x.age ≤ last_age x.entry.node 0 (served_on sizes line served)) Under history (λ x under. theirs x under) past.last));
          order = λ node. by-node node;
        }
      where
        Under : AgedEntry → Type 0
        Under x = x.age ≤ last_age x.entry.node 0 (served_on sizes line (served ++ new ∷ []))

        mine : Under new
        mine = let e = last-now who in let t : (who == who) ≡ true = grind (arith, nat_tests) in rw (e, t) (omega arith)

        theirs : (x : AgedEntry) → x.age ≤ last_age x.entry.node 0 (served_on sizes line served) → Under x
        theirs x under = rw (last-now x.entry.node) (go (who == x.entry.node) refl)
          where
            go : (c : Bool) → (who == x.entry.node) ≡ c → x.age ≤ cond c age (last_age x.entry.node 0 (served_on sizes line served))
            go true e = let is : x.entry.node ≡ who = grind (arith, nat_tests) in let s : x.age ≤ last_age who 0 (served_on sizes line served) = rw is at under in omega (arith, s, since)
            go false e = under

        by-node : (node : ℕ) → entries_by node (plain (history_on sizes line (served ++ new ∷ []))) ≡ entries_by node (plain (served_on sizes line (served ++ new ∷ [])))
        by-node node =
            ap (λ h. entries_by node (plain h)) is-put
            ∙ sorted.by-put node new history (sorted.in-order (served_on sizes line served)) (λ is. sorted.each-map (λ x. x.age ≤ last_age x.entry.node 0 (served_on sizes line served)) (λ x. x.entry.node ≡ node → x.age ≤ age) history (λ x under same. let s : x.age ≤ last_age who 0 (served_on sizes line served) = rw (same ∙ sym is) at under in omega (arith, s, since)) past.last)
            ∙ ap (λ es. es ++ cond (who == node) (new.entry ∷ []) []) (past.order node)
            ∙ sym (ap (λ h. entries_by node (plain h)) more-served ∙ ap (entries_by node) (map-append (λ aged. aged.entry) (served_on sizes line served) (new ∷ [])) ∙ by-append node (plain (served_on sizes line served)) (new.entry ∷ []))

    turned : (node : ℕ) → cond (who == node) age (last_age node 0 (served_on sizes line served)) ≡ put_at (λ n. last_age n 0 (served_on sizes line served)) who age node
    turned node = go (who == node) (node == who) refl refl
      where
        go : (c d : Bool) → (who == node) ≡ c → (node == who) ≡ d → cond c age (last_age node 0 (served_on sizes line served)) ≡ cond d age (last_age node 0 (served_on sizes line served))
        go true true e f = refl
        go false false e f = refl
        go true false e f = absurd (grind (arith, nat_tests))
        go false true e f = absurd (grind (arith, nat_tests))

    -- a load reads the words of its age
    module _ (load : is_load op.kind ≡ true) (below : age ≤ top) (fresh : on ≡ words_up_to sizes served line age) where
      load-past : IsPastOf trace (served ++ new ∷ []) line next
      load-past = placed (omega (arith, below, le)) (sorted.legal-load new load fin.empty history past.legal (entry-legal sizes.words (after_from fin.empty (plain (up_to age history))) who index line op on positive here fresh))

      load-words : words_of sizes line (history_on sizes line (served ++ new ∷ [])) ≡ words_of sizes line history
      load-words = ap (words_of sizes line) is-put ∙ ap (λ flat. words_at sizes.words flat line) (sorted.after-load new load fin.empty history)

      load-ages : (at : ℕ) → words_up_to sizes (served ++ new ∷ []) line at ≡ words_up_to sizes served line at
      load-ages at = ap (λ h. words_of sizes line (up_to at h)) is-put ∙ go (nat_lt at age) refl
        where
          go : (c : Bool) → nat_lt at age ≡ c → words_of sizes line (up_to at (put_by_age new history)) ≡ words_up_to sizes served line at
          go true e = ap (words_of sizes line) (sorted.up-to-older at new history (grind (arith, nat_tests)))
          go false e = ap (λ flat. words_at sizes.words flat line) (sorted.after-load-up-to new load at (grind (arith, nat_tests)) fin.empty history)

      pub load-added : IsAdded trace served line next who age (Own op on) (served ++ new ∷ [])
      load-added =
          let same = after-load op (words_of sizes line history) load in
          record {
            past = load-past;
            words = load-words ∙ sym same;
            words_at = λ at. load-ages at ∙ at-ages (after_op op (words_of sizes line history)) (λ at up. same) at;
            last = λ node. last-now node ∙ turned node;
            others = other-served;
          }

      pub for-added : (me : ℕ) → IsAdded trace served line next me age (For who on) (served ++ new ∷ [])
      for-added me =
          record {
            past = load-past;
            words = load-words;
            words_at = λ at. load-ages at ∙ at-ages (words_of sizes line history) (λ at up. refl) at;
            last = λ node. last-now node ∙ turned node;
            others = other-served;
          }

    -- a write of the greatest age goes to the end
    module _ (write : is_load op.kind ≡ false) (newest : age ≡ next) (fresh : on ≡ words_of sizes line history) where
      to-end : put_by_age new history ≡ history ++ new ∷ []
      to-end = sorted.put-last new history (sorted.each-map (λ x. x.age ≤ top) (λ x. x.age ≤ age) history (λ x under. omega (arith, under, le, newest)) past.within)

      plain-end : plain (put_by_age new history) ≡ plain history ++ new.entry ∷ []
      plain-end = ap plain to-end ∙ map-append (λ aged. aged.entry) history (new ∷ [])

      abbrev flat : FlatMemory
      flat = after_from fin.empty (plain history)

      write-past : IsPastOf trace (served ++ new ∷ []) line next
      write-past = placed (omega (arith, newest)) (subst (IsLegalFrom fin.empty) (sym plain-end) (legal-append fin.empty (plain history) (new.entry ∷ []) past.legal (entry-legal sizes.words flat who index line op on positive here fresh, tt)))

      write-words : words_of sizes line (history_on sizes line (served ++ new ∷ [])) ≡ after_op op (words_of sizes line history)
      write-words =
          ap (words_of sizes line) is-put
          ∙ ap (λ es. words_at sizes.words (after_from fin.empty es) line) plain-end
          ∙ ap (λ f. words_at sizes.words f line) (after-append fin.empty (plain history) (new.entry ∷ []))
          ∙ entry-here sizes.words flat who index line op on positive here fresh

      pub write-added : IsAdded trace served line next who age (Own op on) (served ++ new ∷ [])
      write-added =
          record {
            past = write-past;
            words = write-words;
            words_at = λ at. ages at (nat_lt at next) refl;
            last = λ node. last-now node ∙ turned node;
            others = other-served;
          }
        where
          ages : (at : ℕ) (c : Bool) → nat_lt at next ≡ c → words_up_to sizes (served ++ new ∷ []) line at ≡ cond c (words_up_to sizes served line at) (after_op op (words_of sizes line history))
          ages at true e = ap (λ h. words_of sizes line (up_to at h)) is-put ∙ ap (words_of sizes line) (sorted.up-to-older at new history (let lt : at < next = grind (arith, nat_tests) in omega (arith, lt, newest)))
          ages at false e =
              let up : next ≤ at = grind (arith, nat_tests) in
              ap (words_of sizes line) (sorted.up-to-all at (history_on sizes line (served ++ new ∷ [])) (sorted.each-map (λ x. x.age ≤ next) (λ x. x.age ≤ at) _ (λ x under. omega (arith, under, up)) write-past.within)) ∙ write-words
