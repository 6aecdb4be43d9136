-- A row that keeps what holds of its line keeps what holds of the machine: at its own line the machine after it is that line after
-- it, every other line stays as it was, and what is served is a legal entry at its place in its node's program.
use Rattle.std.proofs.Common.{◌≡◌, ◌≢◌, ℕ, ◌<◌, Bool, true, false, cond, ◌==◌, ◌⊎◌, List, [], ◌∷◌, ◌++◌, refl, arith, ap, sym, ◌∙◌, subst, Option, Some, None}
use Rattle.std.proofs.lemmas.Bool.Decides.{nat_tests}
use Rattle.std.specs.FinMap as fin
use Rattle.line_map.specs.Sizes.{Sizes, home_of, line_of}
use Rattle.op_model.specs.declared.operations.Entry.{Entry}
use Rattle.op_model.specs.declared.operations.Op.{Op}
use Rattle.op_model.specs.declared.state.Want.{Want}
use Rattle.op_model.specs.Flat.{FlatMemory, IsLegalFrom, after_entry, after_from}
use Rattle.op_model.specs.Lines.{For, NoService, Outcome, Own, Service}
use Rattle.op_model.specs.Operations.{Words, entry_of}
use Rattle.op_model.specs.Run.History.{entries_by}
use Rattle.op_model.specs.Run.Runs.{Past, entries_of, entry_for}
use Rattle.op_model.specs.Shares.{Lanes, Trace, put_share, want_on}
use Rattle.op_model.proofs.Public.{eqb-self}
use Rattle.line_invariant.specs.Good.{IsGood}
use Rattle.line_invariant.specs.Line.{after_row, answered_after, words_after}
use Rattle.line_invariant.specs.Rows.{IsDoneRight, IsLoadWanted}
use Rattle.line_invariant.proofs.Public.{after-load, idle-answered}
use Rattle.one_history.specs.Project.{line_words, project, words_at}
use Rattle.one_history.specs.Sound.{IsCached, IsOrdered, IsSound, answered_of}
use Rattle.one_history.proofs.Flat.{entry-here, entry-legal, entry-there}
use Rattle.one_history.proofs.Order.{IsNextWant, begun-next, next-on}
use Rattle.one_history.proofs.Nodes.{IsServedIn, nodes-after, unserved-before}
use Rattle.one_history.proofs.Project.{project-marks, project-other, project-row}
use Rattle.one_history.proofs.Sets.{IsRoomFor, cached-row}
use Rattle.one_history.proofs.Shares.{IsOn, after_row_of}

pub after-append : (flat : FlatMemory) (xs ys : List Entry) → after_from flat (xs ++ ys) ≡ after_from (after_from flat xs) ys
after-append flat [] ys = refl
after-append flat (x ∷ xs) ys = after-append (after_entry flat x) xs ys

pub legal-append : (flat : FlatMemory) (xs ys : List Entry) → IsLegalFrom flat xs → IsLegalFrom (after_from flat xs) ys → IsLegalFrom flat (xs ++ ys)
legal-append flat [] ys h k = k
legal-append flat (x ∷ xs) ys h k = (h.0, legal-append (after_entry flat x) xs ys h.1 k)

-- what a row adds to the history
module _ (size : ℕ) (flat : FlatMemory) (line : ℕ) where
  abbrev Adds : List Entry → Service → Type 0
  Adds entries served = IsLegalFrom flat entries × (words_at size (after_from flat entries) line ≡ words_after served (words_at size flat line)) × ((q : ℕ) → q ≢ line → words_at size (after_from flat entries) q ≡ words_at size flat q)

module _ (trace : Trace) (positive : 0 < trace.sizes.words) (past : Past) (sound : IsSound trace past) (node line : ℕ) where
  abbrev size : ℕ
  size = trace.sizes.words

  abbrev flat : FlatMemory
  flat = after_from fin.empty past.served

  -- the entry of an operation of this line that is served on the line's words
  one-added : (who index : ℕ) (op : Op) (on : Words) → line_of trace.sizes op.word ≡ line → on ≡ words_at size flat line → Adds size flat line (entry_of who index op on ∷ []) (Own op on)
  one-added who index op on here fresh = (
    (entry-legal size flat who index line op on positive here fresh, tt),
    entry-here size flat who index line op on positive here fresh,
    entry-there size flat who index line op on positive here fresh,
  )

  -- the legality of what is added, and the words after it
  added : (served : Service) → IsServedIn trace past node line (line_words trace.sizes past.served line) served → Adds size flat line (entries_of trace.sizes past.state node line served) served
  added NoService well = (tt, refl, λ q other. refl)
  added (Own op on) well = one-added node (past.state.share node).place op on well.1.1 well.0
  added (For other on) well = added-for (want_on trace.sizes (past.state.share other).want line) refl well.1
    where
      added-for : (want : Option Want) → want_on trace.sizes (past.state.share other).want line ≡ want → IsLoadWanted want → Adds size flat line (entry_for other (past.state.share other).place on want) (For other on)
      added-for None e load = absurd load
      added-for (Some want) e load =
          let next = begun-next trace other (past.state.share other).place (past.state.share other).want line want.op want.marked (sound.ordered other).begun e in
          let add = one-added other (past.state.share other).place want.op on next.1 well.0 in
          (add.0, add.1 ∙ after-load want.op (words_at size flat line) load, add.2)

module _ (trace : Trace) (positive : 0 < trace.sizes.words) (past : Past) (sound : IsSound trace past) (node line : ℕ) (outcome : Outcome) (lane : Lanes) where
  abbrev sizes : Sizes
  sizes = trace.sizes

  abbrev next : Past
  next = record { state = after_row_of sizes node line outcome (record past.state { lane = lane }); served = past.served ++ entries_of sizes past.state node line outcome.served }

  pub sound-row :
      IsServedIn trace past node line (line_words sizes past.served line) outcome.served →
      IsDoneRight (answered_of sizes past line node ≡ true) outcome.served outcome.done outcome.share.want →
      IsNextWant trace node (past.state.share node).place line outcome.share.want →
      IsRoomFor sizes (past.state.share node) line outcome.share →
      ((past.state.share node).want ≡ None) ⊎ (want_on sizes (past.state.share node).want line ≡ None → outcome.share.want ≡ None) →
      ((q : ℕ) (words : Words) (marks : ℕ → Bool) → q ≢ line → project sizes (record past.state { lane = lane }) words marks q ≡ project sizes past.state words marks q) →
      IsGood (home_of sizes line) (after_row (home_of sizes line) node outcome (project sizes (record past.state { lane = lane }) (line_words sizes past.served line) (answered_of sizes past line) line)) →
      IsSound trace next
  unfolding project
  sound-row well right begins room fits others good =
      let add = added trace positive past sound node line outcome.served well in
      let append = after-append fin.empty past.served (entries_of sizes past.state node line outcome.served) in
      record {
        cached = λ n. cached n (n == node) refl;
        legal = legal-append fin.empty past.served _ sound.legal add.0;
        ordered = λ n. (fine n).0;
        lines = λ q. line-at q (q == line) refl (ap (λ f. words_at sizes.words f line) append ∙ add.1) (λ other. ap (λ f. words_at sizes.words f q) append ∙ add.2 q other);
      }
    where
      on : IsOn sizes line outcome.share.want
      on = next-on trace node (past.state.share node).place line outcome.share.want begins

      cached : (n : ℕ) (c : Bool) → (n == node) ≡ c → IsCached sizes (cond c (put_share sizes (node == home_of sizes line) line outcome.done outcome.share (past.state.share node)) (past.state.share n))
      cached n true e = cached-row sizes (node == home_of sizes line) line outcome.done outcome.share (past.state.share node) on (sound.cached node) room
      cached n false e = sound.cached n

      words : ℕ → Words
      words q = line_words sizes (past.served ++ entries_of sizes past.state node line outcome.served) q

      idle : outcome.share.want ≡ None → outcome.done ≡ false → answered_of sizes past line node ≡ false
      idle none still = unserved-before trace past node line (line_words sizes past.served line) outcome.served outcome.done outcome.share.want well right still
          (idle-answered (home_of sizes line) _ good node (rw (eqb-self node) none))

      fine : (n : ℕ) → IsOrdered trace n (next.state.share n) (entries_by n next.served) × ((q : ℕ) → q ≢ line → answered_of sizes next q n ≡ answered_of sizes past q n) × (answered_of sizes next line n ≡ answered_after node outcome.served outcome.done (answered_of sizes past line) n)
      fine n = nodes-after trace past sound.ordered node line (node == home_of sizes line) outcome.share (line_words sizes past.served line) outcome.served outcome.done well right begins idle n

      line-at : (q : ℕ) (c : Bool) → (q == line) ≡ c → words line ≡ words_after outcome.served (line_words sizes past.served line) → (q ≢ line → words q ≡ line_words sizes past.served q) →
          IsGood (home_of sizes q) (project sizes next.state (words q) (answered_of sizes next q) q)
      line-at q true e here there =
          let same : line ≡ q = grind (arith, nat_tests) in
          subst (λ k. IsGood (home_of sizes k) (project sizes next.state (words k) (answered_of sizes next k) k)) same
          (subst (IsGood (home_of sizes line)) (sym (project-row sizes (record past.state { lane = lane }) (line_words sizes past.served line) (answered_of sizes past line) node line outcome fits on (words line) (answered_of sizes next line) here (λ n. (fine n).2))) good)
      line-at q false e here there =
          let other : q ≢ line = grind (arith, nat_tests) in
          subst (IsGood (home_of sizes q)) (sym (project-other sizes (record past.state { lane = lane }) (words q) (answered_of sizes next q) node line outcome fits on q other ∙ others q (words q) (answered_of sizes next q) other ∙ ap (λ w. project sizes past.state w (answered_of sizes next q) q) (there other) ∙ project-marks sizes past.state (line_words sizes past.served q) (answered_of sizes next q) (answered_of sizes past q) q (λ n. (fine n).1 q other))) (sound.lines q)
