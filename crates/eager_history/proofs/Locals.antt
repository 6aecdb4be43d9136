-- What a node's own processor does keeps what holds of the eager machine: a hit, an operation that is begun, and an eviction. No line is ever called in for a link.
use Rattle.std.proofs.Common.{◌≡◌, ℕ, ◌<◌, Bool, true, false, cond, ◌==◌, ◌&&◌, not, inl, inr, slice_get, refl, arith, ap, sym, ◌∙◌, subst, Option, Some, None, Result, Ok, Err}
use Rattle.std.proofs.lemmas.Bool.Decides.{nat_tests}
use Rattle.line_map.specs.Sizes.{Sizes, home_of, line_of}
use Rattle.op_model.specs.Events.Node.{EvictLine, HitNext, Input, IssueNext, NodeOutcome, ReclaimLine, bind, by_row, departs, evict_line, hit_next, is_outstanding, map_ok, with_next}
use Rattle.op_model.specs.Events.Step.{none_off}
use Rattle.op_model.specs.Lines.{Copy, LineShare, Outcome, is_exclusive, words_of}
use Rattle.op_model.specs.Shares.{Share, Trace, Unlinked, conflicts, copy_of, line_share, program, room_of, share_at, want_on}
use Rattle.op_model.specs.Tables.Processor.{evict, hit, reclaim, serves}
use Rattle.op_model.proofs.Public.{err-ok, free-want, none-on, serves-copy}
use Rattle.line_invariant.specs.Types.{EvictKind, LaneGate}
use Rattle.line_invariant.specs.Line.{share_of}
use Rattle.line_invariant.specs.Rows.{IsDoneRight}
use Rattle.line_invariant.proofs.Public.{away-evict, if-either}
use Rattle.eager_model.specs.Types.{Cause, Op, Want}
use Rattle.eager_model.specs.Ages.{LineAges, ages_begun, ages_left, filled_age}
use Rattle.eager_model.specs.Line.{AgedLine, ages_of}
use Rattle.eager_model.specs.Node.{aged, issue_next, line_ages}
use Rattle.eager_model.specs.Rows.{begin_op}
use Rattle.eager_model.specs.Runs.{Past, past_after}
use Rattle.eager_model.proofs.Public.{any-begin, any-hit, any-idle, any-leave}
use Rattle.one_history.specs.Project.{project}
use Rattle.one_history.specs.Sound.{IsNextOp, answered_of}
use Rattle.one_history.proofs.Public.{IsNextWant, IsQuiet, IsServedIn, begun-next, copy-same, evict-quiet, own-done, own-served, own-want}
use Rattle.one_history.proofs.Public.{hit-away, own-ok, own-row, room-issue}
use Rattle.eager_history.specs.Project.{plain_past, aged_line}
use Rattle.eager_history.specs.Sound.{IsEagerSound}
use Rattle.eager_history.proofs.Elsewhere.{away-begin, away-asks}
use Rattle.eager_history.proofs.OwnRows.{own-sound}

module _ (trace : Trace) (positive : 0 < trace.sizes.words) (past : Past) (sound : IsEagerSound trace past) where
  abbrev sizes : Sizes
  sizes = trace.sizes

  abbrev share : ℕ → Share
  share node = past.state.share node

  abbrev line_at : ℕ → AgedLine
  line_at line = aged_line sizes past (sound.lines line).top line

  -- what a node does keeps what holds
  abbrev pub Keeps : ℕ → Input → Result NodeOutcome Cause → Type 0
  Keeps node input r = (o : NodeOutcome) → r ≡ Ok o → IsEagerSound trace (past_after sizes past (record { node = node; off = none_off; did = aged sizes node (share node) (past.ages.node node) input 0 o }))

  keeps-error : (node : ℕ) (input : Input) (c : Cause) → Keeps node input (Err c)
  keeps-error node input c o e = absurd (err-ok c o e)

  keeps-ok : (node : ℕ) (input : Input) (x : NodeOutcome) → IsEagerSound trace (past_after sizes past (record { node = node; off = none_off; did = aged sizes node (share node) (past.ages.node node) input 0 x })) → Keeps node input (Ok x)
  keeps-ok node input x s o e = let is : x ≡ o = cc in subst (λ y. IsEagerSound trace (past_after sizes past (record { node = node; off = none_off; did = aged sizes node (share node) (past.ages.node node) input 0 y }))) is s

  -- nothing begun, no load served
  none-served : (node line : ℕ) → (share node).want ≡ None → answered_of sizes (plain_past past) line node ≡ false
  unfolding aged_line project
  none-served node line free = any-idle (home_of sizes line) (line_at line) (sound.lines line).good node (none-on sizes (share node).want line free)

  memory-same : (node line : ℕ) → (node == home_of sizes line) ≡ true → (past.ages.node (home_of sizes line)).memory line ≡ (past.ages.node node).memory line
  memory-same node line e = let same : home_of sizes line ≡ node = grind (arith, nat_tests) in ap (λ k. (past.ages.node k).memory line) same

  hit-is : (op : Op) (row : LineShare) (node line : ℕ) → row.want ≡ None → IsNextOp trace node (share node).place line op → (share node).want ≡ None →
      IsServedIn trace (plain_past past) node line (words_of row.copy) (hit op row).served × IsDoneRight (answered_of sizes (plain_past past) line node ≡ true) (hit op row).served (hit op row).done (hit op row).share.want
      × IsNextWant trace node (share node).place line (hit op row).share.want
  unfolding hit
  hit-is op row node line none is free = ((refl, is, inl free, none-served node line free), (none, refl), rw none tt)

  pub keeps-hit : (node : ℕ) (next : Op) → slice_get (program trace node) (share node).place ≡ Some next → (share node).want ≡ None → Keeps node HitNext (hit_next sizes node (share node) next)
  unfolding aged_line project
  keeps-hit node next is free =
      if-either (Keeps node HitNext) (serves next (copy_of (share node) (line_of sizes next.word))) _ _ (λ serve. hits (line_of sizes next.word) next (is, refl) serve) (λ _. keeps-error node HitNext _)
    where
      hits : (line : ℕ) (op : Op) → IsNextOp trace node (share node).place line op → serves op (copy_of (share node) line) ≡ true → Keeps node HitNext (Ok (by_row sizes node (share node) line (hit op (line_share sizes (share node) line))))
      hits line op is serve =
          let none = none-on sizes (share node).want line free in
          let fine = hit-is op (share_at sizes past.state node line) node line none is free in
          let law = any-hit (home_of sizes line) (line_at line) (sound.lines line).good node op serve in
          keeps-ok node HitNext _
          (own-sound trace positive past sound node line _ _ none_off past.state.lane (own-row sizes past.state node line (hit op) (λ apart s h. hit-away op s h)) HitNext 0 (ages_of (line_at line) node) (words_of (copy_of (share node) line))
          refl (memory-same node line) (λ a b class. refl) fine.0 fine.1 fine.2 (inl (λ e n. absurd (serves-copy op (copy_of (share node) line) serve e))) (inl free) sound.paired (λ at q other. refl) law.1 law.0)

  -- the ages after a beginning
  begun-copy : (node line : ℕ) (done : Bool) (copy left : Copy) → (done ≡ true → (node == home_of sizes line) ≡ true) → copy ≡ left → (a b : LineAges) → a.copy ≡ b.copy → ((node == home_of sizes line) ≡ true → a.memory ≡ b.memory) →
      (cond done (record a { copy = filled_age copy a.memory }) a).copy ≡ (cond done (record b { copy = filled_age left b.memory }) b).copy
  begun-copy node line true copy left here same a b copies memory = λ i. filled_age (same i) (memory (here refl) i)
  begun-copy node line false copy left here same a b copies memory = copies

  begun-memory : (done : Bool) (k l : ℕ) (a b : LineAges) → a.memory ≡ b.memory → (cond done (record a { copy = k }) a).memory ≡ (cond done (record b { copy = l }) b).memory
  begun-memory true k l a b e = e
  begun-memory false k l a b e = e

  pub keeps-issue : (node : ℕ) (next : Op) → slice_get (program trace node) (share node).place ≡ Some next → (share node).want ≡ None → Keeps node IssueNext (issue_next sizes node (share node) next)
  unfolding aged_line project
  keeps-issue node next is free =
      if-either (Keeps node IssueNext) (serves next (copy_of (share node) (line_of sizes next.word))) _ _ (λ _. keeps-error node IssueNext _) (λ _.
      (if-either (Keeps node IssueNext) (conflicts sizes (share node) (line_of sizes next.word)) _ _ (λ _. keeps-error node IssueNext _)
      (λ room. begun (line_of sizes next.word) next (is, refl) room (begin_op node (home_of sizes (line_of sizes next.word)) (room_of Unlinked sizes (share node)) next (line_share sizes (share node) (line_of sizes next.word))) refl)))
    where
      begun : (line : ℕ) (op : Op) → IsNextOp trace node (share node).place line op → conflicts sizes (share node) line ≡ false →
          (r : Result Outcome Cause) → begin_op node (home_of sizes line) (room_of Unlinked sizes (share node)) op (line_share sizes (share node) line) ≡ r → Keeps node IssueNext (map_ok (by_row sizes node (share node) line) r)
      begun line op is room (Err c) e = keeps-error node IssueNext c
      begun line op is room (Ok o) e =
          let none = none-on sizes (share node).want line free in
          let same = own-ok sizes past.state node line (begin_op node (home_of sizes line) (room_of Unlinked sizes (share node)) op) (λ apart s h. away-begin node (home_of sizes line) apart s h (room_of Unlinked sizes (share node)) op) o e in
          let x : Outcome = same.0 in
          let law = any-begin (home_of sizes line) (line_at line) (sound.lines line).good node op (room_of Unlinked sizes (share node)) x none same.1 in
          let own_done : o.done ≡ x.done = ap (λ y. y.done) same.2.1 in
          let left : x.share.copy ≡ copy_of (by_row sizes node (share node) line o).share line = sym (copy-same sizes (node == home_of sizes line) line o.done o.share (share node) ∙ ap (λ y. y.share.copy) same.2.1) in
          keeps-ok node IssueNext _
          (own-sound trace positive past sound node line o x none_off past.state.lane same.2 IssueNext 0 (ages_begun x (ages_of (line_at line) node)) (line_at line).line.words
          (begun-copy node line x.done x.share.copy _ (at-home line op x same.1) left (ages_of (line_at line) node) (line_ages (past.ages.node node) line) refl (memory-same node line)
          ∙ ap (λ d. (cond d (record (line_ages (past.ages.node node) line) { copy = filled_age (copy_of (by_row sizes node (share node) line o).share line) ((past.ages.node node).memory line) }) (line_ages (past.ages.node node) line)).copy) (sym own_done))
          (λ home. begun-memory x.done _ _ (ages_of (line_at line) node) (line_ages (past.ages.node node) line) (memory-same node line home)
          ∙ ap (λ d. (cond d (record (line_ages (past.ages.node node) line) { copy = filled_age (copy_of (by_row sizes node (share node) line o).share line) ((past.ages.node node).memory line) }) (line_ages (past.ages.node node) line)).memory) (sym own_done))
          (λ a b class. refl) (own-served trace (plain_past past) node line _ op x.served is free (none-served node line free) law.2) (own-done _ x.served x.done x.share.want law.4) (own-want trace node (share node).place line op x.share.want is law.3)
          (inr (room-issue sizes (share node) line free room)) (inl free) sound.paired (λ at q other. refl) law.1 law.0)
        where
          at-home : (line : ℕ) (op : Op) (x : Outcome) → begin_op node (home_of sizes line) (room_of Unlinked sizes (share node)) op (share_at sizes past.state node line) ≡ Ok x → x.done ≡ true → (node == home_of sizes line) ≡ true
          at-home line op x ok done = go (node == home_of sizes line) refl
            where
              go : (c : Bool) → (node == home_of sizes line) ≡ c → c ≡ true
              go true e = refl
              go false e = let no : true ≡ false = sym done ∙ away-asks node (home_of sizes line) (room_of Unlinked sizes (share node)) op (share_at sizes past.state node line) x e ok in cc

  pub keeps-next : (node : ℕ) (input : Input) (f : Op → Result NodeOutcome Cause) → ((next : Op) → slice_get (program trace node) (share node).place ≡ Some next → (share node).want ≡ None → Keeps node input (f next)) →
      Keeps node input (with_next (share node) (slice_get (program trace node) (share node).place) f)
  keeps-next node input f each = go (slice_get (program trace node) (share node).place) refl
    where
      go : (o : Option Op) → slice_get (program trace node) (share node).place ≡ o → Keeps node input (with_next (share node) o f)
      go None e = keeps-error node input _
      go (Some next) e = if-either (Keeps node input) (is_outstanding (share node).want) _ _ (λ _. keeps-error node input _) (λ free. each next e (free-want (share node).want free))

  -- the ages after an eviction
  left-copy : (c : Bool) (a b : LineAges) → a.copy ≡ b.copy → (cond c (record a { memory = a.copy }) a).copy ≡ (cond c (record b { memory = b.copy }) b).copy
  left-copy true a b e = e
  left-copy false a b e = e

  left-memory : (c : Bool) (a b : LineAges) → a.copy ≡ b.copy → a.memory ≡ b.memory → (cond c (record a { memory = a.copy }) a).memory ≡ (cond c (record b { memory = b.copy }) b).memory
  left-memory true a b e f = e
  left-memory false a b e f = f

  kept-in : (node line : ℕ) (want : Option Want) → want ≡ want_on sizes (share node).want line → IsNextWant trace node (share node).place line want
  kept-in node line None e = tt
  kept-in node line (Some want) e = begun-next trace node (share node).place (share node).want line want.op want.marked (sound.ordered node).begun (sym e)

  pub keeps-evict : (node line : ℕ) (kind : EvictKind) (room : Bool) → Keeps node (EvictLine line kind room) (evict_line sizes node (share node) line kind room)
  unfolding aged_line project
  keeps-evict node line kind room = go (evict node (home_of sizes line) kind (line_share sizes (share node) line)) refl
    where
      go : (r : Result Outcome Cause) → evict node (home_of sizes line) kind (line_share sizes (share node) line) ≡ r →
          Keeps node (EvictLine line kind room) (bind r (λ outcome. cond (departs (node == home_of sizes line) kind && not room) (Err LaneGate) (Ok (by_row sizes node (share node) line outcome))))
      go (Err c) e = keeps-error node _ c
      go (Ok o) e =
          let same = own-ok sizes past.state node line (evict node (home_of sizes line) kind) (λ apart s h. away-evict node (home_of sizes line) apart s h kind) o e in
          let x : Outcome = same.0 in
          let quiet : IsQuiet (share_at sizes past.state node line) o x = evict-quiet (share_at sizes past.state node line) x node (home_of sizes line) kind same.1 in
          if-either (Keeps node (EvictLine line kind room)) (departs (node == home_of sizes line) kind && not room) _ _
          (λ _. keeps-error node _ LaneGate)
          (λ _. keeps-ok node _ _
          (own-sound trace positive past sound node line o x none_off past.state.lane same.2 (EvictLine line kind room) 0 (ages_left (node == home_of sizes line) (share_of (line_at line).line node) (ages_of (line_at line) node)) (line_at line).line.words
          (left-copy ((node == home_of sizes line) && is_exclusive (copy_of (share node) line)) (ages_of (line_at line) node) (line_ages (past.ages.node node) line) refl)
          (λ home. left-memory ((node == home_of sizes line) && is_exclusive (copy_of (share node) line)) (ages_of (line_at line) node) (line_ages (past.ages.node node) line) refl (memory-same node line home))
          (λ a b class. refl) (rw quiet.0 tt) (rw (quiet.0, quiet.2) tt) (kept-in node line x.share.want quiet.1) (inl (λ empty none. (quiet.3 empty, quiet.1 ∙ none))) (inr (λ e. quiet.1 ∙ e)) sound.paired (λ at q other. refl)
          (rw quiet.0 tt) (any-leave (home_of sizes line) (line_at line) (sound.lines line).good node kind x same.1)))

  -- where lists cost no links none is called in
  pub keeps-reclaim : (node line : ℕ) → Keeps node (ReclaimLine line) (map_ok (by_row sizes node (share node) line) (reclaim (room_of Unlinked sizes (share node)) (line_share sizes (share node) line)))
  unfolding reclaim
  keeps-reclaim node line = keeps-error node (ReclaimLine line) _
