-- Why the next operation isn't begun, and how a line makes way for it.
use Rattle.std.proofs.Common.{⊎_elim, ◌≡◌, ℕ, Bool, true, false, cond, not, ◌&&◌, ◌==◌, refl, sym, ap, ◌∙◌, subst, arith, Option, Some, None, Result, Ok, Err}
use Rattle.std.specs.Prelude.{slice_get, is_some, is_ok, IsOk}
use Rattle.std.proofs.lemmas.Bool.Decides.{nat_tests}
use Rattle.line_map.specs.Sizes.{line_of, home_of}
use Rattle.op_model.specs.declared.operations.Op.{Op}
use Rattle.op_model.specs.declared.state.Want.{Want}
use Rattle.op_model.specs.declared.events.Cause.{Cause}
use Rattle.op_model.specs.declared.events.Cause.TheVariants.{NoOp, Outstanding, Miss, HitFirst, Conflict, HeldPending, HeldBudget, NoCopy, WrongKind, LaneGate, LaneEmpty, VictimMissing, VictimUnasked, VictimUnfit, NoLinks, LinePending, BudgetFull}
use Rattle.op_model.specs.declared.events.EvictKind.{EvictKind}
use Rattle.op_model.specs.declared.events.EvictKind.TheVariants.{Wb, Hint, Silent}
use Rattle.op_model.specs.Lines.{Copy, Absent, Shared, Exclusive, LineShare, Room, state_of, is_pending, nobody_listed}
use Rattle.op_model.specs.Operations.{is_load}
use Rattle.op_model.specs.Tables.Processor.{serves, fits, evict, begin_op, begin_at_home, ask}
use Rattle.op_model.specs.Shares.{Share, conflicts, copy_of, line_share, room_of}
use Rattle.op_model.specs.Events.Node.{NodeOutcome, HitNext, IssueNext, EvictLine, local, map_ok, bind, by_row, departs, hit_next, issue_next, is_outstanding, with_next, permit}
use Rattle.op_model.specs.OwnPart.{IsOutstanding}
use Rattle.op_model.proofs.Public.{eqb-swap}
use Rattle.node_box.specs.declared.turns.Turn.{Turn}
use Rattle.node_box.specs.declared.turns.Turn.TheVariants as Turns
use Rattle.node_box.specs.declared.turns.HeldCause.TheVariants as Causes
use Rattle.node_box.specs.declared.turns.Turn.TheVariants.{Did, Idle, Waiting, NoSpace, Ended, Memory}
use Rattle.node_box.specs.Boxes.{LinkedNode, BoxView, outcome_at}
use Rattle.node_box.specs.Processing.{leaving, held_for, holds_back, is_ended, is_waiting, Processes, IsReason, HasReason}

-- an operation that is next, and another line in its set
pub record IsInConflict (node : LinkedNode) : Type 0 where
  pub op : Op
  pub next : slice_get node.program node.share.place ≡ Some op
  pub taken : conflicts node.sizes node.share (line_of node.sizes op.word) ≡ true

-- what a refusal of the next operation tells
abbrev pub Tells : {A : Type 0} → LinkedNode → Result A Cause → Type 0
Tells node (Ok out) = Unit {0}
Tells node (Err NoOp) = slice_get node.program node.share.place ≡ None
Tells node (Err Outstanding) = is_outstanding node.share.want ≡ true
Tells node (Err HeldPending) = Unit {0}
Tells node (Err HeldBudget) = Unit {0}
Tells node (Err Conflict) = IsInConflict node
Tells node (Err HitFirst) = is_ok (outcome_at node HitNext) ≡ true
Tells node (Err _) = ⊥

abbrev IsHeld : {A : Type 0} → Result A Cause → Type 0
IsHeld (Ok out) = Unit {0}
IsHeld (Err HeldPending) = Unit {0}
IsHeld (Err HeldBudget) = Unit {0}
IsHeld (Err _) = ⊥

if_held : {A : Type 0} (b : Bool) (x y : Result A Cause) → IsHeld x → IsHeld y → IsHeld (cond b x y)
if_held true x y h k = h
if_held false x y h k = k

held_at_home : (home : ℕ) (room : Room) (op : Op) (share : LineShare) → IsHeld (begin_at_home home room op share)
unfolding begin_at_home
held_at_home home room op share =
    if_held (is_pending share.header) _ _ tt (if_held (not share.header.dirty && is_load op.kind) _ _ tt (if_held (not share.header.dirty && nobody_listed share.header.list) _ _ tt
    (if_held room.full _ _ tt (if_held (not share.header.dirty) _ _ tt (if_held (is_load op.kind) _ _ tt tt)))))

held_begun : (me home : ℕ) (room : Room) (op : Op) (share : LineShare) → serves op share.copy ≡ false → IsHeld (begin_op me home room op share)
unfolding begin_op
held_begun me home room op share miss = go (serves op share.copy) miss
  where
    go : (b : Bool) → b ≡ false → IsHeld (cond b (Err HitFirst) (cond (me == home) (begin_at_home home room op share) (Ok (ask home op share))))
    go true is = absurd (cc)
    go false is = if_held (me == home) _ _ (held_at_home home room op share) tt

held_tells : {A : Type 0} (node : LinkedNode) (f : A → NodeOutcome) (r : Result A Cause) → IsHeld r → Tells node (map_ok f r)
held_tells node f (Ok out) h = tt
held_tells node f (Err HeldPending) h = tt
held_tells node f (Err HeldBudget) h = tt
held_tells node f (Err NoOp) h = absurd h
held_tells node f (Err Outstanding) h = absurd h
held_tells node f (Err Miss) h = absurd h
held_tells node f (Err HitFirst) h = absurd h
held_tells node f (Err Conflict) h = absurd h
held_tells node f (Err NoCopy) h = absurd h
held_tells node f (Err WrongKind) h = absurd h
held_tells node f (Err LaneGate) h = absurd h
held_tells node f (Err LaneEmpty) h = absurd h
held_tells node f (Err VictimMissing) h = absurd h
held_tells node f (Err VictimUnasked) h = absurd h
held_tells node f (Err VictimUnfit) h = absurd h
held_tells node f (Err NoLinks) h = absurd h
held_tells node f (Err LinePending) h = absurd h
held_tells node f (Err BudgetFull) h = absurd h

module _ (node : LinkedNode) where
  hits : (op : Op) → slice_get node.program node.share.place ≡ Some op → is_outstanding node.share.want ≡ false → serves op (copy_of node.share (line_of node.sizes op.word)) ≡ true → is_ok (outcome_at node HitNext) ≡ true
  unfolding local
  hits op next free serve = ap (λ o. is_ok (with_next node.share o (hit_next node.sizes node.number node.share))) next ∙ go (is_outstanding node.share.want) _ _ free serve
    where
      go : (a b : Bool) (x : NodeOutcome) → a ≡ false → b ≡ true → let r : Result NodeOutcome Cause = cond a (Err Outstanding) (cond b (Ok x) (Err Miss)) in is_ok r ≡ true
      go false true x free serve = refl
      go true b x free serve = absurd (cc)
      go false false x free serve = absurd (cc)

  issue_tells : (op : Op) → slice_get node.program node.share.place ≡ Some op → is_outstanding node.share.want ≡ false → (b c : Bool) → serves op (copy_of node.share (line_of node.sizes op.word)) ≡ b → conflicts node.sizes node.share (line_of node.sizes op.word) ≡ c
      → Tells node (cond b (Err HitFirst) (cond c (Err Conflict) (map_ok (by_row node.sizes node.number node.share (line_of node.sizes op.word)) (begin_op node.number (home_of node.sizes (line_of node.sizes op.word)) (room_of node.charge node.sizes node.share) op (line_share node.sizes node.share (line_of node.sizes op.word))))))
  issue_tells op next free true c serve taken = hits op next free serve
  issue_tells op next free false true serve taken = record { op = op; next = next; taken = taken }
  issue_tells op next free false false serve taken = held_tells node _ _ (held_begun node.number _ _ op _ serve)

  pub tells : Tells node (outcome_at node IssueNext)
  unfolding local
  tells = go (slice_get node.program node.share.place) refl
    where
      wait : (op : Op) → slice_get node.program node.share.place ≡ Some op → (b : Bool) → is_outstanding node.share.want ≡ b → Tells node (cond b (Err Outstanding) (issue_next node.charge node.sizes node.number node.share op))
      wait op next true is = is
      wait op next false is = issue_tells op next is _ _ refl refl

      go : (o : Option Op) → slice_get node.program node.share.place ≡ o → Tells node (with_next node.share o (issue_next node.charge node.sizes node.number node.share))
      go None next = next
      go (Some op) next = wait op next (is_outstanding node.share.want) refl

  pub in_conflict : outcome_at node IssueNext ≡ Err Conflict → IsInConflict node
  in_conflict is = subst (Tells node) is tells

-- an operation is next, and none is outstanding, where neither refuses
free_next : (share : Share) (o : Option Op) (f : Op → Result NodeOutcome Cause) → (with_next share o f ≡ Err NoOp → ⊥) → (with_next share o f ≡ Err Outstanding → ⊥) → (is_some o ≡ true) × (is_outstanding share.want ≡ false)
free_next share None f a b = absurd (a refl)
free_next share (Some op) f a b = (refl, go (is_outstanding share.want) b)
  where
    go : (c : Bool) → (cond c (Err Outstanding) (f op) ≡ Err Outstanding → ⊥) → c ≡ false
    go true b = absurd (b refl)
    go false b = refl

IsFree : LinkedNode → Type 0
IsFree node = (is_some (slice_get node.program node.share.place) ≡ true) × (is_outstanding node.share.want ≡ false)

free_hit : (node : LinkedNode) (out : NodeOutcome) → outcome_at node HitNext ≡ Ok out → IsFree node
unfolding local IsFree
free_hit node out is =
    free_next node.share (slice_get node.program node.share.place) (hit_next node.sizes node.number node.share)
    (λ e. let x : ◌≡◌ {A = Result NodeOutcome Cause} (Ok out) (Err NoOp) = sym is ∙ e in cc) (λ e. let x : ◌≡◌ {A = Result NodeOutcome Cause} (Ok out) (Err Outstanding) = sym is ∙ e in cc)

free_issue : (node : LinkedNode) (r : Result NodeOutcome Cause) → outcome_at node IssueNext ≡ r → (r ≡ Err NoOp → ⊥) → (r ≡ Err Outstanding → ⊥) → IsFree node
unfolding local IsFree
free_issue node r is a b =
    free_next node.share (slice_get node.program node.share.place) (issue_next node.charge node.sizes node.number node.share) (λ e. a (sym is ∙ e)) (λ e. b (sym is ∙ e))

free_refused : (node : LinkedNode) (cause : Cause) → outcome_at node IssueNext ≡ Err cause → (cause ≡ NoOp → ⊥) → (cause ≡ Outstanding → ⊥) → IsFree node
free_refused node cause is a b =
    free_issue node (Err cause) is (λ e. a (inner cause NoOp e)) (λ e. b (inner cause Outstanding e))
  where
    inner : (x y : Cause) → ◌≡◌ {A = Result NodeOutcome Cause} (Err x) (Err y) → x ≡ y
    inner x y e = cc

free_issued : (node : LinkedNode) (out : NodeOutcome) → outcome_at node IssueNext ≡ Ok out → IsFree node
free_issued node out is = free_issue node (Ok out) is (λ e. cc) (λ e. cc)

-- what is outstanding is the operation that is next
own_next : (node : LinkedNode) (o : Option Want) → node.share.want ≡ o → IsOutstanding node.sizes node.number node.program node.share o → is_outstanding o ≡ true → is_some (slice_get node.program node.share.place) ≡ true
own_next node None is own out = absurd (cc)
own_next node (Some want) is own out = ap is_some own.0

-- where the program is done nothing is outstanding
none_left : (node : LinkedNode) → IsOutstanding node.sizes node.number node.program node.share node.share.want → slice_get node.program node.share.place ≡ None → is_outstanding node.share.want ≡ false
none_left node own none = go (is_outstanding node.share.want) refl
  where
    go : (b : Bool) → is_outstanding node.share.want ≡ b → b ≡ false
    go true out = absurd (let some : false ≡ true = ap is_some (sym none) ∙ own_next node node.share.want refl own out in cc)
    go false out = refl

-- where an operation is outstanding, one is next
some_left : (share : Share) (o : Option Op) (f : Op → Result NodeOutcome Cause) → with_next share o f ≡ Err Outstanding → is_some o ≡ true
some_left share None f is = absurd (let e : ◌≡◌ {A = Result NodeOutcome Cause} (Err NoOp) (Err Outstanding) = is in cc)
some_left share (Some op) f is = refl

-- what is done on the cache's copy isn't begun
hit_first : (node : LinkedNode) (out : NodeOutcome) → outcome_at node HitNext ≡ Ok out → outcome_at node IssueNext ≡ Err HitFirst
unfolding local
hit_first node out is = go (slice_get node.program node.share.place) is
  where
    serve : (op : Op) (b : Bool) (x : NodeOutcome) (y : Result NodeOutcome Cause) → ◌≡◌ {A = Result NodeOutcome Cause} (cond b (Ok x) (Err Miss)) (Ok out) → cond b (Err HitFirst) y ≡ Err HitFirst
    serve op true x y e = refl
    serve op false x y e = absurd (cc)

    wait : (op : Op) (b : Bool) → cond b (Err Outstanding) (hit_next node.sizes node.number node.share op) ≡ Ok out → cond b (Err Outstanding) (issue_next node.charge node.sizes node.number node.share op) ≡ Err HitFirst
    wait op true e = absurd (cc)
    wait op false e = serve op (serves op (copy_of node.share (line_of node.sizes op.word))) _ _ e

    go : (o : Option Op) → with_next node.share o (hit_next node.sizes node.number node.share) ≡ Ok out → with_next node.share o (issue_next node.charge node.sizes node.number node.share) ≡ Err HitFirst
    go None e = absurd (let d : ◌≡◌ {A = Result NodeOutcome Cause} (Err NoOp) (Ok out) = e in cc)
    go (Some op) e = wait op (is_outstanding node.share.want) e

-- a reason where an operation is next and none is outstanding
free_reason : (turn : Turn) (node : LinkedNode) (r : Result NodeOutcome Cause) → IsFree node → is_ended turn ≡ false → is_waiting turn ≡ false → outcome_at node IssueNext ≡ r → held_for turn ≡ holds_back r → IsReason turn node
unfolding IsFree
free_reason turn node r free ended waiting is held =
    record { ended = ended ∙ ap not (sym free.0); waiting = waiting ∙ sym free.1; held = held ∙ ap holds_back (sym is) }

-- the reason that a turn answers
pub reason : (turn : Turn) (old new : BoxView) → IsOutstanding old.node.sizes old.node.number old.node.program old.node.share old.node.share.want → Processes turn old new → HasReason turn old.node
unfolding local
reason Ended old new own h =
    let none : Tells {A = NodeOutcome} old.node (Err NoOp) = subst (Tells old.node) h.0 (tells old.node) in
    record { ended = ap (λ o. not (is_some o)) (sym none); waiting = sym (none_left old.node own none); held = ap holds_back (sym h.0) }
reason Waiting old new own h =
    let out : Tells {A = NodeOutcome} old.node (Err Outstanding) = subst (Tells old.node) h.0 (tells old.node) in
    let some = some_left old.node.share (slice_get old.node.program old.node.share.place) (issue_next old.node.charge old.node.sizes old.node.number old.node.share) h.0 in
    record { ended = ap not (sym some); waiting = sym out; held = ap holds_back (sym h.0) }
reason (Did ticket) old new own h =
    ⊎_elim (λ acts. free_reason (Did ticket) old.node (Err HitFirst) (free_hit old.node acts.out acts.does) refl refl (hit_first old.node acts.out acts.does) refl)
    (λ rest. ⊎_elim (λ way. free_reason (Did ticket) old.node (Err Conflict) (free_refused old.node Conflict way.conflict (λ e. cc) (λ e. cc)) refl refl way.conflict refl)
    (λ acts. free_reason (Did ticket) old.node (Ok acts.out) (free_issued old.node acts.out acts.does) refl refl acts.does refl) rest) h
reason Idle old new own h = absurd h
reason (Turns.Held Causes.Pending) old new own h = free_reason (Turns.Held Causes.Pending) old.node (Err HeldPending) (free_refused old.node HeldPending h.0 (λ e. cc) (λ e. cc)) refl refl h.0 refl
reason (Turns.Held Causes.Budget) old new own h = free_reason (Turns.Held Causes.Budget) old.node (Err HeldBudget) (free_refused old.node HeldBudget h.0 (λ e. cc) (λ e. cc)) refl refl h.0 refl
reason NoSpace old new own h = free_reason NoSpace old.node (Err Conflict) (free_refused old.node Conflict h.conflict (λ e. cc) (λ e. cc)) refl refl h.conflict refl
reason Memory old new own h = tt

-- no other cause refuses an operation that isn't done on the cache's copy
pub only_these : (node : LinkedNode) (cause : Cause) → Tells {A = NodeOutcome} node (Err cause) → is_ok (outcome_at node HitNext) ≡ false → (cause ≡ NoOp → ⊥) → (cause ≡ Outstanding → ⊥) → (cause ≡ HeldPending → ⊥) → (cause ≡ HeldBudget → ⊥) → (cause ≡ Conflict → ⊥) → ⊥
only_these node NoOp t miss a b c d e = a refl
only_these node Outstanding t miss a b c d e = b refl
only_these node HeldPending t miss a b c d e = c refl
only_these node HeldBudget t miss a b c d e = d refl
only_these node Conflict t miss a b c d e = e refl
only_these node HitFirst t miss a b c d e = absurd (let both : true ≡ false = sym t ∙ miss in cc)
only_these node Miss t miss a b c d e = t
only_these node NoCopy t miss a b c d e = t
only_these node WrongKind t miss a b c d e = t
only_these node LaneGate t miss a b c d e = t
only_these node LaneEmpty t miss a b c d e = t
only_these node VictimMissing t miss a b c d e = t
only_these node VictimUnasked t miss a b c d e = t
only_these node VictimUnfit t miss a b c d e = t
only_these node NoLinks t miss a b c d e = t
only_these node LinePending t miss a b c d e = t
only_these node BudgetFull t miss a b c d e = t

pub refused : (r : Result NodeOutcome Cause) (cause : Cause) → permit r ≡ Err cause → r ≡ Err cause
refused (Ok out) cause is = absurd (cc)
refused (Err other) cause is = let same : other ≡ cause = cc in ap (λ x. Err x) same

-- a kind by which a copy leaves fits it, and where its message has no room it has none
pub leaving_fits : (at_home room : Bool) (copy : Copy) (kind : EvictKind) → leaving at_home room (state_of copy) ≡ Some kind → (fits at_home kind copy ≡ true) × ((departs at_home kind && not room) ≡ false)
leaving_fits at_home room Absent kind is = absurd (cc)
leaving_fits true room (Shared words) kind is = let e : Silent ≡ kind = cc in subst (λ k. (fits true k (Shared words) ≡ true) × ((departs true k && not room) ≡ false)) e (refl, refl)
leaving_fits false true (Shared words) kind is = let e : Hint ≡ kind = cc in subst (λ k. (fits false k (Shared words) ≡ true) × ((departs false k && not true) ≡ false)) e (refl, refl)
leaving_fits false false (Shared words) kind is = let e : Silent ≡ kind = cc in subst (λ k. (fits false k (Shared words) ≡ true) × ((departs false k && not false) ≡ false)) e (refl, refl)
leaving_fits true room (Exclusive words) kind is = let e : Wb ≡ kind = cc in subst (λ k. (fits true k (Exclusive words) ≡ true) × ((departs true k && not room) ≡ false)) e (refl, refl)
leaving_fits false true (Exclusive words) kind is = let e : Wb ≡ kind = cc in subst (λ k. (fits false k (Exclusive words) ≡ true) × ((departs false k && not true) ≡ false)) e (refl, refl)
leaving_fits false false (Exclusive words) kind is = absurd (cc)

-- an eviction of such a kind goes on
pub evicts : (node : LinkedNode) (line : ℕ) (kind : EvictKind) (room : Bool) → leaving (home_of node.sizes line == node.number) room (state_of (copy_of node.share line)) ≡ Some kind → IsOk (outcome_at node (EvictLine line kind room))
unfolding local evict
evicts node line kind room is =
    let both = leaving_fits (node.number == home_of node.sizes line) room (copy_of node.share line) kind (ap (λ b. leaving b room (state_of (copy_of node.share line))) (eqb-swap node.number (home_of node.sizes line)) ∙ is) in
    go (fits (node.number == home_of node.sizes line) kind (copy_of node.share line)) (departs (node.number == home_of node.sizes line) kind && not room) _ _ _ both.0 both.1
  where
    go : {A B : Type 0} (b c : Bool) (x : A) (e : Cause) (f : A → B) → b ≡ true → c ≡ false → IsOk (bind (cond b (Ok x) (Err e)) (λ o. cond c (Err LaneGate) (Ok (f o))))
    go true false x e f fit gate = refl
    go true true x e f fit gate = absurd (cc)
    go false c x e f fit gate = absurd (cc)

-- at its home a line leaves without a message, whether there is room or not
pub own_line : (node : LinkedNode) (line : ℕ) (kind : EvictKind) (room other : Bool) → home_of node.sizes line ≡ node.number → outcome_at node (EvictLine line kind room) ≡ outcome_at node (EvictLine line kind other)
unfolding local
own_line node line kind room other home = ap (leave room) here ∙ sym (ap (leave other) here)
  where
    me : ℕ
    me = node.number

    here : (me == home_of node.sizes line) ≡ true
    here = grind (arith, nat_tests, home)

    leave : Bool → Bool → Result NodeOutcome Cause
    leave room b = bind (evict me (home_of node.sizes line) kind (line_share node.sizes node.share line)) (λ outcome. cond (departs b kind && not room) (Err LaneGate) (Ok (by_row node.sizes me node.share line outcome)))
