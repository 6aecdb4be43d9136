-- What a node does, by its rows: each law of its acts is shown of each of these.
use Rattle.std.proofs.Common.{◌≡◌, ℕ, Bool, true, false, cond, ◌==◌, ◌&&◌, not, slice_get, List, refl, subst, Option, Some, None, Result, Ok, Err}
use Rattle.line_map.specs.Sizes.{Sizes, home_of, line_of}
use Rattle.op_model.specs.declared.events.Cause.{Cause}
use Rattle.op_model.specs.declared.events.Cause.TheVariants.{LaneGate}
use Rattle.op_model.specs.declared.events.EvictKind.{EvictKind}
use Rattle.op_model.specs.declared.messages.Msg.{Msg}
use Rattle.op_model.specs.declared.operations.Op.{Op}
use Rattle.op_model.specs.Events.Node.{EvictLine, HitNext, Input, IssueNext, NodeOutcome, ReclaimLine, TakeFrom, bind, by_row, departs, evict_line, hit_next, is_outstanding, map_ok, with_next}
use Rattle.op_model.specs.Events.Node as delayed
use Rattle.op_model.specs.Lines.{LineShare, Outcome}
use Rattle.op_model.specs.Messages.{msg_line}
use Rattle.op_model.specs.Shares.{Share, Unlinked, conflicts, copy_of, line_share, room_of}
use Rattle.op_model.specs.Tables.Processor.{evict, hit, reclaim, serves}
use Rattle.op_model.proofs.Public.{err-ok, free-want}
use Rattle.line_invariant.proofs.Public.{if-either}
use Rattle.eager_model.specs.Node.{issue_next, local, take_from, taking}
use Rattle.eager_model.specs.Rows.{begin_op}

module _ (sizes : Sizes) (node : ℕ) (program : List Op) (share : Share) where
  abbrev at : ℕ → LineShare
  at line = line_share sizes share line

  -- What is shown of each row of a node, in its share
  pub record IsEachAct (P : Input → NodeOutcome → Type 0) : Type 0 where
    pub hits : (op : Op) → slice_get program share.place ≡ Some op → share.want ≡ None → serves op (copy_of share (line_of sizes op.word)) ≡ true → P HitNext (by_row sizes node share (line_of sizes op.word) (hit op (at (line_of sizes op.word))))
    pub begins : (op : Op) → slice_get program share.place ≡ Some op → share.want ≡ None → conflicts sizes share (line_of sizes op.word) ≡ false → (o : Outcome) →
        begin_op node (home_of sizes (line_of sizes op.word)) (room_of Unlinked sizes share) op (at (line_of sizes op.word)) ≡ Ok o → P IssueNext (by_row sizes node share (line_of sizes op.word) o)
    pub evicts : (line : ℕ) (kind : EvictKind) (gate : Bool) (o : Outcome) → evict node (home_of sizes line) kind (at line) ≡ Ok o → P (EvictLine line kind gate) (by_row sizes node share line o)
    pub takes : (src : ℕ) (m : Msg) → P (TakeFrom src m None) (by_row sizes node share (msg_line m) (taking sizes node share src m))

  module _ (P : Input → NodeOutcome → Type 0) (each : IsEachAct P) where
    abbrev Gives : Input → Result NodeOutcome Cause → Type 0
    Gives input r = (out : NodeOutcome) → r ≡ Ok out → P input out

    bad : (input : Input) (c : Cause) → Gives input (Err c)
    bad input c out e = absurd (err-ok c out e)

    good : (input : Input) (x : NodeOutcome) → P input x → Gives input (Ok x)
    good input x k out e = let is : x ≡ out = cc in subst (P input) is k

    next : (input : Input) (f : Op → Result NodeOutcome Cause) → ((op : Op) → slice_get program share.place ≡ Some op → share.want ≡ None → Gives input (f op)) → Gives input (with_next share (slice_get program share.place) f)
    next input f shown = go (slice_get program share.place) refl
      where
        go : (o : Option Op) → slice_get program share.place ≡ o → Gives input (with_next share o f)
        go None e = bad input _
        go (Some op) e = if-either (Gives input) (is_outstanding share.want) _ _ (λ _. bad input _) (λ free. shown op e (free-want share.want free))

    hit-next : (op : Op) → slice_get program share.place ≡ Some op → share.want ≡ None → Gives HitNext (hit_next sizes node share op)
    hit-next op is free = if-either (Gives HitNext) (serves op (copy_of share (line_of sizes op.word))) _ _ (λ serve. good HitNext _ (each.hits op is free serve)) (λ _. bad HitNext _)

    issue-next : (op : Op) → slice_get program share.place ≡ Some op → share.want ≡ None → Gives IssueNext (issue_next sizes node share op)
    issue-next op is free =
        if-either (Gives IssueNext) (serves op (copy_of share (line_of sizes op.word))) _ _ (λ _. bad IssueNext _) (λ _.
        (if-either (Gives IssueNext) (conflicts sizes share (line_of sizes op.word)) _ _ (λ _. bad IssueNext _)
        (λ alone. go alone (begin_op node (home_of sizes (line_of sizes op.word)) (room_of Unlinked sizes share) op (at (line_of sizes op.word))) refl)))
      where
        go : conflicts sizes share (line_of sizes op.word) ≡ false → (r : Result Outcome Cause) → begin_op node (home_of sizes (line_of sizes op.word)) (room_of Unlinked sizes share) op (at (line_of sizes op.word)) ≡ r → Gives IssueNext (map_ok (by_row sizes node share (line_of sizes op.word)) r)
        go alone (Err c) e = bad IssueNext c
        go alone (Ok o) e = good IssueNext _ (each.begins op is free alone o e)

    evict-line : (line : ℕ) (kind : EvictKind) (gate : Bool) → Gives (EvictLine line kind gate) (evict_line sizes node share line kind gate)
    evict-line line kind gate = go (evict node (home_of sizes line) kind (at line)) refl
      where
        go : (r : Result Outcome Cause) → evict node (home_of sizes line) kind (at line) ≡ r → Gives (EvictLine line kind gate) (bind r (λ outcome. cond (departs (node == home_of sizes line) kind && not gate) (Err LaneGate) (Ok (by_row sizes node share line outcome))))
        go (Err c) e = bad (EvictLine line kind gate) c
        go (Ok o) e = if-either (Gives (EvictLine line kind gate)) (departs (node == home_of sizes line) kind && not gate) _ _ (λ _. bad (EvictLine line kind gate) _) (λ _. good (EvictLine line kind gate) _ (each.evicts line kind gate o e))

    take-one : (src : ℕ) (m : Msg) (victim : Option ℕ) → Gives (TakeFrom src m victim) (take_from sizes node share src m victim)
    take-one src m None = good (TakeFrom src m None) _ (each.takes src m)
    take-one src m (Some g) = bad (TakeFrom src m (Some g)) _

    -- no list holds a link
    never-reclaims : (line : ℕ) → Gives (ReclaimLine line) (map_ok (by_row sizes node share line) (reclaim (room_of Unlinked sizes share) (at line)))
    unfolding reclaim
    never-reclaims line = bad (ReclaimLine line) _

    pub each-act : (input : Input) (out : NodeOutcome) → local sizes node program share input ≡ Ok out → P input out
    unfolding local delayed.local
    each-act HitNext out e = next HitNext (hit_next sizes node share) hit-next out e
    each-act IssueNext out e = next IssueNext (issue_next sizes node share) issue-next out e
    each-act (EvictLine line kind gate) out e = evict-line line kind gate out e
    each-act (TakeFrom src m victim) out e = take-one src m victim out e
    each-act (ReclaimLine line) out e = never-reclaims line out e
