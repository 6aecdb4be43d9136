-- A line that is in the way of the next operation, and how it leaves.
use Rattle.std.proofs.Common.{⊎_elim, ◌≡◌, ◌≢◌, ◌⊎◌, inl, inr, ℕ, ◌<◌, Bool, true, false, ◌==◌, refl, sym, ap, ◌∙◌, subst, arith, Option, Some, None}
use Rattle.std.specs.Prelude.{slice_get, nat_lt, IsTrue, IsSomeAnd}
use Rattle.std.proofs.lemmas.Bool.Decides.{nat_tests}
use Rattle.line_map.specs.Sizes.{Sizes, line_of, home_of}
use Rattle.op_model.specs.declared.operations.Op.{Op}
use Rattle.op_model.specs.declared.state.CopyState.{CopyState}
use Rattle.op_model.specs.declared.state.CopyState.TheVariants as state
use Rattle.op_model.specs.Lines.{Copy, Absent, Shared, Exclusive, state_of, is_empty}
use Rattle.op_model.specs.Shares.{conflicts, copy_in, copy_of}
use Rattle.op_model.specs.Parts.Part.{Part, gate_count, own_room, notes_empty, out_note, no_note}
use Rattle.cpu_cache.specs.Caches.{CacheView, is_set_taken}
use Rattle.step_journal.specs.Logs.{LogList}
use Rattle.node_box.specs.declared.turns.Turn.{Turn}
use Rattle.node_box.specs.declared.turns.Turn.TheVariants.{Did, Idle, Waiting, Held, NoSpace, Ended, Memory}
use Rattle.node_box.specs.Boxes.{LinkedNode, BoxView, node_of}
use Rattle.node_box.specs.Gate.{IsCounted, IsLaneFull}
use Rattle.node_box.specs.Turns.{IsReserved}
use Rattle.node_box.specs.Processing.{cache_of, leaving, IsInTheWay, Counts, LacksSpace, Processes, IsProcessorTurn}
use Rattle.op_model.specs.declared.events.Class.TheVariants.{Request}
use Rattle.op_model.specs.Events.Step.{departures}
use Rattle.lane_table.specs.Steps.{loaded, looked_out}
use Rattle.lane_table.specs.Told.{unflushed}
use Rattle.lane_table.proofs.Public.{at_here}
use Rattle.node_box.proofs.Counting.{empty_count}

not_true : (b : Bool) → (IsTrue b → ⊥) → b ≡ false
not_true true is = absurd (is refl)
not_true false is = refl

-- no other line stands in the set of the next operation where the cache finds none
pub alone : (node : LinkedNode) (cache : CacheView) (op other : Op) (line : ℕ) (r : Option ℕ) → cache ≡ cache_of node → slice_get node.program node.share.place ≡ Some op → slice_get node.program node.share.place ≡ Some other
    → line ≡ line_of node.sizes op.word → (IsTrue (is_set_taken cache line) → IsSomeAnd r (λ l. l ≢ line)) → (IsSomeAnd r (λ l. l ≢ line) → ⊥) → conflicts node.sizes node.share (line_of node.sizes other.word) ≡ false
alone node cache op other line r is this that at taken free =
    let both : ◌≡◌ {A = Option Op} (Some op) (Some other) = sym this ∙ that in
    let e : op ≡ other = cc in
    let here : conflicts node.sizes node.share (line_of node.sizes other.word) ≡ is_set_taken cache line =
    ap (λ (o : Op). conflicts node.sizes node.share (line_of node.sizes o.word)) (sym e) ∙ (λ i. is_set_taken (sym is i) (sym at i)) in
    here ∙ not_true (is_set_taken cache line) (λ t. free (taken t))

pub none_and : (P : ℕ → Type 0) (r : Option ℕ) → r ≡ None → IsSomeAnd r P → ⊥
none_and P r is h = let Q : Option ℕ → Type 0 = λ x. IsSomeAnd x P in let none : Q None = subst Q is h in none

pub same_and : (r : Option ℕ) (other line : ℕ) → r ≡ Some other → other ≡ line → IsSomeAnd r (λ l. l ≢ line) → ⊥
same_and r other line is same h =
    let Q : Option ℕ → Type 0 = λ x. IsSomeAnd x (λ l. l ≢ line) in
    let some : Q (Some other) = subst Q is h in
    some same

module _ (node : LinkedNode) (cache : CacheView) (is : cache ≡ cache_of node) (line : ℕ) where
  pub look_is : (found : CopyState) → found ≡ state_of (copy_in cache.copies line) → found ≡ state_of (copy_of node.share line)
  unfolding copy_of
  look_is found at = at ∙ ap (λ (c : CacheView). state_of (copy_in c.copies line)) is

  pub home_is : (cfg : Sizes) (home : ℕ) → cfg ≡ cache.sizes → home ≡ home_of cfg line → home ≡ home_of node.sizes line
  home_is cfg home same at = at ∙ ap (λ z. home_of z line) (same ∙ ap (λ (c : CacheView). c.sizes) is)

pub counted_node : (old new : BoxView) (home : ℕ) (room : Bool) → Counts old new home room → new.node ≡ old.node
counted_node old new home room counts =
    ⊎_elim (λ own. ap (λ (x : BoxView). x.node) own.2) (λ far. ⊎_elim (λ same. ap (λ (x : BoxView). x.node) same.0) (λ seen. ap (λ (x : BoxView). x.node) seen.3) far.2) counts

pub gate_of : (old new : BoxView) (line : ℕ) (room : Bool) → new.node ≡ node_of new.seat.part new.node.dir → Counts old new (home_of old.node.sizes line) room
    → (home_of new.seat.part.sizes line ≡ new.seat.part.number) ⊎ (room ≡ own_room new.seat.part line)
gate_of old new line room node counts =
    let its : old.node ≡ node_of new.seat.part new.node.dir = sym (counted_node old new (home_of old.node.sizes line) room counts) ∙ node in
    let home : home_of old.node.sizes line ≡ home_of new.seat.part.sizes line = ap (λ (n : LinkedNode). home_of n.sizes line) its in
    ⊎_elim (λ own. inl (sym home ∙ (own.0 ∙ ap (λ (n : LinkedNode). n.number) its))) (λ far. inr (far.1 ∙ ap (λ h. nat_lt (gate_count new.seat.part h) new.seat.part.sizes.evicts) home)) counts

stays : (at_home room : Bool) (found : CopyState) → leaving at_home room found ≡ None → (found ≡ state.Absent → ⊥) → (at_home ≡ false) × (room ≡ false) × (found ≡ state.Exclusive)
stays at_home room state.Absent is there = absurd (there refl)
stays true room state.Shared is there = absurd (cc)
stays false true state.Shared is there = absurd (cc)
stays false false state.Shared is there = absurd (cc)
stays true room state.Exclusive is there = absurd (cc)
stays false true state.Exclusive is there = absurd (cc)
stays false false state.Exclusive is there = (refl, refl, refl)

not_absent : (copy : Copy) → is_empty copy ≡ false → state_of copy ≡ state.Absent → ⊥
not_absent Absent held is = absurd (cc)
not_absent (Shared words) held is = absurd (cc)
not_absent (Exclusive words) held is = absurd (cc)

there : (node : LinkedNode) (line : ℕ) → IsInTheWay node line → state_of (copy_of node.share line) ≡ state.Absent → ⊥
unfolding copy_of
there node line way = not_absent (copy_in node.share.copies line) way.resident.held

-- where the count is that of a full lane, and the outbox alone isn't full, the cell isn't empty
full_lane : (old new : BoxView) (home : ℕ) → nat_lt (gate_count new.seat.part home) new.seat.part.sizes.evicts ≡ false → IsCounted old new home → IsLaneFull old new home
full_lane old new home full counted = ⊎_elim (λ alone. inl alone) (λ seen. inr (seen.0, (λ zero. loaded_none seen.0 seen.1 seen.2 zero), seen.2, seen.3)) counted
  where
    loaded_none : (word : ℕ) → departures (unflushed old.seat.part home Request) < old.seat.part.sizes.evicts → new.seat.part ≡ looked_out old.seat.part home Request word → word ≡ 0 → ⊥
    loaded_none word lt is zero =
        let seen : Part = looked_out old.seat.part home Request 0 in
        let same : new.seat.part ≡ seen = is ∙ ap (looked_out old.seat.part home Request) zero in
        let note : notes_empty (out_note seen home Request) ≡ true = ap notes_empty (at_here no_note old.seat.part.out_notes home Request (loaded (out_note old.seat.part home Request) 0)) in
        let room : nat_lt (gate_count seen home) seen.sizes.evicts ≡ true = empty_count seen home (departures (unflushed seen home Request)) seen.sizes.evicts refl note lt in
        absurd (let both : false ≡ true = sym full ∙ (ap (λ (x : Part). nat_lt (gate_count x home) x.sizes.evicts) same ∙ room) in cc)

-- a line whose copy stays lacks space
pub lacks : (old new : BoxView) (line : ℕ) (room : Bool) → IsInTheWay old.node line → Counts old new (home_of old.node.sizes line) room
    → leaving (home_of old.node.sizes line == old.node.number) room (state_of (copy_of old.node.share line)) ≡ None → LacksSpace old new line
lacks old new line room way counts none =
    let all = stays (home_of old.node.sizes line == old.node.number) room (state_of (copy_of old.node.share line)) none (there old.node line way) in
    let remote : home_of old.node.sizes line ≢ old.node.number = apart (home_of old.node.sizes line) old.node.number all.0 in
    ⊎_elim (λ own. absurd (remote own.0)) (λ far. record { remote = remote; exclusive = all.2; full = sym far.1 ∙ all.1; lane = full_lane old new (home_of old.node.sizes line) (sym far.1 ∙ all.1) far.2 }) counts
  where
    apart : (a b : ℕ) → (a == b) ≡ false → a ≢ b
    apart a b is same = absurd (let e : (a == b) ≡ true = grind (arith, nat_tests, same) in cc)

-- a turn of a processor, with the room that it has reserved before
pub whole_turn : (seen old new : BoxView) (log : LogList) (turn : Turn) → seen ≡ old → log.entries ≡ seen.log.entries → Processes turn (record seen { log = log }) new → IsProcessorTurn turn old new
whole_turn seen old new log turn view same h = subst (λ (x : BoxView). IsProcessorTurn turn x new) view (go turn h)
  where
    reserved : IsReserved seen (record seen { log = log })
    reserved = record { entries = same; box = refl }

    go : (turn : Turn) → Processes turn (record seen { log = log }) new → IsProcessorTurn turn seen new
    go (Did ticket) h = (record seen { log = log }, reserved, h)
    go Idle h = absurd h
    go Waiting h = (record seen { log = log }, reserved, h)
    go (Held cause) h = (record seen { log = log }, reserved, h)
    go NoSpace h = (record seen { log = log }, reserved, h)
    go Ended h = (record seen { log = log }, reserved, h)
    go Memory h = absurd h
