-- What an event names, where it is made: the node of an operation, a copy's line, the ends of a lane that has a message, or a line
-- whose list isn't empty. Each is of the machine.
use Rattle.std.proofs.Common.{◌≡◌, ℕ, ◌<◌, ◌≤◌, Bool, true, false, cond, ◌==◌, ◌&&◌, not, ◌⊎◌, inl, inr, List, [], ◌∷◌, ◌++◌, refl, arith, ap, sym, subst, ◌∙◌, Option, Some, None, Result, Ok, Err, div-lt_iff_lt-mul}
use Rattle.std.specs.Prelude.{slice_get}
use Rattle.std.proofs.lemmas.Bool.{cases_lt}
use Rattle.std.proofs.lemmas.Bool.Decides.{nat_tests}
use Rattle.std.proofs.lemmas.List.Elements.{All-nil, All-cons}
use Rattle.line_map.specs.Sizes.{Sizes, AreSizes, all_lines, home_of}
use Rattle.op_model.specs.declared.events.Cause.{Cause}
use Rattle.op_model.specs.declared.events.Class.{Class}
use Rattle.op_model.specs.declared.events.Class.TheVariants.{Request}
use Rattle.op_model.specs.declared.events.Event.{Event}
use Rattle.op_model.specs.declared.events.Event.TheVariants.{Hit, Issue, Evict, Take, Reclaim}
use Rattle.op_model.specs.declared.events.EvictKind.{EvictKind}
use Rattle.op_model.specs.declared.messages.Msg.{Msg}
use Rattle.op_model.specs.declared.operations.Op.{Op}
use Rattle.op_model.specs.Events.Node.{NodeOutcome, local, with_next, hit_next, issue_next, evict_line, departs, bind, by_row, map_ok, and_call, with_victim, asks_victim, fits_victim, taking}
use Rattle.op_model.specs.Events.Step.{Done, Off, none_off, one_off, act, effect, take_front, has_room, and_then}
use Rattle.op_model.specs.Lines.{Absent, Outcome, is_empty}
use Rattle.op_model.specs.Messages.{msg_line}
use Rattle.op_model.specs.Nodes.{count}
use Rattle.op_model.specs.Run.Runs.{Past, past_after, run, run_by, start}
use Rattle.op_model.specs.Shares.{Charge, State, Trace, copy_of, header_of, program, room_of, line_share}
use Rattle.op_model.specs.Tables.Processor.{evict, reclaim}
use Rattle.op_model.proofs.Public.{run-push}
use Rattle.message_range.proofs.Public.{evicts-copy, reclaims-holder}
use Rattle.node_range.specs.Range.{IsOfMachine, IsRanged}
use Rattle.node_range.proofs.Public.{in-program, ranged-run}
use Rattle.step_journal.specs.Steps.{IsStep, IsVictim, AreSteps}

-- a line whose home is a node of the machine is a line of it
line-below : (sizes : Sizes) → AreSizes sizes → (line : ℕ) → home_of sizes line < sizes.nodes → line < all_lines sizes
line-below sizes are line home = let some : 0 < sizes.lines = (let n = are.lines in grind (arith, nat_tests)) in (div-lt_iff_lt-mul some).0 home

module _ (charge : Charge) (trace : Trace) (all : IsOfMachine trace) (are : AreSizes trace.sizes) (state : State) (ranged : IsRanged trace.sizes state) where
  abbrev sizes : Sizes
  sizes = trace.sizes

  abbrev Makes : Event → Type 0
  Makes event = (d : Done) × (effect charge sizes (program trace) state event ≡ Ok d)

  -- a node that goes on with an operation has it in its program
  next-in : (node : ℕ) (f : Op → Result NodeOutcome Cause) (d : Done) → act node none_off (with_next (state.share node) (slice_get (program trace node) (state.share node).place) f) ≡ Ok d → node < sizes.nodes
  next-in node f d = go (slice_get (program trace node) (state.share node).place) refl
    where
      go : (o : Option Op) → slice_get (program trace node) (state.share node).place ≡ o → act node none_off (with_next (state.share node) o f) ≡ Ok d → node < sizes.nodes
      go None at e = cc
      go (Some op) at e =
          let is = in-program (λ o. o.node < sizes.nodes) node trace.ops (state.share node).place op all.nodes at in
          subst (λ n. n < sizes.nodes) is.1 is.0

  copy-in : (node line : ℕ) → is_empty (copy_of (state.share node) line) ≡ false → (node < sizes.nodes) × (line < all_lines sizes)
  copy-in node line has = go (cases_lt node sizes.nodes) (cases_lt (home_of sizes line) sizes.nodes)
    where
      none : copy_of (state.share node) line ≡ Absent → ⊥
      none is = let e : true ≡ false = sym (ap is_empty is) ∙ has in cc

      go : (node < sizes.nodes) ⊎ (sizes.nodes ≤ node) → (home_of sizes line < sizes.nodes) ⊎ (sizes.nodes ≤ home_of sizes line) → (node < sizes.nodes) × (line < all_lines sizes)
      go (inl a) (inl b) = (a, line-below sizes are line b)
      go (inr a) b = absurd (none (ranged.copies node line (inl a)))
      go a (inr b) = absurd (none (ranged.copies node line (inr b)))

  left : (node line : ℕ) (kind : EvictKind) (room : Bool) (d : Done) → act node none_off (evict_line sizes node (state.share node) line kind room) ≡ Ok d → (node < sizes.nodes) × (line < all_lines sizes)
  left node line kind room d = go (evict node (home_of sizes line) kind (line_share sizes (state.share node) line)) refl
    where
      go : (r : Result Outcome Cause) → evict node (home_of sizes line) kind (line_share sizes (state.share node) line) ≡ r →
          act node none_off (bind r (λ outcome. cond (departs (node == home_of sizes line) kind && not room) (Err Cause.LaneGate) (Ok (by_row sizes node (state.share node) line outcome)))) ≡ Ok d → (node < sizes.nodes) × (line < all_lines sizes)
      go (Ok o) is e = copy-in node line (evicts-copy node (home_of sizes line) kind (line_share sizes (state.share node) line) o is)
      go (Err cause) is e = cc

  -- a line that is called in has a list that isn't empty
  listed-in : (line : ℕ) (linked : Bool) → (linked && not (count (header_of sizes (state.share (home_of sizes line)) line).list == 0) && not (count (header_of sizes (state.share (home_of sizes line)) line).list == 1)) ≡ true → line < all_lines sizes
  listed-in line linked holds = go (cases_lt (home_of sizes line) sizes.nodes)
    where
      go : (home_of sizes line < sizes.nodes) ⊎ (sizes.nodes ≤ home_of sizes line) → line < all_lines sizes
      go (inl home) = line-below sizes are line home
      go (inr far) = let none = ranged.strange line far in absurd (grind (arith, nat_tests))

  reclaimed : (line : ℕ) (d : Done) → act (home_of sizes line) none_off (map_ok (by_row sizes (home_of sizes line) (state.share (home_of sizes line)) line) (reclaim (room_of charge sizes (state.share (home_of sizes line))) (line_share sizes (state.share (home_of sizes line)) line))) ≡ Ok d → line < all_lines sizes
  reclaimed line d = go (reclaim (room_of charge sizes (state.share (home_of sizes line))) (line_share sizes (state.share (home_of sizes line)) line)) refl
    where
      go : (r : Result Outcome Cause) → reclaim (room_of charge sizes (state.share (home_of sizes line))) (line_share sizes (state.share (home_of sizes line)) line) ≡ r →
          act (home_of sizes line) none_off (map_ok (by_row sizes (home_of sizes line) (state.share (home_of sizes line)) line) r) ≡ Ok d → line < all_lines sizes
      go (Ok o) is e = listed-in line (room_of charge sizes (state.share (home_of sizes line))).linked (reclaims-holder (room_of charge sizes (state.share (home_of sizes line))) (line_share sizes (state.share (home_of sizes line)) line) o is)
      go (Err cause) is e = cc

  -- a message is between nodes of the machine, and a line that is called in for it is of its taker
  module _ (src dst : ℕ) (class : Class) (victim : Option ℕ) where
    victim-in : dst < sizes.nodes → (off : Off) (asks : Bool) (out : NodeOutcome) (d : Done) → act dst off (with_victim charge sizes dst (state.share dst) asks victim out) ≡ Ok d → IsVictim sizes victim
    victim-in below off asks out d = by asks victim
      where
        fit : (line : ℕ) (h p : Bool) → ((home_of sizes line == dst) && h && p) ≡ true → line < all_lines sizes
        fit line h p fits = line-below sizes are line (let here : home_of sizes line ≡ dst = grind (arith, nat_tests) in omega (arith, here, below))

        chosen : (line : ℕ) (c : Bool) → fits_victim charge sizes dst (state.share dst) line ≡ c → act dst off (cond c (Ok (and_call sizes dst line out)) (Err Cause.VictimUnfit)) ≡ Ok d → line < all_lines sizes
        chosen line true fits e = fit line _ _ fits
        chosen line false fits e = cc

        by : (asks : Bool) (v : Option ℕ) → act dst off (with_victim charge sizes dst (state.share dst) asks v out) ≡ Ok d → IsVictim sizes v
        by asks None e = tt
        by true (Some line) e = chosen line (fits_victim charge sizes dst (state.share dst) line) refl e
        by false (Some line) e = cc

    ends : (m : Msg) (rest : List Msg) → state.lane src dst class ≡ m ∷ rest → (src < sizes.nodes) × (dst < sizes.nodes)
    ends m rest at = go (cases_lt src sizes.nodes) (cases_lt dst sizes.nodes)
      where
        filled : state.lane src dst class ≡ [] → ⊥
        filled none = let e : [] ≡ m ∷ rest = sym none ∙ at in cc

        go : (src < sizes.nodes) ⊎ (sizes.nodes ≤ src) → (dst < sizes.nodes) ⊎ (sizes.nodes ≤ dst) → (src < sizes.nodes) × (dst < sizes.nodes)
        go (inl a) (inl b) = (a, b)
        go (inr a) b = absurd (filled (ranged.lanes src dst class (inl a)))
        go a (inr b) = absurd (filled (ranged.lanes src dst class (inr b)))

    taken : (d : Done) → take_front charge sizes (program trace) state src dst class victim (state.lane src dst class) ≡ Ok d → IsStep sizes (Take src dst class victim)
    unfolding local
    taken d = go (state.lane src dst class) refl
      where
        go : (ms : List Msg) → state.lane src dst class ≡ ms → take_front charge sizes (program trace) state src dst class victim ms ≡ Ok d → IsStep sizes (Take src dst class victim)
        go [] at e = cc
        go (m ∷ rest) at e =
            let both = ends m rest at in
            (both.0, both.1, victim-in both.1 (one_off src dst class) (asks_victim charge sizes dst (state.share dst) src m) (by_row sizes dst (state.share dst) (msg_line m) (taking charge sizes dst (state.share dst) src m)) d e)

  pub step-in : (event : Event) (d : Done) → effect charge sizes (program trace) state event ≡ Ok d → IsStep sizes event
  unfolding local
  step-in (Hit node) d e = next-in node (hit_next sizes node (state.share node)) d e
  step-in (Issue node) d e = next-in node (issue_next charge sizes node (state.share node)) d e
  step-in (Evict node line kind) d e = left node line kind (has_room sizes (state.lane node (home_of sizes line) Request)) d e
  step-in (Take src dst class victim) d e = taken src dst class victim d e
  step-in (Reclaim line) d e = reclaimed line d e

-- the events behind those that have run, one after another
pub steps-of-run : (charge : Charge) (trace : Trace) → IsOfMachine trace → AreSizes trace.sizes → (events : List Event) (past : Past) → run charge trace events ≡ Some past → AreSteps trace.sizes events
steps-of-run charge trace all are events past ran = behind [] (start trace.sizes) events refl ran
  where
    positive : 0 < trace.sizes.words
    positive = let n = are.words in grind (arith, nat_tests)

    behind : (before : List Event) (mid : Past) (rest : List Event) → run charge trace before ≡ Some mid → run_by charge trace.sizes (program trace) mid rest ≡ Some past → AreSteps trace.sizes rest
    behind before mid [] so_far runs = All-nil (IsStep trace.sizes)
    behind before mid (event ∷ rest) so_far runs = go (effect charge trace.sizes (program trace) mid.state event) refl runs (λ d does. behind (before ++ event ∷ []) (past_after trace.sizes mid d) rest (run-push charge trace.sizes (program trace) (start trace.sizes) mid before event d so_far does))
      where
        go : (r : Result Done Cause) → effect charge trace.sizes (program trace) mid.state event ≡ r → and_then r (λ d. run_by charge trace.sizes (program trace) (past_after trace.sizes mid d) rest) ≡ Some past →
            ((d : Done) → effect charge trace.sizes (program trace) mid.state event ≡ Ok d → run_by charge trace.sizes (program trace) (past_after trace.sizes mid d) rest ≡ Some past → AreSteps trace.sizes rest) → AreSteps trace.sizes (event ∷ rest)
        go (Ok d) does on more = All-cons (IsStep trace.sizes) event rest (step-in charge trace all are mid.state (ranged-run charge trace all before mid positive so_far) event d does) (more d does on)
        go (Err cause) does on more = cc
