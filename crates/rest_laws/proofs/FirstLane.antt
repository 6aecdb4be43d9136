-- The first lane that isn't empty is one between nodes of the machine, and there is none exactly where all of those are empty.
-- The lanes in their order are those between nodes of the machine, each of both classes.
use Rattle.std.proofs.Common.{◌≡◌, ◌≢◌, ℕ, ◌<◌, Bool, true, false, not, List, [], ◌∷◌, refl, arith, Option, Some, None}
use Rattle.std.specs.List.{flat_map}
use Rattle.line_map.specs.Sizes.{Sizes}
use Rattle.op_model.specs.declared.events.Class.{Class}
use Rattle.op_model.specs.declared.events.Class.TheVariants.{Request, Reply}
use Rattle.op_model.specs.declared.messages.Msg.{Msg}
use Rattle.op_model.specs.Run.Schedules.{Lane, both_lanes, all_nodes, lanes_in_order, is_no_message, first_busy}
use Rattle.op_model.specs.Run.Weight.{IsClear}
use Rattle.op_model.specs.Shares.{State}
use Rattle.op_model.proofs.Public.{no_message-empty}
use Rattle.rest_laws.proofs.Lists.{Each, find-some, find-none, each-flat, flat-each, each-range, range-each}

-- a lane between nodes of the machine
abbrev pub IsLaneIn : Sizes → Lane → Type 0
IsLaneIn sizes lane = (lane.src < sizes.nodes) × (lane.dst < sizes.nodes)

abbrev lane_of : ℕ → ℕ → Class → Lane
lane_of src dst class = record { src = src; dst = dst; class = class }

lanes-in : (sizes : Sizes) → Each (IsLaneIn sizes) (lanes_in_order sizes)
unfolding lanes_in_order
lanes-in sizes =
    each-flat (IsLaneIn sizes) (λ src. flat_map (both_lanes src) (all_nodes sizes)) (all_nodes sizes)
    (each-range (λ src. Each (IsLaneIn sizes) (flat_map (both_lanes src) (all_nodes sizes))) 0 sizes.nodes
    (λ src from src_in. each-flat (IsLaneIn sizes) (both_lanes src) (all_nodes sizes)
    (each-range (λ dst. Each (IsLaneIn sizes) (both_lanes src dst)) 0 sizes.nodes
    (λ dst from dst_in. ((omega arith, omega arith), ((omega arith, omega arith), tt))))))

-- what holds of each lane in the order holds of each lane between nodes of the machine
lane-each : (sizes : Sizes) (P : Lane → Type 0) → Each P (lanes_in_order sizes) → (src dst : ℕ) (class : Class) → src < sizes.nodes → dst < sizes.nodes → P (lane_of src dst class)
unfolding lanes_in_order
lane-each sizes P all src dst class src_in dst_in = at class
  where
    row : Each P (flat_map (both_lanes src) (all_nodes sizes))
    row = range-each (λ s. Each P (flat_map (both_lanes s) (all_nodes sizes))) 0 sizes.nodes (flat-each P (λ s. flat_map (both_lanes s) (all_nodes sizes)) (all_nodes sizes) all) src (omega arith) (omega arith)

    both : Each P (both_lanes src dst)
    both = range-each (λ d. Each P (both_lanes src d)) 0 sizes.nodes (flat-each P (both_lanes src) (all_nodes sizes) row) dst (omega arith) (omega arith)

    at : (k : Class) → P (lane_of src dst k)
    at Request = both.0
    at Reply = both.1.0

busy : (ms : List Msg) → not (is_no_message ms) ≡ true → ms ≢ []
busy [] e is = cc
busy (m ∷ ms) e is = cc

module _ (sizes : Sizes) (state : State) where
  abbrev has_message : Lane → Bool
  has_message lane = not (is_no_message (state.lane lane.src lane.dst lane.class))

  -- the first lane is between nodes of the machine, and isn't empty
  pub first-some : (lane : Lane) → first_busy sizes state ≡ Some lane → IsLaneIn sizes lane × (state.lane lane.src lane.dst lane.class ≢ [])
  first-some lane e = let f = find-some has_message (IsLaneIn sizes) (lanes_in_order sizes) lane (lanes-in sizes) e in (f.0, busy (state.lane lane.src lane.dst lane.class) f.1)

  pub first-none : first_busy sizes state ≡ None → IsClear sizes state
  first-none e src dst class src_in dst_in =
      no_message-empty (state.lane src dst class) (lane-each sizes (λ lane. has_message lane ≡ false) (find-none has_message (lanes_in_order sizes) e) src dst class src_in dst_in)

  pub clear-none : IsClear sizes state → first_busy sizes state ≡ None
  clear-none clear = go (first_busy sizes state) refl
    where
      go : (o : Option Lane) → first_busy sizes state ≡ o → o ≡ None
      go None e = refl
      go (Some lane) e = absurd (let f = first-some lane e in f.1 (clear lane.src lane.dst lane.class f.0.0 f.0.1))

  -- where some lane of the machine isn't empty there is a first one
  pub busy-some : (src dst : ℕ) (class : Class) → src < sizes.nodes → dst < sizes.nodes → state.lane src dst class ≢ [] → (lane : Lane) × (first_busy sizes state ≡ Some lane)
  busy-some src dst class src_in dst_in some = go (first_busy sizes state) refl
    where
      go : (o : Option Lane) → first_busy sizes state ≡ o → (lane : Lane) × (first_busy sizes state ≡ Some lane)
      go None e = absurd (some (first-none e src dst class src_in dst_in))
      go (Some lane) e = (lane, e)
