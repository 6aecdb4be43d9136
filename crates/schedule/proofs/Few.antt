-- There are few candidates: their number fits a word of 32 bits.
use Rattle.std.proofs.Common.{◌≡◌, ℕ, suc, ◌+◌, ◌*◌, ◌<◌, ◌≤◌, ◌^◌, Bool, true, false, cond, List, [], ◌∷◌, ◌++◌, length, length-append, arith, Option, Some, None}
use Rattle.std.specs.Prelude.{filter, find, is_some, map, nat_lt, slice_get}
use Rattle.std.specs.List.{flat_map}
use Rattle.std.proofs.lemmas.List.{length-map}
use Rattle.std.proofs.lemmas.List.FromFn.{length-range_with_len}
use Rattle.std.proofs.lemmas.List.Sums.{count_by-le-length, length-filter}
use Rattle.op_model.specs.declared.events.Event.{Event}
use Rattle.op_model.specs.declared.events.Event.TheVariants.{Take, Reclaim}
use Rattle.op_model.specs.declared.messages.Msg.{Msg}
use Rattle.op_model.specs.declared.operations.Op.{Op}
use Rattle.op_model.specs.Events.Node.{asks_victim}
use Rattle.op_model.specs.Run.Schedules.{Lane, all_nodes, both_lanes, lanes_in_order, other_in_set}
use Rattle.op_model.specs.Run.Seeded.{evictions_of, free_links, is_enabled, lines_of, low_water, processor_candidates, reclaim_of, reclaims_of, room_events, takes_of}
use Rattle.line_map.specs.Sizes.{Sizes, line_of}
use Rattle.op_model.specs.Run.Machines.{MachineRun, IsRunning}
use Rattle.machine_face.specs.Reads.{victims}
use Rattle.schedule.specs.Candidates.{candidates_on}
use Rattle.schedule.proofs.Takes.{all_takes, takes_on}
use Rattle.schedule.proofs.Victims.{lines-few, nodes-few, victims-few}

flat-few : {A B : Type 0} (f : A → List B) (c : ℕ) → ((x : A) → length (f x) ≤ c) → (xs : List A) → length (flat_map f xs) ≤ length xs * c
flat-few f c each [] = omega arith
flat-few f c each (x ∷ xs) =
    let here = each x in
    let rest = flat-few f c each xs in
    let both = length-append (f x) (flat_map f xs) in
    let more : suc (length xs) * c ≡ length xs * c + c = grind arith in
    omega (arith, here, rest, both, more)

filter-few : {A : Type 0} (p : A → Bool) (xs : List A) → length (filter p xs) ≤ length xs
filter-few p xs = let kept = length-filter p xs in let most = count_by-le-length p xs in omega (arith, kept, most)

lanes-few : (sizes : Sizes) → sizes.nodes ≤ 64 → length (lanes_in_order sizes) ≤ 8192
unfolding lanes_in_order
lanes-few sizes few =
    let nodes = length-range_with_len 0 sizes.nodes in
    let all = flat-few (λ src. flat_map (both_lanes src) (all_nodes sizes)) 128 (λ src. (let one = flat-few (both_lanes src) 2 (λ dst. omega arith) (all_nodes sizes) in omega (arith, one, nodes))) (all_nodes sizes) in
    omega (arith, all, nodes)

module _ (m : MachineRun) (running : IsRunning m) where
  evictions-few : (node : ℕ) (o : Option ℕ) → length (evictions_of node o) ≤ 3
  evictions-few node None = omega arith
  evictions-few node (Some line) = omega arith

  room-few : (node : ℕ) (o : Option Op) → length (room_events m.sizes node (m.past.state.share node) o) ≤ 3
  room-few node None = omega arith
  room-few node (Some op) = go (is_some (m.past.state.share node).want)
    where
      go : (b : Bool) → length (cond b [] (evictions_of node (other_in_set m.sizes (m.past.state.share node) (line_of m.sizes op.word)))) ≤ 3
      go true = omega arith
      go false = evictions-few node (other_in_set m.sizes (m.past.state.share node) (line_of m.sizes op.word))

  processor-few : (node : ℕ) → length (processor_candidates m.sizes m.programs m.past.state node) ≤ 5
  processor-few node = let room = room-few node (slice_get (m.programs node) (m.past.state.share node).place) in omega (arith, room)

  takes-few : (lane : Lane) → length (takes_on m lane) ≤ 4097
  takes-few lane = go (m.past.state.lane lane.src lane.dst lane.class)
    where
      asked : (b : Bool) → length (cond b (map (λ line. Take lane.src lane.dst lane.class (Some line)) (victims m lane.dst)) (Take lane.src lane.dst lane.class None ∷ [])) ≤ 4097
      asked true =
          let same = length-map (victims m lane.dst) (λ line. Take lane.src lane.dst lane.class (Some line)) in
          let few = victims-few m lane.dst in
          let lines = lines-few m running in
          omega (arith, same, few, lines)
      asked false = omega arith

      go : (messages : List Msg) → length (takes_of m.charge m.sizes m.past.state lane messages) ≤ 4097
      go [] = omega arith
      go (x ∷ rest) = asked (asks_victim m.charge m.sizes lane.dst (m.past.state.share lane.dst) lane.src x)

  reclaim-few : (home : ℕ) → length (reclaims_of m.charge m.sizes m.programs m.past.state home) ≤ 1
  reclaim-few home = go (nat_lt (free_links m.charge m.sizes (m.past.state.share home)) (low_water m.sizes.links)) (find (λ line. is_enabled m.charge m.sizes m.programs m.past.state (Reclaim line)) (lines_of m.sizes home))
    where
      go : (b : Bool) (o : Option ℕ) → length (cond b (reclaim_of o) []) ≤ 1
      go true None = omega arith
      go true (Some line) = omega arith
      go false o = omega arith

  pub candidates-few : length (candidates_on m) < 2 ^ 32
  candidates-few =
      let nodes = nodes-few m running in
      let count = length-range_with_len 0 m.sizes.nodes in
      let first : List Event = flat_map (processor_candidates m.sizes m.programs m.past.state) (all_nodes m.sizes) in
      let second : List Event = all_takes m (lanes_in_order m.sizes) in
      let third : List Event = flat_map (reclaims_of m.charge m.sizes m.programs m.past.state) (all_nodes m.sizes) in
      let kept = filter-few (is_enabled m.charge m.sizes m.programs m.past.state) (first ++ second ++ third) in
      let whole = length-append (first ++ second) third in
      let part = length-append first second in
      let processors = flat-few (processor_candidates m.sizes m.programs m.past.state) 5 processor-few (all_nodes m.sizes) in
      let takes = flat-few (takes_on m) 4097 takes-few (lanes_in_order m.sizes) in
      let lanes = lanes-few m.sizes nodes in
      let reclaims = flat-few (reclaims_of m.charge m.sizes m.programs m.past.state) 1 reclaim-few (all_nodes m.sizes) in
      omega (arith, kept, whole, part, processors, takes, lanes, reclaims, nodes, count)
