-- Each candidate is an event whose nodes and lines the machine has.
use Rattle.std.proofs.Common.{◌≡◌, ℕ, zero, suc, ◌+◌, ◌*◌, ◌/◌, ◌<◌, ◌≤◌, Bool, true, false, cond, not, ◌&&◌, ◌==◌, List, [], ◌∷◌, ◌++◌, refl, arith, ap, sym, ◌∙◌, subst, ◌⊎◌, inl, inr, IfSome, Option, Some, None}
use Rattle.std.specs.Prelude.{filter, find, is_some, map, nat_le, nat_lt, option_map, slice_get}
use Rattle.std.specs.FinMap as fin
use Rattle.std.specs.List.{flat_map, range_with_len}
use Rattle.std.proofs.Math.Nat.{lt-div-mul-add}
use Rattle.std.proofs.lemmas.Bool.{leb-true, and_parts, cases_lt}
use Rattle.line_map.specs.Sizes.{Sizes, all_lines, home_of, in_limits, line_of, set_of}
use Rattle.line_map.specs.declared.machine.Field.TheVariants.{Words}
use Rattle.op_model.specs.declared.events.Event.{Event}
use Rattle.op_model.specs.declared.events.Event.TheVariants.{Take, Reclaim}
use Rattle.op_model.specs.declared.messages.Msg.{Msg}
use Rattle.op_model.specs.declared.operations.Op.{Op}
use Rattle.op_model.specs.Events.Node.{asks_victim, fits_victim}
use Rattle.op_model.specs.Lines.{Copy, is_empty}
use Rattle.op_model.specs.Run.Schedules.{Lane, all_nodes, lanes_in_order, other_in_set}
use Rattle.op_model.specs.Run.Seeded.{evictions_of, free_links, is_enabled, lines_of, low_water, processor_candidates, reclaim_of, reclaims_of, room_events, takes_of}
use Rattle.op_model.specs.Shares.{copy_of}
use Rattle.op_model.specs.Run.Machines.{MachineRun, IsRunning, IsEventOf}
use Rattle.op_model.proofs.Public.{find-passes}
use Rattle.node_range.specs.Range.{IsRanged}
use Rattle.node_range.proofs.Public.{ranged-run, turn-in}
use Rattle.schedule.specs.Candidates.{candidates_on}
use Rattle.schedule.proofs.Finishes.{turn, turn-ran}
use Rattle.schedule.proofs.LaneOrders.{AllOf, IsLaneIn, lanes-in}
use Rattle.schedule.proofs.Ranges.{find-range-in}
use Rattle.schedule.proofs.Takes.{all_takes, takes_on}
use Rattle.schedule.proofs.Victims.{last-line}

abbrev pub AreIn : Sizes → List Event → Type 0
AreIn sizes [] = Unit {0}
AreIn sizes (event ∷ events) = IsEventOf sizes event × AreIn sizes events

pub in-at : (sizes : Sizes) (events : List Event) (i : ℕ) (event : Event) → AreIn sizes events → slice_get events i ≡ Some event → IsEventOf sizes event
in-at sizes [] i event all is = absurd (let n : ◌≡◌ {A = Option Event} None (Some event) = is in cc)
in-at sizes (x ∷ events) zero event all is = let same : x ≡ event = cc in subst (IsEventOf sizes) same all.0
in-at sizes (x ∷ events) (suc i) event all is = in-at sizes events i event all.1 is

in-append : (sizes : Sizes) (xs ys : List Event) → AreIn sizes xs → AreIn sizes ys → AreIn sizes (xs ++ ys)
in-append sizes [] ys one two = two
in-append sizes (x ∷ xs) ys one two = (one.0, in-append sizes xs ys one.1 two)

in-filter : (sizes : Sizes) (p : Event → Bool) (xs : List Event) → AreIn sizes xs → AreIn sizes (filter p xs)
in-filter sizes p [] all = tt
in-filter sizes p (x ∷ xs) all = go (p x) (in-filter sizes p xs all.1)
  where
    go : (b : Bool) → AreIn sizes (filter p xs) → AreIn sizes (cond b (x ∷ filter p xs) (filter p xs))
    go true rest = (all.0, rest)
    go false rest = rest

in-range : (sizes : Sizes) (f : ℕ → List Event) (a n : ℕ) → ((k : ℕ) → a ≤ k → k < a + n → AreIn sizes (f k)) → AreIn sizes (flat_map f (range_with_len a n))
in-range sizes f a zero each = tt
in-range sizes f a (suc n) each =
    in-append sizes (f a) (flat_map f (range_with_len (a + 1) n)) (each a (omega arith) (omega arith)) (in-range sizes f (a + 1) n (λ k low high. each k (omega (arith, low)) (omega (arith, high))))

in-lanes : (sizes : Sizes) (f : Lane → List Event) (lanes : List Lane) → AllOf (IsLaneIn sizes) lanes → ((lane : Lane) → IsLaneIn sizes lane → AreIn sizes (f lane)) → AreIn sizes (flat_map f lanes)
in-lanes sizes f [] all each = tt
in-lanes sizes f (lane ∷ lanes) all each = in-append sizes (f lane) (flat_map f lanes) (each lane all.0) (in-lanes sizes f lanes all.1 each)

in-takes : (sizes : Sizes) (f : ℕ → Event) (p : ℕ → Bool) (a n : ℕ) → ((k : ℕ) → k < a + n → IsEventOf sizes (f k)) → AreIn sizes (map f (filter p (range_with_len a n)))
in-takes sizes f p a zero each = tt
in-takes sizes f p a (suc n) each = go (p a) (in-takes sizes f p (a + 1) n (λ k high. each k (omega (arith, high))))
  where
    go : (b : Bool) → AreIn sizes (map f (filter p (range_with_len (a + 1) n))) → AreIn sizes (map f (cond b (a ∷ filter p (range_with_len (a + 1) n)) (filter p (range_with_len (a + 1) n))))
    go true rest = (each a (omega arith), rest)
    go false rest = rest

module _ (m : MachineRun) (running : IsRunning m) where
  words-some : 0 < m.sizes.words
  words-some = go m.sizes.words running.sizes.words
    where
      go : (n : ℕ) → in_limits Words n ≡ true → 0 < n
      go zero e = absurd (let d : false ≡ true = e in cc)
      go (suc n) e = omega arith

  lines-some : 0 < m.sizes.lines
  lines-some = let least = leb-true _ _ (and_parts (nat_le 1 m.sizes.lines) (nat_le m.sizes.lines 4096) running.sizes.lines).0 in omega (arith, least)

  ranged : IsRanged m.sizes m.past.state
  ranged = ranged-run m.charge (turn m) (turn-in m.sizes m.programs running.programs) m.events m.past words-some (turn-ran m running)

  -- a line that a node has a copy of is one of the machine
  copied-in : (node line : ℕ) → is_empty (copy_of (m.past.state.share node) line) ≡ false → line < all_lines m.sizes
  copied-in node line held = go (cases_lt (home_of m.sizes line) m.sizes.nodes)
    where
      go : (home_of m.sizes line < m.sizes.nodes) ⊎ (m.sizes.nodes ≤ home_of m.sizes line) → line < all_lines m.sizes
      go (inl less) =
          let last = last-line (home_of m.sizes line) m.sizes.lines m.sizes.nodes less in
          let within : line < line / m.sizes.lines * m.sizes.lines + m.sizes.lines = lt-div-mul-add lines-some in
          omega (arith, last, within)
      go (inr far) = absurd (let gone : true ≡ false = sym (ap is_empty (ranged.copies node line (inr far))) ∙ held in cc)

  and-last : (a b c : Bool) → (a && b && not c) ≡ true → c ≡ false
  and-last true true false e = refl
  and-last true true true e = cc
  and-last true false c e = cc
  and-last false b c e = cc

  other-in : (node line : ℕ) → IfSome (other_in_set m.sizes (m.past.state.share node) line) (λ other. other < all_lines m.sizes)
  other-in node line = go (find test (fin.entries (m.past.state.share node).copies)) refl
    where
      test : ℕ × Copy → Bool
      test e = (set_of m.sizes e.0 == set_of m.sizes line) && not (e.0 == line) && not (is_empty (copy_of (m.past.state.share node) e.0))

      go : (o : Option (ℕ × Copy)) → find test (fin.entries (m.past.state.share node).copies) ≡ o → IfSome (option_map (λ e. e.0) o) (λ other. other < all_lines m.sizes)
      go None is = tt
      go (Some e) is = copied-in node e.0 (and-last (set_of m.sizes e.0 == set_of m.sizes line) (not (e.0 == line)) (is_empty (copy_of (m.past.state.share node) e.0)) (find-passes test (fin.entries (m.past.state.share node).copies) e is))

  evictions-in : (node : ℕ) (o : Option ℕ) → node < m.sizes.nodes → IfSome o (λ line. line < all_lines m.sizes) → AreIn m.sizes (evictions_of node o)
  evictions-in node None less is = tt
  evictions-in node (Some line) less is = ((less, is), ((less, is), ((less, is), tt)))

  room-in : (node : ℕ) (o : Option Op) → node < m.sizes.nodes → AreIn m.sizes (room_events m.sizes node (m.past.state.share node) o)
  room-in node None less = tt
  room-in node (Some op) less = go (is_some (m.past.state.share node).want)
    where
      go : (b : Bool) → AreIn m.sizes (cond b [] (evictions_of node (other_in_set m.sizes (m.past.state.share node) (line_of m.sizes op.word))))
      go true = tt
      go false = evictions-in node (other_in_set m.sizes (m.past.state.share node) (line_of m.sizes op.word)) less (other-in node (line_of m.sizes op.word))

  processors-in : (node : ℕ) → node < m.sizes.nodes → AreIn m.sizes (processor_candidates m.sizes m.programs m.past.state node)
  processors-in node less = (less, (less, room-in node (slice_get (m.programs node) (m.past.state.share node).place) less))

  takes-in : (lane : Lane) → IsLaneIn m.sizes lane → AreIn m.sizes (takes_on m lane)
  takes-in lane is = go (m.past.state.lane lane.src lane.dst lane.class)
    where
      each : (line : ℕ) → line < lane.dst * m.sizes.lines + m.sizes.lines → IsEventOf m.sizes (Take lane.src lane.dst lane.class (Some line))
      each line high = is

      asked : (b : Bool) → AreIn m.sizes (cond b (map (λ line. Take lane.src lane.dst lane.class (Some line)) (filter (λ line. fits_victim m.charge m.sizes lane.dst (m.past.state.share lane.dst) line) (lines_of m.sizes lane.dst))) (Take lane.src lane.dst lane.class None ∷ []))
      asked true = in-takes m.sizes (λ line. Take lane.src lane.dst lane.class (Some line)) (λ line. fits_victim m.charge m.sizes lane.dst (m.past.state.share lane.dst) line) (lane.dst * m.sizes.lines) m.sizes.lines each
      asked false = (is, tt)

      go : (messages : List Msg) → AreIn m.sizes (takes_of m.charge m.sizes m.past.state lane messages)
      go [] = tt
      go (x ∷ rest) = asked (asks_victim m.charge m.sizes lane.dst (m.past.state.share lane.dst) lane.src x)

  reclaims-in : (home : ℕ) → home < m.sizes.nodes → AreIn m.sizes (reclaims_of m.charge m.sizes m.programs m.past.state home)
  reclaims-in home less = go (nat_lt (free_links m.charge m.sizes (m.past.state.share home)) (low_water m.sizes.links)) (find enabled (lines_of m.sizes home)) found
    where
      enabled : ℕ → Bool
      enabled line = is_enabled m.charge m.sizes m.programs m.past.state (Reclaim line)

      found : IfSome (find enabled (lines_of m.sizes home)) (λ line. line < all_lines m.sizes)
      found = find-range-in enabled (λ line. line < all_lines m.sizes) (home * m.sizes.lines) m.sizes.lines (λ line low high. let last = last-line home m.sizes.lines m.sizes.nodes less in omega (arith, last, high))

      go : (b : Bool) (o : Option ℕ) → IfSome o (λ line. line < all_lines m.sizes) → AreIn m.sizes (cond b (reclaim_of o) [])
      go true None is = tt
      go true (Some line) is = (is, tt)
      go false o is = tt

  pub candidates-in : AreIn m.sizes (candidates_on m)
  candidates-in =
      in-filter m.sizes (is_enabled m.charge m.sizes m.programs m.past.state)
      (flat_map (processor_candidates m.sizes m.programs m.past.state) (all_nodes m.sizes) ++ all_takes m (lanes_in_order m.sizes) ++ flat_map (reclaims_of m.charge m.sizes m.programs m.past.state) (all_nodes m.sizes))
      (in-append m.sizes (flat_map (processor_candidates m.sizes m.programs m.past.state) (all_nodes m.sizes) ++ all_takes m (lanes_in_order m.sizes)) (flat_map (reclaims_of m.charge m.sizes m.programs m.past.state) (all_nodes m.sizes))
      (in-append m.sizes (flat_map (processor_candidates m.sizes m.programs m.past.state) (all_nodes m.sizes)) (all_takes m (lanes_in_order m.sizes))
      (in-range m.sizes (processor_candidates m.sizes m.programs m.past.state) 0 m.sizes.nodes (λ node low high. processors-in node (omega (arith, high))))
      (in-lanes m.sizes (takes_on m) (lanes_in_order m.sizes) (lanes-in m.sizes) takes-in))
      (in-range m.sizes (reclaims_of m.charge m.sizes m.programs m.past.state) 0 m.sizes.nodes (λ home low high. reclaims-in home (omega (arith, high)))))
