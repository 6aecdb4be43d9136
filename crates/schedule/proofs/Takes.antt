-- The Takes of the lanes, told lane by lane along those that aren't empty.
use Rattle.std.proofs.Common.{◌≡◌, ℕ, suc, ◌<◌, Bool, true, false, cond, ◌&&◌, List, [], ◌∷◌, ◌++◌, length, length-append, append_assoc, refl, arith, ap, sym, ◌∙◌, subst, Option, Some, None}
use Rattle.std.specs.Prelude.{find, count_by, not}
use Rattle.std.specs.List.{flat_map}
use Rattle.std.proofs.lemmas.List.{append-nil}
use Rattle.std.proofs.lemmas.List.Elements.{filter-append}
use Rattle.std.proofs.lemmas.Grind.{flat_map-append}
use Rattle.op_model.specs.declared.events.Class.{Class}
use Rattle.op_model.specs.declared.events.Event.{Event}
use Rattle.op_model.specs.declared.messages.Msg.{Msg}
use Rattle.op_model.specs.Run.Schedules.{Lane, first_busy, is_no_message, lanes_in_order, lane_before}
use Rattle.op_model.specs.Run.Seeded.{takes_of}
use Rattle.op_model.specs.Run.Machines.{MachineRun}
use Rattle.machine_face.specs.Reads.{IsLane, is_busy, next_busy}
use Rattle.schedule.specs.Candidates.{enabled_of}
use Rattle.schedule.proofs.LaneOrders.{AllOf, IsSorted, IsLaneIn, all-at, lanes-sorted, lanes-in, search-behind, count-behind}

-- the Takes of one lane
abbrev pub takes_on : MachineRun → Lane → List Event
takes_on m lane = takes_of m.charge m.sizes m.past.state lane (m.past.state.lane lane.src lane.dst lane.class)

abbrev pub lane_of : ℕ × ℕ × Class → Lane
lane_of parts = record { src = parts.0; dst = parts.1; class = parts.2 }

abbrev pub all_takes : MachineRun → List Lane → List Event
all_takes m lanes = flat_map (takes_on m) lanes

-- a lane whose messages are none has no Takes
quiet-takes : (m : MachineRun) (lane : Lane) → is_busy m.past.state lane ≡ false → takes_on m lane ≡ []
quiet-takes m lane quiet = go (m.past.state.lane lane.src lane.dst lane.class) quiet
  where
    go : (messages : List Msg) → not (is_no_message messages) ≡ false → takes_of m.charge m.sizes m.past.state lane messages ≡ []
    go [] e = refl
    go (x ∷ rest) e = absurd (let d : true ≡ false = e in cc)

-- What a search among lanes finds: none that isn't empty, or the first one behind some that are
pub record IsFound (m : MachineRun) (lanes : List Lane) (lane : Lane) : Type 0 where
  pub quiet : List Lane
  pub more : List Lane
  pub split : lanes ≡ quiet ++ lane ∷ more
  pub silent : all_takes m quiet ≡ []
  pub busy : is_busy m.past.state lane ≡ true

abbrev pub Finds : MachineRun → List Lane → Option Lane → Type 0
Finds m lanes None = all_takes m lanes ≡ []
Finds m lanes (Some lane) = IsFound m lanes lane

finds : (m : MachineRun) (lanes : List Lane) → Finds m lanes (find (is_busy m.past.state) lanes)
finds m [] = refl
finds m (x ∷ lanes) = go (is_busy m.past.state x) refl (find (is_busy m.past.state) lanes) (finds m lanes)
  where
    go : (b : Bool) → is_busy m.past.state x ≡ b → (o : Option Lane) → Finds m lanes o → Finds m (x ∷ lanes) (cond b (Some x) o)
    go true busy o later = record { quiet = []; more = lanes; split = refl; silent = refl; busy = busy }
    go false quiet None later = ap (λ es. es ++ all_takes m lanes) (quiet-takes m x quiet) ∙ later
    go false quiet (Some lane) later = record {
      quiet = x ∷ later.quiet;
      more = later.more;
      split = ap (λ ls. x ∷ ls) later.split;
      silent = ap (λ es. es ++ all_takes m later.quiet) (quiet-takes m x quiet) ∙ later.silent;
      busy = later.busy;
    }

-- Where the telling stands: at no lane, with all Takes told, or at one that isn't empty, with those of the lanes before it told
pub record IsAt (m : MachineRun) (first now : List Event) (lane : Lane) : Type 0 where
  pub front : List Lane
  pub more : List Lane
  pub split : lanes_in_order m.sizes ≡ front ++ lane ∷ more
  pub busy : is_busy m.past.state lane ≡ true
  pub told : now ≡ first ++ enabled_of m (all_takes m front)

abbrev pub IsTold : MachineRun → List Event → List Event → Type 0
IsTold m first now = now ≡ first ++ enabled_of m (all_takes m (lanes_in_order m.sizes))

abbrev pub StandsAt : MachineRun → List Event → List Event → Option Lane → Type 0
StandsAt m first now None = IsTold m first now
StandsAt m first now (Some lane) = IsAt m first now lane

abbrev pub to_lane : Option (ℕ × ℕ × Class) → Option Lane
to_lane None = None
to_lane (Some parts) = Some (lane_of parts)

abbrev pub IsTelling : MachineRun → List Event → List Event → Option (ℕ × ℕ × Class) → Type 0
IsTelling m first now answer = StandsAt m first now (to_lane answer)

answer-is : (answer : Option (ℕ × ℕ × Class)) (lane : Option Lane) → IsLane answer lane → lane ≡ to_lane answer
answer-is None lane is = is
answer-is (Some parts) lane is = is

-- how many lanes there are from this one on
abbrev pub lanes_left : MachineRun → Option (ℕ × ℕ × Class) → ℕ
lanes_left m None = 0
lanes_left m (Some parts) = suc (count_by (lane_before (lane_of parts)) (lanes_in_order m.sizes))

module _ (m : MachineRun) (first : List Event) where
  kept-append : (xs ys : List Lane) → enabled_of m (all_takes m (xs ++ ys)) ≡ enabled_of m (all_takes m xs) ++ enabled_of m (all_takes m ys)
  kept-append xs ys = ap (enabled_of m) (flat_map-append (takes_on m) xs ys) ∙ filter-append _ (all_takes m xs) (all_takes m ys)

  -- what is told stands before what is found
  settles : (front rest : List Lane) (now : List Event) (o : Option Lane) → lanes_in_order m.sizes ≡ front ++ rest → now ≡ first ++ enabled_of m (all_takes m front) → Finds m rest o → StandsAt m first now o
  settles front rest now None split told found =
      told ∙ sym (ap (λ ls. first ++ enabled_of m (all_takes m ls)) split ∙ (ap (λ es. first ++ es) (kept-append front rest) ∙
      (ap (λ es. first ++ (enabled_of m (all_takes m front) ++ enabled_of m es)) found ∙ ap (λ es. first ++ es) (append-nil (enabled_of m (all_takes m front))))))
  settles front rest now (Some lane) split told found = record {
    front = front ++ found.quiet;
    more = found.more;
    split = split ∙ (ap (λ ls. front ++ ls) found.split ∙ sym (append_assoc front found.quiet (lane ∷ found.more)));
    busy = found.busy;
    told = told ∙ sym (ap (λ es. first ++ es) (kept-append front found.quiet) ∙
        (ap (λ es. first ++ (enabled_of m (all_takes m front) ++ enabled_of m es)) found.silent ∙ ap (λ es. first ++ es) (append-nil (enabled_of m (all_takes m front)))));
  }

  -- at first nothing is told
  pub telling-first : (answer : Option (ℕ × ℕ × Class)) → IsLane answer (first_busy m.sizes m.past.state) → IsTelling m first first answer
  telling-first answer is =
      subst (StandsAt m first first) (answer-is answer (first_busy m.sizes m.past.state) is)
      (settles [] (lanes_in_order m.sizes) first (first_busy m.sizes m.past.state) refl (sym (append-nil first)) (finds m (lanes_in_order m.sizes)))

  module _ (now later : List Event) (here : Lane) (at : IsAt m first now here) (more : later ≡ now ++ enabled_of m (takes_on m here)) (answer : Option (ℕ × ℕ × Class)) (is : IsLane answer (next_busy m.sizes m.past.state here)) where
    sorted : IsSorted (at.front ++ here ∷ at.more)
    sorted = subst IsSorted at.split (lanes-sorted m.sizes)

    behind : next_busy m.sizes m.past.state here ≡ find (is_busy m.past.state) at.more
    behind = ap (find (λ lane. lane_before here lane && is_busy m.past.state lane)) at.split ∙ search-behind (is_busy m.past.state) at.front here at.more sorted

    told-here : later ≡ first ++ enabled_of m (all_takes m (at.front ++ here ∷ []))
    told-here =
        more ∙ (ap (λ es. es ++ enabled_of m (takes_on m here)) at.told ∙ (append_assoc first (enabled_of m (all_takes m at.front)) (enabled_of m (takes_on m here)) ∙
        ap (λ es. first ++ es) (sym (kept-append at.front (here ∷ []) ∙ ap (λ es. enabled_of m (all_takes m at.front) ++ enabled_of m es) (append-nil (takes_on m here))))))

    -- the Takes of one lane more are told
    pub telling-on : IsTelling m first later answer
    telling-on =
        subst (StandsAt m first later) (sym behind ∙ answer-is answer (next_busy m.sizes m.past.state here) is)
        (settles (at.front ++ here ∷ []) at.more later (find (is_busy m.past.state) at.more) (at.split ∙ sym (append_assoc at.front (here ∷ []) at.more)) told-here (finds m at.more))

    count-here : count_by (lane_before here) (lanes_in_order m.sizes) ≡ length at.more
    count-here = ap (count_by (lane_before here)) at.split ∙ count-behind at.front here at.more sorted

    fewer : (o : Option (ℕ × ℕ × Class)) → find (is_busy m.past.state) at.more ≡ to_lane o → lanes_left m o < suc (length at.more)
    fewer None e = omega arith
    fewer (Some parts) e =
        let found : IsFound m at.more (lane_of parts) = subst (Finds m at.more) e (finds m at.more) in
        let whole : lanes_in_order m.sizes ≡ (at.front ++ here ∷ found.quiet) ++ lane_of parts ∷ found.more =
        at.split ∙ (ap (λ ls. at.front ++ here ∷ ls) found.split ∙ sym (append_assoc at.front (here ∷ found.quiet) (lane_of parts ∷ found.more))) in
        let count = ap (count_by (lane_before (lane_of parts))) whole ∙ count-behind (at.front ++ here ∷ found.quiet) (lane_of parts) found.more (subst IsSorted whole (lanes-sorted m.sizes)) in
        let long = ap length found.split ∙ length-append found.quiet (lane_of parts ∷ found.more) in
        omega (arith, count, long)

    pub lanes-fewer : lanes_left m answer < suc (count_by (lane_before here) (lanes_in_order m.sizes))
    lanes-fewer = let less = fewer answer (sym behind ∙ answer-is answer (next_busy m.sizes m.past.state here) is) in omega (arith, less, count-here)

  pub at-in : (now : List Event) (here : Lane) → IsAt m first now here → IsLaneIn m.sizes here
  at-in now here at = all-at (IsLaneIn m.sizes) at.front here at.more (subst (AllOf (IsLaneIn m.sizes)) at.split (lanes-in m.sizes))

  pub stands : (now : List Event) (answer : Option (ℕ × ℕ × Class)) (parts : ℕ × ℕ × Class) → answer ≡ Some parts → IsTelling m first now answer → IsAt m first now (lane_of parts)
  stands now answer parts is at = subst (IsTelling m first now) is at

  -- and with it fewer lanes are left
  pub left-less : (now : List Event) (answer other : Option (ℕ × ℕ × Class)) (parts : ℕ × ℕ × Class) → answer ≡ Some parts → IsTelling m first now answer → IsLane other (next_busy m.sizes m.past.state (lane_of parts)) → lanes_left m other < lanes_left m answer
  left-less now answer other parts is at found =
      let here = stands now answer parts is at in
      subst (λ a. lanes_left m other < lanes_left m a) (sym is) (lanes-fewer now (now ++ enabled_of m (takes_on m (lane_of parts))) (lane_of parts) here refl other found)
