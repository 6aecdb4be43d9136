-- The lines of a home that may be called in: each is one of the machine, and there are few.
use Rattle.std.proofs.Common.{◌≡◌, ℕ, zero, suc, ◌+◌, ◌*◌, ◌<◌, ◌≤◌, Bool, true, false, cond, List, [], ◌∷◌, ◌++◌, length, append_assoc, arith, ap, sym, ◌∙◌, IfSome, Option, Some, None}
use Rattle.std.specs.Prelude.{find, nat_le}
use Rattle.std.specs.List.{range_with_len}
use Rattle.std.proofs.Math.Nat.{mul-le-mul_right}
use Rattle.std.proofs.lemmas.Bool.{leb-true, and_parts}
use Rattle.std.proofs.lemmas.List.{append-nil}
use Rattle.std.proofs.lemmas.List.Elements.{filter-append}
use Rattle.std.proofs.lemmas.List.FromFn.{length-range_with_len}
use Rattle.std.proofs.lemmas.List.Sums.{count_by-le-length, length-filter}
use Rattle.line_map.specs.Sizes.{Sizes, all_lines}
use Rattle.op_model.specs.declared.events.Class.{Class}
use Rattle.op_model.specs.declared.events.Event.{Event}
use Rattle.op_model.specs.declared.events.Event.TheVariants.{Take}
use Rattle.op_model.specs.Events.Node.{fits_victim}
use Rattle.op_model.specs.Shares.{Charge, State}
use Rattle.op_model.specs.Run.Schedules.{least_victim}
use Rattle.op_model.specs.Run.Seeded.{is_enabled}
use Rattle.op_model.specs.Run.Machines.{MachineRun, IsRunning}
use Rattle.machine_face.specs.Reads.{victims}
use Rattle.schedule.specs.Candidates.{enabled_of, takes_with}

find-range : (p : ℕ → Bool) (a n : ℕ) → IfSome (find p (range_with_len a n)) (λ x. x < a + n)
find-range p a zero = tt
find-range p a (suc n) = go (p a) (find p (range_with_len (a + 1) n)) (find-range p (a + 1) n)
  where
    go : (b : Bool) (o : Option ℕ) → IfSome o (λ x. x < a + 1 + n) → IfSome (cond b (Some a) o) (λ x. x < a + suc n)
    go true o later = omega arith
    go false None later = tt
    go false (Some x) later = omega arith

pub last-line : (home lines nodes : ℕ) → home < nodes → home * lines + lines ≤ nodes * lines
last-line home lines nodes below =
    let more : suc home * lines ≤ nodes * lines = mul-le-mul_right lines (let next : suc home ≤ nodes = omega arith in next) in
    grind arith

-- so the least line that may be called in is one of the machine
pub least-below : (charge : Charge) (sizes : Sizes) (state : State) (home : ℕ) → home < sizes.nodes → IfSome (least_victim charge sizes state home) (λ line. line < all_lines sizes)
least-below charge sizes state home below = go (least_victim charge sizes state home) (find-range _ (home * sizes.lines) sizes.lines)
  where
    go : (o : Option ℕ) → IfSome o (λ x. x < home * sizes.lines + sizes.lines) → IfSome o (λ line. line < all_lines sizes)
    go None found = tt
    go (Some line) found = let last = last-line home sizes.lines sizes.nodes below in omega (arith, found, last)

-- they are no more than a home has lines
pub victims-few : (m : MachineRun) (home : ℕ) → length (victims m home) ≤ m.sizes.lines
victims-few m home =
    let p : ℕ → Bool = λ line. fits_victim m.charge m.sizes home (m.past.state.share home) line in
    let lines : List ℕ = range_with_len (home * m.sizes.lines) m.sizes.lines in
    let kept = length-filter p lines in
    let most = count_by-le-length p lines in
    let all = length-range_with_len (home * m.sizes.lines) m.sizes.lines in
    omega (arith, kept, most, all)

pub lines-few : (m : MachineRun) → IsRunning m → m.sizes.lines ≤ 4096
lines-few m running = leb-true _ _ (and_parts (nat_le 1 m.sizes.lines) (nat_le m.sizes.lines 4096) running.sizes.lines).1

pub nodes-few : (m : MachineRun) → IsRunning m → m.sizes.nodes ≤ 64
nodes-few m running = leb-true _ _ (and_parts (nat_le 2 m.sizes.nodes) (nat_le m.sizes.nodes 64) running.sizes.nodes).1

-- the Take of the next line is told, and those of the others are left
pub takes-more : (m : MachineRun) (src dst : ℕ) (class : Class) (now later : List Event) (line : ℕ) (left rest : List ℕ) → left ≡ line ∷ rest → later ≡ now ++ enabled_of m (Take src dst class (Some line) ∷ []) →
    later ++ enabled_of m (takes_with src dst class rest) ≡ now ++ enabled_of m (takes_with src dst class left)
takes-more m src dst class now later line left rest is told =
    let one : List Event = Take src dst class (Some line) ∷ [] in
    ap (λ es. es ++ enabled_of m (takes_with src dst class rest)) told ∙ append_assoc now (enabled_of m one) (enabled_of m (takes_with src dst class rest))
    ∙ ap (λ es. now ++ es) (sym (filter-append (is_enabled m.charge m.sizes m.programs m.past.state) one (takes_with src dst class rest)) ∙ ap (λ lines. enabled_of m (takes_with src dst class lines)) (sym is))

pub takes-all : (m : MachineRun) (src dst : ℕ) (class : Class) (now : List Event) (left : List ℕ) → left ≡ [] → now ≡ now ++ enabled_of m (takes_with src dst class left)
takes-all m src dst class now left none = sym (append-nil now) ∙ ap (λ lines. now ++ enabled_of m (takes_with src dst class lines)) (sym none)
