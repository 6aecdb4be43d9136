-- An eviction of a copy that is known: what a small share answers for its copy stands in the definition's place.
use Rattle.std.proofs.Common.{◌≡◌, ℕ, Bool, not, ◌&&◌, ◌==◌, if◌then◌else◌, [], ◌∷◌, Result, Ok, Err, refl}
use Rattle.line_map.specs.Sizes.{Sizes, home_of}
use Rattle.op_model.specs.declared.events.Cause.{Cause}
use Rattle.op_model.specs.Lines.{Copy, Absent}
use Rattle.op_model.specs.Tables.Processor.{evict}
use Rattle.op_model.specs.Shares.{Share, copy_of, header_of, want_on}
use Rattle.op_model.specs.Events.Node.{NodeOutcome, bind, by_row, departs}
use Rattle.row_examples.specs.Types.{EvictKind, LaneGate}
use Rattle.row_examples.specs.Machines.{share_with}
use Rattle.row_examples.proofs.Maps.{maps}

-- what a node does with an eviction, as a function of its copy
abbrev pub evict_of : Sizes → ℕ → Share → ℕ → EvictKind → Bool → Copy → Result NodeOutcome Cause
evict_of sizes me share line kind room copy =
    bind (evict me (home_of sizes line) kind (record { copy = copy; want = want_on sizes share.want line; header = header_of sizes share line }))
    (λ outcome. if departs (me == home_of sizes line) kind && not room then Err LaneGate else Ok (by_row sizes me share line outcome))

pub copy-none : copy_of (share_with 0 [] []) 0 ≡ Absent
unfolding copy_of
copy-none = simp maps refl

pub copy-0 : (copy : Copy) → copy_of (share_with 0 ((0, copy) ∷ []) []) 0 ≡ copy
unfolding copy_of
copy-0 copy = simp maps refl

pub copy-1 : (copy : Copy) → copy_of (share_with 0 ((1, copy) ∷ []) []) 1 ≡ copy
unfolding copy_of
copy-1 copy = simp maps refl
