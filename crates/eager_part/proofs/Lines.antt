-- A line at its home: it waits for acknowledgements where it drains, and else it is as in the delayed core.
use Rattle.std.proofs.Common.{◌≡◌, ℕ, true, false, refl}
use Rattle.op_model.specs.declared.state.Grantee.TheVariants.{Me, Nobody, Node}
use Rattle.op_model.specs.declared.state.Wait.{Wait}
use Rattle.op_model.specs.declared.state.Wait.TheVariants.{Idle, Invalidate, ForwardGet, ForwardGetX}
use Rattle.op_model.specs.Lines.{LineShare}
use Rattle.op_model.specs.Nodes.{listed}
use Rattle.op_model.specs.OwnPart.{IsOwnLine}
use Rattle.op_model.specs.Tables.Remote.{is_invalidate}
use Rattle.eager_model.specs.Rows.{Drain}
use Rattle.eager_part.specs.Part.{IsDrainingLine, IsEagerLine}

-- a line, by what it waits for
abbrev pub IsLine : ℕ → LineShare → Type 0
IsLine home s = IsEagerLine home s.header.wait s

pub as-delayed : (home : ℕ) (wait : Wait) (s : LineShare) → is_invalidate wait ≡ false → IsEagerLine home wait s → IsOwnLine home s
as-delayed home Idle s calm is = is
as-delayed home (Invalidate g) s calm is = absurd (cc)
as-delayed home (ForwardGet r) s calm is = is
as-delayed home (ForwardGetX r) s calm is = is

pub as-eager : (home : ℕ) (wait : Wait) (s : LineShare) → is_invalidate wait ≡ false → IsOwnLine home s → IsEagerLine home wait s
as-eager home Idle s calm own = own
as-eager home (Invalidate g) s calm own = absurd (cc)
as-eager home (ForwardGet r) s calm own = own
as-eager home (ForwardGetX r) s calm own = own

-- to whom a line that drains was granted
pub as-draining : (home : ℕ) (wait : Wait) (s : LineShare) → is_invalidate wait ≡ true → IsEagerLine home wait s → (n : ℕ) × (wait ≡ Drain n) × IsDrainingLine home n s
as-draining home Idle s called is = absurd (cc)
as-draining home (Invalidate Nobody) s called is = absurd is
as-draining home (Invalidate Me) s called is = absurd is
as-draining home (Invalidate (Node n)) s called is = (n, refl, is)
as-draining home (ForwardGet r) s called is = absurd (cc)
as-draining home (ForwardGetX r) s called is = absurd (cc)

-- the home isn't listed
pub home-unlisted : (home : ℕ) (wait : Wait) (s : LineShare) → IsEagerLine home wait s → listed s.header.list home ≡ false
home-unlisted home Idle s is = is.unlisted
home-unlisted home (Invalidate Nobody) s is = absurd is
home-unlisted home (Invalidate Me) s is = absurd is
home-unlisted home (Invalidate (Node n)) s is = is.unlisted
home-unlisted home (ForwardGet r) s is = is.unlisted
home-unlisted home (ForwardGetX r) s is = is.unlisted
