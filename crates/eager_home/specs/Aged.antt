-- An act of one node with its ages.
use Rattle.std.specs.Prelude.{◌≡◌, ℕ, ◌≤◌, Bool, List, slice_get}
use Rattle.line_map.specs.Sizes.{Sizes}
use Rattle.op_model.specs.declared.operations.Op.{Op}
use Rattle.op_model.specs.Lines.{LineShare, Outcome}
use Rattle.op_model.specs.Messages.{msg_line}
use Rattle.op_model.specs.Operations.{Words}
use Rattle.op_model.specs.Shares.{Share}
use Rattle.op_model.specs.Events.Node.{Input, HitNext, IssueNext, EvictLine, TakeFrom, ReclaimLine}
use Rattle.eager_model.specs.Ages.{LineAges, ages_begun, ages_left}
use Rattle.eager_model.specs.Node.{NodeAges, aged, local, put_ages}
use Rattle.msg_words.specs.SendList.{SendList}
use Rattle.node_share.specs.Effects.{Acts}
use Rattle.magic_node.specs.declared.acts.LocalEvent.{LocalEvent}
use Rattle.magic_node.specs.declared.acts.LocalEvent.TheVariants.{Issue, Evict}
use Rattle.eager_home.specs.Ages.{line_next}
use Rattle.eager_home.specs.declared.aging.AgedEffect.{AgedEffect}

-- What the definition says of an act is done: the new share, the messages sent and what is told of operations; the new ages, the age of the words given, and that of the operation served.
-- A message that is taken has this age
pub record AgedActs (sizes : Sizes) (node : ℕ) (program : List Op) (brought : Words) (old : Share) (before : NodeAges) (input : Input) (age : ℕ) (new : Share) (after : NodeAges) (out out' : SendList) (did : AgedEffect) : Type 0 where
  pub acts : Acts node program old.place brought (local sizes node program old input) new out out' did.effect
  pub ages : after ≡ put_ages acts.outcome.line (aged sizes node old before input age acts.outcome).ages before
  pub given : did.given ≡ (aged sizes node old before input age acts.outcome).given
  pub served : did.served ≡ (aged sizes node old before input age acts.outcome).served

-- no age of a node is above this one
abbrev pub AreWithin : ℕ → NodeAges → Type 0
AreWithin bound ages = (line : ℕ) → (ages.copy line ≤ bound) × (ages.memory line ≤ bound)

-- the line of an act
abbrev pub line_named : Sizes → List Op → ℕ → Input → ℕ
line_named sizes program place HitNext = line_next sizes (slice_get program place)
line_named sizes program place IssueNext = line_next sizes (slice_get program place)
line_named sizes program place (EvictLine line kind room) = line
line_named sizes program place (TakeFrom src m victim) = msg_line m
line_named sizes program place (ReclaimLine line) = line

-- the ages of a line before an event of the node by itself: memory takes the words of the home's exclusive copy where that is to leave
abbrev pub ages_before : LocalEvent → Bool → LineShare → LineAges → LineAges
ages_before (Evict line kind) at_home share ages = ages_left at_home share ages
ages_before _ at_home share ages = ages

-- and after it: an operation that is begun may have filled its copy from memory
abbrev pub ages_after : LocalEvent → Outcome → LineAges → LineAges
ages_after Issue row ages = ages_begun row ages
ages_after _ row ages = ages
