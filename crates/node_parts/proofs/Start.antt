-- At the start no node has sent or taken anything, so that the parts make the start of the machine, and each is ready.
use Rattle.std.proofs.Common.{◌≡◌, ℕ, refl, arith, Some, None, Option}
use Rattle.line_map.specs.Sizes.{Sizes}
use Rattle.op_model.specs.declared.messages.Msg.{Msg}
use Rattle.op_model.specs.Events.Step.{Programs}
use Rattle.op_model.specs.Run.Runs.{start}
use Rattle.op_model.specs.Parts.Part.{parts_at_start}
use Rattle.op_model.specs.Parts.Composition.{compose, IsReady}

pub start_composed : (sizes : Sizes) (programs : Programs) → compose (parts_at_start sizes programs) ≡ (start sizes).state
start_composed sizes programs = refl

pub start_ready : (sizes : Sizes) (programs : Programs) (node : ℕ) → IsReady sizes programs (parts_at_start sizes programs) node
start_ready sizes programs node =
    record {
      number = refl;
      machine = refl;
      program = refl;
      counts = λ a b class. omega arith;
      front = λ a class m ready names. absurd (let d : ◌≡◌ {A = Option Msg} None (Some m) = names in cc);
      gate = λ b. omega arith;
    }
