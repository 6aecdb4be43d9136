-- A machine at a trace's start that has made the seeded schedule has made that command's run.
use Rattle.std.proofs.Common.{◌≡◌, ℕ, ap, ◌∙◌, Some, Result, Ok, Err, OnOk}
use Rattle.op_model.specs.Shares.{Trace, Charge}
use Rattle.op_model.specs.Run.Machines.{MachineRun}
use Rattle.op_model.specs.Run.Rest.{IsAtRest}
use Rattle.op_model.specs.Run.Runs.{run}
use Rattle.node_range.specs.Range.{IsOfMachine}
use Rattle.schedule_laws.specs.Ends.{AreAllDone}
use Rattle.seeded_laws.specs.Answers.{IsWholeHistory}
use Rattle.seeded_laws.specs.Command.{IsSeededRun}
use Rattle.schedule.specs.Runs.{HasOnlyRun}
use Rattle.trace_text.specs.Traces.{IsTrace}
use Rattle.command_words.specs.declared.command.Play.TheVariants.{Seeded}
use Rattle.commands.specs.Runs.{machine_at_start, IsPlayed}

-- a trace's operations are at nodes of its machine and on its words
pub of-machine : (trace : Trace) → IsTrace trace → IsOfMachine trace
of-machine trace is = record { nodes = λ i op at. (is.ops i op at).node; words = λ i op at. (is.ops i op at).word }

pub seeded-played : (charge : Charge) (trace : Trace) (seed : ℕ) (old new : MachineRun) → old ≡ machine_at_start charge trace → HasOnlyRun old new → IsSeededRun charge trace seed new.events new.past →
    (run charge trace new.events ≡ Some new.past) × IsAtRest new.past.state × AreAllDone trace new.past.state × IsWholeHistory trace new.past → IsPlayed (Seeded seed) trace charge new
seeded-played charge trace seed old new start only seeded comes =
    record {
      is = only ∙ ap (λ (m : MachineRun). record m { events = new.events; past = new.past }) start;
      made = record { seeded = seeded; whole = record { completed = comes.2; rests = comes.1 } };
      ran = comes.0;
    }

pub on-ok : {T E A B : Type 0} → (r : Result T E) → OnOk r A → (A → B) → OnOk r B
on-ok (Ok x) a f = f a
on-ok (Err e) a f = tt
