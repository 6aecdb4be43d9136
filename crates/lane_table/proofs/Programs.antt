-- The programs that a table is told are those of a trace of its machine, and a run of that trace is the table's run.
use Rattle.std.proofs.Common.{◌≡◌, List, [], refl, ap, arith, Option, Some, None}
use Rattle.std.specs.Prelude.{slice_get, unwrap_or}
use Rattle.std.proofs.lemmas.Option.{slice_get_within}
use Rattle.line_map.specs.Sizes.{Sizes}
use Rattle.op_model.specs.declared.events.Event.{Event}
use Rattle.op_model.specs.declared.operations.Op.{Op}
use Rattle.op_model.specs.Events.Step.{Programs}
use Rattle.op_model.specs.Programs.{ArePrograms, programs_of}
use Rattle.op_model.specs.Run.Machines.{IsProgramOp}
use Rattle.op_model.specs.Run.Runs.{run, run_by, start}
use Rattle.op_model.specs.Shares.{Trace, Linked, program}
use Rattle.node_range.specs.Range.{IsOfMachine}
use Rattle.node_range.specs.Traces.{AreProgramsIn}
use Rattle.node_range.proofs.Public.{turn-in, turn-programs, turn_of}
use Rattle.lane_table.specs.Setups.{Setup, run_in}

programs_in : (sizes : Sizes) (programs : List (List Op)) → ArePrograms sizes programs → AreProgramsIn sizes (programs_of programs)
programs_in sizes programs are node place op at = go (slice_get programs node) refl at
  where
    go : (o : Option (List Op)) → slice_get programs node ≡ o → slice_get (unwrap_or o []) place ≡ Some op → IsProgramOp sizes node place op
    go None none at = absurd (let n : ◌≡◌ {A = Option Op} None (Some op) = at in cc)
    go (Some own) there at =
        record { of_machine = (let within = slice_get_within programs node own there in omega (arith, within, are.count)); is = are.each node own there place op at }

-- the operations of all programs, node by node
abbrev pub trace_of : Setup → Trace
trace_of setup = turn_of setup.sizes (programs_of setup.programs)

module _ (setup : Setup) (are : ArePrograms setup.sizes setup.programs) where
  pub told_programs : program (trace_of setup) ≡ programs_of setup.programs
  told_programs = turn-programs setup.sizes (programs_of setup.programs) (programs_in setup.sizes setup.programs are)

  pub told_ops : IsOfMachine (trace_of setup)
  told_ops = turn-in setup.sizes (programs_of setup.programs) (programs_in setup.sizes setup.programs are)

  pub told_run : (events : List Event) → run Linked (trace_of setup) events ≡ run_in setup events
  told_run events = ap (λ (programs : Programs). run_by Linked setup.sizes programs (start setup.sizes) events) told_programs
