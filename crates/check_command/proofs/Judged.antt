-- The list of a trace's programs is the program of each node.
use Rattle.std.proofs.Common.{◌≡◌, List, length, ap, ◌∙◌}
use Rattle.std.proofs.lemmas.List.FromFn.{length-map-range_with_len}
use Rattle.op_model.specs.declared.operations.Op.{Op}
use Rattle.op_model.specs.Programs.{programs_of}
use Rattle.op_model.specs.Shares.{Trace, program}
use Rattle.trace_text.specs.Traces.{IsTrace, programs_of as program_list}
use Rattle.hist_check.proofs.Public.{same-program}

pub listed : (trace : Trace) (programs : List (List Op)) → IsTrace trace → programs ≡ program_list trace → programs_of programs ≡ program trace
listed trace programs is same = ap programs_of same ∙ (λ i node. same-program trace node is i)

pub one-each : (trace : Trace) (programs : List (List Op)) → programs ≡ program_list trace → length programs ≡ trace.sizes.nodes
one-each trace programs same = ap length same ∙ length-map-range_with_len (program trace) 0 trace.sizes.nodes
