-- The text of a machine that has made a command's run is the command's text of the trace.
use Rattle.std.proofs.Common.{◌≡◌, ℕ, List, ap, ◌∙◌}
use Rattle.op_model.specs.Shares.{Trace, Charge}
use Rattle.op_model.specs.Run.History.{IsOneHistory}
use Rattle.op_model.specs.Run.Machines.{MachineRun}
use Rattle.command_words.specs.declared.command.Play.{Play}
use Rattle.commands.specs.Runs.{IsOutput, IsPlayed, text_for}

pub text-is : (play : Play) (charge : Charge) (trace : Trace) (m : MachineRun) (text : List ℕ) → IsPlayed play trace charge m → IsOneHistory charge trace m.events m.past → text ≡ text_for play trace m → IsOutput play charge trace text
text-is play charge trace m text played one printed =
    record { events = m.events; past = m.past; made = played.made; ran = played.ran; one = one; printed = printed ∙ ap (text_for play trace) played.is }
