-- The text of each status, and its exit code.
use Rattle.std.specs.Prelude.{ℕ, ◌++◌, List, [], codes, decimal}
use Rattle.op_model.specs.declared.events.Cause.{Cause}
use Rattle.op_model.specs.CauseNames.{cause_name as step_cause_name}
use Rattle.trace_text.specs.declared.fault.TraceCause.{TraceCause}
use Rattle.trace_text.specs.CauseNames.{cause_name}
use Rattle.hist_check.specs.declared.fault.EntryCause.{EntryCause}
use Rattle.hist_check.specs.CauseNames.{cause_name as entry_cause_name}
use Rattle.flash_top.specs.declared.status.Status.{Status}
use Rattle.flash_top.specs.declared.status.Status.TheVariants.{Done, Usage, BadTrace, TooLong, TooManyOps, TooManySteps, ReadFault, WriteFault, Memory, NotEnabled, IllegalHistory, TooFar, NoLine}

-- the texts that are always the same
abbrev pub fixed_text : Status → List ℕ
fixed_text Done = []
fixed_text Usage = codes "flash: usage: serial, seeded S, replay, run, gen K S, check, bits serial, bits replay, at T, story G, eager serial, eager replay\n"
fixed_text (BadTrace line cause) = []
fixed_text TooLong = codes "flash: more than 16777216 bytes\n"
fixed_text TooManyOps = codes "flash: more than 100000 operations\n"
fixed_text TooManySteps = codes "flash: more than 1000000 steps\n"
fixed_text ReadFault = codes "flash: read fault\n"
fixed_text WriteFault = codes "flash: write fault\n"
fixed_text Memory = codes "flash: no memory\n"
fixed_text (NotEnabled step cause) = []
fixed_text (IllegalHistory entry cause) = []
fixed_text (TooFar count) = []
fixed_text (NoLine line) = []

-- what is refused, by its number, and its cause
abbrev pub numbered_text : List ℕ → ℕ → List ℕ → List ℕ
numbered_text what number cause = what ++ (decimal number ++ (codes ": " ++ (cause ++ codes "\n")))

-- what is written to the error sink
abbrev pub fault_text : Status → List ℕ
fault_text (BadTrace line cause) = numbered_text (codes "flash: line ") line (cause_name cause)
fault_text (NotEnabled step cause) = numbered_text (codes "flash: step ") step (step_cause_name cause)
fault_text (IllegalHistory entry cause) = numbered_text (codes "flash: entry ") entry (entry_cause_name cause)
fault_text (TooFar count) = codes "flash: only " ++ (decimal count ++ codes " steps\n")
fault_text (NoLine line) = codes "flash: no line " ++ (decimal line ++ codes "\n")
fault_text status = fixed_text status

abbrev pub code_of : Status → ℕ
code_of Done = 0
code_of Usage = 1
code_of (BadTrace line cause) = 2
code_of TooLong = 2
code_of TooManyOps = 2
code_of TooManySteps = 2
code_of ReadFault = 3
code_of WriteFault = 4
code_of Memory = 5
code_of (NotEnabled step cause) = 6
code_of (IllegalHistory entry cause) = 7
code_of (TooFar count) = 8
code_of (NoLine line) = 9
