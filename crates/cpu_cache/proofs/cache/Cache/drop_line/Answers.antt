-- Where the line has a copy it stands in its set alone; else nothing changes.
use Rattle.std.proofs.Common.{◌≢◌, sym, subst}
use Rattle.op_model.specs.Lines.{Absent, state_of}
use Rattle.op_model.specs.declared.CopyState.{CopyState}
use Rattle.op_model.specs.declared.CopyState.TheVariants as state
use Rattle.op_model.specs.Shares.{copy_in}
use Rattle.cpu_cache.specs.declared.cache.Slot.TheVariants.{Empty}
use Rattle.cpu_cache.proofs.Copies.{put_over, dropped_none, is_there, nothing_held}
use Rattle.cpu_cache.proofs.cache.Cache.drop_line.Goals as goal

pub returns-in-Absent-clause-dropped : goal.returns-in-Absent-clause-dropped
returns-in-Absent-clause-dropped c = dropped_none c.args.self.now c.args.g c.look.ensures.kept (sym c.in-Absent.ensures.value)

pub returns-in-Shared : goal.returns-in-Shared
returns-in-Shared c =
    let copied : state_of (copy_in c.args.self.now.copies c.args.g) ≢ state.Absent = subst (λ (copy : CopyState). copy ≢ state.Absent) c.look.ensures.value (is_there c.look.result c.in-Shared.is) in
    record {
      dropped = put_over c.args.self.now c.put_slot.new.self c.args.g Empty Absent c.put_slot.ensures.kept copied c.put_slot.ensures.puts (λ other. nothing_held _);
      nothing = λ absent. absurd (copied absent);
    }
