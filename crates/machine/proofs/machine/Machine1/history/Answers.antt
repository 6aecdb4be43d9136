-- The run ends with the entries, and its completed operations are one history.
use Rattle.std.proofs.Common.{◌≡◌, map, ap, ◌∙◌, Some}
use Rattle.std.proofs.lemmas.Result.{IfOk-weaker}
use Rattle.line_map.specs.Sizes.{Sizes}
use Rattle.op_model.specs.Shares.{Lanes}
use Rattle.op_model.specs.Run.History.{history, kept_of}
use Rattle.op_model.specs.Run.Runs.{Past}
use Rattle.machine.specs.Kept.{state_of}
use Rattle.machine.specs.Machines.{run_of}
use Rattle.machine.specs.Faces.{face_of, dir_of}
use Rattle.machine.proofs.Views.{past_in, view-history, view-ran, view-one}
use Rattle.machine.proofs.machine.Machine1.history.Goals as goal

pub returns-clause-history : goal.returns-clause-history
returns-clause-history g c =
    let run = c.self.inside.run in
    let faces = map (face_of {D = g.row.D.Denot}) run.nodes.items in
    let lanes = g.Q.Lanes.meaning run.lanes in
    let dirs = map (dir_of {D = g.row.D.Denot}) run.nodes.items in
    let journal = run.journal in
    IfOk-weaker c.completed.result (λ entries. (sizes : Sizes) (lane : Lanes) → entries.items ≡ kept_of (state_of sizes faces lane) c.as_slice.result.now) (λ entries. (past : Past) → run_of c.args.self.now ≡ Some past → entries.items ≡ history past)
    (λ entries kept. view-history run.cfg faces lanes journal.events.items journal.served.items journal.counts journal.left run.out dirs c.args.self.now c.self.invariant.0 c.self.view_is entries.items
    (kept run.cfg lanes.lane ∙ ap (kept_of (state_of run.cfg faces lanes.lane)) c.as_slice.ensures.value)) c.completed.ensures

pub returns-clause-ran : goal.returns-clause-ran
returns-clause-ran g c =
    let run = c.self.inside.run in
    let faces = map (face_of {D = g.row.D.Denot}) run.nodes.items in
    let lanes = g.Q.Lanes.meaning run.lanes in
    let dirs = map (dir_of {D = g.row.D.Denot}) run.nodes.items in
    let journal = run.journal in
    (past_in run.cfg faces lanes journal.events.items journal.served.items journal.counts journal.left run.out dirs c.args.self.now c.self.invariant.0 c.self.view_is, view-ran run.cfg faces lanes journal.events.items journal.served.items journal.counts journal.left run.out dirs c.args.self.now c.self.invariant.0 c.self.view_is)

pub returns-clause-one : goal.returns-clause-one
returns-clause-one g c =
    let run = c.self.inside.run in
    let faces = map (face_of {D = g.row.D.Denot}) run.nodes.items in
    let lanes = g.Q.Lanes.meaning run.lanes in
    let dirs = map (dir_of {D = g.row.D.Denot}) run.nodes.items in
    let journal = run.journal in
    λ past ran. view-one run.cfg faces lanes journal.events.items journal.served.items journal.counts journal.left run.out dirs c.args.self.now c.self.invariant.0 c.self.view_is past ran
