-- The node is the one at its place, and past the last one there is none.
use Rattle.std.proofs.Common.{◌≡◌, ◌≤◌, ◌∙◌, arith, subst, ap, map, length, Some}
use Rattle.std.specs.Prelude.{slice_get, option_to_list}
use Rattle.std.proofs.lemmas.List.{length-map}
use Rattle.cpu_cache.specs.Processors.{ProcView}
use Rattle.op_model.specs.Shares.{want_on}
use Rattle.op_model.specs.Run.Runs.{entry_for}
use Rattle.machine.specs.Faces.{face_of}
use Rattle.machine.proofs.Faces.{slice_get-mapped, slice_get-read}
use Rattle.machine.proofs.Reading.{unread-past, read-at}
use Rattle.machine.proofs.entries.entry_read.Goals as goal

pub returns-in_err-reader : goal.returns-in_err-reader
returns-in_err-reader g c =
    let face = face_of {D = g.row.D.Denot} in
    let past : length (map face c.args.nodes.now.items) ≤ c.args.node = let long = length-map c.args.nodes.now.items face in let same = ap length c.deref.ensures.value in let above = c.in_err-reader.ensures.lookup.3 in omega (arith, long, same, above) in
    ap option_to_list c.from_residual.ensures ∙ unread-past c.args.cfg.now (map face c.args.nodes.now.items) c.args.node c.args.line c.args.body.now past

pub returns : goal.returns
returns g c =
    let face = face_of {D = g.row.D.Denot} in
    let told = c.in_ok-reader.ensures.lookup in
    let at : slice_get c.args.nodes.now.items c.args.node ≡ Some c.in_ok-reader.reader.now = subst (λ its. slice_get its c.args.node ≡ Some c.in_ok-reader.reader.now) c.deref.ensures.value (slice_get-read c.deref.result.now c.args.node c.in_ok-reader.reader.now c.in_ok-reader.reader.now told.3.0 told.1) in
    c.wanted_entry.ensures ∙ ap (λ (p : ProcView). entry_for c.args.node p.place c.args.body.now (want_on c.args.cfg.now p.want c.args.line)) c.proc.ensures ∙
    read-at c.args.cfg.now (map face c.args.nodes.now.items) c.args.node c.args.line c.args.body.now (face c.in_ok-reader.reader.now) (slice_get-mapped face c.args.nodes.now.items c.args.node c.in_ok-reader.reader.now at)
