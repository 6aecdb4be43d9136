-- The run is a run, so the law of every run holds of it.
use Rattle.line_map.proofs.Public.{some-words}
use Rattle.commands.proofs.Printed.{text-is}
use Rattle.commands.proofs.texts.output.Goals as goal

pub returns-in-Ok-clause-text : goal.returns-in-Ok-clause-text
returns-in-Ok-clause-text g c =
    let played = c.in_ok-make_run.ensures.ok in
    text-is c.args.play (g.M.MachineFace.meaning c.args.m.now).charge c.args.trace.now (g.M.MachineFace.meaning c.make_run.new.m) c.in-Ok.text.items played
    (c.every_run.ensures.one (g.M.MachineFace.meaning c.args.m.now).charge c.args.trace.now (g.M.MachineFace.meaning c.make_run.new.m).events (g.M.MachineFace.meaning c.make_run.new.m).past (some-words c.args.trace.now.sizes c.cfg-cfg.ensures.kept.sizes) played.ran)
    c.in-Ok.ensures
