use Rattle.std.proofs.Common.{◌+◌, List, ap, ◌∙◌, arith}
use Rattle.std.specs.Prelude.{slice_get}
use Rattle.op_model.specs.declared.operations.Entry.{Entry}
use Rattle.run_chart.specs.Charts.{ChartView}
use Rattle.run_chart.proofs.Charting.{still-told}
use Rattle.run_chart.proofs.chart.Chart.note.Goals as goal

pub returns-clause-told : goal.returns-clause-told
returns-clause-told g c was running applied known was_it =
    let m = g.M.Reported.meaning c.args.m.now in
    let inside : ChartView = record { letters = c.self.inside.letters.items; strokes = c.self.inside.strokes.items } in
    still-told was m c.args.event c.args.before inside c.args.self.now c.take-letter.new.letters.items c.post_all.new.letters.items c.push.new.self.items (c.len.result + 1) c.take-letter.result c.entry_behind.result c.completed.result
    running applied known c.requires.event c.self.view_is was_it
    (record {
      count = omega (arith, c.len.ensures, c.self.inside.strokes.ok.0);
      taken_is = c.take-letter.ensures.taken;
      left = c.take-letter.ensures.left;
      posts = c.in_ok-post_all.ensures;
      served = c.entry_behind.ensures ∙ ap (λ (es : List Entry). slice_get es c.args.before.served) c.served.ensures;
      completed = c.completed.ensures;
    })
    c.in-Ok.ensures.items
