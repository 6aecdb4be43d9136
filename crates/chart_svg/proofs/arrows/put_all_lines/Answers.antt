use Rattle.std.proofs.Common.{◌≡◌, ℕ, ◌++◌, Vec, Global, get_or, sym, ap, ◌∙◌}
use Rattle.chart_strokes.specs.declared.strokes.Stroke.{Stroke}
use Rattle.chart_svg.specs.Places.{is_shown}
use Rattle.chart_svg.specs.Pictures.{stroke_lines}
use Rattle.chart_svg.proofs.Shown.{shown_more, hidden_more}
use Rattle.chart_svg.proofs.arrows.put_all_lines.Goals as goal
use Rattle.chart_svg.proofs.arrows.put_all_lines.Goals.{then-is_shown+in_ok-put_lines, else-is_shown}

pub loop-stroke-preserved : goal.loop-stroke-preserved
loop-stroke-preserved c =
    let all = c.args.strokes.now in
    let shows = is_shown c.args.chosen in
    let piece = stroke_lines c.args.chosen all in
    let i = c.loop-stroke.stroke-index in
    let stroke = c.stroke-item.result in
    let before = c.args.out.now.items in
    let now = c.loop-stroke.out.items in
    let test : shows (get_or all i stroke) ≡ c.is_shown.result = ap shows (sym c.stroke-item.is) ∙ sym c.is_shown.ensures in
    elim c.if-is_shown.branch [
      | then-is_shown+in_ok-put_lines w ↦
          ap (λ (text : Vec ℕ Global). text.items) w.out-is
          ∙ shown_more piece shows all i stroke before now w.put_lines.new.out.items c.loop-stroke-test.true (test ∙ w.if-is_shown.true) c.loop-stroke.invariant
          (w.in_ok-put_lines.ensures ∙ ap (λ (s : Stroke). now ++ piece s) c.stroke-item.is)
      | else-is_shown w ↦
          ap (λ (text : Vec ℕ Global). text.items) w.out-is
          ∙ hidden_more piece shows all i stroke before now c.loop-stroke-test.true (test ∙ w.if-is_shown.false) c.loop-stroke.invariant
    ]
