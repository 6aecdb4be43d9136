use Rattle.std.proofs.Common.{append_assoc}
use Rattle.std.proofs.lemmas.Result.{IfOk-equal}
use Rattle.chart_svg.specs.Pictures.{sheet}
use Rattle.chart_svg.proofs.document.put_sheet.Goals as goal

pub returns : goal.returns
unfolding sheet
returns c =
    IfOk-equal _ _ _ _ c.put_legend.ensures
    (rw (c.in_ok-put_mark_shapes.ensures, c.in_ok-put_arrow_heads.ensures, c.in_ok-put_styles.ensures, c.in_ok-put_document_opening.ensures, c.from.ensures, c.from-2.ensures) (simp append_assoc))
