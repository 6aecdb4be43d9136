use Rattle.std.proofs.Common.{sym, ap, ◌∙◌, List}
use Rattle.std.specs.List.{position}
use Rattle.chart_strokes.specs.declared.strokes.Letter.{Letter}
use Rattle.run_chart.specs.Charts.{is_in_lane, in_lane}
use Rattle.run_chart.proofs.InLanes.{first-taken, none-taken, first-left, none-left}
use Rattle.run_chart.proofs.letters.take_first.Goals as goal

pub returns-in_err-place-clause-taken : goal.returns-in_err-place-clause-taken
returns-in_err-place-clause-taken c =
    let none = sym (c.in_err-place.ensures ∙ ap (λ (ls : List Letter). position (is_in_lane c.args.src c.args.dst c.args.class) ls) c.deref.ensures.value) in
    c.from_residual.ensures ∙ none-taken c.args.letters.now.items c.args.src c.args.dst c.args.class none

pub returns-in_err-place-clause-left : goal.returns-in_err-place-clause-left
returns-in_err-place-clause-left c =
    let none = sym (c.in_err-place.ensures ∙ ap (λ (ls : List Letter). position (is_in_lane c.args.src c.args.dst c.args.class) ls) c.deref.ensures.value) in
    none-left c.args.letters.now.items c.args.src c.args.dst c.args.class none

pub returns-clause-taken : goal.returns-clause-taken
returns-clause-taken c =
    let at = sym (c.in_ok-place.ensures ∙ ap (λ (ls : List Letter). position (is_in_lane c.args.src c.args.dst c.args.class) ls) c.deref.ensures.value) in
    first-taken c.args.letters.now.items c.args.src c.args.dst c.args.class c.in_ok-place.place c.remove.result at c.remove.ensures.value

pub returns-clause-left : goal.returns-clause-left
returns-clause-left c a b k =
    let at = sym (c.in_ok-place.ensures ∙ ap (λ (ls : List Letter). position (is_in_lane c.args.src c.args.dst c.args.class) ls) c.deref.ensures.value) in
    ap (λ (ls : List Letter). in_lane ls a b k) c.remove.ensures.items ∙ first-left c.args.letters.now.items c.args.src c.args.dst c.args.class c.in_ok-place.place c.remove.result at a b k
