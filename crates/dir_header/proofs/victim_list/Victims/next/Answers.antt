-- The least line of the set is the next one, and the lines of the set without it are left.
use Rattle.std.proofs.Common.{◌+◌, ◌∷◌, ap, sym, ◌∙◌}
use Rattle.std.specs.Prelude.{map}
use Rattle.dir_header.specs.WordSets.{numbered_from}
use Rattle.dir_header.proofs.victim_list.Victims.next.Goals as goal

pub returns-in_err-m : goal.returns-in_err-m
returns-in_err-m c = rw c.from_residual.ensures (sym c.self.view_is ∙ ap (map (λ m. c.self.inside.first + m)) c.in_err-m.ensures.first)

pub returns : goal.returns
returns c =
    sym c.self.view_is ∙ ap (map (λ m. c.self.inside.first + m)) c.in_ok-m.ensures.first
    ∙ ap (λ left. (c.self.inside.first + c.in_ok-m.m) ∷ numbered_from c.self.inside.first left) (sym c.remove.ensures)
