-- The directory holds the links that the headers say.
use Rattle.std.proofs.Common.{ap, ◌∙◌}
use Rattle.line_map.specs.Sizes.{Sizes}
use Rattle.op_model.specs.Shares.{pending_among}
use Rattle.dir_header.specs.Sharers.{free_in}
use Rattle.dir_header.specs.HomeSides.{HomeView}
use Rattle.machine.specs.Driven.{run_made}
use Rattle.machine.proofs.Others.{home-held}
use Rattle.machine.proofs.reported.Machine1Reported.home_counts.Goals as goal

pub returns : goal.returns
returns g c =
    let m = run_made c.args.self.now in
    let side = c.home_now-side.result.now in
    let share = m.past.state.share c.args.home in
    let value = c.home_now-side.ensures.value in
    let headers = ap (λ (h : HomeView g.row.D.Denot). h.headers) value in
    let links = c.links-links.ensures.value ∙ ap (λ (s : Sizes). s.links) c.told.ensures.value in
    home-held (g.D.Sharers.directory side.dir) m c.args.home side c.pending_count.result c.links-links.result c.free-free.result c.home_now-side.ensures.kept value
    links (c.pending_count.ensures ∙ ap pending_among headers) (c.free-free.ensures ∙ ap (λ d. free_in (g.D.Sharers.directory d)) c.dir.ensures)
