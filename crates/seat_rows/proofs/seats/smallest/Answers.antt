-- These sizes are within their limits.
use Rattle.std.proofs.Common.{sym, ◌∙◌}
use Rattle.lane_table.proofs.Public.{small-sizes}
use Rattle.seat_rows.proofs.seats.smallest.Goals as goal

pub returns : goal.returns
returns g c = small-sizes c.expect.result (sym c.expect.ensures ∙ c.new.ensures)
