-- Memory's words go to the sender, and the line drains.
use Rattle.std.proofs.Common.{◌≡◌, false, ap}
use Rattle.std.specs.Prelude.{not}
use Rattle.std.proofs.lemmas.Bool.{both_ways}
use Rattle.dir_header.specs.HomeSides.{header_at, room_in}
use Rattle.node_share.proofs.Public.{on-ok}
use Rattle.eager_home.proofs.Given.{asked, given}
use Rattle.eager_home.proofs.grants.give_and_drain.Goals as goal

pub make_pending-requires-clause-idle : goal.make_pending-requires-clause-idle
make_pending-requires-clause-idle g c = ap not (asked (room_in c.args.home.now) c.args.src (header_at c.args.home.now c.args.line) c.requires.asks).0

pub returns-clause-row : goal.returns-clause-row
returns-clause-row g c =
    let home = c.args.home.now in
    let full : (room_in home).full ≡ false = (asked (room_in home) c.args.src (header_at home c.args.line) c.requires.asks).1 in
    let pending = on-ok c.make_pending.result (λ e. both_ways (room_in home).full full (c.make_pending.ensures.full.0 e)) c.make_pending.ensures.ok in
    given home c.args.cache.now c.args.src c.args.line c.args.out.now c.requires.line c.make_pending.new.self c.unlist.new.self c.set_local.new.self c.set_dirty.new.self pending c.unlist.ensures.home c.set_local.ensures c.set_dirty.ensures
    c.drop_line.new.self c.push.new.self c.send_invs.new.out c.memory-body.result c.memory-body.ensures.value c.drop_line.ensures.dropped c.push.ensures c.send_invs.ensures
