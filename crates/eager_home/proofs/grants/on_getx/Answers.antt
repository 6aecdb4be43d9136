-- The first row that holds is done.
use Rattle.std.proofs.Common.{sym, ap, ◌∙◌}
use Rattle.op_model.specs.Tables.Home as delayed
use Rattle.eager_model.specs.Rows.{on_getx as getx_row, give_and_drain, asks_shared}
use Rattle.dir_header.specs.HomeSides.{room_in}
use Rattle.node_share.specs.Parts.{share_of}
use Rattle.node_share.proofs.Public.{picks}
use Rattle.eager_home.proofs.Given.{eager-getx, delayed-getx}
use Rattle.eager_home.proofs.grants.on_getx.Goals as goal

pub returns-then-asks_shared-clause-row : goal.returns-then-asks_shared-clause-row
returns-then-asks_shared-clause-row g c =
    let home = c.args.home.now in
    let room = room_in home in
    picks home c.args.cache.now.copies (λ proc. share_of proc c.give_and_drain.new.cache.copies c.give_and_drain.new.home.headers) c.args.out.now c.give_and_drain.new.out c.args.line (getx_row room c.args.src) (give_and_drain c.args.src)
    (λ share is. eager-getx room c.args.src share (ap (asks_shared room c.args.src) is ∙ sym c.asks_shared.ensures ∙ c.if-asks_shared.true)) c.give_and_drain.ensures.row

pub returns-else-asks_shared-clause-row : goal.returns-else-asks_shared-clause-row
returns-else-asks_shared-clause-row g c =
    let home = c.args.home.now in
    let room = room_in home in
    picks home c.args.cache.now.copies (λ proc. share_of proc c.on_getx.new.cache.copies c.on_getx.new.home.headers) c.args.out.now c.on_getx.new.out c.args.line (getx_row room c.args.src) (delayed.on_getx room c.args.src)
    (λ share is. delayed-getx room c.args.src share (ap (asks_shared room c.args.src) is ∙ sym c.asks_shared.ensures ∙ c.if-asks_shared.false)) c.on_getx.ensures.row
