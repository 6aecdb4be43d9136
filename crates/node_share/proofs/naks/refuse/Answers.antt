-- The parts are those of a row that changes nothing.
use Rattle.std.proofs.Common.{[], ◌∷◌, refl, sym}
use Rattle.op_model.specs.Lines.{NoService}
use Rattle.op_model.specs.Messages.{Nak}
use Rattle.op_model.specs.Tables.Home.{refuse as refusal}
use Rattle.op_model.specs.Shares.{copy_in}
use Rattle.dir_header.specs.HomeSides.{header_at}
use Rattle.node_share.proofs.Copies.{copy-kept}
use Rattle.node_share.proofs.Homes.{home-headers, puts-none}
use Rattle.node_share.proofs.Rows.{home-row}
use Rattle.node_share.proofs.naks.refuse.Goals as goal

pub returns : goal.returns
returns g c =
    let home = c.args.home.now in
    let copies = c.args.cache.now.copies in
    let line = c.args.line in
    home-row home home copies copies line (header_at home line) (copy_in copies line) c.args.out.now c.push.new.self ((c.args.src, Nak c.args.cause) ∷ []) NoService (refusal c.args.src c.args.cause) c.requires.line
    (puts-none home line (home-headers (g.D.Sharers.directory home.dir) home c.cfg.ensures.kept) c.requires.line)
    (sym (copy-kept copies line c.cfg-2.ensures.kept.held)) c.push.ensures (λ want. refl)
