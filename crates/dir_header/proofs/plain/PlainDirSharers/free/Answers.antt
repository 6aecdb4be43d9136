-- No list holds a link.
use Rattle.dir_header.proofs.PlainLists.{all_free}
use Rattle.dir_header.proofs.plain.PlainDirSharers.free.Goals as goal

pub returns : goal.returns
returns c = rw (← c.self.view_is) (all_free c.self.inside.lists.items c.self.inside.links c.self.inside.nodes)
