use Rattle.node_box.specs.Turns.{TakesOne}
use Rattle.node_box.proofs.Searching.{takes_later, map_some}
use Rattle.node_box.proofs.open_box.OpenBox.take_any.Goals as goal

pub returns-clause-some : goal.returns-clause-some
returns-clause-some c =
    map_some c.take_between-2.result (TakesOne c.take_between.new.self c.take_between-2.new.self c.args.link) (TakesOne c.args.self.now c.take_between-2.new.self c.args.link)
    (λ n h. takes_later c.args.self.now c.take_between.new.self c.take_between-2.new.self c.args.link n c.in_default.ensures.none.only h) c.take_between-2.ensures.some
