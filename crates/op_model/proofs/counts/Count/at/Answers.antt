use Rattle.op_model.specs.declared.counts.Count.TheVariants.{Events}
use Rattle.op_model.proofs.Places.{placed_in_all}
use Rattle.op_model.proofs.counts.Count.at.Goals as goal

pub returns : goal.returns
returns c = placed_in_all c.args.place Events c.requires
