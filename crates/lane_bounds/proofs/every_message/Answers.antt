use Rattle.lane_bounds.proofs.Ways.{lane_class, lane_way}
use Rattle.lane_bounds.proofs.every_message.Goals as goal

pub returns-clause-class : goal.returns-clause-class
returns-clause-class c = λ charge trace events past positive runs a b class. lane_class charge trace events past a b class positive runs

pub returns-clause-way : goal.returns-clause-way
returns-clause-way c = λ charge trace events past positive runs a b class. lane_way charge trace events past a b class positive runs
