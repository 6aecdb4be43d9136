-- Every run keeps to the machine from the start on.
use Rattle.node_range.proofs.Events.{ranged_lanes, ranged_copies, ranged_headers, ranged_messages}
use Rattle.node_range.proofs.every_other_lane.Goals as goal

pub returns-clause-empty : goal.returns-clause-empty
returns-clause-empty c = λ charge trace events past positive runs src dst class all far. ranged_lanes charge trace events past all positive runs src dst class far

pub returns-clause-absent : goal.returns-clause-absent
returns-clause-absent c = λ charge trace events past positive runs node line all far. ranged_copies charge trace events past all positive runs node line far

pub returns-clause-headers : goal.returns-clause-headers
returns-clause-headers c = λ charge trace events past positive runs line all. ranged_headers charge trace events past all positive runs line

pub returns-clause-messages : goal.returns-clause-messages
returns-clause-messages c = λ charge trace events past positive runs src dst class all. ranged_messages charge trace events past all positive runs src dst class
