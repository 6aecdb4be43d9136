use Rattle.lane_bounds.proofs.Counts.{bounded_departures, bounded_requests, bounded_replies, bounded_lanes}
use Rattle.lane_bounds.proofs.OwnLanes.{own_lane}
use Rattle.lane_bounds.proofs.every_lane.Goals as goal

pub returns-clause-departures : goal.returns-clause-departures
returns-clause-departures c = λ charge trace events past positive runs a b. bounded_departures charge trace events past a b positive runs

pub returns-clause-requests : goal.returns-clause-requests
returns-clause-requests c = λ charge trace events past positive runs a b. bounded_requests charge trace events past a b positive runs

pub returns-clause-replies : goal.returns-clause-replies
returns-clause-replies c = λ charge trace events past positive runs a b. bounded_replies charge trace events past a b positive runs

pub returns-clause-bound : goal.returns-clause-bound
returns-clause-bound c = λ charge trace events past positive runs a b class. bounded_lanes charge trace events past a b class positive runs

pub returns-clause-own : goal.returns-clause-own
returns-clause-own c = λ charge trace events past positive runs n class. own_lane charge trace events past n class positive runs
