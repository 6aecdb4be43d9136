-- The message at the front of the lane meets a row at its taker.
use Rattle.std.proofs.Common.{map, sym}
use Rattle.machine.specs.Kept.{charge_in}
use Rattle.machine.proofs.Lists.{rest_of, front-is}
use Rattle.machine.specs.Faces.{face_of}
use Rattle.machine.proofs.Events.{front-permit}
use Rattle.machine.proofs.enabled.can_take_front.Goals as goal

pub can_take_from-requires-clause-row : goal.can_take_from-requires-clause-row
can_take_from-requires-clause-row g c =
    let lane = (g.Q.Lanes.meaning c.args.lanes.now).lane c.args.src c.args.dst c.args.class in
    c.requires.fronts.meets c.args.src c.args.dst c.args.class c.in-Some.msg (rest_of lane) (front-is lane c.in-Some.msg (sym c.in-Some.ensures.value))

pub returns-in-Some : goal.returns-in-Some
returns-in-Some g c =
    let faces = map (face_of {D = g.row.D.Denot}) c.args.nodes.now.items in
    let lane = (g.Q.Lanes.meaning c.args.lanes.now).lane in
    let here = lane c.args.src c.args.dst c.args.class in
    front-permit (charge_in faces) c.args.cfg faces faces lane c.requires.nodes c.args.src c.args.dst c.args.class c.args.victim c.in-Some.msg (rest_of here) (front-is here c.in-Some.msg (sym c.in-Some.ensures.value)) c.can_take_from.result c.can_take_from.ensures
