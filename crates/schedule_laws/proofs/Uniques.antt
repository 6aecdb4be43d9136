-- A schedule is one list of events: two that run from one moment and have no next event at their ends are one.
use Rattle.std.proofs.Common.{◌≡◌, List}
use Rattle.op_model.specs.declared.events.Event.{Event}
use Rattle.op_model.specs.Events.Step.{Programs}
use Rattle.op_model.specs.Run.Runs.{Past, start}
use Rattle.op_model.specs.Run.Schedules.{IsFinishing, IsSerial, finishing_next, serial_next}
use Rattle.op_model.specs.Shares.{Charge, Trace, program}
use Rattle.line_map.specs.Sizes.{Sizes}
use Rattle.schedule_laws.proofs.Courses.{course-unique, schedule-course}

pub finishing-unique : (charge : Charge) (sizes : Sizes) (programs : Programs) (past end other : Past) (events more : List Event) → IsFinishing charge sizes programs past events end → IsFinishing charge sizes programs past more other → events ≡ more
finishing-unique charge sizes programs past end other events more one two =
    let first = schedule-course (finishing_next charge sizes programs) charge sizes programs past end events one.ran one.next in
    let second = schedule-course (finishing_next charge sizes programs) charge sizes programs past other more two.ran two.next in
    course-unique (finishing_next charge sizes programs) charge sizes programs past end other events more first.0 second.0 first.1 second.1

pub serial-unique : (charge : Charge) (trace : Trace) (end other : Past) (events more : List Event) → IsSerial charge trace events end → IsSerial charge trace more other → events ≡ more
serial-unique charge trace end other events more one two =
    let next = serial_next charge trace.sizes (program trace) trace.ops in
    let first = schedule-course next charge trace.sizes (program trace) (start trace.sizes) end events one.ran one.next in
    let second = schedule-course next charge trace.sizes (program trace) (start trace.sizes) other more two.ran two.next in
    course-unique next charge trace.sizes (program trace) (start trace.sizes) end other events more first.0 second.0 first.1 second.1
