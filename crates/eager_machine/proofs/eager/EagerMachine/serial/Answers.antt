-- The schedule is under way from the start on, by the law that it ends. Each event is its next one, and where there is none it is made.
use Rattle.std.proofs.Common.{◌≡◌, IfSome, arith, sym, subst, ◌∙◌}
use Rattle.std.proofs.lemmas.Result.{err_from_is_err_and}
use Rattle.op_model.specs.Programs.{programs_of}
use Rattle.schedule.specs.Chosen.{IsOpIn}
use Rattle.schedule.proofs.Public.{completed-none, op-at-in}
use Rattle.eager_machine.proofs.Serials.{answered, begins, completed-there, enabled-there, fewer-left, goes-there, has-begun, keeps, ops-are, way-there, whole-there}
use Rattle.eager_machine.proofs.eager.EagerMachine.serial.Goals as goal

pub loop-event-init : goal.loop-event-init
loop-event-init c =
    record {
      way = begins c.args.self.now c.cfg-cfg.ensures.kept c.args.order.now c.requires.ordered c.requires.unused;
      within = omega arith;
      completed = λ past ran. completed-none c.args.order.now past.state;
    }

pub first_uncompleted-at-requires-clause-ops : goal.first_uncompleted-at-requires-clause-ops
first_uncompleted-at-requires-clause-ops c = ops-are c.args.self.now c.cfg-cfg.ensures.kept c.args.order.now c.requires.ordered c.loop-event.self c.loop-event.invariant.way

pub next_event-requires : goal.next_event-requires
next_event-requires c =
    let sizes = c.loop-event.self.sizes in
    subst (λ o. IfSome o (IsOpIn sizes)) (sym c.op_at.ensures) (op-at-in sizes c.args.order.now c.first_uncompleted-at.result (ops-are c.args.self.now c.cfg-cfg.ensures.kept c.args.order.now c.requires.ordered c.loop-event.self c.loop-event.invariant.way))

pub returns-in_err-event-clause-ran : goal.returns-in_err-event-clause-ran
returns-in_err-event-clause-ran c =
    let way = way-there c.args.self.now c.cfg-cfg.ensures.kept c.args.order.now c.requires.ordered c.loop-event.self c.next_event.new.m c.loop-event.invariant.way c.next_event.ensures.same in
    (way.past, way.ran)

pub returns-in_err-event-clause-err : goal.returns-in_err-event-clause-err
returns-in_err-event-clause-err c =
    let way = way-there c.args.self.now c.cfg-cfg.ensures.kept c.args.order.now c.requires.ordered c.loop-event.self c.next_event.new.m c.loop-event.invariant.way c.next_event.ensures.same in
    let p = err_from_is_err_and c.from_residual.result c.from_residual.ensures.1 in
    λ trace sized ops. rw p.1 (has-begun c.args.self.now c.cfg-cfg.ensures.kept c.args.order.now c.requires.ordered c.next_event.new.m way trace sized ops)

pub returns-in_err-event-clause-keeps : goal.returns-in_err-event-clause-keeps
returns-in_err-event-clause-keeps c =
    let way = way-there c.args.self.now c.cfg-cfg.ensures.kept c.args.order.now c.requires.ordered c.loop-event.self c.next_event.new.m c.loop-event.invariant.way c.next_event.ensures.same in
    λ trace past sized ops ran. keeps c.args.self.now c.cfg-cfg.ensures.kept c.args.order.now c.requires.ordered c.next_event.new.m way trace sized ops past ran

pub returns-in_default-clause-ran : goal.returns-in_default-clause-ran
returns-in_default-clause-ran c =
    let way = way-there c.args.self.now c.cfg-cfg.ensures.kept c.args.order.now c.requires.ordered c.loop-event.self c.next_event.new.m c.loop-event.invariant.way c.next_event.ensures.same in
    (way.past, way.ran)

pub returns-in_default-clause-ok : goal.returns-in_default-clause-ok
returns-in_default-clause-ok c =
    let first = c.args.self.now in
    let order = c.args.order.now in
    let now = c.loop-event.self in
    let way = c.loop-event.invariant.way in
    let due = answered first c.cfg-cfg.ensures.kept order c.requires.ordered now way c.first_uncompleted-at.result c.op_at.result c.op_at.ensures c.first_uncompleted-at.ensures.current c.in_ok-event.field-0 c.in_ok-event.ensures.value in
    whole-there first c.cfg-cfg.ensures.kept order c.requires.ordered now c.next_event.new.m way c.next_event.ensures.same (due ∙ c.in_default.is)

pub returns-in_default-clause-keeps : goal.returns-in_default-clause-keeps
returns-in_default-clause-keeps c =
    let way = way-there c.args.self.now c.cfg-cfg.ensures.kept c.args.order.now c.requires.ordered c.loop-event.self c.next_event.new.m c.loop-event.invariant.way c.next_event.ensures.same in
    λ trace past sized ops ran. keeps c.args.self.now c.cfg-cfg.ensures.kept c.args.order.now c.requires.ordered c.next_event.new.m way trace sized ops past ran

pub make-requires-clause-enabled : goal.make-requires-clause-enabled
make-requires-clause-enabled c =
    let first = c.args.self.now in
    let order = c.args.order.now in
    let now = c.loop-event.self in
    let way = c.loop-event.invariant.way in
    let due = answered first c.cfg-cfg.ensures.kept order c.requires.ordered now way c.first_uncompleted-at.result c.op_at.result c.op_at.ensures c.first_uncompleted-at.ensures.current c.in_ok-event.field-0 c.in_ok-event.ensures.value in
    enabled-there first c.cfg-cfg.ensures.kept order c.requires.ordered now c.next_event.new.m way c.next_event.ensures.same c.in-Some.event (due ∙ c.in-Some.is)

pub loop-event-smaller : goal.loop-event-smaller
loop-event-smaller c =
    let first = c.args.self.now in
    let order = c.args.order.now in
    let now = c.loop-event.self in
    let way = c.loop-event.invariant.way in
    let due = answered first c.cfg-cfg.ensures.kept order c.requires.ordered now way c.first_uncompleted-at.result c.op_at.result c.op_at.ensures c.first_uncompleted-at.ensures.current c.in_ok-event.field-0 c.in_ok-event.ensures.value in
    fewer-left first c.cfg-cfg.ensures.kept order c.requires.ordered now c.next_event.new.m way c.next_event.ensures.same c.in-Some.event (due ∙ c.in-Some.is) c.make.new.m c.make.ensures.sizes c.make.ensures.programs c.in_ok-make.ensures.ok c.in_ok-make.ensures.next

pub loop-event-preserved : goal.loop-event-preserved
loop-event-preserved c =
    let first = c.args.self.now in
    let order = c.args.order.now in
    let now = c.loop-event.self in
    let way = c.loop-event.invariant.way in
    let due = answered first c.cfg-cfg.ensures.kept order c.requires.ordered now way c.first_uncompleted-at.result c.op_at.result c.op_at.ensures c.first_uncompleted-at.ensures.current c.in_ok-event.field-0 c.in_ok-event.ensures.value in
    record {
      way = goes-there first c.cfg-cfg.ensures.kept order c.requires.ordered now c.next_event.new.m way c.next_event.ensures.same c.in-Some.event (due ∙ c.in-Some.is) c.make.new.m c.make.ensures.sizes c.make.ensures.programs c.in_ok-make.ensures.ok c.in_ok-make.ensures.next;
      within = c.first_uncompleted-at.ensures.within;
      completed = completed-there first c.cfg-cfg.ensures.kept order c.requires.ordered now c.next_event.new.m way c.next_event.ensures.same c.in-Some.event (due ∙ c.in-Some.is) c.make.new.m c.make.ensures.sizes c.make.ensures.programs c.in_ok-make.ensures.ok c.in_ok-make.ensures.next
          c.first_uncompleted-at.result c.first_uncompleted-at.ensures.completed;
    }

pub returns-in_err-make-clause-ran : goal.returns-in_err-make-clause-ran
returns-in_err-make-clause-ran c =
    let way = way-there c.args.self.now c.cfg-cfg.ensures.kept c.args.order.now c.requires.ordered c.loop-event.self c.make.new.m c.loop-event.invariant.way (c.in_err-make.ensures.err ∙ c.next_event.ensures.same) in
    (way.past, way.ran)

pub returns-in_err-make-clause-err : goal.returns-in_err-make-clause-err
returns-in_err-make-clause-err c =
    let way = way-there c.args.self.now c.cfg-cfg.ensures.kept c.args.order.now c.requires.ordered c.loop-event.self c.make.new.m c.loop-event.invariant.way (c.in_err-make.ensures.err ∙ c.next_event.ensures.same) in
    let p = err_from_is_err_and c.from_residual-in_err-make.result c.from_residual-in_err-make.ensures.1 in
    λ trace sized ops. rw p.1 (has-begun c.args.self.now c.cfg-cfg.ensures.kept c.args.order.now c.requires.ordered c.make.new.m way trace sized ops)

pub returns-in_err-make-clause-keeps : goal.returns-in_err-make-clause-keeps
returns-in_err-make-clause-keeps c =
    let way = way-there c.args.self.now c.cfg-cfg.ensures.kept c.args.order.now c.requires.ordered c.loop-event.self c.make.new.m c.loop-event.invariant.way (c.in_err-make.ensures.err ∙ c.next_event.ensures.same) in
    λ trace past sized ops ran. keeps c.args.self.now c.cfg-cfg.ensures.kept c.args.order.now c.requires.ordered c.make.new.m way trace sized ops past ran
