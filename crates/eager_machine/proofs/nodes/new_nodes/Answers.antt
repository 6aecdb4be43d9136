-- Each program is the one at the place of its node, and there is room for as many nodes as there are programs.
use Rattle.std.proofs.Common.{rules, ◌≡◌, ◌∷◌, [], length, sym, subst, ap, ◌∙◌, arith}
use Rattle.std.proofs.lemmas.List.{nil_from_length}
use Rattle.op_model.specs.Programs.{IsProgramOf}
use Rattle.eager_machine.specs.Starts.{start_view}
use Rattle.eager_machine.proofs.Starts.{IsStarting, starting-none, starting-below, starting-program, starting-push, starting-all}
use Rattle.eager_machine.proofs.nodes.new_nodes.Goals as goal
use Rattle.eager_machine.proofs.nodes.new_nodes.Goals.{After-len}

starting : (c : After-len) → IsStarting c.args.cfg c.args.programs.items (c.in-Some.program ∷ c.next.new.self.rest.items) c.loop-program.nodes.items
starting c = subst (λ rest. IsStarting c.args.cfg c.args.programs.items rest c.loop-program.nodes.items) c.in-Some.ensures.steps.0 c.loop-program.invariant.starting

number : (c : After-len) → c.len.result ≡ length c.loop-program.nodes.items
number c = c.len.ensures ∙ c.loop-program.nodes.ok.0

pub loop-program-init : goal.loop-program-init
loop-program-init c =
    record {
      starting =
          subst (λ nodes. IsStarting c.args.cfg c.args.programs.items c.into_iter-program-iterator.result.rest.items nodes) (sym c.in-Ok.ensures.items)
          (subst (λ rest. IsStarting c.args.cfg c.args.programs.items rest []) (sym c.into_iter-program-iterator.ensures.into_iter_gives.0) (starting-none c.args.cfg c.args.programs.items));
      room = search rules;
    }

pub new-requires-clause-numbered : goal.new-requires-clause-numbered
new-requires-clause-numbered c =
    let below = starting-below c.args.cfg c.args.programs.items c.in-Some.program c.next.new.self.rest.items c.requires c.loop-program.nodes.items (starting c) in
    let at = number c in
    omega (arith, below, at)

pub new-requires-clause-program : goal.new-requires-clause-program
new-requires-clause-program c =
    subst (λ n. IsProgramOf c.args.cfg n c.in-Some.program) (sym (number c)) (starting-program c.args.cfg c.args.programs.items c.in-Some.program c.next.new.self.rest.items c.requires c.loop-program.nodes.items (starting c))

pub loop-program-preserved : goal.loop-program-preserved
loop-program-preserved c =
    let d = (goal.at.loop-program-preserved c).After-len in
    let is = c.in_ok-node.ensures ∙ ap (λ n. start_view c.args.cfg n c.in-Some.program) (number d) in
    let pushed = starting-push c.args.cfg c.args.programs.items c.in-Some.program c.next.new.self.rest.items c.requires c.loop-program.nodes.items (starting d) c.in_ok-node.node is in
    record {
      starting = subst (IsStarting c.args.cfg c.args.programs.items c.next.new.self.rest.items) (sym c.push_reserved.ensures.items) pushed;
      room = c.push_reserved.ensures.capacity ∙ c.loop-program.invariant.room;
    }

pub returns : goal.returns
returns c =
    let none = nil_from_length c.loop-program.program-iterator.rest.items (sym c.loop-program.program-iterator.rest.ok.0 ∙ c.in-None.ensures.steps.0) in
    starting-all c.args.cfg c.args.programs.items c.loop-program.nodes.items (subst (λ rest. IsStarting c.args.cfg c.args.programs.items rest c.loop-program.nodes.items) none c.loop-program.invariant.starting)
