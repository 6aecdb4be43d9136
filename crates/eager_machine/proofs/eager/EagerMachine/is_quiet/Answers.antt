-- Nothing is under way where no message is left and no lane is busy.
use Rattle.std.proofs.Common.{◌≡◌, ◌↔◌, ◌<◌, ◌≤◌, ℕ, Bool, not, length, sym, subst, ap, ◌∙◌, arith, Option, IsNone}
use Rattle.std.specs.Prelude.{IsTrue, is_some, ◌==◌}
use Rattle.std.proofs.lemmas.Bool.Decides.{nat_tests}
use Rattle.machine.proofs.Public.{true_of}
use Rattle.eager_machine.specs.Journals.{served_in}
use Rattle.eager_machine.specs.Lanes.{UnderWay, lane_in, IsSilent}
use Rattle.eager_machine.specs.Outboxes.{under_way}
use Rattle.eager_machine.proofs.Ways.{all-moved, left-sent}
use Rattle.eager_machine.proofs.Views.{view-empty, view-rests}
use Rattle.eager_machine.proofs.eager.EagerMachine.is_quiet.Goals as goal

through : {A B C : Type 0} → A ↔ B → B ↔ C → A ↔ C
through one two = ((λ a. two.0 (one.0 a)), (λ c. one.1 (two.1 c)))

-- the lanes hold all that is under way, and none is busy
none-busy : {X : Type 0} (way lanes : UnderWay) (answer : Option X) (test : Bool) → way ≡ lanes → is_some answer ≡ not test → IsNone answer ↔ ((src : ℕ) → IsSilent lanes src) → IsTrue test ↔ ((src : ℕ) → IsSilent way src)
none-busy way lanes answer test same is none =
    subst (λ (w : UnderWay). IsTrue test ↔ ((src : ℕ) → IsSilent w src)) (sym same) ((λ t. none.0 (is ∙ ap not t)), (λ silent. true_of test (sym is ∙ none.1 silent)))

differ : (a b : ℕ) → (a ≡ b → ⊥) → IsTrue (a == b) → ⊥
differ a b apart test = apart (grind (arith, nat_tests))

pub returns-then-self-len-clause-empty : goal.returns-then-self-len-clause-empty
returns-then-self-len-clause-empty c =
    let run = c.self.inside.run in
    let out = run.out in
    let over : length out.sends.list ≤ out.moved = omega (arith, c.if-self-len.true, c.len.ensures) in
    let none = none-busy (under_way run.lanes out) (lane_in run.lanes) c.first_busy.result c.is_none.result (all-moved out.node out.given out.sends.list out.moved (lane_in run.lanes) over) c.is_none.ensures c.first_busy.ensures.none in
    λ past ran. through none (view-empty run.cfg run.nodes.items (under_way run.lanes out) run.journal.events.items (served_in run.journal.served.items) c.args.self.now c.self.invariant.kept c.self.view_is past ran)

pub returns-then-self-len-clause-rests : goal.returns-then-self-len-clause-rests
returns-then-self-len-clause-rests c =
    let run = c.self.inside.run in
    let out = run.out in
    let over : length out.sends.list ≤ out.moved = omega (arith, c.if-self-len.true, c.len.ensures) in
    let none = none-busy (under_way run.lanes out) (lane_in run.lanes) c.first_busy.result c.is_none.result (all-moved out.node out.given out.sends.list out.moved (lane_in run.lanes) over) c.is_none.ensures c.first_busy.ensures.none in
    λ past ran. through none (view-rests run.cfg run.nodes.items (under_way run.lanes out) run.journal.events.items (served_in run.journal.served.items) c.args.self.now c.self.invariant.kept c.self.view_is past ran)

pub returns-else-self-len-clause-empty : goal.returns-else-self-len-clause-empty
returns-else-self-len-clause-empty c =
    let run = c.self.inside.run in
    let out = run.out in
    let within : out.moved < length out.sends.list = omega (arith, c.if-self-len.false, c.len.ensures, c.self.invariant.outbox.moved) in
    λ past ran.
    let both = view-empty run.cfg run.nodes.items (under_way run.lanes out) run.journal.events.items (served_in run.journal.served.items) c.args.self.now c.self.invariant.kept c.self.view_is past ran in
    ((λ test. absurd (differ out.moved c.len.result c.if-self-len.false test)), (λ none. absurd (left-sent out.node out.given out.sends.list out.moved (lane_in run.lanes) within (both.1 none))))

pub returns-else-self-len-clause-rests : goal.returns-else-self-len-clause-rests
returns-else-self-len-clause-rests c =
    let run = c.self.inside.run in
    let out = run.out in
    let within : out.moved < length out.sends.list = omega (arith, c.if-self-len.false, c.len.ensures, c.self.invariant.outbox.moved) in
    λ past ran.
    let both = view-rests run.cfg run.nodes.items (under_way run.lanes out) run.journal.events.items (served_in run.journal.served.items) c.args.self.now c.self.invariant.kept c.self.view_is past ran in
    ((λ test. absurd (differ out.moved c.len.result c.if-self-len.false test)), (λ rest. absurd (left-sent out.node out.given out.sends.list out.moved (lane_in run.lanes) within (both.1 rest))))
