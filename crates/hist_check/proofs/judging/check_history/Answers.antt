use Rattle.std.proofs.Common.{◌<◌, ◌≤◌, ◌+◌, ◌∙◌, List, get_or, take, length, refl, rules, arith, ap, sym, subst}
use Rattle.std.specs.Prelude.{slice_set}
use Rattle.std.specs.FinMap as fin
use Rattle.std.proofs.lemmas.List.{get_or-replicate, take_all, take_more}
use Rattle.op_model.specs.declared.operations.Entry.{Entry}
use Rattle.op_model.specs.declared.operations.Kind.TheVariants.{Load}
use Rattle.hist_check.specs.declared.fault.EntryCause.TheVariants.{Value}
use Rattle.op_model.specs.Programs.{programs_of}
use Rattle.hist_check.specs.Good.{all_missing}
use Rattle.hist_check.proofs.Histories.{good-none, not-good, follows-short, after-push}
use Rattle.op_model.specs.Flat.{FlatMemory, after_entry, after_from}
use Rattle.op_model.specs.Run.History.{entries_by}
use Rattle.hist_check.proofs.Counting.{counted-more, missing-all}
use Rattle.hist_check.proofs.Firsts.{AreCounted, place-good, place-bad, value-bad, first-bad, good-next}
use Rattle.hist_check.proofs.judging.check_history.Goals as goal

-- what a read past the end would give
abbrev default : Entry
default = record { node = 0; index = 0; kind = Load; word = 0; value = 0; old = 0 }

pub loop-i-init : goal.loop-i-init
loop-i-init c = record { good = good-none (programs_of c.args.programs.now); flat = c.empty-flat.ensures; wide = refl; counted = λ n lt. get_or-replicate 64 n 0 0 lt }

pub returns-in-Some-clause-bad : goal.returns-in-Some-clause-bad
returns-in-Some-clause-bad c =
    let e = get_or c.args.h.now c.loop-i.i default in
    let few : length c.args.programs.now ≤ 64 = let s = c.nodes-nodes.ensures in omega (arith, s.value, s.small.1, c.requires) in
    first-bad (programs_of c.args.programs.now) c.args.h.now c.loop-i.i default c.in-Some.cause c.loop-i-test.true c.loop-i.invariant.good
    (place-bad c.args.programs.now c.loop-i.counts (take c.loop-i.i c.args.h.now) e few c.loop-i.invariant.counted c.in-Some.cause c.in-Some.ensures.cause)

pub returns-in-Some-clause-refused : goal.returns-in-Some-clause-refused
returns-in-Some-clause-refused c = not-good (programs_of c.args.programs.now) c.args.h.now _ _ (returns-in-Some-clause-bad c)

pub returns-then-not-branch-clause-bad : goal.returns-then-not-branch-clause-bad
returns-then-not-branch-clause-bad c =
    let e = get_or c.args.h.now c.loop-i.i default in
    let few : length c.args.programs.now ≤ 64 = let s = c.nodes-nodes.ensures in omega (arith, s.value, s.small.1, c.requires) in
    let place = place-good c.args.programs.now c.loop-i.counts (take c.loop-i.i c.args.h.now) e few c.loop-i.invariant.counted c.in_default.ensures.cause in
    first-bad (programs_of c.args.programs.now) c.args.h.now c.loop-i.i default Value c.loop-i-test.true c.loop-i.invariant.good
    (value-bad (programs_of c.args.programs.now) (take c.loop-i.i c.args.h.now) e c.loop-i.flat c.loop-i.invariant.flat place (λ legal. let is = c.in_ok-apply.ensures.legal.1 legal in let not = c.if-not-branch.true in grind arith))

pub returns-then-not-branch-clause-refused : goal.returns-then-not-branch-clause-refused
returns-then-not-branch-clause-refused c = not-good (programs_of c.args.programs.now) c.args.h.now _ _ (returns-then-not-branch-clause-bad c)

pub loop-i-preserved : goal.loop-i-preserved
loop-i-preserved c =
    let h = c.args.h.now in
    let i = c.loop-i.i in
    let e = get_or h i default in
    let few : length c.args.programs.now ≤ 64 = let s = c.nodes-nodes.ensures in omega (arith, s.value, s.small.1, c.requires) in
    let place = place-good c.args.programs.now c.loop-i.counts (take i h) e few c.loop-i.invariant.counted c.in_default.ensures.cause in
    let below : e.node < 64 = let s = c.in_default.ensures.small.0 in omega (arith, few, s) in
    record {
      good = good-next (programs_of c.args.programs.now) h i default c.loop-i.flat c.loop-i-test.true c.loop-i.invariant.good c.loop-i.invariant.flat place (c.in_ok-apply.ensures.legal.0 (search rules));
      flat = c.in_ok-apply.ensures.ok ∙ ap (λ (f : FlatMemory). after_entry f e) c.loop-i.invariant.flat ∙ sym (after-push fin.empty (take i h) e) ∙ ap (after_from fin.empty) (sym (take_more h i default c.loop-i-test.true));
      wide = search rules;
      counted = subst (λ (es : List Entry). AreCounted (slice_set c.loop-i.counts e.node (get_or c.loop-i.counts e.node 0 + 1)) es) (sym (take_more h i default c.loop-i-test.true)) (counted-more c.loop-i.counts (take i h) e c.loop-i.invariant.wide below c.loop-i.invariant.counted);
    }

pub missing-requires-clause-within : goal.missing-requires-clause-within
missing-requires-clause-within c node lt =
    let s = c.nodes-nodes.ensures in
    let short = follows-short (programs_of c.args.programs.now node) 0 (entries_by node (take c.loop-i.i c.args.h.now)) (omega arith) (c.loop-i.invariant.good.order node) in
    let is = c.loop-i.invariant.counted node (omega (arith, lt, s.small.1)) in
    omega (arith, short, is)

pub returns-clause-missing : goal.returns-clause-missing
returns-clause-missing c =
    let s = c.nodes-nodes.ensures in
    let h = c.args.h.now in
    c.missing.ensures
    ∙ missing-all (programs_of c.args.programs.now) (λ node. get_or c.loop-i.counts node 0) c.nodes-nodes.result (take c.loop-i.i h) (λ node lt. c.loop-i.invariant.counted node (omega (arith, lt, s.small.1)))
    ∙ ap (all_missing (programs_of c.args.programs.now) c.nodes-nodes.result) (take_all c.loop-i.i h c.loop-i-test.false)
    ∙ ap (λ n. all_missing (programs_of c.args.programs.now) n h) s.value
