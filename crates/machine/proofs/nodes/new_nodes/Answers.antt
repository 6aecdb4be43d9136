-- Each program is the one at the place of its node, and so is each directory; there is room for as many nodes as there are programs.
use Rattle.std.proofs.Common.{rules, ◌≡◌, ◌∷◌, ◌++◌, [], length, map, sym, subst, ap, ◌∙◌, arith}
use Rattle.std.specs.Prelude.{All}
use Rattle.std.proofs.lemmas.List.{length-map, map_push}
use Rattle.std.proofs.lemmas.List.Elements.{All-push}
use Rattle.machine.proofs.Starts.{IsStarting, starting-none, starting-program, dir-left, dir-fresh, none-left, starting-all, starting-dirs, starting-push}
use Rattle.machine.proofs.nodes.new_nodes.Goals as goal
use Rattle.machine.proofs.nodes.new_nodes.Given.{Over}
use Rattle.op_model.specs.Programs.{IsProgramOf}
use Rattle.machine.specs.Faces.{start_face, face_of, dir_of}
use Rattle.machine.proofs.nodes.new_nodes.Goals.{After-len, After-drop-dirs-2}

starting : (g : Over) (c : After-len g) → IsStarting c.args.cfg g.D.Sharers.directory c.args.programs.items (c.in-Some.program ∷ c.next.new.self.rest.items) c.args.dirs.items (c.in-Some-next.dir ∷ c.next-in-loop-program.new.self.rest.items)
    (map (face_of {D = g.row.D.Denot}) c.loop-program.nodes.items) (map (dir_of {D = g.row.D.Denot}) c.loop-program.nodes.items)
starting g c =
    let faces = map (face_of {D = g.row.D.Denot}) c.loop-program.nodes.items in
    let own = map (dir_of {D = g.row.D.Denot}) c.loop-program.nodes.items in
    subst (λ rest. IsStarting c.args.cfg g.D.Sharers.directory c.args.programs.items rest c.args.dirs.items (c.in-Some-next.dir ∷ c.next-in-loop-program.new.self.rest.items) faces own) c.in-Some.ensures.steps.0
    (subst (λ left. IsStarting c.args.cfg g.D.Sharers.directory c.args.programs.items c.loop-program.program-iterator.rest.items c.args.dirs.items left faces own) c.in-Some-next.ensures.items c.loop-program.invariant.starting)

number : (g : Over) (c : After-len g) → c.len.result ≡ length (map (face_of {D = g.row.D.Denot}) c.loop-program.nodes.items)
number g c = c.len.ensures ∙ c.loop-program.nodes.ok.0 ∙ sym (length-map c.loop-program.nodes.items (face_of {D = g.row.D.Denot}))

pub loop-program-init : goal.loop-program-init
loop-program-init g c =
    let face = face_of {D = g.row.D.Denot} in
    let directory = dir_of {D = g.row.D.Denot} in
    let none = sym c.in-Ok.ensures.items in
    record {
      starting =
          subst (λ nodes. IsStarting c.args.cfg g.D.Sharers.directory c.args.programs.items c.into_iter-program-iterator.result.rest.items c.args.dirs.items c.into_iter-dirs.result.rest.items (map face nodes) (map directory nodes)) none
          (subst (λ rest. IsStarting c.args.cfg g.D.Sharers.directory c.args.programs.items rest c.args.dirs.items c.into_iter-dirs.result.rest.items [] []) (sym c.into_iter-program-iterator.ensures.into_iter_gives.0)
          (subst (λ left. IsStarting c.args.cfg g.D.Sharers.directory c.args.programs.items c.args.programs.items c.args.dirs.items left [] []) (sym c.into_iter-dirs.ensures.rest) (starting-none c.args.cfg g.D.Sharers.directory c.args.programs.items c.args.dirs.items)));
      sound = subst (λ nodes. All g.D.Sharers.is_sound (map directory nodes)) none (λ k d below. absurd (omega (arith, below)));
      room = search rules;
    }

pub unreachable-requires : goal.unreachable-requires
unreachable-requires g c =
    let faces = map (face_of {D = g.row.D.Denot}) c.loop-program.nodes.items in
    let own = map (dir_of {D = g.row.D.Denot}) c.loop-program.nodes.items in
    dir-left c.args.cfg g.D.Sharers.directory c.args.programs.items c.in-Some.program c.next.new.self.rest.items c.args.dirs.items c.requires.programs c.requires.dirs c.loop-program.dirs.rest.items faces own
    (subst (λ rest. IsStarting c.args.cfg g.D.Sharers.directory c.args.programs.items rest c.args.dirs.items c.loop-program.dirs.rest.items faces own) c.in-Some.ensures.steps.0 c.loop-program.invariant.starting)
    (none-left c.loop-program.dirs.rest.items (sym c.loop-program.dirs.rest.ok.0 ∙ c.in_default-next.ensures.cases.0))

pub new-requires-clause-program : goal.new-requires-clause-program
new-requires-clause-program g c =
    let faces = map (face_of {D = g.row.D.Denot}) c.loop-program.nodes.items in
    subst (λ n. IsProgramOf c.args.cfg n c.in-Some.program) (sym (number g c))
    (starting-program c.args.cfg g.D.Sharers.directory c.args.programs.items c.in-Some.program c.next.new.self.rest.items c.args.dirs.items c.requires.programs c.requires.dirs (c.in-Some-next.dir ∷ c.next-in-loop-program.new.self.rest.items) faces (map (dir_of {D = g.row.D.Denot}) c.loop-program.nodes.items) (starting g c))

pub new-requires-clause-fresh : goal.new-requires-clause-fresh
new-requires-clause-fresh g c =
    (dir-fresh c.args.cfg g.D.Sharers.directory c.args.programs.items c.in-Some.program c.next.new.self.rest.items c.args.dirs.items c.requires.programs c.requires.dirs c.in-Some-next.dir c.next-in-loop-program.new.self.rest.items
    (map (face_of {D = g.row.D.Denot}) c.loop-program.nodes.items) (map (dir_of {D = g.row.D.Denot}) c.loop-program.nodes.items) (starting g c)).fresh

pub loop-program-preserved : goal.loop-program-preserved
loop-program-preserved g c =
    let d = (goal.at.loop-program-preserved g c).After-len in
    let face = face_of {D = g.row.D.Denot} in
    let directory = (dir_of {D = g.row.D.Denot}) in
    let faces = map face c.loop-program.nodes.items in
    let own = map directory c.loop-program.nodes.items in
    let charge = (g.D.Sharers.directory c.in-Some-next.dir).charge in
    let is = ap face c.in_ok-node.ensures ∙ ap (λ n. start_face c.args.cfg n c.in-Some.program charge) (number g d) in
    let pushed = starting-push c.args.cfg g.D.Sharers.directory c.args.programs.items c.in-Some.program c.next.new.self.rest.items c.args.dirs.items c.requires.programs c.requires.dirs c.in-Some-next.dir c.next-in-loop-program.new.self.rest.items faces own (starting g d)
    (face c.in_ok-node.node) is in
    let its = c.push_reserved.ensures.items in
    record {
      starting =
          subst (λ nodes. IsStarting c.args.cfg g.D.Sharers.directory c.args.programs.items c.next.new.self.rest.items c.args.dirs.items c.next-in-loop-program.new.self.rest.items (map face nodes) (map directory nodes)) (sym its)
          (subst (λ fs. IsStarting c.args.cfg g.D.Sharers.directory c.args.programs.items c.next.new.self.rest.items c.args.dirs.items c.next-in-loop-program.new.self.rest.items fs (map directory (c.loop-program.nodes.items ++ c.in_ok-node.node ∷ []))) (sym (map_push face c.loop-program.nodes.items c.in_ok-node.node))
          (subst (λ ds. IsStarting c.args.cfg g.D.Sharers.directory c.args.programs.items c.next.new.self.rest.items c.args.dirs.items c.next-in-loop-program.new.self.rest.items (faces ++ face c.in_ok-node.node ∷ []) ds) (sym (map_push directory c.loop-program.nodes.items c.in_ok-node.node ∙ ap (λ x. map directory c.loop-program.nodes.items ++ x ∷ []) (ap directory c.in_ok-node.ensures))) pushed));
      sound = subst (λ nodes. All g.D.Sharers.is_sound (map directory nodes)) (sym its) (subst (All g.D.Sharers.is_sound) (sym (map_push directory c.loop-program.nodes.items c.in_ok-node.node)) (All-push g.D.Sharers.is_sound own (directory c.in_ok-node.node) c.loop-program.invariant.sound c.told_dir.ensures));
      room = c.push_reserved.ensures.capacity ∙ c.loop-program.invariant.room;
    }

-- no program is left
all-started : (g : Over) (c : After-drop-dirs-2 g) → IsStarting c.args.cfg g.D.Sharers.directory c.args.programs.items [] c.args.dirs.items c.loop-program.dirs.rest.items
    (map (face_of {D = g.row.D.Denot}) c.loop-program.nodes.items) (map (dir_of {D = g.row.D.Denot}) c.loop-program.nodes.items)
all-started g c =
    let none = none-left c.loop-program.program-iterator.rest.items (sym c.loop-program.program-iterator.rest.ok.0 ∙ c.in-None.ensures.steps.0) in
    subst (λ rest. IsStarting c.args.cfg g.D.Sharers.directory c.args.programs.items rest c.args.dirs.items c.loop-program.dirs.rest.items
    (map (face_of {D = g.row.D.Denot}) c.loop-program.nodes.items) (map (dir_of {D = g.row.D.Denot}) c.loop-program.nodes.items)) none c.loop-program.invariant.starting

pub returns-clause-faces : goal.returns-clause-faces
returns-clause-faces g c =
    starting-all c.args.cfg g.D.Sharers.directory c.args.programs.items c.args.dirs.items c.loop-program.dirs.rest.items
    (map (face_of {D = g.row.D.Denot}) c.loop-program.nodes.items) (map (dir_of {D = g.row.D.Denot}) c.loop-program.nodes.items) (all-started g c)

pub returns-clause-dirs : goal.returns-clause-dirs
returns-clause-dirs g c =
    starting-dirs c.args.cfg g.D.Sharers.directory c.args.programs.items c.args.dirs.items c.loop-program.dirs.rest.items
    (map (face_of {D = g.row.D.Denot}) c.loop-program.nodes.items) (map (dir_of {D = g.row.D.Denot}) c.loop-program.nodes.items) c.requires.programs c.requires.dirs (all-started g c)
