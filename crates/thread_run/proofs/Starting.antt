-- Seats and programs as they are handed out, node by node.
use Rattle.std.proofs.Common.{◌≡◌, ℕ, suc, ◌+◌, ◌<◌, List, [], ◌∷◌, ◌++◌, length, refl, sym, ap, subst, ◌∙◌, arith, length-append, append_assoc}
use Rattle.std.specs.Prelude.{slice_get}
use Rattle.line_map.specs.Sizes.{Sizes, AreSizes}
use Rattle.line_map.proofs.Public.{few-nodes}
use Rattle.op_model.specs.declared.operations.Op.{Op}
use Rattle.op_model.specs.Programs.{ArePrograms, IsProgramOf}
use Rattle.op_model.specs.Parts.Part.{Part, part_at_start}
use Rattle.dir_header.specs.HomeSides.{IsFresh}
use Rattle.sharer_dir.specs.Linked.{LinkedView, linked_directory, first_linked}
use Rattle.op_model.specs.Run.Runs.{start_share}
use Rattle.op_model.proofs.Public.{slice_get-middle}
use Rattle.lane_table.specs.Rule.{parts_from}
use Rattle.node_box.specs.Boxes.{LinkedNode, node_of}

-- an empty directory is one for a home of the machine
pub fresh_linked : (sizes : Sizes) (dir : LinkedView) → AreSizes sizes → dir ≡ first_linked sizes.lines sizes.links → IsFresh sizes (linked_directory dir)
fresh_linked sizes dir are is = subst (λ (d : LinkedView). IsFresh sizes (linked_directory d)) (sym is) (record { lists = refl; links = refl; bound = few-nodes sizes are })

-- the next part is that of the next program
pub next_part : (sizes : Sizes) (number : ℕ) (program : List Op) (rest left : List (List Op)) (parts later : List Part) (part : Part) → parts ≡ parts_from sizes number left → left ≡ program ∷ rest → parts ≡ part ∷ later
    → (part ≡ part_at_start sizes number program) × (later ≡ parts_from sizes (number + 1) rest)
next_part sizes number program rest left parts later part are split next =
    let both : part ∷ later ≡ part_at_start sizes number program ∷ parts_from sizes (suc number) rest = sym next ∙ (are ∙ ap (parts_from sizes number) split) in
    let one : part ≡ part_at_start sizes number program = cc in
    let two : later ≡ parts_from sizes (suc number) rest = cc in
    let more : suc number ≡ number + 1 = omega arith in
    (one, two ∙ ap (λ n. parts_from sizes n rest) more)

-- of the next node: its number is one of the machine, and its program is its own
pub record IsNext (sizes : Sizes) (number : ℕ) (program : List Op) : Type 0 where
  pub below : number < sizes.nodes
  pub own : IsProgramOf sizes number program

pub next_program : (sizes : Sizes) (programs before rest left : List (List Op)) (number : ℕ) (program : List Op) → ArePrograms sizes programs → programs ≡ before ++ left → left ≡ program ∷ rest → length before ≡ number → IsNext sizes number program
next_program sizes programs before rest left number program are split next count =
    let whole : programs ≡ before ++ program ∷ rest = split ∙ ap (λ l. before ++ l) next in
    let long = ap length whole in
    let parts = length-append before (program ∷ rest) in
    let n = are.count in
    record {
      below = omega arith;
      own = are.each number program (ap (λ l. slice_get l number) whole ∙ (ap (slice_get (before ++ program ∷ rest)) (sym count) ∙ slice_get-middle before program rest));
    }

pub moved_on : {A : Type 0} (all before left rest : List A) (x : A) → all ≡ before ++ left → left ≡ x ∷ rest → all ≡ (before ++ x ∷ []) ++ rest
moved_on all before left rest x split next = split ∙ (ap (λ l. before ++ l) next ∙ sym (append_assoc before (x ∷ []) rest))

-- a part is left for each program that is
pub part_left : (sizes : Sizes) (number : ℕ) (program : List Op) (rest left : List (List Op)) (parts : List Part) → parts ≡ parts_from sizes number left → left ≡ program ∷ rest → parts ≡ [] → ⊥
part_left sizes number program rest left parts are split none =
    let both : ◌≡◌ {A = List Part} [] (part_at_start sizes number program ∷ parts_from sizes (suc number) rest) = sym none ∙ (are ∙ ap (parts_from sizes number) split) in
    cc

-- a new node is that of a part at the start
pub new_node : (sizes : Sizes) (number : ℕ) (program : List Op) (node : LinkedNode) (dir : LinkedView) (part : Part)
    → node ≡ record { sizes = sizes; number = number; program = program; charge = (linked_directory dir).charge; share = start_share sizes number; dir = dir } → part ≡ part_at_start sizes number program → node ≡ node_of part node.dir
new_node sizes number program node dir part is at = is ∙ sym (λ i. node_of (at i) (is i).dir)
