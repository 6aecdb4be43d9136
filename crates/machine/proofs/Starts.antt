-- The start: new nodes, which have done nothing and sent nothing.
use Rattle.std.proofs.Common.{◌≡◌, ℕ, zero, suc, ◌+◌, ◌<◌, ◌≤◌, List, [], ◌∷◌, ◌++◌, length, map, refl, ap, arith, sym, subst, ◌∙◌, ◌⊎◌, inl, inr, Option, Some, None}
use Rattle.std.specs.Prelude.{slice_get, sum_by, replicate}
use Rattle.std.proofs.lemmas.Bool.{cases_lt}
use Rattle.std.proofs.lemmas.Bool.Decides.{nat_tests}
use Rattle.std.proofs.lemmas.List.Sums.{sum_by-cons}
use Rattle.std.proofs.lemmas.Option.{same_Some, slice_get_within}
use Rattle.std.proofs.lemmas.List.{length-map, length-append, append-nil, append_assoc, map_push, length_push}
pub use Rattle.std.proofs.lemmas.List.{nil_from_length as none-left}
use Rattle.line_map.specs.Sizes.{Sizes, AreSizes}
use Rattle.op_model.specs.declared.operations.Op.{Op}
use Rattle.op_model.specs.Shares.{Share}
use Rattle.op_model.specs.Run.Bounds.{request_bound, reply_bound}
use Rattle.op_model.specs.Run.Runs.{start_share}
use Rattle.dir_header.specs.Sharers.{Directory}
use Rattle.lane_queues.specs.LaneStates.{LaneState, no_messages}
use Rattle.msg_words.specs.SendList.{SendList}
use Rattle.event_tally.proofs.Public.{tally_of-nil}
use Rattle.machine.specs.Kept.{programs_in, charge_in, share_or, share_in, left_at, left_in, no_sends, IsNodeAt, AreLanesOf, IsKept}
use Rattle.machine.specs.Starts.{charge_of, IsFreshOf, AreFresh, IsNewAt, AreNew}
use Rattle.machine.specs.Faces.{Face, start_face}
use Rattle.op_model.specs.Programs.{IsProgramOf, ArePrograms}
use Rattle.op_model.proofs.Public.{slice_get-middle}
use Rattle.machine.proofs.Faces.{slice_get-mapped}

-- an element before the last one
pub slice_get-push_below : {A : Type 0} (xs : List A) (x : A) (k : ℕ) → k < length xs → slice_get (xs ++ x ∷ []) k ≡ slice_get xs k
slice_get-push_below [] x k below = absurd (omega arith)
slice_get-push_below (y ∷ xs) x zero below = refl
slice_get-push_below (y ∷ xs) x (suc k) below = slice_get-push_below xs x k (omega arith)

pub below_or_at : (k n : ℕ) → k < n + 1 → (k < n) ⊎ (k ≡ n)
below_or_at k n below = go (cases_lt k n)
  where
    go : (k < n) ⊎ (n ≤ k) → (k < n) ⊎ (k ≡ n)
    go (inl less) = inl less
    go (inr more) = inr (omega arith)

-- the nodes so far are new, and their programs and directories stand before those that are left
pub record IsStarting {D : Type 0} (sizes : Sizes) (directory : D → Directory) (programs rest : List (List Op)) (dirs dirs_left : List D) (faces : List Face) (own : List D) : Type 0 where
  pub each : (node : ℕ) (face : Face) → slice_get faces node ≡ Some face → IsNewAt sizes (charge_of (map directory dirs)) node face
  pub split : programs_in faces ++ rest ≡ programs
  pub dirs_split : own ++ dirs_left ≡ dirs
  pub count : length own ≡ length faces

pub starting-none : {D : Type 0} (sizes : Sizes) (directory : D → Directory) (programs : List (List Op)) (dirs : List D) → IsStarting sizes directory programs programs dirs dirs [] []
starting-none sizes directory programs dirs = record { each = λ node face is. cc; split = refl; dirs_split = refl; count = refl }

module _ {D : Type 0} (sizes : Sizes) (directory : D → Directory) (programs : List (List Op)) (program : List Op) (rest : List (List Op)) (dirs : List D) (all : ArePrograms sizes programs) (fresh : AreFresh sizes (map directory dirs)) where
  module _ (dirs_left : List D) (faces : List Face) (own : List D) (starting : IsStarting sizes directory programs (program ∷ rest) dirs dirs_left faces own) where
    counted : length (programs_in faces) ≡ length faces
    counted = length-map faces (λ (f : Face). f.program)

    pub starting-below : length faces < sizes.nodes
    starting-below =
        let one = length-append (programs_in faces) (program ∷ rest) in
        let all_of = ap length starting.split in
        omega (arith, counted, all_of, one, all.count)

    pub starting-program : IsProgramOf sizes (length faces) program
    starting-program =
        let at : slice_get programs (length faces) ≡ Some program =
        ap (slice_get programs) (sym counted) ∙ ap (λ ps. slice_get ps (length (programs_in faces))) (sym starting.split) ∙ slice_get-middle (programs_in faces) program rest in
        all.each (length faces) program at

    -- a directory is left for each program that is
    pub dir-left : dirs_left ≡ [] → ⊥
    dir-left none =
        let below = starting-below in
        let long = ap length starting.dirs_split in
        let parts = length-append own dirs_left in
        let zero_left : length dirs_left ≡ 0 = ap length none in
        let mapped = length-map dirs directory in
        omega (arith, below, long, parts, zero_left, mapped, fresh.count, starting.count)

  module _ (dir : D) (dirs_left : List D) (faces : List Face) (own : List D) (starting : IsStarting sizes directory programs (program ∷ rest) dirs (dir ∷ dirs_left) faces own) where
    pub dir-fresh : IsFreshOf sizes (charge_of (map directory dirs)) (directory dir)
    dir-fresh =
        let at : slice_get dirs (length own) ≡ Some dir = ap (λ ds. slice_get ds (length own)) (sym starting.dirs_split) ∙ slice_get-middle own dir dirs_left in
        fresh.each (length own) (directory dir) (slice_get-mapped directory dirs (length own) dir at)

    pub starting-push : (face : Face) → face ≡ start_face sizes (length faces) program (directory dir).charge → IsStarting sizes directory programs rest dirs dirs_left (faces ++ face ∷ []) (own ++ dir ∷ [])
    starting-push face is = record {
      each = λ node f at. go node f at (below_or_at node (length faces) (let within = slice_get_within (faces ++ face ∷ []) node f at in omega (arith, within, length_push faces face)));
      split = ap (λ ps. ps ++ rest) (map_push (λ (f : Face). f.program) faces face) ∙ append_assoc (programs_in faces) (face.program ∷ []) rest ∙ ap (λ p. programs_in faces ++ p ∷ rest) (ap (λ (f : Face). f.program) is) ∙ starting.split;
      dirs_split = append_assoc own (dir ∷ []) dirs_left ∙ starting.dirs_split;
      count = let a = length_push own dir in let b = length_push faces face in omega (arith, a, b, starting.count);
    }
      where
        new : IsNewAt sizes (charge_of (map directory dirs)) (length faces) face
        new = subst (IsNewAt sizes (charge_of (map directory dirs)) (length faces)) (sym is) (record {
          its = record { same_sizes = refl; number_is = refl; same_charge = dir-fresh.same_charge; program = starting-program (dir ∷ dirs_left) faces own starting; placed = omega arith };
          share_is = refl;
        })

        go : (node : ℕ) (f : Face) → slice_get (faces ++ face ∷ []) node ≡ Some f → (node < length faces) ⊎ (node ≡ length faces) → IsNewAt sizes (charge_of (map directory dirs)) node f
        go node f at (inl below) = starting.each node f (sym (slice_get-push_below faces face node below) ∙ at)
        go node f at (inr here) =
            let same : face ≡ f = same_Some face f (sym (ap (slice_get (faces ++ face ∷ [])) here ∙ slice_get-middle faces face []) ∙ at) in
            subst (λ n. IsNewAt sizes (charge_of (map directory dirs)) n f) (sym here) (subst (IsNewAt sizes (charge_of (map directory dirs)) (length faces)) same new)

pub starting-all : {D : Type 0} (sizes : Sizes) (directory : D → Directory) (programs : List (List Op)) (dirs dirs_left : List D) (faces : List Face) (own : List D) → IsStarting sizes directory programs [] dirs dirs_left faces own → AreNew sizes programs (map directory dirs) faces
starting-all sizes directory programs dirs dirs_left faces own starting = record { each = starting.each; programs_are = sym (append-nil (programs_in faces)) ∙ starting.split }

pub starting-dirs : {D : Type 0} (sizes : Sizes) (directory : D → Directory) (programs : List (List Op)) (dirs dirs_left : List D) (faces : List Face) (own : List D) → ArePrograms sizes programs → AreFresh sizes (map directory dirs) →
    IsStarting sizes directory programs [] dirs dirs_left faces own → own ≡ dirs
starting-dirs sizes directory programs dirs dirs_left faces own all fresh starting =
    let counted = length-map faces (λ (f : Face). f.program) in
    let whole = ap length (sym (append-nil (programs_in faces)) ∙ starting.split) in
    let long = ap length starting.dirs_split in
    let parts = length-append own dirs_left in
    let mapped = length-map dirs directory in
    let none_left : length dirs_left ≡ 0 = omega (arith, counted, whole, long, parts, mapped, all.count, fresh.count, starting.count) in
    sym (append-nil own) ∙ ap (λ ds. own ++ ds) (sym (none-left dirs_left none_left)) ∙ starting.dirs_split

-- the charge of the nodes is that of the directories
pub new-charge : (sizes : Sizes) (programs : List (List Op)) (dirs : List Directory) (faces : List Face) → AreNew sizes programs dirs faces → 0 < length faces → charge_in faces ≡ charge_of dirs
new-charge sizes programs dirs [] new some = absurd (omega arith)
new-charge sizes programs dirs (face ∷ faces) new some = (new.each 0 face refl).its.same_charge

new-shares : (sizes : Sizes) (programs : List (List Op)) (dirs : List Directory) (faces : List Face) → AreNew sizes programs dirs faces → (node : ℕ) → share_in sizes faces node ≡ start_share sizes node
new-shares sizes programs dirs faces new node = go (slice_get faces node) refl
  where
    go : (o : Option Face) → slice_get faces node ≡ o → share_or sizes node o ≡ start_share sizes node
    go None is = refl
    go (Some face) is = (new.each node face is).share_is

-- all operations are left
new-left : (faces : List Face) → ((node : ℕ) (face : Face) → slice_get faces node ≡ Some face → face.share.place ≡ 0) → left_in faces ≡ sum_by length (programs_in faces)
new-left [] none = refl
new-left (face ∷ faces) none =
    let here = none 0 face refl in
    let rest = new-left faces (λ node. none (suc node)) in
    let a = sum_by-cons left_at face faces in
    let b = sum_by-cons length face.program (programs_in faces) in
    omega (arith, here, rest, a, b)

pub new-count : (sizes : Sizes) (programs : List (List Op)) (dirs : List Directory) (faces : List Face) → ArePrograms sizes programs → AreNew sizes programs dirs faces → length faces ≡ sizes.nodes
new-count sizes programs dirs faces all new = sym (length-map faces (λ (f : Face). f.program)) ∙ ap length new.programs_are ∙ all.count

some-nodes : (sizes : Sizes) → AreSizes sizes → 0 < sizes.nodes
some-nodes sizes are = let nodes = are.nodes in grind (arith, nat_tests)

pub start-charge : (sizes : Sizes) (programs : List (List Op)) (dirs : List Directory) (faces : List Face) → AreSizes sizes → ArePrograms sizes programs → AreNew sizes programs dirs faces → charge_in faces ≡ charge_of dirs
start-charge sizes programs dirs faces sizes_are all new =
    let count = new-count sizes programs dirs faces all new in
    let some : 0 < length faces = let one = some-nodes sizes sizes_are in omega (arith, count, one) in
    new-charge sizes programs dirs faces new some

pub start-kept : (sizes : Sizes) (programs : List (List Op)) (dirs : List Directory) (faces : List Face) (lanes : LaneState) (left : ℕ) (out : SendList) → AreSizes sizes → ArePrograms sizes programs → AreNew sizes programs dirs faces →
    lanes ≡ no_messages sizes (request_bound sizes) (reply_bound sizes) → left ≡ sum_by length programs → out ≡ no_sends sizes → IsKept sizes faces lanes [] [] (replicate 27 0) left out
start-kept sizes programs dirs faces lanes left out sizes_are all new lanes_is left_is out_is =
    let count = new-count sizes programs dirs faces all new in
    let charge = start-charge sizes programs dirs faces sizes_are all new in
    record {
      sizes_are = sizes_are;
      nodes = record { count = count; each = λ node face is. subst (λ ch. IsNodeAt sizes ch node face) (sym charge) (new.each node face is).its };
      lanes_are = subst (AreLanesOf sizes) (sym lanes_is) (record { same_sizes = refl; requests = refl; replies = refl });
      ran = λ i. Some (record { state = record { share = λ node. sym (new-shares sizes programs dirs faces new node) i; lane = (sym lanes_is i).lane }; served = [] });
      tally_is = sym (tally_of-nil sizes);
      left_is = left_is ∙ sym (new-left faces (λ node face is. ap (λ (s : Share). s.place) (new.each node face is).share_is) ∙ ap (sum_by length) new.programs_are);
      nothing_sent = out_is;
    }
