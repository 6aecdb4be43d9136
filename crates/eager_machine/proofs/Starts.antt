-- The start: new nodes, which have done nothing and sent nothing.
use Rattle.std.proofs.Common.{◌≡◌, ℕ, zero, suc, ◌+◌, ◌<◌, ◌≤◌, ◌%◌, ◌==◌, Bool, true, false, cond, List, [], ◌∷◌, ◌++◌, length, map, replicate, refl, ap, arith, sym, subst, ◌∙◌, ◌⊎◌, inl, inr, Option, Some, None}
use Rattle.std.specs.Prelude.{slice_get, slice_index, All}
use Rattle.std.proofs.lemmas.Option.{same_Some, slice_get_within}
use Rattle.std.proofs.lemmas.List.{length-map, length-append, append-nil, append_assoc, map_push, length_push}
use Rattle.std.proofs.lemmas.List.Elements.{All-nil}
use Rattle.line_map.specs.Sizes.{Sizes, AreSizes, home_of, set_of}
use Rattle.op_model.specs.declared.operations.Op.{Op}
use Rattle.op_model.specs.Lines.{is_empty}
use Rattle.op_model.specs.Programs.{IsProgramOf, ArePrograms}
use Rattle.op_model.specs.Run.Runs.{start_share}
use Rattle.op_model.specs.Shares.{Copies, copy_in}
use Rattle.eager_model.specs.Runs.{first_ages}
use Rattle.eager_home.specs.Aged.{AreWithin}
use Rattle.eager_home.specs.Ages.{ages_of}
use Rattle.eager_home.specs.Views.{EagerView, ages_in}
use Rattle.eager_machine.specs.declared.queue.AgedMsg.{AgedMsg}
use Rattle.eager_machine.specs.Kept.{share_or, share_in, ages_or, node_ages, programs_in, moments_in, AreYoung, IsKept}
use Rattle.eager_machine.specs.Lanes.{AgedQueues, UnderWay, lane_in, with_age, sent_from}
use Rattle.eager_machine.specs.declared.journal.Journal.{Journal}
use Rattle.eager_machine.specs.Journals.{served_in}
use Rattle.eager_machine.specs.Outboxes.{under_way}
use Rattle.eager_machine.specs.Runs.{IsRunKept}
use Rattle.event_tally.specs.Tallies.{tally_of}
use Rattle.event_tally.proofs.Public.{tally_of-nil}
use Rattle.machine.specs.Kept.{no_sends}
use Rattle.machine.proofs.Public.{below_or_at, sent_by-nil, slice_get-push_below}
use Rattle.message_range.specs.Fitting.{IsSentOf}
use Rattle.msg_words.specs.SendList.{SendList}
use Rattle.std.proofs.lemmas.Bool.Decides.{nat_tests}
use Rattle.op_model.proofs.Public.{slice_get-middle}
use Rattle.eager_machine.specs.Starts.{start_view, IsNewAt, AreNew}

-- the nodes so far are new, and their programs stand before those that are left
pub record IsStarting (sizes : Sizes) (programs rest : List (List Op)) (nodes : List EagerView) : Type 0 where
  pub each : (node : ℕ) (view : EagerView) → slice_get nodes node ≡ Some view → IsNewAt sizes node view
  pub split : programs_in nodes ++ rest ≡ programs

pub starting-none : (sizes : Sizes) (programs : List (List Op)) → IsStarting sizes programs programs []
starting-none sizes programs = record { each = λ node view is. cc; split = refl }

module _ (sizes : Sizes) (programs : List (List Op)) (program : List Op) (rest : List (List Op)) (all : ArePrograms sizes programs) (nodes : List EagerView) (starting : IsStarting sizes programs (program ∷ rest) nodes) where
  counted : length (programs_in nodes) ≡ length nodes
  counted = length-map nodes (λ (v : EagerView). v.program)

  pub starting-below : length nodes < sizes.nodes
  starting-below =
      let one = length-append (programs_in nodes) (program ∷ rest) in
      let all_of = ap length starting.split in
      omega (arith, counted, all_of, one, all.count)

  pub starting-program : IsProgramOf sizes (length nodes) program
  starting-program =
      let at : slice_get programs (length nodes) ≡ Some program =
      ap (slice_get programs) (sym counted) ∙ ap (λ ps. slice_get ps (length (programs_in nodes))) (sym starting.split) ∙ slice_get-middle (programs_in nodes) program rest in
      all.each (length nodes) program at

  pub starting-push : (view : EagerView) → view ≡ start_view sizes (length nodes) program → IsStarting sizes programs rest (nodes ++ view ∷ [])
  starting-push view is = record {
    each = λ node v at. go node v at (below_or_at node (length nodes) (let within = slice_get_within (nodes ++ view ∷ []) node v at in omega (arith, within, length_push nodes view)));
    split = ap (λ ps. ps ++ rest) (map_push (λ (v : EagerView). v.program) nodes view) ∙ append_assoc (programs_in nodes) (view.program ∷ []) rest ∙ ap (λ p. programs_in nodes ++ p ∷ rest) (ap (λ (v : EagerView). v.program) is) ∙ starting.split;
  }
    where
      new : IsNewAt sizes (length nodes) view
      new = subst (IsNewAt sizes (length nodes)) (sym is) (record { new = refl; program = starting-program })

      go : (node : ℕ) (v : EagerView) → slice_get (nodes ++ view ∷ []) node ≡ Some v → (node < length nodes) ⊎ (node ≡ length nodes) → IsNewAt sizes node v
      go node v at (inl below) = starting.each node v (sym (slice_get-push_below nodes view node below) ∙ at)
      go node v at (inr here) =
          let same : view ≡ v = same_Some view v (sym (ap (slice_get (nodes ++ view ∷ [])) here ∙ slice_get-middle nodes view []) ∙ at) in
          subst (λ n. IsNewAt sizes n v) (sym here) (subst (IsNewAt sizes (length nodes)) same new)

pub starting-all : (sizes : Sizes) (programs : List (List Op)) (nodes : List EagerView) → IsStarting sizes programs [] nodes → AreNew sizes programs nodes
starting-all sizes programs nodes starting = record { each = starting.each; programs_are = sym (append-nil (programs_in nodes)) ∙ starting.split }

zero-at : (n k : ℕ) → slice_index (replicate n 0) k ≡ 0
zero-at zero k = refl
zero-at (suc n) zero = refl
zero-at (suc n) (suc k) = zero-at n k

-- all ages of a new node are 0
new-ages : (sizes : Sizes) (node : ℕ) (copies : Copies) → ages_of sizes node copies (record { copies = replicate sizes.sets 0; memory = replicate sizes.lines 0 }) ≡ first_ages.node node
new-ages sizes node copies = λ i. record { copy = λ line. of (is_empty (copy_in copies line)) line i; memory = λ line. at (node == home_of sizes line) line i }
  where
    of : (none : Bool) (line : ℕ) → cond none 0 (slice_index (replicate sizes.sets 0) (set_of sizes line)) ≡ 0
    of true line = refl
    of false line = zero-at sizes.sets (set_of sizes line)

    at : (here : Bool) (line : ℕ) → cond here (slice_index (replicate sizes.lines 0) (line % sizes.lines)) 0 ≡ 0
    at true line = zero-at sizes.lines (line % sizes.lines)
    at false line = refl

module _ (sizes : Sizes) (programs : List (List Op)) (nodes : List EagerView) (new : AreNew sizes programs nodes) where
  new-share : (node : ℕ) → start_share sizes node ≡ share_in sizes nodes node
  new-share node = go (slice_get nodes node) refl
    where
      go : (o : Option EagerView) → slice_get nodes node ≡ o → start_share sizes node ≡ share_or sizes node o
      go None is = refl
      go (Some view) is = sym (ap (λ (v : EagerView). v.share) (new.each node view is).new)

  ages-of-new : (node : ℕ) (view : EagerView) → slice_get nodes node ≡ Some view → first_ages.node node ≡ ages_in view
  ages-of-new node view is = sym (ap ages_in (new.each node view is).new ∙ new-ages sizes node (start_share sizes node).copies)

  new-node-ages : (node : ℕ) → first_ages.node node ≡ node_ages nodes node
  new-node-ages node = go (slice_get nodes node) refl
    where
      go : (o : Option EagerView) → slice_get nodes node ≡ o → first_ages.node node ≡ ages_or node o
      go None is = refl
      go (Some view) is = ages-of-new node view is

  new-young : AreYoung 0 nodes
  new-young node view is = subst (AreWithin 0) (ages-of-new node view is) (λ line. (omega arith, omega arith))

  pub start-kept : AreSizes sizes → ArePrograms sizes programs → (way : UnderWay) → way ≡ (λ a b class. []) → IsKept sizes nodes way [] []
  start-kept sizes_are all way way_is = subst (λ w. IsKept sizes nodes w [] []) (sym way_is) (record {
    sizes_are = sizes_are;
    nodes_are = record {
      count = sym (length-map nodes (λ (v : EagerView). v.program)) ∙ ap length new.programs_are ∙ all.count;
      each = λ node view is. let its = new.each node view is in record { same_sizes = ap (λ (v : EagerView). v.sizes) its.new; number_is = ap (λ (v : EagerView). v.number) its.new; program = its.program };
    };
    ran = λ i. Some (record { state = record { share = λ node. new-share node i; lane = λ a b class. [] }; ages = record { node = λ node. new-node-ages node i; lane = λ a b class. [] }; served = [] });
    young = new-young;
    fresh = λ a b class. All-nil (λ (aged : AgedMsg). aged.age ≤ 0);
  })

  -- the machine as it is made
  pub start-run : AreSizes sizes → ArePrograms sizes programs → (lanes : AgedQueues) (sends : SendList) (journal : Journal) → lanes.sizes ≡ sizes → lane_in lanes ≡ (λ a b class. []) → sends ≡ no_sends sizes → journal.events.items ≡ [] → journal.served.items ≡ [] → journal.counts ≡ replicate 27 0 →
      IsRunKept sizes nodes lanes (record { sends = sends; moved = 0; node = 0; given = 0 }) journal
  start-run sizes_are all lanes sends journal sized empty none no_events none_served none_counted = record {
    kept = subst (λ es. IsKept sizes nodes way es (served_in journal.served.items)) (sym no_events) (subst (λ es. IsKept sizes nodes way [] (served_in es)) (sym none_served) (start-kept sizes_are all way way_is));
    same_sizes = sized;
    outbox = record {
      node = let n = sizes_are.nodes in grind (arith, nat_tests);
      room = ap (λ (s : SendList). s.room) none;
      moved = omega arith;
      sent = subst (λ (s : SendList). All (IsSentOf sizes) s.list) (sym none) (All-nil (IsSentOf sizes));
    };
    given = omega arith;
    tally = none_counted ∙ sym (tally_of-nil sizes) ∙ ap (λ es. tally_of sizes (moments_in sizes nodes es)) (sym no_events);
  }
    where
      way : UnderWay
      way = under_way lanes (record { sends = sends; moved = 0; node = 0; given = 0 })

      way_is : way ≡ (λ a b class. [])
      way_is = ap (λ (s : SendList). sent_from 0 0 s.list (lane_in lanes)) none ∙ sent_by-nil (map (with_age 0)) refl 0 (lane_in lanes) ∙ empty
