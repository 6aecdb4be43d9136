-- The nodes as a list: one of them changed, and what it does in the state is what it does by itself.
use Rattle.std.proofs.Common.{◌≡◌, ◌≢◌, ℕ, ◌≤◌, ◌<◌, Bool, true, false, cond, ◌==◌, List, [], set, get_or, refl, ap, arith, sym, subst, ◌∙◌, Option, Some}
use Rattle.std.specs.Prelude.{slice_get, unwrap_or}
use Rattle.std.proofs.lemmas.Option.{same_Some}
use Rattle.std.proofs.lemmas.Bool.Decides.{nat_tests}
use Rattle.std.proofs.lemmas.List.{length-set}
use Rattle.line_map.specs.Sizes.{Sizes}
use Rattle.op_model.specs.declared.messages.Msg.{Msg}
use Rattle.op_model.specs.Events.Node.{Input, NodeOutcome}
use Rattle.op_model.specs.Events.Step.{put_at}
use Rattle.op_model.specs.Programs.{programs_of}
use Rattle.op_model.specs.Shares.{Share}
use Rattle.eager_model.specs.Node.{NodeAges, aged, local, meets_row}
use Rattle.eager_home.specs.Views.{EagerView, ages_in}
use Rattle.machine.proofs.Public.{map-set_same, slice_get-mapped, slice_get-read, slice_get-set_at}
use Rattle.machine.proofs.Public.{slice_get-set_other}
use Rattle.eager_machine.specs.Kept.{share_or, share_in, ages_or, node_ages, programs_in, IsNodeAt, AreNodes, AreYoung}
use Rattle.eager_home.specs.Aged.{AreWithin}

-- the node at a place below the number of nodes
pub node-there : (sizes : Sizes) (nodes : List EagerView) (node : ℕ) (d x : EagerView) → AreNodes sizes nodes → node < sizes.nodes → x ≡ get_or nodes node d → slice_get nodes node ≡ Some x
node-there sizes nodes node d x are below is = let count = are.count in slice_get-read nodes node d x (omega (arith, count, below)) is

pub programs-at : (nodes : List EagerView) (node : ℕ) (view : EagerView) → slice_get nodes node ≡ Some view → programs_of (programs_in nodes) node ≡ view.program
programs-at nodes node view is = ap (λ o. unwrap_or o []) (slice_get-mapped (λ (v : EagerView). v.program) nodes node view is)

-- what a function of one node says of each, where one node is changed
changed : {A : Type 0} (f : ℕ → Option EagerView → A) (nodes : List EagerView) (node : ℕ) (old new : EagerView) → slice_get nodes node ≡ Some old → (value : A) → value ≡ f node (Some new) →
    put_at (λ q. f q (slice_get nodes q)) node value ≡ (λ q. f q (slice_get (set nodes node new) q))
changed f nodes node old new there value is = λ i q. go q (q == node) refl i
  where
    go : (q : ℕ) (b : Bool) → (q == node) ≡ b → cond b value (f q (slice_get nodes q)) ≡ f q (slice_get (set nodes node new) q)
    go q true test =
        let same : q ≡ node = grind (arith, nat_tests) in
        is ∙ ap (f node) (sym (slice_get-set_at nodes node old new there)) ∙ ap (λ k. f k (slice_get (set nodes node new) k)) (sym same)
    go q false test =
        let other : q ≢ node = grind (arith, nat_tests) in
        ap (f q) (sym (slice_get-set_other nodes node q new other))

pub share-set : (sizes : Sizes) (nodes : List EagerView) (node : ℕ) (old new : EagerView) → slice_get nodes node ≡ Some old → (share : Share) → share ≡ new.share → put_at (share_in sizes nodes) node share ≡ share_in sizes (set nodes node new)
share-set sizes nodes node old new there share is = changed (share_or sizes) nodes node old new there share is

pub ages-set : (nodes : List EagerView) (node : ℕ) (old new : EagerView) → slice_get nodes node ≡ Some old → (ages : NodeAges) → ages ≡ ages_in new → put_at (node_ages nodes) node ages ≡ node_ages (set nodes node new)
ages-set nodes node old new there ages is = changed ages_or nodes node old new there ages is

module _ (sizes : Sizes) (nodes : List EagerView) (node : ℕ) (old : EagerView) (there : slice_get nodes node ≡ Some old) (is : IsNodeAt sizes node old) where
  -- what a node does in the state is what it does by itself
  pub local-at : (input : Input) → local sizes node (programs_of (programs_in nodes) node) (share_in sizes nodes node) input ≡ local old.sizes old.number old.program old.share input
  local-at input =
      let a = sym is.same_sizes in
      let b = sym is.number_is in
      let c = programs-at nodes node old there in
      let d = ap (share_or sizes node) there in
      λ i. local (a i) (b i) (c i) (d i) input

  pub aged-at : (input : Input) (age : ℕ) (out : NodeOutcome) → aged sizes node (share_in sizes nodes node) (node_ages nodes node) input age out ≡ aged old.sizes old.number old.share (ages_in old) input age out
  aged-at input age out =
      let a = sym is.same_sizes in
      let b = sym is.number_is in
      let c = ap (share_or sizes node) there in
      let d = ap (ages_or node) there in
      λ i. aged (a i) (b i) (c i) (d i) input age out

  pub meets-at : (src : ℕ) (m : Msg) → meets_row old.sizes old.number old.share src m ≡ meets_row sizes node (share_in sizes nodes node) src m
  meets-at src m =
      let a = is.same_sizes in
      let b = is.number_is in
      let c = sym (ap (share_or sizes node) there) in
      λ i. meets_row (a i) (b i) (c i) src m

-- one node with another share and other ages
module _ (sizes : Sizes) (nodes : List EagerView) (node : ℕ) (old new : EagerView) (there : slice_get nodes node ≡ Some old) where
  at-place : (P : ℕ → EagerView → Type 0) → ((q : ℕ) (view : EagerView) → slice_get nodes q ≡ Some view → P q view) → P node new → (q : ℕ) (view : EagerView) → slice_get (set nodes node new) q ≡ Some view → P q view
  at-place P each here q view is = go (q == node) refl
    where
      go : (b : Bool) → (q == node) ≡ b → P q view
      go true test =
          let same : q ≡ node = grind (arith, nat_tests) in
          let its : new ≡ view = same_Some new view (sym (ap (slice_get (set nodes node new)) same ∙ slice_get-set_at nodes node old new there) ∙ is) in
          subst (P q) its (subst (λ n. P n new) (sym same) here)
      go false test =
          let other : q ≢ node = grind (arith, nat_tests) in
          each q view (sym (slice_get-set_other nodes node q new other) ∙ is)

  pub nodes-set : AreNodes sizes nodes → new ≡ record old { share = new.share; copy_ages = new.copy_ages; memory_ages = new.memory_ages } → AreNodes sizes (set nodes node new)
  nodes-set are same = record {
    count = length-set nodes node new ∙ are.count;
    each = at-place (IsNodeAt sizes) are.each
        (let its = are.each node old there in subst (IsNodeAt sizes node) (sym same) (record { same_sizes = its.same_sizes; number_is = its.number_is; program = its.program }));
  }

  pub programs-set : new.program ≡ old.program → programs_in (set nodes node new) ≡ programs_in nodes
  programs-set same = map-set_same (λ (v : EagerView). v.program) nodes node old new there same

  pub young-set : (bound : ℕ) → AreYoung bound nodes → AreWithin bound (ages_in new) → AreYoung bound (set nodes node new)
  young-set bound young within = at-place (λ q (v : EagerView). AreWithin bound (ages_in v)) young within

pub young-more : (bound more : ℕ) (nodes : List EagerView) → bound ≤ more → AreYoung bound nodes → AreYoung more nodes
young-more bound more nodes le young q view is line = let y = young q view is line in (let a = y.0 in omega (arith, a, le), let b = y.1 in omega (arith, b, le))
