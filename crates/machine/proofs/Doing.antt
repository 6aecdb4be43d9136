-- What one node does with an input, as an event of the machine at that node.
use Rattle.std.proofs.Common.{◌≡◌, ℕ, zero, suc, ◌+◌, ◌<◌, Bool, true, false, cond, List, [], ◌∷◌, ◌++◌, length, map, set, get_or, refl, ap, arith, sym, subst, ◌∙◌, Option, Some, None, Ok, Err}
use Rattle.std.specs.Prelude.{slice_get, is_some}
use Rattle.std.proofs.lemmas.List.{length-map}
use Rattle.line_map.specs.Sizes.{Sizes, AreSizes}
use Rattle.op_model.specs.declared.events.Cause.{Cause}
use Rattle.op_model.specs.declared.messages.Msg.{Msg}
use Rattle.op_model.specs.declared.operations.Op.{Op}
use Rattle.op_model.specs.Lines.{Service, NoService, Own, For}
use Rattle.op_model.specs.MessageWords.{IsMsgOf}
use Rattle.op_model.specs.Operations.{Words}
use Rattle.op_model.specs.OwnPart.{IsOwnPart}
use Rattle.op_model.specs.Shares.{Charge}
use Rattle.op_model.specs.Events.Node.{Input, NodeOutcome, TakeFrom, meets_row}
use Rattle.cpu_cache.specs.declared.effects.Effect.{Effect}
use Rattle.cpu_cache.specs.Effects.{served_of, entry_at, done_of}
use Rattle.msg_words.specs.SendList.{SendList}
use Rattle.message_range.specs.Fitting.{AreOnWords, IsInputOf, IsServedOf, IsShareOf}
use Rattle.message_range.proofs.Public.{act-placed, every-act}
use Rattle.node_share.specs.Parts.{HasRoom}
use Rattle.node_share.specs.Effects.{Acts}
use Rattle.magic_node.specs.declared.acts.LocalEvent.{LocalEvent}
use Rattle.magic_node.specs.Nodes.{FitsEvent}
use Rattle.machine.specs.Faces.{Face, outcome_at}
use Rattle.machine.specs.Kept.{share_in, IsNodeAt, AreNodes, no_sends}
use Rattle.machine.specs.Acts.{IsDoneAt, IsRefusedAt, FillsLine}
use Rattle.machine.proofs.Faces.{slice_get-read, slice_get-mapped, share_in-at}
use Rattle.machine.proofs.Services.{place-after}

-- the node at a place below the number of nodes
pub node-at : {A : Type 0} (sizes : Sizes) (charge : Charge) (face : A → Face) (nodes : List A) (node : ℕ) (d x : A) → AreNodes sizes charge (map face nodes) → node < sizes.nodes → x ≡ get_or nodes node d → slice_get nodes node ≡ Some x
node-at sizes charge face nodes node d x are below is =
    let count = are.count in
    let mapped = length-map nodes face in
    slice_get-read nodes node d x (omega (arith, count, mapped)) is

pub node-there : {A : Type 0} (sizes : Sizes) (charge : Charge) (face : A → Face) (nodes : List A) (node : ℕ) (d x : A) → AreNodes sizes charge (map face nodes) → node < sizes.nodes → x ≡ get_or nodes node d → slice_get (map face nodes) node ≡ Some (face x)
node-there sizes charge face nodes node d x are below is = slice_get-mapped face nodes node x (node-at sizes charge face nodes node d x are below is)

some-at : {A : Type 0} (xs : List A) (i : ℕ) → i < length xs → is_some (slice_get xs i) ≡ true
some-at [] i within = absurd (omega arith)
some-at (x ∷ xs) zero within = refl
some-at (x ∷ xs) (suc i) within = some-at xs i (omega arith)

-- an operation that is done has its entry, where the program has it
entry-some : (node place : ℕ) (words : Words) (program : List Op) → place < length program → is_some (entry_at node place words (slice_get program place)) ≡ true
entry-some node place words program within = go (slice_get program place) (some-at program place within)
  where
    go : (o : Option Op) → is_some o ≡ true → is_some (entry_at node place words o) ≡ true
    go None none = cc
    go (Some op) some = refl

pub done-some : (node place : ℕ) (words : Words) (program : List Op) (done : Bool) → (done ≡ true → place < length program) → is_some (done_of node program place done words) ≡ done
done-some node place words program true within = entry-some node place words program (within refl)
done-some node place words program false within = refl

-- at a node of the machine's sizes, of this number, an event fits that fits the machine
pub fits-event : (sizes own_sizes : Sizes) (node number : ℕ) (event : LocalEvent) → own_sizes ≡ sizes → number ≡ node → FitsEvent sizes node event → FitsEvent own_sizes number event
fits-event sizes own_sizes node number event same here fits = subst (λ (s : Sizes). FitsEvent s number event) (sym same) (subst (λ n. FitsEvent sizes n event) (sym here) fits)

-- and there is room for what it sends
pub sends-room : (sizes own_sizes : Sizes) (out : SendList) → own_sizes ≡ sizes → out ≡ no_sends sizes → HasRoom out (own_sizes.nodes + 1)
sends-room sizes own_sizes out same none =
    let list : length out.list ≡ 0 = ap (λ (o : SendList). length o.list) none in
    let room : out.room ≡ sizes.nodes + 1 = ap (λ (o : SendList). o.room) none in
    let nodes : own_sizes.nodes ≡ sizes.nodes = ap (λ (s : Sizes). s.nodes) same in
    omega (arith, list, room, nodes)

-- words that are served to another node fill a line where the row says so
pub served-fills : (sizes : Sizes) (number place : ℕ) (s : Service) → IsServedOf sizes s → FillsLine sizes (served_of number place s)
served-fills sizes number place NoService fills = tt
served-fills sizes number place (Own op on) fills = tt
served-fills sizes number place (For reader on) fills = fills

module _ (sizes : Sizes) (charge : Charge) (faces : List Face) (node : ℕ) (old : Face) (there : slice_get faces node ≡ Some old) (is : IsNodeAt sizes charge node old) where
  pub meets-at-node : (src : ℕ) (m : Msg) → meets_row old.sizes old.number old.share src m ≡ meets_row sizes node (share_in sizes faces node) src m
  meets-at-node src m =
      let a = is.same_sizes in
      let b = is.number_is in
      let d = sym (share_in-at sizes faces node old there) in
      λ i. meets_row (a i) (b i) (d i) src m

  pub done-at : (new : Face) (input : Input) (brought : Words) (before after : SendList) (effect : Effect) → before ≡ no_sends sizes → IsOwnPart old.charge old.sizes old.number old.program old.share → new ≡ record old { share = new.share } →
      Acts old.number old.program old.share.place brought (outcome_at old input) new.share before after effect → IsDoneAt sizes faces (set faces node new) node input after.list effect
  done-at new input brought before after effect none own same acts = record {
    face = old;
    there = there;
    out = acts.outcome;
    does = acts.is;
    after = ap (set faces node) (same ∙ ap (λ s. record old { share = s }) acts.share);
    sends_are = ap (λ (o : SendList). o.list) acts.sends ∙ ap (λ (o : SendList). o.list ++ acts.outcome.sends) none;
    served = ap (λ (e : Effect). e.served) acts.told ∙ ap (λ n. served_of n old.share.place acts.outcome.served) is.number_is;
    is_done = ap (λ (e : Effect). is_some e.done) acts.told ∙ done-some old.number old.share.place _ old.program acts.outcome.done left;
  }
    where
      left : acts.outcome.done ≡ true → old.share.place < length old.program
      left done =
          let within = act-placed old.charge old.sizes old.number old.program old.share input acts.outcome own is.placed acts.is in
          let place = place-after old.charge old.sizes old.number old.program old.share input acts.outcome acts.is in
          let moved : acts.outcome.share.place ≡ suc old.share.place = place ∙ ap (λ b. cond b (suc old.share.place) old.share.place) done in
          omega (arith, within, moved)

  pub refused-at : (input : Input) (cause : Cause) → outcome_at old input ≡ Err cause → IsRefusedAt faces node input cause
  refused-at input cause refuses = record { face = old; there = there; refuses = refuses }

  -- words that a node sends to another one for its load fill a line
  pub fills-at : (src : ℕ) (m : Msg) (victim : Option ℕ) (out : NodeOutcome) → AreSizes sizes → node < sizes.nodes → src < sizes.nodes → IsMsgOf sizes m → IsOwnPart old.charge old.sizes old.number old.program old.share → IsShareOf old.sizes old.share →
      outcome_at old (TakeFrom src m victim) ≡ Ok out → IsServedOf sizes out.served
  fills-at src m victim out are below from of own fits does =
      let p = sym is.same_sizes in
      let here = subst (λ (s : Sizes). old.number < s.nodes) p (subst (λ n. n < sizes.nodes) (sym is.number_is) below) in
      let words : AreOnWords sizes old.program = λ i op there. (is.program i op there).word in
      let input : IsInputOf sizes (TakeFrom src m victim) = (from, of) in
      subst (λ s. IsServedOf s out.served) is.same_sizes
      (every-act old.charge old.sizes old.number old.program old.share (TakeFrom src m victim) out (subst AreSizes p are) here (subst (λ s. AreOnWords s old.program) p words) own fits (subst (λ s. IsInputOf s (TakeFrom src m victim)) p input) does).served

  pub fills-line : (src : ℕ) (m : Msg) (victim : Option ℕ) (brought : Words) (before after : SendList) (new : Face) (effect : Effect) → AreSizes sizes → node < sizes.nodes → src < sizes.nodes → IsMsgOf sizes m → IsOwnPart old.charge old.sizes old.number old.program old.share →
      IsShareOf old.sizes old.share → Acts old.number old.program old.share.place brought (outcome_at old (TakeFrom src m victim)) new.share before after effect → FillsLine sizes effect.served
  fills-line src m victim brought before after new effect are below from of own fits acts =
      subst (FillsLine sizes) (sym (ap (λ (e : Effect). e.served) acts.told)) (served-fills sizes old.number old.share.place acts.outcome.served (fills-at src m victim acts.outcome are below from of own fits acts.is))
