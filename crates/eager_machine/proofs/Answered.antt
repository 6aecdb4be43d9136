-- What a node's call answers, as what one of the nodes of the machine did.
use Rattle.std.proofs.Common.{◌≡◌, ℕ, ◌+◌, ◌<◌, List, ◌++◌, length, set, refl, ap, arith, sym, subst, ◌∙◌, Option, Some, Result, Ok, Err}
use Rattle.std.specs.Prelude.{slice_get, is_some, IfOk}
use Rattle.line_map.specs.Sizes.{Sizes, AreSizes}
use Rattle.op_model.specs.declared.messages.Msg.{Msg}
use Rattle.op_model.specs.Events.Node.{Input, TakeFrom}
use Rattle.op_model.specs.Lines.{Service, NoService, Own, For}
use Rattle.op_model.specs.MessageWords.{IsMsgOf}
use Rattle.op_model.specs.Operations.{Words}
use Rattle.cpu_cache.specs.Effects.{served_of}
use Rattle.cpu_cache.specs.declared.effects.Effect.{Effect}
use Rattle.message_range.specs.Fitting.{AreOnWords, IsInputOf, IsSentOf, IsServedOf, IsShareOf}
use Rattle.msg_words.specs.SendList.{SendList}
use Rattle.node_share.specs.Parts.{HasRoom}
use Rattle.magic_node.specs.declared.acts.LocalEvent.{LocalEvent}
use Rattle.magic_node.specs.Nodes.{FitsEvent, HasSent}
use Rattle.machine.specs.Acts.{FillsLine}
use Rattle.machine.specs.Kept.{no_sends}
use Rattle.machine.proofs.Public.{done-some, served-fills}
use Rattle.eager_part.specs.Part.{IsEagerPart}
use Rattle.eager_part.proofs.Public.{eager_sends}
use Rattle.eager_home.specs.Aged.{AgedActs}
use Rattle.eager_home.specs.Views.{EagerView, ages_in, RiseWithin}
use Rattle.eager_home.specs.declared.aging.AgedEffect.{AgedEffect}
use Rattle.eager_machine.specs.Acts.{AreSent, IsDoneAt, RiseFrom}
use Rattle.eager_machine.specs.Kept.{IsNodeAt}
use Rattle.eager_machine.proofs.Ends.{done-within}

pub if-both : {A E : Type 0} (r : Result A E) (P Q R : A → Type 0) → ((a : A) → P a → Q a → R a) → IfOk r P → IfOk r Q → IfOk r R
if-both (Ok a) P Q R both p q = both a p q
if-both (Err e) P Q R both p q = tt

-- all that is sent was sent now
pub sent-now : (sizes : Sizes) (node : ℕ) (old : EagerView) (out out' : SendList) → IsNodeAt sizes node old → out ≡ no_sends sizes → HasSent (IsSentOf old.sizes) out out' → AreSent sizes out'.list
sent-now sizes node old out out' is none has =
    let list : out'.list ≡ has.sends = ap (λ (o : SendList). o.list) has.are ∙ ap (λ (o : SendList). o.list ++ has.sends) none in
    subst (AreSent sizes) (sym list) (subst (λ s. AreSent s has.sends) is.same_sizes has.each)

pub done-at : (sizes : Sizes) (nodes : List EagerView) (node : ℕ) (old new : EagerView) (input : Input) (age : ℕ) (brought : Words) (out out' : SendList) (did : AgedEffect) → slice_get nodes node ≡ Some old → IsEagerPart old.sizes old.number old.program old.share → out ≡ no_sends sizes →
    new ≡ record old { share = new.share; copy_ages = new.copy_ages; memory_ages = new.memory_ages } → AgedActs old.sizes old.number old.program brought old.share (ages_in old) input age new.share (ages_in new) out out' did → RiseFrom age old new did →
    IsDoneAt nodes (set nodes node new) node input age out'.list did
done-at sizes nodes node old new input age brought out out' did there own none same acts rises = record {
  old = old;
  new = new;
  there = there;
  after = refl;
  same = same;
  brought = brought;
  out = out;
  out' = out';
  acts = acts;
  is_done = ap (λ (e : Effect). is_some e.done) acts.acts.told ∙ done-some old.number old.share.place _ old.program acts.acts.outcome.done (done-within old.sizes old.number old.program old.share input acts.acts.outcome own acts.acts.is);
  nothing = ap (λ (o : SendList). o.list) none;
  sends_are = refl;
  rises = rises;
}

pub rise-more : (bound : ℕ) (new : EagerView) (did : AgedEffect) → RiseWithin bound bound (ages_in new) did → RiseWithin bound (bound + 1) (ages_in new) did
rise-more bound new did up = record { ages = λ line. let y = up.ages line in (let a = y.0 in omega (arith, a), let b = y.1 in omega (arith, b)); given = up.given; served = let s = up.served in omega (arith, s) }

-- words that a node sends to another one for its load fill a line
pub fills-line : (sizes : Sizes) (node : ℕ) (old : EagerView) (src : ℕ) (m : Msg) (victim : Option ℕ) (age : ℕ) (brought : Words) (new : EagerView) (out out' : SendList) (did : AgedEffect) → IsNodeAt sizes node old → AreSizes sizes → node < sizes.nodes → src < sizes.nodes → IsMsgOf sizes m →
    IsEagerPart old.sizes old.number old.program old.share → IsShareOf old.sizes old.share → AgedActs old.sizes old.number old.program brought old.share (ages_in old) (TakeFrom src m victim) age new.share (ages_in new) out out' did → FillsLine sizes did.effect.served
fills-line sizes node old src m victim age brought new out out' did is are below from of own fits acts =
    subst (FillsLine sizes) (sym (ap (λ (e : Effect). e.served) acts.acts.told)) (served-fills sizes old.number old.share.place acts.acts.outcome.served served)
  where
    served : IsServedOf sizes acts.acts.outcome.served
    served =
        let p = sym is.same_sizes in
        let here = subst (λ (s : Sizes). old.number < s.nodes) p (subst (λ n. n < sizes.nodes) (sym is.number_is) below) in
        let words : AreOnWords sizes old.program = λ i op there. (is.program i op there).word in
        let input : IsInputOf sizes (TakeFrom src m victim) = (from, of) in
        subst (λ s. IsServedOf s acts.acts.outcome.served) is.same_sizes
        (eager_sends old.sizes old.number old.program old.share (TakeFrom src m victim) acts.acts.outcome (subst AreSizes p are) here (subst (λ s. AreOnWords s old.program) p words) own fits (subst (λ s. IsInputOf s (TakeFrom src m victim)) p input) acts.acts.is).served
