-- What a node does keeps what it keeps, and what it sends fits the machine.
use Rattle.std.proofs.Common.{◌≡◌, ◌≢◌, ℕ, ◌<◌, Result, Ok, Err, sym, ap, ◌∙◌, subst}
use Rattle.std.specs.Prelude.{IfOk, OnErr}
use Rattle.line_map.specs.Sizes.{AreSizes}
use Rattle.op_model.specs.declared.events.Cause.{Cause}
use Rattle.op_model.specs.Operations.{Words}
use Rattle.op_model.specs.Events.Node.{Input, NodeOutcome}
use Rattle.op_model.specs.Shares.{Share}
use Rattle.op_model.specs.Programs.{IsProgramOf}
use Rattle.message_range.specs.Fitting.{IsInputForOther, IsInputOf, IsSentOf, IsShareOf}
use Rattle.message_range.proofs.Public.{IsActed}
use Rattle.cpu_cache.specs.Caches.{CacheView}
use Rattle.cpu_cache.specs.Processors.{ProcView}
use Rattle.dir_header.specs.HomeSides.{HomeView}
use Rattle.msg_words.specs.SendList.{SendList}
use Rattle.magic_node.specs.Nodes.{HasSent, node_share}
use Rattle.eager_model.specs.Node.{NodeAges, local}
use Rattle.eager_part.specs.Part.{IsEagerPart}
use Rattle.eager_part.proofs.Public.{eager_act, eager_sends}
use Rattle.eager_home.specs.Aged.{AgedActs}
use Rattle.eager_home.specs.Ages.{AgeLists, AreAgeLists, ages_of}
use Rattle.eager_home.specs.Nodes.{IsEagerNode}
use Rattle.eager_home.specs.Views.{IsAgedNode}
use Rattle.eager_home.specs.declared.aging.AgedEffect.{AgedEffect}

module _ {D : Type 0} (number : ℕ) (proc : ProcView) (cache : CacheView) (home : HomeView D) (ages : AgeLists) (is : IsAgedNode number proc cache home ages) where
  abbrev share : Share
  share = node_share proc cache home

  abbrev act : Input → Result NodeOutcome Cause
  act input = local home.sizes number proc.program share input

  abbrev before : NodeAges
  before = ages_of home.sizes number cache.copies ages

  acted : (input : Input) (out : NodeOutcome) → IsInputOf home.sizes input → act input ≡ Ok out → IsActed home.sizes number (IsInputForOther number input) out
  acted input out given does = eager_sends home.sizes number proc.program share input out is.node.sizes is.node.numbered (λ i op next. (is.node.program i op next).word) is.node.own is.node.fits given does

  -- the parts after an act are a node's again
  module _ (proc' : ProcView) (cache' : CacheView) (home' : HomeView D) (ages' : AgeLists) (program : proc'.program ≡ proc.program) (sizes : cache'.sizes ≡ cache.sizes) (frame : home' ≡ record home { dir = home'.dir; headers = home'.headers }) where
    abbrev new : Share
    new = node_share proc' cache' home'

    keeps : (input : Input) (out : NodeOutcome) → IsInputOf home.sizes input → act input ≡ Ok out → new ≡ out.share → IsEagerNode number proc' cache' home'
    keeps input out given does changed =
        let same : home'.sizes ≡ home.sizes = ap (λ h. h.sizes) frame in
        record {
          same = sizes ∙ is.node.same ∙ sym same;
          node = ap (λ h. h.node) frame ∙ is.node.node;
          numbered = subst (λ z. number < z.nodes) (sym same) is.node.numbered;
          unlinked = ap (λ h. h.charge) frame ∙ is.node.unlinked;
          program = subst (λ z. IsProgramOf z number proc'.program) (sym same) (subst (λ p. IsProgramOf home.sizes number p) (sym program) is.node.program);
          own = subst (λ z. IsEagerPart z number proc'.program new) (sym same)
              (subst (λ p. IsEagerPart home.sizes number p new) (sym program)
              (subst (IsEagerPart home.sizes number proc.program) (sym changed) (eager_act home.sizes number proc.program share input out is.node.own does)));
          sizes = subst AreSizes (sym same) is.node.sizes;
          fits = subst (λ z. IsShareOf z new) (sym same) (subst (IsShareOf home.sizes) (sym changed) (acted input out given does).share);
        }

    pub after-input : (input : Input) (brought : Words) (age : ℕ) (out out' : SendList) (r : Result AgedEffect Cause) → IsInputOf home.sizes input → AreAgeLists home.sizes ages' →
        IfOk r (λ did. AgedActs home.sizes number proc.program brought share before input age new (ages_of home.sizes number cache'.copies ages') out out' did) → OnErr r (home' ≡ home) → OnErr r (cache' ≡ cache) → OnErr r (proc' ≡ proc) → IsAgedNode number proc' cache' home' ages'
    after-input input brought age out out' (Ok did) given lists acts h c p = record { node = keeps input acts.acts.outcome given acts.acts.is acts.acts.share; lists = subst (λ z. AreAgeLists z ages') (sym (ap (λ h. h.sizes) frame)) lists }
    after-input input brought age out out' (Err cause) given lists acts h c p = record {
      node = subst (λ q. IsEagerNode number q cache' home') (sym p) (subst (λ q. IsEagerNode number proc q home') (sym c) (subst (λ q. IsEagerNode number proc cache q) (sym h) is.node));
      lists = subst (λ z. AreAgeLists z ages') (sym (ap (λ h. h.sizes) frame)) lists;
    }

  -- what is sent
  module _ (input : Input) (brought : Words) (age : ℕ) (new : Share) (after : NodeAges) (out out' : SendList) where
    pub sends-input : (r : Result AgedEffect Cause) → IsInputOf home.sizes input → IfOk r (λ did. AgedActs home.sizes number proc.program brought share before input age new after out out' did) → IfOk r (λ did. HasSent (IsSentOf home.sizes) out out')
    sends-input (Ok did) given a = record { sends = a.acts.outcome.sends; are = a.acts.sends; each = (acted input a.acts.outcome given a.acts.is).sent }
    sends-input (Err cause) given a = tt

    pub leaves-input : (r : Result AgedEffect Cause) → IsInputOf home.sizes input → IsInputForOther number input → IfOk r (λ did. AgedActs home.sizes number proc.program brought share before input age new after out out' did) →
        IfOk r (λ did. HasSent (λ send. send.0 ≢ number) out out')
    leaves-input (Ok did) given other a = record { sends = a.acts.outcome.sends; are = a.acts.sends; each = (acted input a.acts.outcome given a.acts.is).away other }
    leaves-input (Err cause) given other a = tt
