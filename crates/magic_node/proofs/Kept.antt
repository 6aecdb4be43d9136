-- What a node does keeps what it keeps, and what it sends fits the machine.
use Rattle.std.proofs.Common.{◌≡◌, ◌≢◌, ℕ, ◌<◌, Bool, [], Result, Ok, Err, sym, ap, ◌∙◌, subst}
use Rattle.std.specs.Prelude.{IfOk, OnErr}
use Rattle.line_map.specs.Sizes.{AreSizes, Sizes}
use Rattle.op_model.specs.declared.events.Cause.{Cause}
use Rattle.op_model.specs.OwnPart.{IsOwnPart}
use Rattle.op_model.specs.Operations.{Words}
use Rattle.op_model.specs.Events.Node.{Input, NodeOutcome, local}
use Rattle.op_model.specs.Shares.{Share}
use Rattle.op_model.specs.Programs.{IsProgramOf}
use Rattle.own_part.proofs.Public.{own_act}
use Rattle.message_range.specs.Fitting.{IsInputForOther, IsInputOf, IsSentOf, IsShareOf}
use Rattle.message_range.proofs.Public.{IsActed, every-act}
use Rattle.cpu_cache.specs.declared.effects.Effect.{Effect}
use Rattle.cpu_cache.specs.Caches.{CacheView}
use Rattle.cpu_cache.specs.Processors.{ProcView}
use Rattle.dir_header.specs.HomeSides.{HomeView}
use Rattle.msg_words.specs.SendList.{SendList}
use Rattle.node_share.specs.Effects.{Acts}
use Rattle.magic_node.specs.declared.acts.LocalEvent.{LocalEvent}
use Rattle.magic_node.specs.declared.acts.LocalEvent.TheVariants.{Hit, Issue, Evict, Reclaim}
use Rattle.magic_node.specs.Nodes.{HasSent, IsMagicNode, node_share, input_of}

-- an event of a node by itself is of the machine, and asks it for nothing
pub input-of : (sizes : Sizes) (event : LocalEvent) (gate : Bool) → IsInputOf sizes (input_of event gate)
input-of sizes Hit gate = tt
input-of sizes Issue gate = tt
input-of sizes (Evict line kind) gate = tt
input-of sizes (Reclaim line) gate = tt

pub for-other : (node : ℕ) (event : LocalEvent) (gate : Bool) → IsInputForOther node (input_of event gate)
for-other node Hit gate = tt
for-other node Issue gate = tt
for-other node (Evict line kind) gate = tt
for-other node (Reclaim line) gate = tt

module _ {D : Type 0} (number : ℕ) (proc : ProcView) (cache : CacheView) (home : HomeView D) (is : IsMagicNode number proc cache home) where
  abbrev act : Input → Result NodeOutcome Cause
  act input = local home.charge home.sizes number proc.program (node_share proc cache home) input

  acted : (input : Input) (out : NodeOutcome) → IsInputOf home.sizes input → act input ≡ Ok out → IsActed home.sizes number (IsInputForOther number input) out
  acted input out given does = every-act home.charge home.sizes number proc.program (node_share proc cache home) input out is.sizes is.numbered (λ i op next. (is.program i op next).word) is.own is.fits given does

  -- the parts after an act are a node's again
  module _ (proc' : ProcView) (cache' : CacheView) (home' : HomeView D) (program : proc'.program ≡ proc.program) (sizes : cache'.sizes ≡ cache.sizes) (frame : home' ≡ record home { dir = home'.dir; headers = home'.headers }) where
    keeps-input : (input : Input) (out : NodeOutcome) → IsInputOf home.sizes input → act input ≡ Ok out → node_share proc' cache' home' ≡ out.share → IsMagicNode number proc' cache' home'
    keeps-input input out given does share =
        let same : home'.sizes ≡ home.sizes = ap (λ h. h.sizes) frame in
        let charge : home'.charge ≡ home.charge = ap (λ h. h.charge) frame in
        record {
          same = sizes ∙ is.same ∙ sym same;
          node = ap (λ h. h.node) frame ∙ is.node;
          numbered = subst (λ z. number < z.nodes) (sym same) is.numbered;
          program = subst (λ z. IsProgramOf z number proc'.program) (sym same) (subst (λ p. IsProgramOf home.sizes number p) (sym program) is.program);
          own = subst (λ z. IsOwnPart home'.charge z number proc'.program (node_share proc' cache' home')) (sym same)
              (subst (λ k. IsOwnPart k home.sizes number proc'.program (node_share proc' cache' home')) (sym charge)
              (subst (λ p. IsOwnPart home.charge home.sizes number p (node_share proc' cache' home')) (sym program)
              (subst (IsOwnPart home.charge home.sizes number proc.program) (sym share)
              (own_act home.charge home.sizes number proc.program (node_share proc cache home) input out is.own does))));
          sizes = subst AreSizes (sym same) is.sizes;
          fits = subst (λ z. IsShareOf z (node_share proc' cache' home')) (sym same) (subst (IsShareOf home.sizes) (sym share) (acted input out given does).share);
        }

    -- so are those after one that is done or refused
    pub after-input : (input : Input) (brought : Words) (out out' : SendList) (r : Result Effect Cause) → IsInputOf home.sizes input →
        IfOk r (λ effect. Acts number proc.program proc.place brought (act input) (node_share proc' cache' home') out out' effect) → OnErr r (home' ≡ home) → OnErr r (cache' ≡ cache) → OnErr r (proc' ≡ proc) → IsMagicNode number proc' cache' home'
    after-input input brought out out' (Ok effect) given acts h c p = keeps-input input acts.outcome given acts.is acts.share
    after-input input brought out out' (Err cause) given acts h c p =
        subst (λ q. IsMagicNode number q cache' home') (sym p) (subst (λ q. IsMagicNode number proc q home') (sym c) (subst (λ q. IsMagicNode number proc cache q) (sym h) is))

    pub after-event : (event : LocalEvent) (gate : Bool) (out out' : SendList) (r : Result Effect Cause) →
        IfOk r (λ effect. Acts number proc.program proc.place [] (act (input_of event gate)) (node_share proc' cache' home') out out' effect) → OnErr r (home' ≡ home) → OnErr r (cache' ≡ cache) → OnErr r (proc' ≡ proc) → IsMagicNode number proc' cache' home'
    after-event event gate out out' r = after-input (input_of event gate) [] out out' r (input-of home.sizes event gate)

  -- what is sent
  module _ (brought : Words) (new : Share) (out out' : SendList) where
    pub sends-input : (input : Input) (r : Result Effect Cause) → IsInputOf home.sizes input → IfOk r (λ effect. Acts number proc.program proc.place brought (act input) new out out' effect) → IfOk r (λ effect. HasSent (IsSentOf home.sizes) out out')
    sends-input input (Ok effect) given acts = record { sends = acts.outcome.sends; are = acts.sends; each = (acted input acts.outcome given acts.is).sent }
    sends-input input (Err cause) given acts = tt

    pub leaves-input : (input : Input) (r : Result Effect Cause) → IsInputOf home.sizes input → IsInputForOther number input → IfOk r (λ effect. Acts number proc.program proc.place brought (act input) new out out' effect) →
        IfOk r (λ effect. HasSent (λ send. send.0 ≢ number) out out')
    leaves-input input (Ok effect) given other acts = record { sends = acts.outcome.sends; are = acts.sends; each = (acted input acts.outcome given acts.is).away other }
    leaves-input input (Err cause) given other acts = tt

    pub sends-event : (event : LocalEvent) (gate : Bool) (r : Result Effect Cause) → IfOk r (λ effect. Acts number proc.program proc.place brought (act (input_of event gate)) new out out' effect) → IfOk r (λ effect. HasSent (IsSentOf home.sizes) out out')
    sends-event event gate r = sends-input (input_of event gate) r (input-of home.sizes event gate)

    pub leaves-event : (event : LocalEvent) (gate : Bool) (r : Result Effect Cause) → IfOk r (λ effect. Acts number proc.program proc.place brought (act (input_of event gate)) new out out' effect) → IfOk r (λ effect. HasSent (λ send. send.0 ≢ number) out out')
    leaves-event event gate r = leaves-input (input_of event gate) r (input-of home.sizes event gate) (for-other number event gate)
