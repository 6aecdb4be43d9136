-- The message at the front of a lane, and its age.
use Rattle.std.proofs.Common.{◌≡◌, ℕ, ◌≤◌, ◌<◌, List, [], ◌∷◌, map, refl, ap, sym, subst, ◌∙◌, Option, Some, None}
use Rattle.std.specs.Prelude.{slice_get, All}
use Rattle.std.proofs.lemmas.List.Elements.{All-head}
use Rattle.line_map.specs.Sizes.{Sizes}
use Rattle.op_model.specs.declared.events.Cause.{Cause}
use Rattle.op_model.specs.declared.events.Class.{Class}
use Rattle.op_model.specs.declared.events.Event.TheVariants.{Take}
use Rattle.op_model.specs.declared.messages.Msg.{Msg}
use Rattle.op_model.specs.Events.Node.{TakeFrom}
use Rattle.op_model.specs.Events.Step.{one_off}
use Rattle.op_model.specs.Programs.{programs_of}
use Rattle.op_model.specs.Run.Counts.{front_of, taken_by, takes_marked}
use Rattle.eager_model.specs.Step.{Call, and_answer, answer, effect, front}
use Rattle.eager_home.specs.Views.{EagerView}
use Rattle.eager_home.specs.declared.aging.AgedEffect.{AgedEffect}
use Rattle.event_tally.specs.Marks.{take_marks_of, is_marked_put}
use Rattle.machine.proofs.Public.{front-is, rest_of}
use Rattle.eager_machine.specs.declared.acts.Act.{Act}
use Rattle.eager_machine.specs.declared.queue.AgedMsg.{AgedMsg}
use Rattle.eager_machine.specs.Acts.{AreSent, IsAct, IsDoneAt, IsNoted, IsRefusedAt, IsRefusedIn}
use Rattle.eager_machine.specs.Kept.{share_in, state_of, ages_of, programs_in, AreNodes}
use Rattle.eager_machine.specs.Lanes.{UnderWay, msg_of, age_of, messages_of, AreFresh}
use Rattle.eager_machine.proofs.Doing.{act-by, refused-by}

pub front-messages : (way : UnderWay) (src dst : ℕ) (class : Class) (aged : AgedMsg) → slice_get (way src dst class) 0 ≡ Some aged → messages_of way src dst class ≡ aged.msg ∷ map msg_of (rest_of (way src dst class))
front-messages way src dst class aged is = ap (map msg_of) (front-is (way src dst class) aged is)

module _ (sizes : Sizes) (nodes nodes' : List EagerView) (way : UnderWay) (src dst : ℕ) (class : Class) (victim : Option ℕ) (aged : AgedMsg) (first : slice_get (way src dst class) 0 ≡ Some aged) where
  -- what the taker is told
  abbrev pub call : Call
  call = record { node = dst; input = TakeFrom src aged.msg victim; age = aged.age; off = one_off src dst class }

  takes : effect sizes (programs_of (programs_in nodes)) (state_of sizes nodes way) (ages_of nodes way) (Take src dst class victim) ≡ answer sizes (programs_of (programs_in nodes)) (state_of sizes nodes way) (ages_of nodes way) call
  takes = ap (λ l. and_answer (front src dst class victim (map age_of l) (map msg_of l)) (answer sizes (programs_of (programs_in nodes)) (state_of sizes nodes way) (ages_of nodes way))) (front-is (way src dst class) aged first)

  taken : taken_by (state_of sizes nodes way) (Take src dst class victim) ≡ Some aged.msg
  taken = ap front_of (front-messages way src dst class aged first)

  front-fresh : (bound : ℕ) → AreFresh bound way → aged.age ≤ bound
  front-fresh bound fresh = All-head (λ (x : AgedMsg). x.age ≤ bound) aged (rest_of (way src dst class)) (subst (All (λ (x : AgedMsg). x.age ≤ bound)) (front-is (way src dst class) aged first) (fresh src dst class))

  pub take-refused : (cause : Cause) → AreNodes sizes nodes → IsRefusedAt nodes dst (TakeFrom src aged.msg victim) cause → IsRefusedIn sizes nodes way (Take src dst class victim) cause
  take-refused cause are refused = refused-by sizes nodes way (Take src dst class victim) call cause are takes refused

  pub take-act : (sends : List (ℕ × Msg)) (did : AgedEffect) (act : Act) → AreNodes sizes nodes → dst < sizes.nodes → IsDoneAt nodes nodes' dst (TakeFrom src aged.msg victim) aged.age sends did → AreSent sizes sends → act.node ≡ dst →
      IsNoted sizes nodes' (Some aged.msg) did act → act.takes ≡ take_marks_of (Some aged.msg) → act.marked ≡ is_marked_put sizes dst (share_in sizes nodes dst).want aged.msg → IsAct sizes nodes nodes' way (Take src dst class victim) sends act
  take-act sends did act are below row sent node_is noted its mark =
      act-by sizes nodes nodes' dst (TakeFrom src aged.msg victim) aged.age sends did are row way (Take src dst class victim) (one_off src dst class) act takes refl below node_is noted
      (its ∙ sym (ap take_marks_of taken)) (mark ∙ sym (ap (takes_marked sizes (state_of sizes nodes way) (Take src dst class victim)) taken)) sent front-fresh

pub no-front : (sizes : Sizes) (nodes : List EagerView) (way : UnderWay) (src dst : ℕ) (class : Class) (victim : Option ℕ) → slice_get (way src dst class) 0 ≡ None → IsRefusedIn sizes nodes way (Take src dst class victim) Cause.LaneEmpty
no-front sizes nodes way src dst class victim none = go (way src dst class) refl none
  where
    go : (l : List AgedMsg) → way src dst class ≡ l → slice_get l 0 ≡ None → IsRefusedIn sizes nodes way (Take src dst class victim) Cause.LaneEmpty
    go [] is e = ap (λ l. and_answer (front src dst class victim (map age_of l) (map msg_of l)) (answer sizes (programs_of (programs_in nodes)) (state_of sizes nodes way) (ages_of nodes way))) is
    go (x ∷ l) is e = cc
