-- A delivery is the Take without a line to call in, where that is done, and else the one with the least line.
use Rattle.std.specs.Prelude.{is_ok}
use Rattle.std.proofs.Common.{◌≡◌, ℕ, OnOk, IfErr, Bool, true, false, cond, not, List, [], ◌∷◌, refl, ap, sym, ◌∙◌, Option, None, Result, Ok, Err}
use Rattle.op_model.specs.declared.events.Cause.{Cause}
use Rattle.op_model.specs.declared.events.Cause.TheVariants.{LaneEmpty, VictimMissing}
use Rattle.op_model.specs.declared.events.Event.{Event}
use Rattle.op_model.specs.declared.events.Event.TheVariants.{Take}
use Rattle.op_model.specs.declared.messages.Msg.{Msg}
use Rattle.op_model.specs.Events.Node.{NodeOutcome, asks_victim, local, with_victim}
use Rattle.op_model.specs.Events.Step.{Done, act, one_off, take_front}
use Rattle.op_model.specs.Run.Schedules.{Lane, delivery, is_no_message, least_victim, victim_for}
use Rattle.op_model.specs.Run.Seeded.{takes_of}
use Rattle.op_model.specs.Run.Machines.{MachineRun, effect_on, IsEnabled}
use Rattle.machine_face.specs.Reads.{is_busy, victims}
use Rattle.schedule.specs.Candidates.{enabled_of, takes_with}

-- what was answered of an event
pub is-done : {A B : Type 0} (r : Result A B) (P : Type 0) → is_ok r ≡ true → OnOk r P → P
is-done (Ok x) P ok its = its
is-done (Err x) P ok its = absurd (let n : false ≡ true = ok in cc)

pub is-refused : {A B : Type 0} (r : Result A B) (P : B → Type 0) → is_ok r ≡ false → IfErr r P → (x : B) × P x
is-refused (Ok x) P ok its = absurd (let n : true ≡ false = ok in cc)
is-refused (Err x) P ok its = (x, its)

module _ (m : MachineRun) (lane : Lane) where
  abbrev least : Option ℕ
  least = least_victim m.charge m.sizes m.past.state lane.dst

  abbrev named : List Msg → Option ℕ
  named messages = victim_for m.charge m.sizes m.past.state lane messages

  abbrev taking : Option ℕ → List Msg → Result Done Cause
  taking victim messages = take_front m.charge m.sizes m.programs m.past.state lane.src lane.dst lane.class victim messages

  abbrev acts : Bool → Option ℕ → NodeOutcome → Result Done Cause
  acts asks victim out = act lane.dst (one_off lane.src lane.dst lane.class) (with_victim m.charge m.sizes lane.dst (m.past.state.share lane.dst) asks victim out)

  never : (cause : Cause) (done : Done) → ◌≡◌ {A = Result Done Cause} (Err cause) (Ok done) → ⊥
  never cause done e = cc

  none-asked : (asks : Bool) (out : NodeOutcome) (done : Done) → acts asks None out ≡ Ok done → cond asks least None ≡ None
  none-asked true out done e = absurd (never VictimMissing done e)
  none-asked false out done e = refl

  one-asked : (asks : Bool) (out : NodeOutcome) (cause : Cause) (done : Done) → acts asks None out ≡ Err cause → acts asks (cond asks least None) out ≡ Ok done → least ≡ cond asks least None
  one-asked true out cause done e does = refl
  one-asked false out cause done e does = absurd (never cause done (sym e ∙ does))

  done-names : (messages : List Msg) (done : Done) → taking None messages ≡ Ok done → named messages ≡ None
  unfolding local
  done-names [] done e = refl
  done-names (x ∷ rest) done e = none-asked (asks_victim m.charge m.sizes lane.dst (m.past.state.share lane.dst) lane.src x) _ done e

  refused-names : (messages : List Msg) (cause : Cause) (done : Done) → taking None messages ≡ Err cause → taking (named messages) messages ≡ Ok done → least ≡ named messages
  unfolding local
  refused-names [] cause done e does = absurd (never LaneEmpty done does)
  refused-names (x ∷ rest) cause done e does = one-asked (asks_victim m.charge m.sizes lane.dst (m.past.state.share lane.dst) lane.src x) _ cause done e does

  -- where the Take without a line is done, it is the delivery
  pub done-delivery : (done : Done) → effect_on m (Take lane.src lane.dst lane.class None) ≡ Ok done → Take lane.src lane.dst lane.class None ≡ delivery m.charge m.sizes m.past.state lane
  done-delivery done e = ap (Take lane.src lane.dst lane.class) (sym (done-names (m.past.state.lane lane.src lane.dst lane.class) done e))

  -- where it is refused, the delivery names the least line
  pub refused-delivery : (cause : Cause) → effect_on m (Take lane.src lane.dst lane.class None) ≡ Err cause → IsEnabled m (delivery m.charge m.sizes m.past.state lane) → Take lane.src lane.dst lane.class least ≡ delivery m.charge m.sizes m.past.state lane
  refused-delivery cause e enabled = ap (Take lane.src lane.dst lane.class) (refused-names (m.past.state.lane lane.src lane.dst lane.class) cause enabled.0 e enabled.1)

  -- the Takes of a lane that isn't empty: the one without a line, where it is done, and else those with a line
  kept-done : (done : Done) → effect_on m (Take lane.src lane.dst lane.class None) ≡ Ok done → enabled_of m (Take lane.src lane.dst lane.class None ∷ []) ≡ Take lane.src lane.dst lane.class None ∷ []
  kept-done done e = ap (λ r. cond (is_ok r) (Take lane.src lane.dst lane.class None ∷ []) []) e

  abbrev told : List Msg → List Event
  told messages = takes_of m.charge m.sizes m.past.state lane messages

  either-takes : Bool → List Event
  either-takes asks = cond asks (takes_with lane.src lane.dst lane.class (victims m lane.dst)) (Take lane.src lane.dst lane.class None ∷ [])

  done-takes : (asks : Bool) (out : NodeOutcome) (done : Done) → acts asks None out ≡ Ok done → either-takes asks ≡ Take lane.src lane.dst lane.class None ∷ []
  unfolding either-takes
  done-takes true out done e = absurd (never VictimMissing done e)
  done-takes false out done e = refl

  refused-takes : (asks : Bool) (out : NodeOutcome) (cause : Cause) → acts asks None out ≡ Err cause → either-takes asks ≡ takes_with lane.src lane.dst lane.class (victims m lane.dst)
  unfolding either-takes
  refused-takes true out cause e = refl
  refused-takes false out cause e = absurd (let n : ◌≡◌ {A = Result Done Cause} (Ok _) (Err cause) = e in cc)

  done-told : (messages : List Msg) → not (is_no_message messages) ≡ true → (done : Done) → taking None messages ≡ Ok done → told messages ≡ Take lane.src lane.dst lane.class None ∷ []
  unfolding local either-takes
  done-told [] busy done e = absurd (let n : false ≡ true = busy in cc)
  done-told (x ∷ rest) busy done e = done-takes (asks_victim m.charge m.sizes lane.dst (m.past.state.share lane.dst) lane.src x) _ done e

  refused-told : (messages : List Msg) → not (is_no_message messages) ≡ true → (cause : Cause) → taking None messages ≡ Err cause → told messages ≡ takes_with lane.src lane.dst lane.class (victims m lane.dst)
  unfolding local either-takes
  refused-told [] busy cause e = absurd (let n : false ≡ true = busy in cc)
  refused-told (x ∷ rest) busy cause e = refused-takes (asks_victim m.charge m.sizes lane.dst (m.past.state.share lane.dst) lane.src x) _ cause e

  pub lane-done : is_busy m.past.state lane ≡ true → IsEnabled m (Take lane.src lane.dst lane.class None) → enabled_of m (told (m.past.state.lane lane.src lane.dst lane.class)) ≡ Take lane.src lane.dst lane.class None ∷ []
  lane-done busy enabled = ap (enabled_of m) (done-told (m.past.state.lane lane.src lane.dst lane.class) busy enabled.0 enabled.1) ∙ kept-done enabled.0 enabled.1

  pub lane-refused : is_busy m.past.state lane ≡ true → (cause : Cause) → effect_on m (Take lane.src lane.dst lane.class None) ≡ Err cause → enabled_of m (told (m.past.state.lane lane.src lane.dst lane.class)) ≡ enabled_of m (takes_with lane.src lane.dst lane.class (victims m lane.dst))
  lane-refused busy cause e = ap (enabled_of m) (refused-told (m.past.state.lane lane.src lane.dst lane.class) busy cause e)
