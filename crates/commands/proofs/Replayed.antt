-- One step more: a machine that has made the steps before a place, and then makes the step there, has made the steps behind it too.
use Rattle.std.proofs.Common.{◌≡◌, ℕ, ◌+◌, ◌<◌, List, [], ◌∷◌, ◌++◌, length, take, get_or, refl, sym, ap, ◌∙◌, append_assoc, add-one, Some}
use Rattle.std.proofs.Math.Seq.{take-suc}
use Rattle.std.proofs.lemmas.Option.{slice_get-get_or}
use Rattle.op_model.specs.declared.events.Event.{Event}
use Rattle.op_model.specs.Events.Step.{effect}
use Rattle.op_model.specs.Run.Machines.{MachineRun, IsApplied, effect_on}
use Rattle.op_model.specs.Run.Runs.{Past, past_after, run_by}
use Rattle.op_model.proofs.Public.{run-push}
use Rattle.machine_face.specs.Runs.{IsRefused}
use Rattle.machine_face.specs.declared.refusal.ApplyError.{ApplyError}
use Rattle.machine_face.specs.declared.refusal.ApplyError.TheVariants.{NotEnabled, Memory}
use Rattle.commands.specs.Steps.{HasMade, IsStopped, stopped_at}

module _ (old now : MachineRun) (steps : List Event) (i : ℕ) (other : Event) (below : i < length steps) (has : HasMade old (take i steps) now) where
  abbrev pub event : Event
  event = get_or steps i other

  -- what an event does to the machine is what it does to the run that goes on so
  as-old : effect_on now event ≡ effect old.charge old.sizes old.programs now.past.state event
  as-old = ap (λ (m : MachineRun). effect m.charge m.sizes m.programs now.past.state event) has.went

  pub one-more : (new : MachineRun) → IsApplied now event new → HasMade old (take (i + 1) steps) new
  one-more new (done, does, is) =
      let taken : take (i + 1) steps ≡ take i steps ++ event ∷ [] = rw add-one (take-suc steps i other below) in
      let step : new ≡ record old { events = (old.events ++ take i steps) ++ event ∷ []; past = past_after old.sizes now.past done } =
      is ∙ ap (λ (m : MachineRun). record m { events = m.events ++ event ∷ []; past = past_after m.sizes now.past done }) has.went in
      let past : new.past ≡ past_after old.sizes now.past done = ap (λ (m : MachineRun). m.past) step in
      let went : new ≡ record old { events = old.events ++ (take i steps ++ event ∷ []); past = new.past } =
      step
      ∙ (ap (λ (events : List Event). record old { events = events; past = past_after old.sizes now.past done }) (append_assoc old.events (take i steps) (event ∷ []))
      ∙ ap (λ (p : Past). record old { events = old.events ++ (take i steps ++ event ∷ []); past = p }) (sym past)) in
      let ran : run_by old.charge old.sizes old.programs old.past (take i steps ++ event ∷ []) ≡ Some new.past =
      run-push old.charge old.sizes old.programs old.past now.past (take i steps) event done has.ran (sym as-old ∙ does) ∙ ap Some (sym past) in
      rw taken (record { went = went; ran = ran })

  pub refused-here : (error : ApplyError) → IsRefused now event error → IsStopped old steps (stopped_at (i + 1) error)
  refused-here (NotEnabled cause) refused =
      record { before = i; number = refl; moment = now.past; ran = has.ran; event = event; next = slice_get-get_or steps i other below; refused = sym as-old ∙ refused }
  refused-here Memory refused = tt
