-- The law of charts, event by event.
use Rattle.std.proofs.Common.{◌≡◌, ℕ, suc, Bool, true, false, cond, ◌==◌, List, [], ◌∷◌, ◌++◌, length, drop, map, refl, sym, ap, ◌∙◌, subst, Some, Result, Ok, Err, arith}
use Rattle.std.specs.List.{All}
use Rattle.std.proofs.lemmas.List.{append-nil, append_assoc, length-map, map-append}
use Rattle.std.proofs.lemmas.List.Elements.{All-nil, All-append, All-drop, All-map, All-push, All-weaker}
use Rattle.std.proofs.lemmas.Bool.Decides.{nat_tests}
use Rattle.op_model.specs.declared.events.Cause.{Cause}
use Rattle.op_model.specs.declared.events.Class.{Class}
use Rattle.op_model.specs.declared.events.Event.{Event}
use Rattle.op_model.specs.declared.events.Event.TheVariants.{Hit, Issue, Evict, Take, Reclaim}
use Rattle.op_model.specs.Events.Step.{Done, effect, and_then, to_lane, event_node}
use Rattle.op_model.specs.Run.Runs.{Past, past_after, start, run_by}
use Rattle.op_model.specs.Run.Counts.{taken_by, front_of}
use Rattle.op_model.specs.Run.Machines.{MachineRun}
use Rattle.op_model.proofs.Public.{run-push}
use Rattle.chart_strokes.specs.declared.strokes.Letter.{Letter}
use Rattle.chart_strokes.specs.declared.strokes.Stroke.{Stroke}
use Rattle.chart_strokes.specs.Strokes.{letter_from, letter_taken, letters_after, letters_sent, stroke_of, strokes_of, Charted, charted, charted_after, charted_then, first_chart}
use Rattle.chart_strokes.proofs.Public.{IsFaithful, effect-is, faithful-after, faithful-first}
use Rattle.chart_laws.specs.Told.{IsAmong, IsDoneIn, IsSentIn, IsTold, AreTold, stroke_event, letter_message}
use Rattle.chart_laws.proofs.Sent.{lane-among, sent-more, told-more, front-message, front-all}

-- a letter of a lane, with the event that sent it
pub record IsPosted (m : MachineRun) (events : List Event) (src dst : ℕ) (letter : Letter) : Type 0 where
  pub goes : letter.dst ≡ dst
  pub sent : IsSentIn m events letter

-- the chart of the events so far tells what happened
pub record IsFollowed (m : MachineRun) (events : List Event) (chart : Charted) : Type 0 where
  pub ran : run_by m.charge m.sizes m.programs (start m.sizes) events ≡ Some chart.past
  pub faithful : IsFaithful chart
  pub posted : (src dst : ℕ) (class : Class) → All (IsPosted m events src dst) (chart.letters src dst class)
  pub in_order : map stroke_event chart.strokes ≡ events
  pub told : All (IsTold m events) chart.strokes

module _ (m : MachineRun) (events : List Event) (chart : Charted) (was : IsFollowed m events chart) (event : Event) (done : Done) (does : effect m.charge m.sizes m.programs chart.past.state event ≡ Ok done) where
  abbrev number : ℕ
  number = suc (length chart.strokes)

  counted : number ≡ suc (length events)
  counted = ap (λ n. suc n) (sym (length-map chart.strokes stroke_event) ∙ ap (λ (es : List Event). length es) was.in_order)

  -- ---- the new letters

  done-now : IsDoneIn m (events ++ event ∷ []) number event chart.past done
  done-now = record { earlier = events; later = []; all = refl; number_is = counted; ran = was.ran; does = does }

  new-posted : (src dst : ℕ) (class : Class) → All (IsPosted m (events ++ event ∷ []) src dst) (letters_sent number src dst class done)
  new-posted src dst class = go (src == done.node) refl
    where
      go : (own : Bool) → (src == done.node) ≡ own → All (IsPosted m (events ++ event ∷ []) src dst) (cond own (map (letter_from number src dst) (to_lane dst class done.out.sends)) [])
      go true is =
          let here : src ≡ done.node = grind (arith, nat_tests) in
          All-map (IsPosted m (events ++ event ∷ []) src dst) (letter_from number src dst) (to_lane dst class done.out.sends)
          (All-weaker (λ msg. IsAmong dst msg done.out.sends) (λ msg. IsPosted m (events ++ event ∷ []) src dst (letter_from number src dst msg))
          (λ msg among. record { goes = refl; sent = record { event = event; past = chart.past; done = done; is_done = done-now; node = here; sends = among } })
          (to_lane dst class done.out.sends) (lane-among dst class done.out.sends))
      go false is = All-nil (IsPosted m (events ++ event ∷ []) src dst)

  posted-still : (src dst : ℕ) (letter : Letter) → IsPosted m events src dst letter → IsPosted m (events ++ event ∷ []) src dst letter
  posted-still src dst letter is = record { goes = is.goes; sent = sent-more m events (event ∷ []) letter is.sent }

  all-posted : (src dst : ℕ) (class : Class) → All (IsPosted m (events ++ event ∷ []) src dst) (letters_after number chart.letters done src dst class)
  all-posted src dst class =
      All-append (IsPosted m (events ++ event ∷ []) src dst) (drop (done.off src dst class) (chart.letters src dst class)) (letters_sent number src dst class done)
      (All-drop (IsPosted m (events ++ event ∷ []) src dst) (done.off src dst class) (chart.letters src dst class)
      (All-weaker (IsPosted m events src dst) (IsPosted m (events ++ event ∷ []) src dst) (posted-still src dst) (chart.letters src dst class) (was.posted src dst class)))
      (new-posted src dst class)

  -- ---- the new stroke

  abbrev stroke : Stroke
  stroke = stroke_of m.sizes m.programs number chart.letters chart.past event (past_after m.sizes chart.past done)

  taken-now : (e : Event) → letter_message (letter_taken chart.letters e) ≡ taken_by chart.past.state e
  taken-now (Hit node) = refl
  taken-now (Issue node) = refl
  taken-now (Evict node line kind) = refl
  taken-now (Take src dst class victim) = front-message (chart.letters src dst class) ∙ ap front_of (was.faithful.letters src dst class)
  taken-now (Reclaim line) = refl

  came : (e : Event) (letter : Letter) → letter_taken chart.letters e ≡ Some letter → (letter.dst ≡ event_node m.sizes e) × IsSentIn m events letter
  came (Hit node) letter is = cc
  came (Issue node) letter is = cc
  came (Evict node line kind) letter is = cc
  came (Take src dst class victim) letter is =
      let it : IsPosted m events src dst letter = front-all (IsPosted m events src dst) (chart.letters src dst class) letter (was.posted src dst class) is in
      (it.goes, it.sent)
  came (Reclaim line) letter is = cc

  told-now : IsTold m (events ++ event ∷ []) stroke
  unfolding done-now
  told-now = record {
    past = chart.past;
    done = done;
    is_done = done-now;
    node = sym (effect-is m.charge m.sizes m.programs chart.past.state event done does).0;
    taken = taken-now event;
    goes = λ letter is. (came event letter is).0;
    sent = λ letter is. (came event letter is).1;
  }

  -- ---- one event more

  pub followed-push : IsFollowed m (events ++ event ∷ []) (charted_after m.sizes m.programs chart event done)
  followed-push = record {
    ran = run-push m.charge m.sizes m.programs (start m.sizes) chart.past events event done was.ran does;
    faithful = faithful-after m.sizes m.programs chart event done was.faithful;
    posted = all-posted;
    in_order = map-append stroke_event chart.strokes (stroke ∷ []) ∙ ap (λ es. es ++ event ∷ []) was.in_order;
    told = All-push (IsTold m (events ++ event ∷ [])) chart.strokes stroke (All-weaker (IsTold m events) (IsTold m (events ++ event ∷ [])) (told-more m events (event ∷ [])) chart.strokes was.told) told-now;
  }

-- ---- all events

followed : (m : MachineRun) (before events : List Event) (chart : Charted) (last : Past) → IsFollowed m before chart → run_by m.charge m.sizes m.programs chart.past events ≡ Some last →
    IsFollowed m (before ++ events) (charted m.charge m.sizes m.programs chart events)
followed m before [] chart last was runs = subst (λ es. IsFollowed m es chart) (sym (append-nil before)) was
followed m before (e ∷ events) chart last was runs =
    go (effect m.charge m.sizes m.programs chart.past.state e) refl runs (λ d does. followed m (before ++ e ∷ []) events (charted_after m.sizes m.programs chart e d) last (followed-push m before chart was e d does))
  where
    go : (r : Result Done Cause) → effect m.charge m.sizes m.programs chart.past.state e ≡ r → and_then r (λ d. run_by m.charge m.sizes m.programs (past_after m.sizes chart.past d) events) ≡ Some last →
        ((d : Done) → effect m.charge m.sizes m.programs chart.past.state e ≡ Ok d → run_by m.charge m.sizes m.programs (past_after m.sizes chart.past d) events ≡ Some last → IsFollowed m ((before ++ e ∷ []) ++ events) (charted m.charge m.sizes m.programs (charted_after m.sizes m.programs chart e d) events)) →
        IsFollowed m (before ++ e ∷ events) (charted_then chart (λ d. charted m.charge m.sizes m.programs (charted_after m.sizes m.programs chart e d) events) r)
    go (Ok d) does goes rest = subst (λ es. IsFollowed m es (charted m.charge m.sizes m.programs (charted_after m.sizes m.programs chart e d) events)) (append_assoc before (e ∷ []) events) (rest d does goes)
    go (Err cause) does goes rest = cc

followed-first : (m : MachineRun) → IsFollowed m [] (first_chart m.sizes)
followed-first m = record {
  ran = refl;
  faithful = faithful-first m.sizes;
  posted = λ src dst class. All-nil (IsPosted m [] src dst);
  in_order = refl;
  told = All-nil (IsTold m []);
}

pub chart-told : (m : MachineRun) → run_by m.charge m.sizes m.programs (start m.sizes) m.events ≡ Some m.past → AreTold m (strokes_of m)
unfolding strokes_of
chart-told m runs =
    let all = followed m [] m.events (first_chart m.sizes) m.past (followed-first m) runs in
    record { events = all.in_order; each = all.told }
