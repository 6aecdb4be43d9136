-- Letters and the events that sent them.
use Rattle.std.proofs.Common.{◌≡◌, ℕ, Bool, true, false, cond, ◌==◌, List, [], ◌∷◌, ◌++◌, map, refl, ap, ◌∙◌, subst, Some, arith}
use Rattle.std.specs.Prelude.{◌&&◌, slice_get}
use Rattle.std.specs.List.{All}
use Rattle.std.proofs.lemmas.List.{append_assoc}
use Rattle.std.proofs.lemmas.List.Elements.{All-nil, All-cons, All-head, All-weaker}
use Rattle.std.proofs.lemmas.Option.{same_Some}
use Rattle.std.proofs.lemmas.Bool.Decides.{nat_tests}
use Rattle.op_model.specs.declared.events.Class.{Class}
use Rattle.op_model.specs.declared.events.Event.{Event}
use Rattle.op_model.specs.declared.messages.Msg.{Msg}
use Rattle.op_model.specs.Messages.{same_class, msg_class}
use Rattle.op_model.specs.Events.Step.{Done, to_lane}
use Rattle.op_model.specs.Run.Runs.{Past}
use Rattle.op_model.specs.Run.Counts.{front_of}
use Rattle.op_model.specs.Run.Machines.{MachineRun}
use Rattle.chart_strokes.specs.declared.strokes.Letter.{Letter}
use Rattle.chart_strokes.specs.declared.strokes.Stroke.{Stroke}
use Rattle.chart_strokes.proofs.Public.{msg_of}
use Rattle.chart_laws.specs.Told.{IsAmong, IsDoneIn, IsSentIn, IsTold, letter_message}

-- ---- what goes into a lane was sent

among-cons : (send : ℕ × Msg) (dst : ℕ) (msg : Msg) (sends : List (ℕ × Msg)) → IsAmong dst msg sends → IsAmong dst msg (send ∷ sends)
among-cons send dst msg sends among = record { first = send ∷ among.first; rest = among.rest; is = ap (λ xs. send ∷ xs) among.is }

pub lane-among : (dst : ℕ) (class : Class) (sends : List (ℕ × Msg)) → All (λ msg. IsAmong dst msg sends) (to_lane dst class sends)
lane-among dst class [] = All-nil (λ msg. IsAmong dst msg [])
lane-among dst class (send ∷ sends) =
    go (send.0 == dst) (same_class class (msg_class send.1)) refl (All-weaker (λ msg. IsAmong dst msg sends) (λ msg. IsAmong dst msg (send ∷ sends)) (λ msg among. among-cons send dst msg sends among) (to_lane dst class sends) (lane-among dst class sends))
  where
    go : (x y : Bool) → (send.0 == dst) ≡ x → All (λ msg. IsAmong dst msg (send ∷ sends)) (to_lane dst class sends) → All (λ msg. IsAmong dst msg (send ∷ sends)) (cond (x && y) (send.1 ∷ to_lane dst class sends) (to_lane dst class sends))
    go true true is rest =
        let own : send.0 ≡ dst = grind (arith, nat_tests) in
        All-cons (λ msg. IsAmong dst msg (send ∷ sends)) send.1 (to_lane dst class sends) (record { first = []; rest = sends; is = ap (λ (n : ℕ). (n, send.1) ∷ sends) own }) rest
    go true false is rest = rest
    go false y is rest = rest

-- ---- events behind those of a run change nothing of it

module _ (m : MachineRun) (events more : List Event) where
  done-more : (number : ℕ) (event : Event) (past : Past) (done : Done) → IsDoneIn m events number event past done → IsDoneIn m (events ++ more) number event past done
  done-more number event past done is = record {
    earlier = is.earlier;
    later = is.later ++ more;
    all = ap (λ es. es ++ more) is.all ∙ append_assoc is.earlier (event ∷ is.later) more;
    number_is = is.number_is;
    ran = is.ran;
    does = is.does;
  }

  pub sent-more : (letter : Letter) → IsSentIn m events letter → IsSentIn m (events ++ more) letter
  sent-more letter is = record {
    event = is.event;
    past = is.past;
    done = is.done;
    is_done = done-more letter.sent is.event is.past is.done is.is_done;
    node = is.node;
    sends = is.sends;
  }

  pub told-more : (stroke : Stroke) → IsTold m events stroke → IsTold m (events ++ more) stroke
  unfolding done-more
  told-more stroke is = record {
    past = is.past;
    done = is.done;
    is_done = done-more stroke.number stroke.event is.past is.done is.is_done;
    node = is.node;
    taken = is.taken;
    goes = is.goes;
    sent = is.sent;
  }

-- ---- the front of a lane

pub front-message : (letters : List Letter) → letter_message (slice_get letters 0) ≡ front_of (map msg_of letters)
front-message [] = refl
front-message (l ∷ letters) = refl

pub front-all : (P : Letter → Type 0) (letters : List Letter) (letter : Letter) → All P letters → slice_get letters 0 ≡ Some letter → P letter
front-all P [] letter all is = cc
front-all P (l ∷ letters) letter all is = subst P (same_Some l letter is) (All-head P l letters all)
