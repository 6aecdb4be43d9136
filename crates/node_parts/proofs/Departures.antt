-- The count of the messages that the gate on evictions counts: an older moment bounds a later one, and a part counts what it has not flushed and one more.
use Rattle.std.proofs.Common.{◌≡◌, ℕ, zero, suc, ◌+◌, ◌-◌, ◌≤◌, Bool, true, false, cond, ◌&&◌, not, slice_get, List, [], ◌∷◌, drop, refl, sym, ap, ◌∙◌, arith}
use Rattle.op_model.specs.declared.events.Class.TheVariants.{Request}
use Rattle.op_model.specs.declared.messages.Msg.{Msg}
use Rattle.op_model.specs.Messages.{msg_content}
use Rattle.op_model.specs.Events.Step.{is_departure, departures}
use Rattle.op_model.specs.Parts.Part.{Part, sent_to, flushed_to, out_note, notes_empty, departs_at, last_departs, gate_count}

departures_more : (m : Msg) (ms : List Msg) → departures ms ≤ departures (m ∷ ms)
departures_more m ms = here (is_departure (msg_content m))
  where
    here : (c : Bool) → departures ms ≤ cond c (departures ms + 1) (departures ms)
    here true = omega arith
    here false = omega arith

departures_drop : (k : ℕ) (ms : List Msg) → departures (drop k ms) ≤ departures ms
departures_drop zero ms = omega arith
departures_drop (suc k) [] = omega arith
departures_drop (suc k) (m ∷ ms) = let h = departures_drop k ms in let g = departures_more m ms in omega arith

-- a count of an older moment bounds the lane
pub departures_later : (j k : ℕ) (ms : List Msg) → j ≤ k → departures (drop k ms) ≤ departures (drop j ms)
departures_later zero k ms le = departures_drop k ms
departures_later (suc j) zero ms le = absurd (omega arith)
departures_later (suc j) (suc k) [] le = omega arith
departures_later (suc j) (suc k) (m ∷ ms) le = departures_later j k ms (omega arith)

-- the count of a lane is that of the messages not flushed, and 1 more where the last one flushed departs and the cell wasn't seen empty since
one-more : (k : ℕ) (sent : List Msg) → departures (drop k sent) ≡ departures (drop (suc k) sent) + cond (departs_at (slice_get sent k)) 1 0
one-more zero [] = refl
one-more zero (m ∷ ms) = here (is_departure (msg_content m))
  where
    here : (c : Bool) → cond c (departures ms + 1) (departures ms) ≡ departures ms + cond c 1 0
    here true = refl
    here false = omega arith
one-more (suc k) [] = refl
one-more (suc k) (m ∷ ms) = one-more k ms

pub count_is : (p : Part) (node : ℕ) → gate_count p node ≡ departures (drop (flushed_to p node Request - cond (notes_empty (out_note p node Request)) 0 1) (sent_to p node Request))
count_is p node = here (notes_empty (out_note p node Request)) (flushed_to p node Request) (sent_to p node Request)
  where
    here : (c : Bool) (k : ℕ) (sent : List Msg) → departures (drop k sent) + cond (not c && last_departs k sent) 1 0 ≡ departures (drop (k - cond c 0 1) sent)
    here true k sent = let e : k - 0 ≡ k = omega arith in sym (ap (λ n. departures (drop n sent)) e ∙ omega arith)
    here false zero sent = omega arith
    here false (suc k) sent = let e : suc k - 1 ≡ k = omega arith in sym (ap (λ n. departures (drop n sent)) e ∙ one-more k sent)
