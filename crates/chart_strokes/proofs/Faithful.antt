-- The letters of each lane are its messages.
use Rattle.std.proofs.Common.{◌≡◌, ℕ, suc, Bool, true, false, cond, ◌==◌, List, [], ◌∷◌, ◌++◌, length, drop, map, refl, sym, ap, ◌∙◌}
use Rattle.std.specs.Prelude.{◌&&◌}
use Rattle.std.specs.List.{All}
use Rattle.std.proofs.lemmas.List.{map-append, drop-map}
use Rattle.std.proofs.lemmas.List.Elements.{All-nil, All-cons, All-append, All-drop}
use Rattle.line_map.specs.Sizes.{Sizes}
use Rattle.op_model.specs.declared.events.Class.{Class}
use Rattle.op_model.specs.declared.events.Event.{Event}
use Rattle.op_model.specs.declared.messages.Msg.{Msg}
use Rattle.op_model.specs.Messages.{same_class, msg_class}
use Rattle.op_model.specs.Events.Step.{Programs, Done, to_lane}
use Rattle.op_model.specs.Run.Runs.{past_after}
use Rattle.op_model.specs.Run.Machines.{MachineRun}
use Rattle.chart_strokes.specs.declared.strokes.Letter.{Letter}
use Rattle.chart_strokes.specs.Strokes.{letter_from, letters_sent, letters_after, Charted, charted_after, first_chart, chart_of}
use Rattle.chart_strokes.proofs.Following.{charted-keeps}

abbrev pub msg_of : Letter → Msg
msg_of l = l.msg

-- each lane has its letters' messages, and they are of its class
pub record IsFaithful (chart : Charted) : Type 0 where
  pub letters : (a b : ℕ) (k : Class) → map msg_of (chart.letters a b k) ≡ chart.past.state.lane a b k
  pub of_class : (a b : ℕ) (k : Class) → All (λ msg. same_class k (msg_class msg) ≡ true) (chart.past.state.lane a b k)

letter-msgs : (number src dst : ℕ) (messages : List Msg) → map msg_of (map (letter_from number src dst) messages) ≡ messages
letter-msgs number src dst [] = refl
letter-msgs number src dst (m ∷ messages) = ap (λ ms. m ∷ ms) (letter-msgs number src dst messages)

to_lane-class : (node : ℕ) (k : Class) (sends : List (ℕ × Msg)) → All (λ msg. same_class k (msg_class msg) ≡ true) (to_lane node k sends)
to_lane-class node k [] = All-nil (λ msg. same_class k (msg_class msg) ≡ true)
to_lane-class node k (send ∷ sends) = go (send.0 == node) (same_class k (msg_class send.1)) refl (to_lane-class node k sends)
  where
    go : (x y : Bool) → same_class k (msg_class send.1) ≡ y → All (λ msg. same_class k (msg_class msg) ≡ true) (to_lane node k sends) → All (λ msg. same_class k (msg_class msg) ≡ true) (cond (x && y) (send.1 ∷ to_lane node k sends) (to_lane node k sends))
    go true true e rest = All-cons (λ msg. same_class k (msg_class msg) ≡ true) send.1 (to_lane node k sends) e rest
    go true false e rest = rest
    go false y e rest = rest

pub faithful-first : (sizes : Sizes) → IsFaithful (first_chart sizes)
faithful-first sizes = record {
  letters = λ a b k. refl;
  of_class = λ a b k. All-nil (λ msg. same_class k (msg_class msg) ≡ true);
}

module _ (sizes : Sizes) (programs : Programs) (chart : Charted) (event : Event) (done : Done) (faithful : IsFaithful chart) where
  pub faithful-letters : (a b : ℕ) (k : Class) → map msg_of (letters_after (suc (length chart.strokes)) chart.letters done a b k) ≡ (past_after sizes chart.past done).state.lane a b k
  faithful-letters a b k =
      map-append msg_of (drop (done.off a b k) (chart.letters a b k)) (letters_sent (suc (length chart.strokes)) a b k done)
      ∙ ap (λ ms. ms ++ map msg_of (letters_sent (suc (length chart.strokes)) a b k done)) (sym (drop-map msg_of (done.off a b k) (chart.letters a b k)) ∙ ap (λ ms. drop (done.off a b k) ms) (faithful.letters a b k))
      ∙ ap (λ ms. drop (done.off a b k) (chart.past.state.lane a b k) ++ ms) (go (a == done.node))
    where
      go : (t : Bool) → map msg_of (cond t (map (letter_from (suc (length chart.strokes)) a b) (to_lane b k done.out.sends)) []) ≡ cond t (to_lane b k done.out.sends) []
      go true = letter-msgs (suc (length chart.strokes)) a b (to_lane b k done.out.sends)
      go false = refl

  faithful-class : (a b : ℕ) (k : Class) → All (λ msg. same_class k (msg_class msg) ≡ true) ((past_after sizes chart.past done).state.lane a b k)
  faithful-class a b k =
      All-append (λ msg. same_class k (msg_class msg) ≡ true) (drop (done.off a b k) (chart.past.state.lane a b k)) (cond (a == done.node) (to_lane b k done.out.sends) [])
      (All-drop (λ msg. same_class k (msg_class msg) ≡ true) (done.off a b k) (chart.past.state.lane a b k) (faithful.of_class a b k)) (go (a == done.node))
    where
      go : (t : Bool) → All (λ msg. same_class k (msg_class msg) ≡ true) (cond t (to_lane b k done.out.sends) [])
      go true = to_lane-class b k done.out.sends
      go false = All-nil (λ msg. same_class k (msg_class msg) ≡ true)

  pub faithful-after : IsFaithful (charted_after sizes programs chart event done)
  faithful-after = record { letters = faithful-letters; of_class = faithful-class }

pub faithful : (m : MachineRun) → IsFaithful (chart_of m)
faithful m = charted-keeps m.charge m.sizes m.programs IsFaithful (faithful-after m.sizes m.programs) (first_chart m.sizes) m.events (faithful-first m.sizes)
