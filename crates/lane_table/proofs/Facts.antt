-- What the rule tells a node: the message that its note names is the front of a lane, and its own lanes are in order.
use Rattle.std.proofs.Common.{◌≡◌, ◌≢◌, inr, ℕ, ◌+◌, ◌-◌, ◌<◌, ◌≤◌, true, List, [], ◌∷◌, drop, length, sym, ap, ◌∙◌, subst, arith, All, Some, drop-drop, length-drop}
use Rattle.std.proofs.lemmas.List.Elements.{All-head, All-drop}
use Rattle.line_map.specs.Sizes.{Sizes}
use Rattle.line_map.proofs.Public.{some-words}
use Rattle.op_model.specs.declared.events.Class.{Class}
use Rattle.op_model.specs.Messages.{msg_class}
use Rattle.op_model.specs.MessageWords.{IsMsgOf}
use Rattle.op_model.specs.Shares.{Trace, Share, State, Linked}
use Rattle.op_model.specs.Events.Node.{meets_row}
use Rattle.op_model.specs.Run.Runs.{Past, run}
use Rattle.node_range.specs.Range.{IsOfMachine}
use Rattle.op_model.specs.Parts.Part.{Part, sent_to, flushed_to, taken_from}
use Rattle.one_history.proofs.Public.{front_meets}
use Rattle.lane_bounds.proofs.Public.{bounded_lanes, lane_class, own_lane}
use Rattle.message_range.proofs.Public.{messages_of_machine}
use Rattle.node_range.proofs.Public.{ranged_lanes}
use Rattle.lane_table.specs.Setups.{Setup}
use Rattle.lane_table.specs.Rule.{IsTable}
use Rattle.lane_table.specs.Told.{unflushed, IsReached, IsOutgoing, Fronts}
use Rattle.lane_table.proofs.Programs.{trace_of, told_ops, told_run}
use Rattle.lane_table.proofs.Ticket.{ready_of}

drop-none : {A : Type 0} (k : ℕ) (xs : List A) → k ≡ 0 → drop k xs ≡ [] → xs ≡ []
drop-none k xs none e = ap (λ n. drop n xs) (sym none) ∙ e

module _ (setup : Setup) (words : List ℕ) (parts : ℕ → Part) (h : IsTable setup words parts) where
  abbrev z : Sizes
  z = setup.sizes

  abbrev past : Past
  past = h.past

  positive : 0 < z.words
  positive = some-words z h.machine

  abbrev trace : Trace
  trace = trace_of setup

  ops : IsOfMachine trace
  ops = told_ops setup h.programs

  ran : run Linked trace h.journal ≡ Some past
  ran = told_run setup h.programs h.journal ∙ h.ran

  lane-is : (a b : ℕ) (c : Class) → past.state.lane a b c ≡ drop (taken_from (parts b) a c) (sent_to (parts a) b c)
  lane-is a b c = ap (λ (s : State). s.lane a b c) h.made

  share-is : (n : ℕ) → past.state.share n ≡ (parts n).share
  share-is n = ap (λ (s : State). s.share n) h.made

  pub fronts : (n : ℕ) → n < z.nodes → (a : ℕ) (c : Class) → Fronts setup (parts n) a c
  fronts n lt a c m note same =
      let (rest, front) = (ready_of setup words parts h n lt).front a c m same note in
      let number = (h.about n).number in
      let lane : past.state.lane a n c ≡ m ∷ rest = lane-is a n c ∙ front in
      let row : meets_row z n (past.state.share n) a m ≡ true = front_meets Linked trace h.journal past a n c m rest positive ran lane in
      let P : ℕ → Type 0 = λ k. (past.state.share k ≡ (parts n).share) × (past.state.lane a k c ≡ m ∷ rest) × (meets_row z k (parts n).share a m ≡ true) × (a ≢ k) in
      let both : P (parts n).number = subst P (sym number) (
        share-is n,
        lane,
        subst (λ (s : Share). meets_row z n s a m ≡ true) (share-is n) row,
        (λ own. let none : past.state.lane a n c ≡ [] = ap (λ k. past.state.lane k n c) own ∙ own_lane Linked trace h.journal past n c positive ran in absurd (let bad : m ∷ rest ≡ [] = sym lane ∙ none in cc)),
      ) in
      record {
        journal = h.journal;
        past = past;
        ran = h.ran;
        tickets = h.numbered.agrees n lt;
        share = both.0;
        rest = rest;
        front = both.1;
        row = both.2;
        other = both.3;
        of_machine = All-head (IsMsgOf z) m rest (subst (All (IsMsgOf z)) lane (messages_of_machine Linked trace h.journal past h.machine ran a n c ops));
        of_class = All-head (λ x. msg_class x ≡ c) m rest (subst (All (λ x. msg_class x ≡ c)) lane (lane_class Linked trace h.journal past a n c positive ran));
      }

  -- what isn't flushed is the end of a lane
  unflushed-is : (n b : ℕ) (c : Class) → unflushed (parts n) b c ≡ drop (flushed_to (parts n) b c - taken_from (parts b) n c) (past.state.lane n b c)
  unflushed-is n b c =
      let t : ℕ = taken_from (parts b) n c in
      let f : ℕ = flushed_to (parts n) b c in
      let le : t ≤ f = (h.counts n b c).taken in
      let back : t + (f - t) ≡ f = omega arith in
      sym (ap (drop (f - t)) (lane-is n b c) ∙ (drop-drop (f - t) t (sent_to (parts n) b c) ∙ ap (λ k. drop k (sent_to (parts n) b c)) back))

  pub outgoing : (n : ℕ) → IsOutgoing z (parts n)
  outgoing n =
      record {
        within = λ b c. (h.counts n b c).flushed;
        bound = λ b c.
            let most = bounded_lanes Linked trace h.journal past n b c positive ran in
            let same = ap length (unflushed-is n b c) ∙ length-drop (flushed_to (parts n) b c - taken_from (parts b) n c) (past.state.lane n b c) in
            omega arith;
        of_machine = λ b c. subst (All (IsMsgOf z)) (sym (unflushed-is n b c)) (All-drop (IsMsgOf z) (flushed_to (parts n) b c - taken_from (parts b) n c) (past.state.lane n b c) (messages_of_machine Linked trace h.journal past h.machine ran n b c ops));
        nowhere = λ b c far.
            let le : taken_from (parts b) n c ≤ flushed_to (parts n) b c = (h.counts n b c).taken in
            let unused : flushed_to (parts n) b c ≡ 0 = (h.unused n b c (inr far)).flushed in
            drop-none (taken_from (parts b) n c) (sent_to (parts n) b c) (omega arith) (sym (lane-is n b c) ∙ ranged_lanes Linked trace h.journal past ops positive ran n b c (inr far));
      }

  pub reached : (n : ℕ) → n < z.nodes → IsReached setup (parts n)
  reached n lt =
      let number = (h.about n).number in
      let P : ℕ → Type 0 = λ k. (past.state.share k ≡ (parts n).share) × ((b : ℕ) (c : Class) → (j : ℕ) × (j ≤ flushed_to (parts n) b c) × (past.state.lane k b c ≡ drop j (sent_to (parts n) b c))) in
      let both : P (parts n).number = subst P (sym number) (share-is n, λ b c. (taken_from (parts b) n c, (h.counts n b c).taken, lane-is n b c)) in
      record { journal = h.journal; past = past; ran = h.ran; tickets = h.numbered.agrees n lt; share = both.0; lanes = both.1 }
