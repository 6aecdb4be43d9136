-- Room is made for the next operation at rest: the line that stands in the cache set leaves, its message is taken, and the machine is at
-- rest as before, but for that copy.
use Rattle.std.proofs.Common.{◌≡◌, ◌≢◌, ℕ, suc, ◌<◌, ◌≤◌, ◌⊎◌, inl, inr, Bool, true, false, cond, not, ◌==◌, ◌&&◌, [], ◌∷◌, refl, arith, ap, sym, ◌∙◌, subst, Option, Some, Result, Ok, Err}
use Rattle.std.proofs.lemmas.Bool.{cases_lt}
use Rattle.std.proofs.lemmas.Bool.Decides.{nat_tests}
use Rattle.line_map.specs.Sizes.{Sizes, home_of}
use Rattle.op_model.specs.declared.events.Cause.{Cause}
use Rattle.op_model.specs.declared.events.Cause.TheVariants.{NoCopy, WrongKind}
use Rattle.op_model.specs.declared.events.Class.TheVariants.{Request}
use Rattle.op_model.specs.declared.events.Event.{Event}
use Rattle.op_model.specs.declared.events.Event.TheVariants.{Evict}
use Rattle.op_model.specs.declared.events.EvictKind.{EvictKind}
use Rattle.op_model.specs.declared.events.EvictKind.TheVariants as way
use Rattle.op_model.specs.Events.Node.{departs, is_get}
use Rattle.op_model.specs.Events.Step.{has_room}
use Rattle.op_model.specs.Lines.{Absent, Copy, Exclusive, LineShare, Outcome, Room, Shared, is_empty, is_idle, words_of}
use Rattle.op_model.specs.Messages.{Content, Rpl, Wb, message, msg_class, msg_content, msg_line}
use Rattle.op_model.specs.Operations.{Words}
use Rattle.op_model.specs.Run.Rest.{IsAtRest}
use Rattle.op_model.specs.Run.Runs.{Past}
use Rattle.op_model.specs.Run.Schedules.{eviction_of}
use Rattle.op_model.specs.Shares.{Charge, State, Trace, copy_of, put_share, room_of, share_at}
use Rattle.op_model.specs.Tables.Home.{on_rpl, on_wb}
use Rattle.op_model.specs.Tables.Processor.{evict, fits, leave_home, leave_remote}
use Rattle.op_model.specs.Tables.Remote.{meets, on_message, row_of}
use Rattle.line_invariant.proofs.Public.{if-either}
use Rattle.one_history.proofs.Public.{put-stays}
use Rattle.lane_bounds.proofs.Public.{after_row_of, asks_victim, row_at, sent_of, taken_of}
use Rattle.rest_laws.proofs.Public.{rests}
use Rattle.schedule_laws.specs.Courses.{is_any_nak}
use Rattle.schedule_laws.proofs.Begins.{IsMade, evict-made}
use Rattle.schedule_laws.proofs.Known.{Delivers, IsKnown, IsNoNak, IsUsual}
use Rattle.schedule_laws.proofs.Rounds.{IsRound, round-made, round-wider}
use Rattle.schedule_laws.proofs.Settling.{at-share}
use Rattle.schedule_laws.proofs.Single.{AreEmpty, OnlyOne, OnlySent, none-sent, one-sent, one-taken, only-sent}
use Rattle.schedule_laws.proofs.Takes.{round-taken}
use Rattle.schedule_laws.proofs.Under.{AllSent}
use Rattle.schedule_laws.proofs.FromRest.{copies-after, gone-after, open-gate, places-after}

-- what an eviction of the schedule does: the copy is gone, nothing is done, and elsewhere than at the home one message leaves
abbrev pub IsEviction : Bool → ℕ → LineShare → Outcome → Type 0
IsEviction at_home home share outcome =
    (outcome.share.copy ≡ Absent) × (outcome.done ≡ false)
    × ((at_home ≡ true) × (outcome.sends ≡ []) ⊎ (at_home ≡ false) × ((content : Content) × (outcome.sends ≡ (home, content) ∷ []) × ((content ≡ Rpl) ⊎ ((words : Words) × (content ≡ Wb words)))))

pub evicts : (p home : ℕ) (share : LineShare) → is_empty share.copy ≡ false → (o : Outcome) × (evict p home (eviction_of (p == home) share.copy) share ≡ Ok o) × IsEviction (p == home) home share o
unfolding evict
evicts p home share has = by-copy share.copy refl has (p == home)
  where
    Found : Bool → Copy → Result Outcome Cause → Type 0
    Found at copy r = (o : Outcome) × (r ≡ Ok o) × IsEviction at home share o

    by-copy : (copy : Copy) → share.copy ≡ copy → is_empty copy ≡ false → (at : Bool) →
        (o : Outcome) × (cond (fits at (eviction_of at copy) copy) (Ok (cond at (leave_home copy share) (leave_remote home (eviction_of at copy) share))) (Err (elim copy [ Absent ↦ NoCopy | _ ↦ WrongKind ])) ≡ Ok o) × IsEviction at home share o
    by-copy Absent e has at = cc
    by-copy (Shared words) e has true = (leave_home (Shared words) share, refl, (refl, refl, inl (refl, refl)))
    by-copy (Shared words) e has false = (leave_remote home way.Hint share, refl, (refl, refl, inr (refl, (Rpl, refl, inl refl))))
    by-copy (Exclusive words) e has true = (leave_home (Exclusive words) share, refl, (refl, refl, inl (refl, refl)))
    by-copy (Exclusive words) e has false = (leave_remote home way.Wb share, refl, (refl, refl, inr (refl, (Wb (words_of share.copy), refl, inr (words_of share.copy, refl)))))

-- what the home does with it leaves all that is begun, and sends nothing
abbrev pub IsSilent : LineShare → Outcome → Type 0
IsSilent share outcome = (outcome.sends ≡ []) × (outcome.done ≡ false)

left-row : (me home src : ℕ) (alone : Bool) (room : Room) (share : LineShare) (content : Content) → (content ≡ Rpl) ⊎ ((words : Words) × (content ≡ Wb words)) → IsSilent share (on_message me home src alone room content share)
unfolding on_message row_of on_wb on_rpl
left-row me home src alone room share content (inl e) = subst (λ c. IsSilent share (on_message me home src alone room c share)) (sym e) hint
  where
    hint : IsSilent share (on_message me home src alone room Rpl share)
    hint = if-either (IsSilent share) (meets me home src alone Rpl share) _ _ (λ _. if-either (IsSilent share) (is_idle share.header.wait && not share.header.dirty) _ _ (λ _. (refl, refl)) (λ _. (refl, refl))) (λ _. (refl, refl))
left-row me home src alone room share content (inr e) = subst (λ c. IsSilent share (on_message me home src alone room c share)) (sym e.1) back
  where
    back : IsSilent share (on_message me home src alone room (Wb e.0) share)
    back = if-either (IsSilent share) (meets me home src alone (Wb e.0) share) _ _ (λ _. (refl, refl)) (λ _. (refl, refl))

module _ (charge : Charge) (trace : Trace) (usual : IsUsual trace) (next : State → Option Event) (delivers : Delivers charge trace usual next) (p : ℕ) (first : Past) (known : IsKnown charge trace first) (at_rest : IsAtRest first.state)
    (p_in : p < trace.sizes.nodes) (g : ℕ) (has : is_empty (copy_of (first.state.share p) g) ≡ false) where
  abbrev sizes : Sizes
  sizes = trace.sizes

  abbrev home : ℕ
  home = home_of sizes g

  abbrev places : ℕ → ℕ
  places n = (first.state.share n).place

  abbrev share : LineShare
  share = share_at sizes first.state p g

  abbrev kind : EvictKind
  kind = eviction_of (p == home) (copy_of (first.state.share p) g)

  home_in : home < sizes.nodes
  home_in = go (cases_lt home sizes.nodes)
    where
      go : (home < sizes.nodes) ⊎ (sizes.nodes ≤ home) → home < sizes.nodes
      go (inl less) = less
      go (inr far) = absurd (let none = known.ranged.copies p g (inr far) in let n : false ≡ true = sym has ∙ ap is_empty none in cc)

  -- with empty lanes the gate is open
  gate : (departs (p == home) kind && not (has_room sizes (first.state.lane p home Request))) ≡ false
  gate = open-gate sizes (first.state.lane p home Request) (departs (p == home) kind) (at_rest.lanes p home Request) usual.evicts

  -- what comes after it, from rest
  abbrev pub Later : ℕ → ℕ → Type 0
  Later most naks =
      (end : Past) → IsKnown charge trace end → IsAtRest end.state → ((n : ℕ) → (end.state.share n).place ≡ places n) → ((x : ℕ) → x ≢ g → copy_of (end.state.share p) x ≡ copy_of (first.state.share p) x) → copy_of (end.state.share p) g ≡ Absent →
      IsRound charge trace usual next delivers p places end most naks

  module _ (chosen : next first.state ≡ Some (Evict p g kind)) (outcome : Outcome) (does : evict p home kind share ≡ Ok outcome) (gone : outcome.share.copy ≡ Absent) (undone : outcome.done ≡ false) where
    made : IsMade charge trace first (Evict p g kind) p g outcome
    made = evict-made charge trace usual first known p g kind outcome does gate

    evicted-home : (most naks : ℕ) → outcome.sends ≡ [] → Later most naks → IsRound charge trace usual next delivers p places first (suc most) naks
    evicted-home most naks silent later =
        round-made charge trace usual next delivers p places first most naks known (Evict p g kind) p g outcome chosen made (subst (AllSent IsNoNak) (sym silent) tt)
        (λ then known_then at.
        let empty : AreEmpty then.state.lane = subst (λ (s : State). AreEmpty s.lane) (sym at) (none-sent p g _ (subst (λ l. OnlySent p g l (sent_of p g outcome.sends first.state.lane)) silent (only-sent p g outcome.sends first.state.lane at_rest.lanes))) in
        later then known_then (rests trace charge then known_then.sound known_then.bounded empty) (places-after sizes first.state p g outcome then.state at undone) (copies-after sizes first.state p g outcome then.state at) (gone-after sizes first.state p g outcome then.state at gone))

    evicted-away : (most naks : ℕ) (content : Content) → outcome.sends ≡ (home, content) ∷ [] → (content ≡ Rpl) ⊎ ((words : Words) × (content ≡ Wb words)) → p ≢ home → is_any_nak content ≡ false → msg_content (message g content) ≡ content → msg_line (message g content) ≡ g → is_get content ≡ false → Later most naks →
        IsRound charge trace usual next delivers p places first (suc (suc most)) naks
    evicted-away most naks content sends kinds apart nak says line not_get later =
        round-made charge trace usual next delivers p places first (suc most) naks known (Evict p g kind) p g outcome chosen made (subst (AllSent IsNoNak) (sym sends) (nak, tt))
        (λ then known_then at. taken then known_then at)
      where
        taken : (then : Past) → IsKnown charge trace then → then.state ≡ after_row_of sizes p g outcome first.state → IsRound charge trace usual next delivers p places then (suc most) naks
        taken then known_then at =
            let single : OnlyOne p home (message g content) then.state.lane =
            subst (λ (s : State). OnlyOne p home (message g content) s.lane) (sym at) (one-sent p g home content _ (subst (λ l. OnlySent p g l (sent_of p g outcome.sends first.state.lane)) sends (only-sent p g outcome.sends first.state.lane at_rest.lanes))) in
            let row : IsSilent (share_at sizes then.state home g) (row_at charge sizes then.state p home g content) = left-row home home p (is_empty (copy_of (then.state.share home) g)) (room_of charge sizes (then.state.share home)) (share_at sizes then.state home g) content kinds in
            let row_m : ((row_at charge sizes then.state p home (msg_line (message g content)) (msg_content (message g content))).sends ≡ []) × ((row_at charge sizes then.state p home (msg_line (message g content)) (msg_content (message g content))).done ≡ false) =
            subst (λ l. ((row_at charge sizes then.state p home l (msg_content (message g content))).sends ≡ []) × ((row_at charge sizes then.state p home l (msg_content (message g content))).done ≡ false)) (sym line)
            (subst (λ c. ((row_at charge sizes then.state p home g c).sends ≡ []) × ((row_at charge sizes then.state p home g c).done ≡ false)) (sym says) row) in
            let asks : asks_victim charge sizes then.state p home (msg_line (message g content)) (msg_content (message g content)) ≡ false = unasked (is_get (msg_content (message g content))) _ _ (ap is_get says ∙ not_get) in
            round-taken charge trace usual next delivers then known_then p home (message g content) single p_in home_in p places most naks asks (subst (AllSent IsNoNak) (sym row_m.0) tt)
            (λ last known_last is. ended then at single row_m last known_last is)
          where
            unasked : (a b c : Bool) → a ≡ false → (a && b && c) ≡ false
            unasked a b c e = grind arith

            ended : (then : Past) → then.state ≡ after_row_of sizes p g outcome first.state → (single : OnlyOne p home (message g content) then.state.lane) →
                ((row_at charge sizes then.state p home (msg_line (message g content)) (msg_content (message g content))).sends ≡ []) × ((row_at charge sizes then.state p home (msg_line (message g content)) (msg_content (message g content))).done ≡ false) →
                (last : Past) → IsKnown charge trace last →
                last.state ≡ after_row_of sizes home (msg_line (message g content)) (row_at charge sizes then.state p home (msg_line (message g content)) (msg_content (message g content))) (record then.state { lane = taken_of p home (msg_class (message g content)) [] then.state.lane }) →
                IsRound charge trace usual next delivers p places last most naks
            ended then at single row last known_last is =
                let l = msg_line (message g content) in
                let o : Outcome = row_at charge sizes then.state p home (msg_line (message g content)) (msg_content (message g content)) in
                let lane = taken_of p home (msg_class (message g content)) [] then.state.lane in
                let clear = one-taken p home (message g content) then.state.lane single in
                let empty : AreEmpty last.state.lane = subst (λ (s : State). AreEmpty s.lane) (sym is) (none-sent home l _ (subst (λ x. OnlySent home l x (sent_of home l o.sends lane)) row.0 (only-sent home l o.sends lane clear))) in
                let share_p : last.state.share p ≡ then.state.share p = ap (λ (s : State). s.share p) is ∙ at-share sizes then.state lane home l o (λ s. s ≡ then.state.share p) p (λ _. refl) (λ near. absurd (apart near)) in
                later last known_last (rests trace charge last known_last.sound known_last.bounded empty)
                (λ n. ap (λ (s : State). (s.share n).place) is ∙ at-share sizes then.state lane home l o (λ s. s.place ≡ places n) n (λ _. places-after sizes first.state p g outcome then.state at undone n) (λ near. place-home then l o row.1 ∙ ap (λ k. (then.state.share k).place) (sym near) ∙ places-after sizes first.state p g outcome then.state at undone n))
                (λ x other. ap (λ s. copy_of s x) share_p ∙ copies-after sizes first.state p g outcome then.state at x other)
                (ap (λ s. copy_of s g) share_p ∙ gone-after sizes first.state p g outcome then.state at gone)
              where
                place-home : (then : Past) (l : ℕ) (o : Outcome) → o.done ≡ false → (put_share sizes (home == home_of sizes l) l o.done o.share (then.state.share home)).place ≡ (then.state.share home).place
                place-home then l o e = put-stays sizes (home == home_of sizes l) l o.done o.share (then.state.share home) e

  -- an eviction of the schedule, and what comes after it
  pub round-evicted : (most naks : ℕ) → next first.state ≡ Some (Evict p g kind) → Later most naks → IsRound charge trace usual next delivers p places first (suc (suc most)) naks
  round-evicted most naks chosen later =
      let found = evicts p home share has in
      go found.0 found.1 found.2
    where
      go : (o : Outcome) → evict p home kind share ≡ Ok o → IsEviction (p == home) home share o → IsRound charge trace usual next delivers p places first (suc (suc most)) naks
      go o does (gone, undone, inl here) = round-wider charge trace usual next delivers p places first (suc most) (suc (suc most)) naks (omega arith) (evicted-home chosen o does gone undone most naks here.1 later)
      go o does (gone, undone, inr there) =
          let apart : p ≢ home = far there.0 in
          left (there.1).2 apart
        where
          far : (p == home) ≡ false → p ≢ home
          far e = grind (arith, nat_tests)

          left : ((there.1).0 ≡ Rpl) ⊎ ((words : Words) × ((there.1).0 ≡ Wb words)) → p ≢ home → IsRound charge trace usual next delivers p places first (suc (suc most)) naks
          left (inl hint) apart = evicted-away chosen o does gone undone most naks Rpl ((there.1).1 ∙ ap (λ c. (home, c) ∷ []) hint) (inl refl) apart refl refl refl refl later
          left (inr back) apart = evicted-away chosen o does gone undone most naks (Wb back.0) ((there.1).1 ∙ ap (λ c. (home, c) ∷ []) back.1) (inr (back.0, refl)) apart refl refl refl refl later
