-- What an operation's course comes to, put together event by event: in so many events, with no Nak, the operation of node p at its place is
-- completed, no other is, and the machine is at rest.
use Rattle.std.proofs.Common.{◌≡◌, ◌≢◌, ℕ, suc, ◌+◌, ◌≤◌, inl, inr, true, false, List, [], ◌∷◌, ◌++◌, length, refl, arith, ap, sym, ◌∙◌, subst, Option, Some, None, is_some, Ok}
use Rattle.line_map.specs.Sizes.{Sizes}
use Rattle.op_model.specs.declared.events.Event.{Event}
use Rattle.op_model.specs.Events.Step.{Done, effect}
use Rattle.op_model.specs.Lines.{Outcome}
use Rattle.op_model.specs.Run.Rest.{IsAtRest}
use Rattle.op_model.specs.Run.Runs.{Past, past_after}
use Rattle.op_model.specs.Run.Weight.{IsEmpty}
use Rattle.op_model.specs.Shares.{Charge, Share, State, Trace, program}
use Rattle.lane_bounds.proofs.Public.{after_act, after_row_of, just}
use Rattle.rest_laws.proofs.Public.{all-clear, rests}
use Rattle.schedule_laws.specs.Courses.{IsCourse, nak_count, naks_sent}
use Rattle.schedule_laws.proofs.Courses.{course-append, naks-append, naks-cons}
use Rattle.schedule_laws.proofs.Known.{Delivers, IsKnown, IsNoNak, IsSettled, IsUsual, act-silent, known-event}
use Rattle.schedule_laws.proofs.Settling.{IsCompleting, IsTracked, IsUnderway, left_over}
use Rattle.schedule_laws.proofs.Completes.{completes}
use Rattle.schedule_laws.proofs.Under.{AllSent}
use Rattle.schedule_laws.proofs.Begins.{IsMade}

-- at rest an operation that was outstanding is done
pub rested-done : (place : ℕ) (share : Share) → share.want ≡ None → IsUnderway place share → share.place ≡ suc place
rested-done place share none (inl waits) = absurd (let n : false ≡ true = ap is_some (sym none) ∙ waits.0 in cc)
rested-done place share none (inr done) = done.1

module _ (charge : Charge) (trace : Trace) (usual : IsUsual trace) (next : State → Option Event) (delivers : Delivers charge trace usual next) where
  abbrev sizes : Sizes
  sizes = trace.sizes

  -- in at most so many events, of which so many send a Nak at most, the operation of p is completed and all is at rest
  pub record IsRound (p : ℕ) (places : ℕ → ℕ) (past : Past) (most naks : ℕ) : Type 0 where
    pub events : List Event
    pub end : Past
    pub course : IsCourse next charge sizes (program trace) past events end
    pub within : length events ≤ most
    pub few : nak_count charge sizes (program trace) past.state events ≤ naks
    pub known : IsKnown charge trace end
    pub rests : IsAtRest end.state
    pub done : (end.state.share p).place ≡ suc (places p)
    pub others : (n : ℕ) → n ≢ p → (end.state.share n).place ≡ places n

  -- all lanes are empty at the end of settling
  pub settled-rests : (Holds : Past → Type 0) (past : Past) (most : ℕ) → (settled : IsSettled charge trace usual next Holds past most) → IsAtRest settled.end.state
  settled-rests Holds past most settled =
      rests trace charge settled.end settled.known.sound settled.known.bounded (all-clear sizes settled.end.state settled.clear settled.known.ranged)

  -- what settles is a round
  pub round-settled : (p line : ℕ) (places : ℕ → ℕ) (past : Past) (most : ℕ) → IsKnown charge trace past → IsCompleting sizes line p places past.state → left_over sizes line past.state ≤ most → IsRound p places past most 0
  round-settled p line places past most known now light =
      let it = completes charge trace usual next delivers line p places past known now most light in
      let still = settled-rests (λ (m : Past). IsCompleting sizes line p places m.state) past most it in
      let naks = it.naks in
      record {
        events = it.events;
        end = it.end;
        course = it.course;
        within = it.within;
        few = omega arith;
        known = it.known;
        rests = still;
        done = rested-done (places p) (it.end.state.share p) (still.wants p) it.holds.tracked.own;
        others = λ n apart. (it.holds.tracked.others n apart).1;
      }

  -- a round that is no event
  pub round-none : (p : ℕ) (places : ℕ → ℕ) (past : Past) (most : ℕ) → IsKnown charge trace past → IsEmpty past.state → IsTracked p places past.state → IsRound p places past most 0
  round-none p places past most known empty tracked =
      let still = rests trace charge past known.sound known.bounded empty in
      record {
        events = [];
        end = past;
        course = refl;
        within = omega arith;
        few = omega arith;
        known = known;
        rests = still;
        done = rested-done (places p) (past.state.share p) (still.wants p) tracked.own;
        others = λ n apart. (tracked.others n apart).1;
      }

  one-more : (m n k naks : ℕ) → m ≤ k → n ≤ naks → m + n ≤ k + naks
  one-more m n k naks e f = omega arith

  -- an event and then a round
  pub round-after : (p : ℕ) (places : ℕ → ℕ) (past : Past) (most naks k : ℕ) (event : Event) (done : Done) → next past.state ≡ Some event → effect charge sizes (program trace) past.state event ≡ Ok done →
      naks_sent done ≤ k → IsRound p places (past_after sizes past done) most naks → IsRound p places past (suc most) (k + naks)
  round-after p places past most naks k event done chosen does few round =
      let count = naks-cons next charge sizes (program trace) past event done round.events does in
      let within = round.within in
      record {
        events = event ∷ round.events;
        end = round.end;
        course = (chosen, done, does, round.course);
        within = omega arith;
        few = subst (λ n. n ≤ k + naks) (sym count) (one-more (naks_sent done) _ k naks few round.few);
        known = round.known;
        rests = round.rests;
        done = round.done;
        others = round.others;
      }

  -- settling, and then a round
  pub round-behind : (p : ℕ) (places : ℕ → ℕ) (past : Past) (most more naks : ℕ) (Holds : Past → Type 0) (settled : IsSettled charge trace usual next Holds past most) → IsRound p places settled.end more naks → IsRound p places past (most + more) naks
  round-behind p places past most more naks Holds settled round =
      let count = naks-append next charge sizes (program trace) past settled.end settled.events round.events settled.course in
      let none = settled.naks in
      let few = round.few in
      let a = settled.within in
      let b = round.within in
      record {
        events = settled.events ++ round.events;
        end = round.end;
        course = course-append next charge sizes (program trace) past settled.end round.end settled.events round.events settled.course round.course;
        within = joined settled.events round.events a b;
        few = omega arith;
        known = round.known;
        rests = round.rests;
        done = round.done;
        others = round.others;
      }
    where
      long : (xs ys : List Event) → length (xs ++ ys) ≡ length xs + length ys
      long [] ys = omega arith
      long (x ∷ xs) ys = let l = long xs ys in omega arith

      joined : (xs ys : List Event) → length xs ≤ most → length ys ≤ more → length (xs ++ ys) ≤ most + more
      joined xs ys a b = let l = long xs ys in omega arith

  -- a round may be given more events and more Naks
  pub round-wider : (p : ℕ) (places : ℕ → ℕ) (past : Past) (most more naks : ℕ) → most ≤ more → IsRound p places past most naks → IsRound p places past more naks
  round-wider p places past most more naks wide round =
      let within = round.within in
      record { events = round.events; end = round.end; course = round.course; within = omega arith; few = round.few; known = round.known; rests = round.rests; done = round.done; others = round.others }

  pub round-naks : (p : ℕ) (places : ℕ → ℕ) (past : Past) (most naks more : ℕ) → naks ≤ more → IsRound p places past most naks → IsRound p places past most more
  round-naks p places past most naks more wide round =
      let few = round.few in
      record { events = round.events; end = round.end; course = round.course; within = round.within; few = omega arith; known = round.known; rests = round.rests; done = round.done; others = round.others }

  -- An event that does one row and sends no Nak, and then a round from the state after the row
  pub round-made : (p : ℕ) (places : ℕ → ℕ) (past : Past) (most naks : ℕ) → IsKnown charge trace past → (event : Event) (node line : ℕ) (outcome : Outcome) → next past.state ≡ Some event → IsMade charge trace past event node line outcome →
      AllSent IsNoNak outcome.sends → ((then : Past) → IsKnown charge trace then → then.state ≡ after_row_of sizes node line outcome past.state → IsRound p places then most naks) → IsRound p places past (suc most) naks
  unfolding after_act
  round-made p places past most naks known event node line outcome chosen made all later =
      let silent = act-silent sizes past.state made.0 (just past.state node line outcome) made.2 all in
      round-naks p places past (suc most) (0 + naks) naks (omega arith)
      (round-after p places past most naks 0 event made.0 chosen made.1 (none (naks_sent made.0) silent)
      (later (past_after sizes past made.0) (known-event charge trace usual past known event made.0 made.1) made.2.same))
    where
      none : (n : ℕ) → n ≡ 0 → n ≤ 0
      none n e = omega arith
