-- An operation that no hit or issue has begun stays so: a place moves on only where an operation is done, nothing is begun but by a
-- hit or an issue, and those begin the next operation of their node.
use Rattle.std.proofs.Common.{◌≡◌, ℕ, suc, ◌<◌, ◌≤◌, Bool, true, false, cond, ◌==◌, nat_lt, ◌&&◌, not, ◌⊎◌, inl, inr, List, [], ◌∷◌, slice_get, refl, arith, ap, sym, ◌∙◌, subst, Option, Some, None, Result, Ok, Err}
use Rattle.std.proofs.lemmas.Bool.Decides.{nat_tests}
use Rattle.line_map.specs.Sizes.{Sizes, home_of, line_of}
use Rattle.op_model.specs.declared.events.Cause.{Cause}
use Rattle.op_model.specs.declared.events.Cause.TheVariants.{Conflict, HitFirst, LaneEmpty, LaneGate, Miss, NoOp, Outstanding, VictimMissing, VictimUnasked, VictimUnfit}
use Rattle.op_model.specs.declared.events.Event.{Event}
use Rattle.op_model.specs.declared.events.Event.TheVariants.{Evict, Hit, Issue, Reclaim, Take}
use Rattle.op_model.specs.declared.events.EvictKind.{EvictKind}
use Rattle.op_model.specs.declared.messages.Msg.{Msg}
use Rattle.op_model.specs.declared.operations.Entry.{Entry}
use Rattle.op_model.specs.declared.operations.Op.{Op}
use Rattle.op_model.specs.declared.state.Want.{Want}
use Rattle.op_model.specs.Events.Node.{EvictLine, HitNext, Input, IssueNext, NodeOutcome, ReclaimLine, TakeFrom, and_call, asks_victim, bind, by_row, departs, evict_line, fits_victim, hit_next, is_outstanding, issue_next, local, map_ok, taking, with_next, with_victim}
use Rattle.op_model.specs.Events.Step.{Done, Off, Programs, act, after, and_then, effect, none_off, one_off, take_front}
use Rattle.op_model.specs.Lines.{For, LineShare, NoService, Outcome, Own, Service}
use Rattle.op_model.specs.Messages.{msg_content, msg_line}
use Rattle.op_model.specs.Run.History.{IsStart, NeverStarts, is_completed}
use Rattle.op_model.specs.Run.Runs.{Past, past_after, run_from}
use Rattle.op_model.specs.Shares.{Charge, Share, State, Trace, conflicts, is_set_empty, line_share, program, put_share, room_of, want_after, want_on}
use Rattle.op_model.specs.Tables.Processor.{begin_op, evict, hit, reclaim, serves}
use Rattle.op_model.proofs.Public.{free-want, none-on, want-stays}
use Rattle.line_invariant.specs.Rows.{IsDoneRight}
use Rattle.line_invariant.proofs.Public.{begin-ends, done-right, if-either, keeps-want, stays-still}
use Rattle.one_history.specs.Sound.{is_begun_on}
use Rattle.one_history.proofs.Events.{evict-quiet, reclaim-quiet}
use Rattle.one_history.proofs.Order.{done-row, wanted}
use Rattle.one_history.proofs.Rows.{kept-fits}

-- a place goes on by one where an operation is done, and then nothing is begun
abbrev Moved : Share → Share → Type 0
Moved share next = (next.place ≡ share.place) ⊎ ((next.place ≡ suc share.place) × (next.want ≡ None))

-- where nothing is begun, nothing is begun or done
abbrev Rests : Share → Share → Type 0
Rests share next = share.want ≡ None → (next.place ≡ share.place) × (next.want ≡ None)

put-moved : (sizes : Sizes) (at_home : Bool) (line : ℕ) (done : Bool) (row : LineShare) (share : Share) → (done ≡ true → (row.want ≡ None) × ((share.want ≡ None) ⊎ (is_begun_on sizes share.want line ≡ true))) → Moved share (put_share sizes at_home line done row share)
unfolding put_share
put-moved sizes at_home line true row share h = inr (refl, ap (want_after sizes share.want line) (h refl).0 ∙ done-row sizes share.want line (h refl).1)
put-moved sizes at_home line false row share h = inl refl

put-rests : (sizes : Sizes) (at_home : Bool) (line : ℕ) (done : Bool) (row : LineShare) (share : Share) → (share.want ≡ None → (done ≡ false) × (row.want ≡ None)) → Rests share (put_share sizes at_home line done row share)
unfolding put_share
put-rests sizes at_home line true row share h none = absurd (let d = (h none).0 in cc)
put-rests sizes at_home line false row share h none = (refl, ap (λ b. want_after sizes b line row.want) none ∙ (h none).1)

-- what isn't done keeps the place
pub put-stays : (sizes : Sizes) (at_home : Bool) (line : ℕ) (done : Bool) (row : LineShare) (share : Share) → done ≡ false → (put_share sizes at_home line done row share).place ≡ share.place
unfolding put_share
put-stays sizes at_home line done row share still = ap (λ c. cond c (suc share.place) share.place) still

ended : (service : Service) (done : Bool) (want : Option Want) → IsDoneRight (Unit {0}) service done want → done ≡ true → want ≡ None
ended NoService true want h e = h.0
ended NoService false want h e = cc
ended (Own op on) done want h e = h.0
ended (For node on) done want h e = absurd (let d : true ≡ false = sym e ∙ h in cc)

module _ (charge : Charge) (sizes : Sizes) (me : ℕ) (share : Share) where
  abbrev Goes : (Share → Share → Type 0) → Result NodeOutcome Cause → Type 0
  Goes P r = (out : NodeOutcome) → r ≡ Ok out → P share out.share

  goes-error : (P : Share → Share → Type 0) (c : Cause) → Goes P (Err c)
  goes-error P c out e = absurd (let d : ◌≡◌ {A = Result NodeOutcome Cause} (Err c) (Ok out) = e in cc)

  goes-ok : (P : Share → Share → Type 0) (x : NodeOutcome) → P share x.share → Goes P (Ok x)
  goes-ok P x p out e = let is : x ≡ out = cc in subst (λ y. P share y.share) is p

  goes-next : (P : Share → Share → Type 0) (o : Option Op) (f : Op → Result NodeOutcome Cause) → ((next : Op) → share.want ≡ None → Goes P (f next)) → Goes P (with_next share o f)
  goes-next P None f each = goes-error P NoOp
  goes-next P (Some next) f each = if-either (Goes P) (is_outstanding share.want) _ _ (λ _. goes-error P Outstanding) (λ e. each next (free-want share.want e))

  hit-moves : (next : Op) → share.want ≡ None → Goes Moved (hit_next sizes me share next)
  unfolding hit
  hit-moves next none = if-either (Goes Moved) (serves next (line_share sizes share (line_of sizes next.word)).copy) _ _
      (λ _. goes-ok Moved _ (put-moved sizes (me == home_of sizes (line_of sizes next.word)) (line_of sizes next.word) true _ share (λ _. (none-on sizes share.want (line_of sizes next.word) none, inl none)))) (λ _. goes-error Moved Miss)

  issue-moves : (next : Op) → share.want ≡ None → Goes Moved (issue_next charge sizes me share next)
  issue-moves next none =
      if-either (Goes Moved) (serves next (line_share sizes share (line_of sizes next.word)).copy) _ _ (λ _. goes-error Moved HitFirst) (λ _.
      (if-either (Goes Moved) (conflicts sizes share (line_of sizes next.word)) _ _ (λ _. goes-error Moved Conflict) (λ _.
      begins (line_of sizes next.word) next (begin_op me (home_of sizes (line_of sizes next.word)) (room_of charge sizes share) next (line_share sizes share (line_of sizes next.word))) refl)))
    where
      begins : (line : ℕ) (op : Op) (r : Result Outcome Cause) → begin_op me (home_of sizes line) (room_of charge sizes share) op (line_share sizes share line) ≡ r → Goes Moved (map_ok (by_row sizes me share line) r)
      begins line op (Err c) e = goes-error Moved c
      begins line op (Ok o) e = goes-ok Moved (by_row sizes me share line o) (put-moved sizes (me == home_of sizes line) line o.done o.share share (λ done. (begin-ends me (home_of sizes line) (room_of charge sizes share) op (line_share sizes share line) (none-on sizes share.want line none) o e done, inl none)))

  -- an eviction or a reclaim
  quiet-moved : (line : ℕ) (o : Outcome) → o.done ≡ false → Moved share (by_row sizes me share line o).share
  quiet-moved line o still = inl (put-stays sizes (me == home_of sizes line) line o.done o.share share still)

  quiet-rests : (line : ℕ) (o : Outcome) → o.done ≡ false → o.share.want ≡ want_on sizes share.want line → Rests share (by_row sizes me share line o).share
  quiet-rests line o still same = put-rests sizes (me == home_of sizes line) line o.done o.share share (λ none. (still, same ∙ none-on sizes share.want line none))

  evict-goes : (P : Share → Share → Type 0) (line : ℕ) (kind : EvictKind) (room : Bool) → ((o : Outcome) → o.done ≡ false → o.share.want ≡ want_on sizes share.want line → P share (by_row sizes me share line o).share) → Goes P (evict_line sizes me share line kind room)
  evict-goes P line kind room each = go (evict me (home_of sizes line) kind (line_share sizes share line)) refl
    where
      go : (r : Result Outcome Cause) → evict me (home_of sizes line) kind (line_share sizes share line) ≡ r → Goes P (bind r (λ outcome. cond (departs (me == home_of sizes line) kind && not room) (Err LaneGate) (Ok (by_row sizes me share line outcome))))
      go (Err c) e = goes-error P c
      go (Ok o) e = let quiet = evict-quiet (line_share sizes share line) o me (home_of sizes line) kind e in
          if-either (Goes P) (departs (me == home_of sizes line) kind && not room) _ _ (λ _. goes-error P LaneGate) (λ _. goes-ok P (by_row sizes me share line o) (each o quiet.2 quiet.1))

  reclaim-goes : (P : Share → Share → Type 0) (line : ℕ) → ((o : Outcome) → o.done ≡ false → o.share.want ≡ want_on sizes share.want line → P share (by_row sizes me share line o).share) → Goes P (map_ok (by_row sizes me share line) (reclaim (room_of charge sizes share) (line_share sizes share line)))
  reclaim-goes P line each = go (reclaim (room_of charge sizes share) (line_share sizes share line)) refl
    where
      go : (r : Result Outcome Cause) → reclaim (room_of charge sizes share) (line_share sizes share line) ≡ r → Goes P (map_ok (by_row sizes me share line) r)
      go (Err c) e = goes-error P c
      go (Ok o) e = let quiet = reclaim-quiet (line_share sizes share line) o (room_of charge sizes share) e in goes-ok P (by_row sizes me share line o) (each o quiet.2 quiet.1)

  -- a message
  take-moved : (src : ℕ) (m : Msg) → Moved share (by_row sizes me share (msg_line m) (taking charge sizes me share src m)).share
  take-moved src m = put-moved sizes (me == home_of sizes (msg_line m)) (msg_line m) (taking charge sizes me share src m).done (taking charge sizes me share src m).share share (λ done. (
    ended (taking charge sizes me share src m).served (taking charge sizes me share src m).done (taking charge sizes me share src m).share.want (done-right me (home_of sizes (msg_line m)) src (is_set_empty sizes share (msg_line m)) (room_of charge sizes share) (line_share sizes share (msg_line m)) (Unit {0}) (msg_content m) (λ _. tt)) done,
    inr (waited (want_on sizes share.want (msg_line m)) refl done),
  ))
    where
      waited : (want : Option Want) → want_on sizes share.want (msg_line m) ≡ want → (taking charge sizes me share src m).done ≡ true → is_begun_on sizes share.want (msg_line m) ≡ true
      waited None e done = absurd (let d : true ≡ false = sym done ∙ stays-still me (home_of sizes (msg_line m)) src (is_set_empty sizes share (msg_line m)) (room_of charge sizes share) (line_share sizes share (msg_line m)) e (msg_content m) in cc)
      waited (Some want) e done = (wanted sizes share.want (msg_line m) want.op want.marked e).0

  take-rests : (src : ℕ) (m : Msg) → Rests share (by_row sizes me share (msg_line m) (taking charge sizes me share src m)).share
  take-rests src m = put-rests sizes (me == home_of sizes (msg_line m)) (msg_line m) (taking charge sizes me share src m).done (taking charge sizes me share src m).share share (λ none.
      let w = none-on sizes share.want (msg_line m) none in (
        stays-still me (home_of sizes (msg_line m)) src (is_set_empty sizes share (msg_line m)) (room_of charge sizes share) (line_share sizes share (msg_line m)) w (msg_content m),
        kept-fits (want_on sizes share.want (msg_line m)) _ (keeps-want me (home_of sizes (msg_line m)) src (is_set_empty sizes share (msg_line m)) (room_of charge sizes share) (line_share sizes share (msg_line m)) (msg_content m)) w,
      ))

  -- a line that is called in after it changes neither
  call-place : (victim : ℕ) (out : NodeOutcome) → (and_call sizes me victim out).share.place ≡ out.share.place
  unfolding put_share
  call-place victim out = refl

  call-begun : (victim : ℕ) (out : NodeOutcome) → (and_call sizes me victim out).share.want ≡ out.share.want
  unfolding put_share
  call-begun victim out = want-stays sizes out.share.want victim

  call-moved : (victim : ℕ) (out : NodeOutcome) → Moved share out.share → Moved share (and_call sizes me victim out).share
  call-moved victim out (inl e) = inl (call-place victim out ∙ e)
  call-moved victim out (inr h) = inr (call-place victim out ∙ h.0, call-begun victim out ∙ h.1)

  call-rests : (victim : ℕ) (out : NodeOutcome) → Rests share out.share → Rests share (and_call sizes me victim out).share
  call-rests victim out h none = (call-place victim out ∙ (h none).0, call-begun victim out ∙ (h none).1)

  take-goes : (P : Share → Share → Type 0) (b : Bool) (victim : Option ℕ) (out : NodeOutcome) → P share out.share → ((g : ℕ) → P share (and_call sizes me g out).share) → Goes P (with_victim charge sizes me share b victim out)
  take-goes P true None out p each = goes-error P VictimMissing
  take-goes P false None out p each = goes-ok P out p
  take-goes P false (Some g) out p each = goes-error P VictimUnasked
  take-goes P true (Some g) out p each = if-either (Goes P) (fits_victim charge sizes me share g) _ _ (λ _. goes-ok P (and_call sizes me g out) (each g)) (λ _. goes-error P VictimUnfit)

  local-moved : (program : List Op) (input : Input) → Goes Moved (local charge sizes me program share input)
  unfolding local
  local-moved program HitNext = goes-next Moved (slice_get program share.place) (hit_next sizes me share) hit-moves
  local-moved program IssueNext = goes-next Moved (slice_get program share.place) (issue_next charge sizes me share) issue-moves
  local-moved program (EvictLine line kind room) = evict-goes Moved line kind room (λ o still same. quiet-moved line o still)
  local-moved program (TakeFrom src m victim) = take-goes Moved (asks_victim charge sizes me share src m) victim _ (take-moved src m) (λ g. call-moved g (by_row sizes me share (msg_line m) (taking charge sizes me share src m)) (take-moved src m))
  local-moved program (ReclaimLine line) = reclaim-goes Moved line (λ o still same. quiet-moved line o still)

  evict-rests : (program : List Op) (line : ℕ) (kind : EvictKind) (room : Bool) → Goes Rests (local charge sizes me program share (EvictLine line kind room))
  unfolding local
  evict-rests program line kind room = evict-goes Rests line kind room (λ o still same. quiet-rests line o still same)

  message-rests : (program : List Op) (src : ℕ) (m : Msg) (victim : Option ℕ) → Goes Rests (local charge sizes me program share (TakeFrom src m victim))
  unfolding local
  message-rests program src m victim = take-goes Rests (asks_victim charge sizes me share src m) victim _ (take-rests src m) (λ g. call-rests g (by_row sizes me share (msg_line m) (taking charge sizes me share src m)) (take-rests src m))

  reclaim-rests : (program : List Op) (line : ℕ) → Goes Rests (local charge sizes me program share (ReclaimLine line))
  unfolding local
  reclaim-rests program line = reclaim-goes Rests line (λ o still same. quiet-rests line o still same)

-- an operation is begun where it is completed, or is what its node has begun
abbrev pub IsBegunIn : State → Entry → Type 0
IsBegunIn state entry =
    (is_completed state entry ≡ true) ⊎ ((entry.index ≡ (state.share entry.node).place) × ((state.share entry.node).want ≡ None → ⊥))

-- whether an operation is begun, read from its node's share
abbrev IsBegunBy : Share → Entry → Type 0
IsBegunBy share y = (nat_lt y.index share.place ≡ true) ⊎ ((y.index ≡ share.place) × (share.want ≡ None → ⊥))

fresh-part : (share next : Share) (y : Entry) → Moved share next → (y.index ≡ share.place → Rests share next) → (IsBegunBy share y → ⊥) → IsBegunBy next y → ⊥
fresh-part share next y moved rests fresh now = go (y.index == share.place) refl share.want refl moved now
  where
    above : share.place ≤ y.index
    above = low (nat_lt y.index share.place) refl
      where
        low : (c : Bool) → nat_lt y.index share.place ≡ c → share.place ≤ y.index
        low true e = absurd (fresh (inl e))
        low false e = grind (arith, nat_tests)

    below : nat_lt y.index next.place ≡ true → y.index < next.place
    below e = grind (arith, nat_tests)

    go : (c : Bool) → (y.index == share.place) ≡ c → (begun : Option Want) → share.want ≡ begun → Moved share next → IsBegunBy next y → ⊥
    go true e (Some want) b moved now = let same : y.index ≡ share.place = grind (arith, nat_tests) in fresh (inr (same, λ none. let d : Some want ≡ None = sym b ∙ none in cc))
    go true e None b moved (inl lt) = let same : y.index ≡ share.place = grind (arith, nat_tests) in let r = (rests same b).0 in let l = below lt in omega (arith, r, l, same)
    go true e None b moved (inr h) = let same : y.index ≡ share.place = grind (arith, nat_tests) in h.1 (rests same b).1
    go false e begun b (inl stays) (inl lt) = let l = below lt in let a = above in omega (arith, stays, l, a)
    go false e begun b (inl stays) (inr h) = let same : y.index ≡ share.place = h.0 ∙ stays in grind (arith, nat_tests)
    go false e begun b (inr m) (inl lt) = let l = below lt in let a = above in let p = m.0 in let same : y.index ≡ share.place = omega (arith, p, l, a) in grind (arith, nat_tests)
    go false e begun b (inr m) (inr h) = h.1 m.1

module _ (state : State) (y : Entry) (fresh : IsBegunIn state y → ⊥) where
  act-fresh : (node : ℕ) (off : Off) (r : Result NodeOutcome Cause) (done : Done) → act node off r ≡ Ok done →
      ((out : NodeOutcome) → r ≡ Ok out → Moved (state.share node) out.share) → (y.node ≡ node → y.index ≡ (state.share node).place → (out : NodeOutcome) → r ≡ Ok out → Rests (state.share node) out.share) →
      IsBegunIn (after state done) y → ⊥
  act-fresh node off (Err c) done e moved rests now = absurd (let d : ◌≡◌ {A = Result Done Cause} (Err c) (Ok done) = e in cc)
  act-fresh node off (Ok out) done e moved rests now =
      let is : done ≡ record { node = node; out = out; off = off } = sym (let d : ◌≡◌ {A = Result Done Cause} (Ok (record { node = node; out = out; off = off })) (Ok done) = e in cc) in
      go (y.node == node) refl (subst (λ d. IsBegunIn (after state d) y) is now)
    where
      go : (c : Bool) → (y.node == node) ≡ c → IsBegunBy (cond c out.share (state.share y.node)) y → ⊥
      go false e now = fresh now
      go true e now =
          let same : y.node ≡ node = grind (arith, nat_tests) in
          fresh-part (state.share node) out.share y (moved out refl) (λ at. rests same at out refl) (subst (λ k. IsBegunBy (state.share k) y → ⊥) same fresh) now

  step-fresh : (charge : Charge) (sizes : Sizes) (programs : Programs) (event : Event) (done : Done) → effect charge sizes programs state event ≡ Ok done → (IsStart state event y → ⊥) → IsBegunIn (after state done) y → ⊥
  step-fresh charge sizes programs (Hit node) done e never = act-fresh node none_off _ done e (local-moved charge sizes node (state.share node) (programs node) HitNext) (λ same at. absurd (never (same, at)))
  step-fresh charge sizes programs (Issue node) done e never = act-fresh node none_off _ done e (local-moved charge sizes node (state.share node) (programs node) IssueNext) (λ same at. absurd (never (same, at)))
  step-fresh charge sizes programs (Evict node line kind) done e never = act-fresh node none_off _ done e (local-moved charge sizes node (state.share node) (programs node) _) (λ same at. evict-rests charge sizes node (state.share node) (programs node) line kind _)
  step-fresh charge sizes programs (Take src dst class victim) done e never = fronts (state.lane src dst class) e
    where
      fronts : (ms : List Msg) → take_front charge sizes programs state src dst class victim ms ≡ Ok done → IsBegunIn (after state done) y → ⊥
      fronts [] e = absurd (let d : ◌≡◌ {A = Result Done Cause} (Err LaneEmpty) (Ok done) = e in cc)
      fronts (m ∷ rest) e = act-fresh dst (one_off src dst class) _ done e (local-moved charge sizes dst (state.share dst) (programs dst) (TakeFrom src m victim)) (λ same at. message-rests charge sizes dst (state.share dst) (programs dst) src m victim)
  step-fresh charge sizes programs (Reclaim line) done e never =
      act-fresh (home_of sizes line) none_off _ done e (local-moved charge sizes (home_of sizes line) (state.share (home_of sizes line)) (programs (home_of sizes line)) (ReclaimLine line)) (λ same at. reclaim-rests charge sizes (home_of sizes line) (state.share (home_of sizes line)) (programs (home_of sizes line)) line)

pub never-begun : (charge : Charge) (trace : Trace) (past last : Past) (events : List Event) (y : Entry) → NeverStarts charge trace past events y → run_from charge trace past events ≡ Some last → (IsBegunIn past.state y → ⊥) → IsBegunIn last.state y → ⊥
never-begun charge trace past last [] y never e fresh now = let is : past ≡ last = cc in fresh (subst (λ p. IsBegunIn p.state y) (sym is) now)
never-begun charge trace past last (event ∷ events) y never e fresh now = go (effect charge trace.sizes (program trace) past.state event) refl e (λ next n f ran. never-begun charge trace next last events y n ran f now)
  where
    go : (r : Result Done Cause) → effect charge trace.sizes (program trace) past.state event ≡ r → and_then r (λ done. run_from charge trace (past_after trace.sizes past done) events) ≡ Some last →
        ((next : Past) → NeverStarts charge trace next events y → (IsBegunIn next.state y → ⊥) → run_from charge trace next events ≡ Some last → ⊥) → ⊥
    go (Err c) is e rest = let d : ◌≡◌ {A = Option Past} None (Some last) = e in cc
    go (Ok done) is e rest = rest (past_after trace.sizes past done) (never.1 done is) (step-fresh past.state y fresh charge trace.sizes (program trace) event done is never.0) e
