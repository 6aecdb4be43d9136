-- Each event keeps what holds of the machine: what a node does by its own share is a row of the whole machine, and each row keeps
-- it. A Get that calls a victim in is two rows, one after the other.
use Rattle.std.proofs.Common.{◌≡◌, ◌≢◌, ℕ, ◌<◌, Bool, true, false, cond, ◌==◌, ◌&&◌, not, inl, inr, List, [], ◌∷◌, append-nil, slice_get, refl, arith, ap, sym, ◌∙◌, subst, Option, Some, None, Result, Ok, Err}
use Rattle.std.proofs.lemmas.Bool.Decides.{nat_tests}
use Rattle.line_map.specs.Sizes.{Sizes, home_of, line_of}
use Rattle.op_model.specs.declared.events.EvictKind.TheVariants as way
use Rattle.op_model.specs.declared.events.Cause.{Cause}
use Rattle.op_model.specs.declared.events.Cause.TheVariants.{LaneEmpty, LaneGate}
use Rattle.op_model.specs.declared.events.Class.{Class}
use Rattle.op_model.specs.declared.events.Class.TheVariants.{Request}
use Rattle.op_model.specs.declared.events.Event.{Event}
use Rattle.op_model.specs.declared.events.Event.TheVariants.{Evict, Hit, Issue, Reclaim, Take}
use Rattle.op_model.specs.declared.events.EvictKind.{EvictKind}
use Rattle.op_model.specs.declared.messages.Msg.{Msg}
use Rattle.op_model.specs.declared.operations.Op.{Op}
use Rattle.op_model.specs.declared.state.Want.{Want}
use Rattle.op_model.specs.Events.Node.{EvictLine, HitNext, Input, IssueNext, NodeOutcome, ReclaimLine, TakeFrom, and_call, asks_victim, bind, by_row, departs, evict_line, fits_victim, hit_next, is_get, is_outstanding, issue_next, local, map_ok, meets_row, take_from, taking, with_next, with_victim}
use Rattle.op_model.specs.Events.Step.{Done, Off, act, effect, has_room, none_off, one_off, take_front}
use Rattle.op_model.specs.Lines.{Absent, Copy, Exclusive, Header, LineShare, NoService, Outcome, Room, Shared, is_empty, is_pending, no_message, sending, words_of}
use Rattle.op_model.specs.Messages.{Content, FAck, FwdGet, FwdGetX, Get, GetX, Inv, InvAck, Nak, Nakc, Put, PutX, Rpl, ShWb, Wb, msg_content, msg_line}
use Rattle.op_model.specs.Run.Runs.{Past, past_after}
use Rattle.op_model.specs.Shares.{Charge, Share, State, Trace, conflicts, copy_of, header_of, is_set_empty, line_share, program, put_share, room_of, share_at, want_on}
use Rattle.op_model.specs.Tables.Home.{lacks_link, on_get, wants_victim}
use Rattle.op_model.specs.Tables.Processor.{begin_op, call_in, evict, fits, hit, holds_link, leave_home, leave_remote, reclaim, serves}
use Rattle.op_model.specs.Tables.Remote.{meets, on_message, row_of}
use Rattle.op_model.proofs.Public.{eqb-self, err-ok, last_two_parts, parts_but_last, second_of_four}
use Rattle.op_model.proofs.Public.{serves-copy}
use Rattle.line_invariant.specs.Good.{IsGood}
use Rattle.line_invariant.specs.Line.{Line, after_row}
use Rattle.line_invariant.specs.Rows.{IsDoneRight, IsWantKept, wanting, with_header}
use Rattle.line_invariant.proofs.Public.{away-begin, away-evict, away-message, good-begin, good-evict}
use Rattle.line_invariant.proofs.Public.{good-hit, good-reclaim, hit-fresh, idle-answered, if-either}
use Rattle.line_invariant.proofs.Public.{same-alone, wants-empty}
use Rattle.one_history.specs.Project.{line_words, project}
use Rattle.one_history.specs.Sound.{IsNextOp, IsSound, answered_of}
use Rattle.one_history.proofs.Order.{IsNextWant}
use Rattle.one_history.proofs.Owns.{IsOwn, call-past, none-dropped, one-dropped, own-ok, own-past, own-row}
use Rattle.one_history.proofs.Rows.{kept-in, sound-called, sound-local, sound-take}
use Rattle.one_history.proofs.Sets.{room-issue, waits-alone}
use Rattle.one_history.proofs.Shares.{header-other, header-same, row_past, taken_of}
use Rattle.one_history.proofs.Nodes.{IsServedIn, own-done, own-served, own-want}

-- an eviction or a reclaim serves nothing, begins nothing and brings no copy
module _ (row : LineShare) (o : Outcome) where
  abbrev pub IsQuiet : Outcome → Type 0
  IsQuiet y = (y.served ≡ NoService) × (y.share.want ≡ row.want) × (y.done ≡ false) × (row.copy ≡ Absent → y.share.copy ≡ Absent)

  abbrev pub Quiet : Result Outcome Cause → Type 0
  Quiet r = r ≡ Ok o → IsQuiet o

  quiet-error : (c : Cause) → Quiet (Err c)
  quiet-error c e = absurd (let d : ◌≡◌ {A = Result Outcome Cause} (Err c) (Ok o) = e in cc)

  quiet-ok : (x : Outcome) → IsQuiet x → Quiet (Ok x)
  quiet-ok x q e = let is : x ≡ o = cc in subst IsQuiet is q

  pub evict-quiet : (node home : ℕ) (kind : EvictKind) → Quiet (evict node home kind row)
  unfolding evict
  evict-quiet node home kind = if-either Quiet (fits (node == home) kind row.copy) _ _ (λ _. either (node == home)) (λ _. quiet-error _)
    where
      leaves : (kind : EvictKind) → Quiet (Ok (leave_remote home kind row))
      leaves way.Wb = quiet-ok _ (refl, refl, refl, λ _. refl)
      leaves way.Hint = quiet-ok _ (refl, refl, refl, λ _. refl)
      leaves way.Silent = quiet-ok _ (refl, refl, refl, λ _. refl)

      here : (copy : Copy) → Quiet (Ok (leave_home copy row))
      here Absent = quiet-ok _ (refl, refl, refl, λ e. e)
      here (Shared words) = quiet-ok _ (refl, refl, refl, λ _. refl)
      here (Exclusive words) = quiet-ok _ (refl, refl, refl, λ _. refl)

      either : (c : Bool) → Quiet (Ok (cond c (leave_home row.copy row) (leave_remote home kind row)))
      either true = here row.copy
      either false = leaves kind

  pub reclaim-quiet : (room : Room) → Quiet (reclaim room row)
  unfolding reclaim
  reclaim-quiet room =
      if-either Quiet (not (holds_link room row.header)) _ _ (λ _. quiet-error _) (λ _.
      (if-either Quiet (is_pending row.header) _ _ (λ _. quiet-error _) (λ _.
      (if-either Quiet room.full _ _ (λ _. quiet-error _) (λ _. quiet-ok _ (refl, refl, refl, λ e. e))))))

-- where a victim is wanted, the Get is refused and the share stays
pub refuses : (dst home src : ℕ) (alone : Bool) (room : Room) (content : Content) (row : LineShare) → is_get content ≡ true → wants_victim room src row.header ≡ true → (on_message dst home src alone room content row).share ≡ row
unfolding on_message row_of on_get wants_victim
refuses dst home src alone room Get row get wants =
    if-either Stays (meets dst home src alone Get row) _ _ (λ _.
    (if-either Stays (is_pending row.header) _ _ (λ _. refl) (λ _.
    (if-either Stays (lacks_link room src row.header && room.link_pending) _ _ (λ _. refl) (λ _.
    (if-either Stays (lacks_link room src row.header && room.full) _ _ (λ _. refl) (λ _.
    (if-either Stays (lacks_link room src row.header) _ _ (λ _. refl) (λ has. absurd (second_of_four (is_pending row.header) (lacks_link room src row.header) room.link_pending room.full wants has)))))))))) (λ _. refl)
  where
    Stays : Outcome → Type 0
    Stays o = o.share ≡ row
refuses dst home src alone room GetX row get wants = cc
refuses dst home src alone room (FwdGet r) row get wants = cc
refuses dst home src alone room (FwdGetX r) row get wants = cc
refuses dst home src alone room Inv row get wants = cc
refuses dst home src alone room (Wb words) row get wants = cc
refuses dst home src alone room Rpl row get wants = cc
refuses dst home src alone room (Put words) row get wants = cc
refuses dst home src alone room (PutX words) row get wants = cc
refuses dst home src alone room (Nak cause) row get wants = cc
refuses dst home src alone room InvAck row get wants = cc
refuses dst home src alone room (ShWb words) row get wants = cc
refuses dst home src alone room FAck row get wants = cc
refuses dst home src alone room Nakc row get wants = cc

-- a row that leaves the node's share of its line leaves all headers of the node
pub header-kept : (sizes : Sizes) (at_home : Bool) (line : ℕ) (done : Bool) (row : LineShare) (share : Share) → row ≡ line_share sizes share line → (g : ℕ) → header_of sizes (put_share sizes at_home line done row share) g ≡ header_of sizes share g
header-kept sizes at_home line done row share same g = go (g == line) refl at_home
  where
    go : (c : Bool) → (g == line) ≡ c → (b : Bool) → header_of sizes (put_share sizes b line done row share) g ≡ header_of sizes share g
    go true e true = let is : g ≡ line = grind (arith, nat_tests) in ap (header_of sizes (put_share sizes true line done row share)) is ∙ header-same sizes true line done row share refl ∙ ap (λ s. s.header) same ∙ ap (header_of sizes share) (sym is)
    go c e false = header-other sizes false line done row share g (inr refl)
    go false e true = let other : g ≢ line = grind (arith, nat_tests) in header-other sizes true line done row share g (inl other)

pub hit-away : (op : Op) (s : LineShare) (h : Header) → hit op (record s { header = h }) ≡ with_header h (hit op s)
unfolding hit
hit-away op s h = refl

module _ (charge : Charge) (trace : Trace) (positive : 0 < trace.sizes.words) (past : Past) (sound : IsSound trace past) where
  abbrev sizes : Sizes
  sizes = trace.sizes

  abbrev state : State
  state = past.state

  abbrev line_at_all : ℕ → Line
  line_at_all line = project sizes state (line_words sizes past.served line) (answered_of sizes past line) line

  abbrev share : ℕ → Share
  share node = state.share node

  -- what a node does keeps what holds
  abbrev Keeps : ℕ → Off → Result NodeOutcome Cause → Type 0
  Keeps node off r = (o : NodeOutcome) → r ≡ Ok o → IsSound trace (past_after trace.sizes past (record { node = node; out = o; off = off }))

  keeps-error : (node : ℕ) (off : Off) (c : Cause) → Keeps node off (Err c)
  keeps-error node off c o e = absurd (err-ok c o e)

  keeps-ok : (node : ℕ) (off : Off) (x : NodeOutcome) → IsSound trace (past_after trace.sizes past (record { node = node; out = x; off = off })) → Keeps node off (Ok x)
  keeps-ok node off x s o e = let is : x ≡ o = cc in subst (λ y. IsSound trace (past_after trace.sizes past (record { node = node; out = y; off = off }))) is s

  -- by the row of the whole machine
  keeps-row : (node line : ℕ) (own outcome : Outcome) → IsOwn sizes node line own outcome → IsSound trace (row_past sizes past node line outcome state.lane) → Keeps node none_off (Ok (by_row sizes node (share node) line own))
  keeps-row node line own outcome is s = keeps-ok node none_off _ (subst (IsSound trace) (sym (own-past trace past node line own outcome none_off state.lane is (none-dropped state))) s)

  next-is : (node : ℕ) (next : Op) → slice_get (program trace node) (share node).place ≡ Some next → IsNextOp trace node (share node).place (line_of sizes next.word) next
  next-is node next e = (e, refl)

  free-want : (begun : Option Want) (line : ℕ) → is_outstanding begun ≡ false → (begun ≡ None) × (want_on sizes begun line ≡ None)
  free-want None line e = (refl, refl)
  free-want (Some want) line e = cc

  -- a node that has begun nothing has no load served
  none-served : (node line : ℕ) → want_on sizes (share node).want line ≡ None → answered_of sizes past line node ≡ false
  unfolding project
  none-served node line e = idle-answered (home_of sizes line) (line_at_all line) (sound.lines line) node e

  hit-is : (op : Op) (row : LineShare) (node line : ℕ) → row.want ≡ None → words_of row.copy ≡ line_words sizes past.served line → IsNextOp trace node (share node).place line op → (share node).want ≡ None → answered_of sizes past line node ≡ false →
      IsServedIn trace past node line (line_words sizes past.served line) (hit op row).served × IsDoneRight (answered_of sizes past line node ≡ true) (hit op row).served (hit op row).done (hit op row).share.want × IsNextWant trace node (share node).place line (hit op row).share.want
  unfolding hit
  hit-is op row node line none same is free idle = ((same, is, inl free, idle), (none, refl), rw none tt)

  keeps-hit : (node : ℕ) (next : Op) → slice_get (program trace node) (share node).place ≡ Some next → is_outstanding (share node).want ≡ false → Keeps node none_off (hit_next sizes node (share node) next)
  unfolding project
  keeps-hit node next is free =
      if-either (Keeps node none_off) (serves next (copy_of (share node) (line_of sizes next.word))) _ _ (λ serve. hits (line_of sizes next.word) next (next-is node next is) serve) (λ _. keeps-error node none_off _)
    where
      hits : (line : ℕ) (op : Op) → IsNextOp trace node (share node).place line op → serves op (copy_of (share node) line) ≡ true → Keeps node none_off (Ok (by_row sizes node (share node) line (hit op (line_share sizes (share node) line))))
      hits line op is serve =
          let none = free-want (share node).want line free in
          let fine = hit-is op (share_at sizes state node line) node line none.1 (hit-fresh (home_of sizes line) (line_at_all line) (sound.lines line) node op serve) is none.0 (none-served node line none.1) in
          keeps-row node line _ _ (own-row sizes state node line (hit op) (λ apart s h. hit-away op s h))
          (sound-local trace positive past sound node line (hit op (share_at sizes state node line)) (good-hit (home_of sizes line) (line_at_all line) (sound.lines line) node op serve)
          fine.0 fine.1 fine.2 (inl (λ e n. absurd (serves-copy op (copy_of (share node) line) serve e))) (inl none.0))

  keeps-issue : (node : ℕ) (next : Op) → slice_get (program trace node) (share node).place ≡ Some next → is_outstanding (share node).want ≡ false → Keeps node none_off (issue_next charge sizes node (share node) next)
  unfolding project
  keeps-issue node next is free =
      if-either (Keeps node none_off) (serves next (copy_of (share node) (line_of sizes next.word))) _ _ (λ _. keeps-error node none_off _) (λ _.
      (if-either (Keeps node none_off) (conflicts sizes (share node) (line_of sizes next.word)) _ _ (λ _. keeps-error node none_off _)
      (λ room. begun (line_of sizes next.word) next (next-is node next is) room (begin_op node (home_of sizes (line_of sizes next.word)) (room_of charge sizes (share node)) next (line_share sizes (share node) (line_of sizes next.word))) refl)))
    where
      begun : (line : ℕ) (op : Op) → IsNextOp trace node (share node).place line op → conflicts sizes (share node) line ≡ false →
          (r : Result Outcome Cause) → begin_op node (home_of sizes line) (room_of charge sizes (share node)) op (line_share sizes (share node) line) ≡ r → Keeps node none_off (map_ok (by_row sizes node (share node) line) r)
      begun line op is room (Err c) e = keeps-error node none_off c
      begun line op is room (Ok o) e =
          let none = free-want (share node).want line free in
          let same = own-ok sizes state node line (begin_op node (home_of sizes line) (room_of charge sizes (share node)) op) (λ apart s h. away-begin node (home_of sizes line) apart s h (room_of charge sizes (share node)) op) o e in
          let x : Outcome = same.0 in
          let fine = good-begin (home_of sizes line) (line_at_all line) (sound.lines line) node op none.1 (room_of charge sizes (share node)) x same.1 in
          keeps-row node line o x same.2
          (sound-local trace positive past sound node line x fine.0 (own-served trace past node line _ op x.served is none.0 (none-served node line none.1) fine.1) (own-done _ x.served x.done x.share.want fine.3) (own-want trace node (share node).place line op x.share.want is fine.2)
          (inr (room-issue sizes (share node) line none.0 room)) (inl none.0))

  keeps-next : (node : ℕ) (f : Op → Result NodeOutcome Cause) → ((next : Op) → slice_get (program trace node) (share node).place ≡ Some next → is_outstanding (share node).want ≡ false → Keeps node none_off (f next)) → Keeps node none_off (with_next (share node) (slice_get (program trace node) (share node).place) f)
  keeps-next node f each = go (slice_get (program trace node) (share node).place) refl
    where
      go : (o : Option Op) → slice_get (program trace node) (share node).place ≡ o → Keeps node none_off (with_next (share node) o f)
      go None e = keeps-error node none_off _
      go (Some next) e = if-either (Keeps node none_off) (is_outstanding (share node).want) _ _ (λ _. keeps-error node none_off _) (λ free. each next e free)

  -- an eviction or a reclaim serves nothing and leaves what is begun
  keeps-quiet : (node line : ℕ) (own o : Outcome) → IsOwn sizes node line own o → IsGood (home_of sizes line) (after_row (home_of sizes line) node o (line_at_all line)) → IsQuiet (share_at sizes state node line) o o → Keeps node none_off (Ok (by_row sizes node (share node) line own))
  keeps-quiet node line own o is good quiet =
      keeps-row node line own o is
      (sound-local trace positive past sound node line o good (rw quiet.0 tt) (rw (quiet.0, quiet.2) tt) (rw quiet.1 (kept-in trace positive past sound node line (want_on sizes (share node).want line) (same-want (want_on sizes (share node).want line))))
      (inl (λ empty none. (quiet.3 empty, quiet.1 ∙ none))) (inr (λ e. quiet.1 ∙ e)))
    where
      same-want : (want : Option Want) → IsWantKept want want
      same-want None = refl
      same-want (Some want) = inr (want.marked, refl)

  keeps-evict : (node line : ℕ) (kind : EvictKind) (room : Bool) → Keeps node none_off (evict_line sizes node (share node) line kind room)
  unfolding project
  keeps-evict node line kind room = go (evict node (home_of sizes line) kind (line_share sizes (share node) line)) refl
    where
      go : (r : Result Outcome Cause) → evict node (home_of sizes line) kind (line_share sizes (share node) line) ≡ r →
          Keeps node none_off (bind r (λ outcome. cond (departs (node == home_of sizes line) kind && not room) (Err LaneGate) (Ok (by_row sizes node (share node) line outcome))))
      go (Err c) e = keeps-error node none_off c
      go (Ok o) e =
          let same = own-ok sizes state node line (evict node (home_of sizes line) kind) (λ apart s h. away-evict node (home_of sizes line) apart s h kind) o e in
          let x : Outcome = same.0 in
          if-either (Keeps node none_off) (departs (node == home_of sizes line) kind && not room) _ _
          (λ _. keeps-error node none_off _)
          (λ _. keeps-quiet node line o x same.2 (good-evict (home_of sizes line) (line_at_all line) (sound.lines line) node kind x same.1) (evict-quiet (share_at sizes state node line) x node (home_of sizes line) kind same.1))

  keeps-reclaim : (line : ℕ) → Keeps (home_of sizes line) none_off (map_ok (by_row sizes (home_of sizes line) (share (home_of sizes line)) line) (reclaim (room_of charge sizes (share (home_of sizes line))) (line_share sizes (share (home_of sizes line)) line)))
  unfolding project
  keeps-reclaim line = go (reclaim (room_of charge sizes (share (home_of sizes line))) (line_share sizes (share (home_of sizes line)) line)) refl
    where
      go : (r : Result Outcome Cause) → reclaim (room_of charge sizes (share (home_of sizes line))) (line_share sizes (share (home_of sizes line)) line) ≡ r → Keeps (home_of sizes line) none_off (map_ok (by_row sizes (home_of sizes line) (share (home_of sizes line)) line) r)
      go (Err c) e = keeps-error (home_of sizes line) none_off c
      go (Ok o) e =
          keeps-quiet (home_of sizes line) line o o (o.share.header, refl, λ t. refl)
          (good-reclaim (home_of sizes line) (line_at_all line) (sound.lines line) (room_of charge sizes (share (home_of sizes line))) o e)
          (reclaim-quiet (share_at sizes state (home_of sizes line) line) o (room_of charge sizes (share (home_of sizes line))) e)

  -- a message that a node takes by its own share
  pub message-own : (src dst line : ℕ) (content : Content) → IsOwn sizes dst line (on_message dst (home_of sizes line) src (is_set_empty sizes (share dst) line) (room_of charge sizes (share dst)) content (line_share sizes (share dst) line))
      (on_message dst (home_of sizes line) src (is_empty (copy_of (share dst) line)) (room_of charge sizes (share dst)) content (share_at sizes state dst line))
  unfolding project on_message
  message-own src dst line content =
      subst (λ c. IsOwn sizes dst line (on_message dst (home_of sizes line) src (is_set_empty sizes (share dst) line) (room_of charge sizes (share dst)) content (line_share sizes (share dst) line)) (cond c (row_of dst (home_of sizes line) src (room_of charge sizes (share dst)) content (share_at sizes state dst line)) (sending (share_at sizes state dst line) no_message)))
      (same-alone dst (home_of sizes line) src (room_of charge sizes (share dst)) (share_at sizes state dst line) (is_set_empty sizes (share dst) line) (λ op marked wants. waits op marked wants) content)
      (own-row sizes state dst line (on_message dst (home_of sizes line) src (is_set_empty sizes (share dst) line) (room_of charge sizes (share dst)) content) (λ apart s h. away-message dst (home_of sizes line) apart s h src (is_set_empty sizes (share dst) line) (room_of charge sizes (share dst)) content))
    where
      waits : (op : Op) (marked : Bool) → want_on sizes (share dst).want line ≡ wanting op marked → is_set_empty sizes (share dst) line ≡ is_empty (copy_of (share dst) line)
      waits op marked wants =
          let empty : copy_of (share dst) line ≡ Absent = wants-empty (home_of sizes line) (line_at_all line) (sound.lines line) dst op marked wants in
          waits-alone sizes (share dst) line op marked (sound.cached dst) wants empty ∙ sym (ap is_empty empty)

  keeps-message : (src dst : ℕ) (class : Class) (m : Msg) (rest : List Msg) → state.lane src dst class ≡ m ∷ rest →
      IsSound trace (past_after sizes past (record { node = dst; out = by_row sizes dst (share dst) (msg_line m) (taking charge sizes dst (share dst) src m); off = one_off src dst class }))
  keeps-message src dst class m rest front =
      subst (IsSound trace) (sym (own-past trace past dst (msg_line m) _ _ (one_off src dst class) (taken_of src dst class rest state.lane) (message-own src dst (msg_line m) (msg_content m)) (one-dropped state src dst class m rest front)))
      (sound-take trace positive past sound src dst class m rest (room_of charge sizes (share dst)) front)

  keeps-take : (src dst : ℕ) (class : Class) (victim : Option ℕ) (m : Msg) (rest : List Msg) → state.lane src dst class ≡ m ∷ rest → Keeps dst (one_off src dst class) (take_from charge sizes dst (share dst) src m victim)
  keeps-take src dst class victim m rest front = with (asks_victim charge sizes dst (share dst) src m) refl victim
    where
      off : Off
      off = one_off src dst class

      row : NodeOutcome
      row = by_row sizes dst (share dst) (msg_line m) (taking charge sizes dst (share dst) src m)

      one : IsSound trace (past_after trace.sizes past (record { node = dst; out = row; off = off }))
      one = keeps-message src dst class m rest front

      stays : asks_victim charge sizes dst (share dst) src m ≡ true → (taking charge sizes dst (share dst) src m).share ≡ line_share sizes (share dst) (msg_line m)
      stays w =
          let want = last_two_parts (meets_row sizes dst (share dst) src m) (is_get (msg_content m)) (wants_victim (room_of charge sizes (share dst)) src (line_share sizes (share dst) (msg_line m)).header) w in
          refuses dst (home_of sizes (msg_line m)) src (is_set_empty sizes (share dst) (msg_line m)) (room_of charge sizes (share dst)) (msg_content m) (line_share sizes (share dst) (msg_line m)) want.0 want.1

      victims : (g : ℕ) → asks_victim charge sizes dst (share dst) src m ≡ true → fits_victim charge sizes dst (share dst) g ≡ true → IsSound trace (past_after trace.sizes past (record { node = dst; out = and_call sizes dst g row; off = off }))
      victims g w fit =
          let next : Past = past_after trace.sizes past (record { node = dst; out = row; off = off }) in
          let fits = parts_but_last (home_of sizes g == dst) (holds_link (room_of charge sizes (share dst)) (header_of sizes (share dst) g)) (is_pending (header_of sizes (share dst) g)) fit in
          let same : dst ≡ home_of sizes g = home-is g fits.0 in
          let share_is : next.state.share dst ≡ row.share = ap (λ c. cond c row.share (share dst)) (eqb-self dst) in
          let header : header_of sizes (next.state.share (home_of sizes g)) g ≡ header_of sizes (share dst) g =
          ap (λ k. header_of sizes (next.state.share k) g) (sym same) ∙ ap (λ p. header_of sizes p g) share_is ∙ header-kept sizes (dst == home_of sizes (msg_line m)) (msg_line m) (taking charge sizes dst (share dst) src m).done (taking charge sizes dst (share dst) src m).share (share dst) (stays w) g in
          let called = sound-called trace positive next one dst g (room_of charge sizes (share dst)) same (ap (holds_link (room_of charge sizes (share dst))) header ∙ fits.1) (ap is_pending header ∙ fits.2) in
          subst (IsSound trace) (sym (call-past trace past dst g row off))
          (subst (IsSound trace) (sym (own-past trace next dst g _ _ none_off next.state.lane (at-home next g same) (none-dropped next.state))) (subst (λ s. IsSound trace (record { state = (row_past sizes next dst g (call_in (share_at sizes next.state dst g)) next.state.lane).state; served = s })) (sym (append-nil next.served)) called))
        where
          home-is : (g : ℕ) → (home_of sizes g == dst) ≡ true → dst ≡ home_of sizes g
          home-is g e = grind (arith, nat_tests)

          at-home : (next : Past) (g : ℕ) → dst ≡ home_of sizes g → IsOwn sizes dst g (call_in (line_share sizes (next.state.share dst) g)) (call_in (share_at sizes next.state dst g))
          at-home next g same = ((call_in (share_at sizes next.state dst g)).share.header, ap (λ k. call_in (record (share_at sizes next.state dst g) { header = header_of sizes (next.state.share k) g })) same, λ t. refl)

      with : (b : Bool) → asks_victim charge sizes dst (share dst) src m ≡ b → (victim : Option ℕ) → Keeps dst off (with_victim charge sizes dst (share dst) b victim row)
      with true w None = keeps-error dst off _
      with false w None = keeps-ok dst off row one
      with false w (Some g) = keeps-error dst off _
      with true w (Some g) = if-either (Keeps dst off) (fits_victim charge sizes dst (share dst) g) _ _ (λ fit. keeps-ok dst off (and_call sizes dst g row) (victims g w fit)) (λ _. keeps-error dst off _)

  keeps-local : (node : ℕ) (input : Input) → ((src : ℕ) (m : Msg) (victim : Option ℕ) → input ≡ TakeFrom src m victim → ⊥) → ((line : ℕ) → input ≡ ReclaimLine line → node ≡ home_of sizes line) → Keeps node none_off (local charge sizes node (program trace node) (share node) input)
  unfolding local
  keeps-local node HitNext apart home = keeps-next node (hit_next sizes node (share node)) (keeps-hit node)
  keeps-local node IssueNext apart home = keeps-next node (issue_next charge sizes node (share node)) (keeps-issue node)
  keeps-local node (EvictLine line kind room) apart home = keeps-evict node line kind room
  keeps-local node (TakeFrom src m victim) apart home = absurd (apart src m victim refl)
  keeps-local node (ReclaimLine line) apart home = subst (λ n. Keeps n none_off (map_ok (by_row sizes n (share n) line) (reclaim (room_of charge sizes (share n)) (line_share sizes (share n) line)))) (sym (home line refl)) (keeps-reclaim line)

  abbrev Holds : Result Done Cause → Type 0
  Holds r = (d : Done) → r ≡ Ok d → IsSound trace (past_after trace.sizes past d)

  acts : (node : ℕ) (off : Off) (r : Result NodeOutcome Cause) → Keeps node off r → Holds (act node off r)
  acts node off (Ok o) keeps d e = let is : ◌≡◌ {A = Done} (record { node = node; out = o; off = off }) d = cc in subst (λ y. IsSound trace (past_after trace.sizes past y)) is (keeps o refl)
  acts node off (Err c) keeps d e = absurd (let n : ◌≡◌ {A = Result Done Cause} (Err c) (Ok d) = e in cc)

  fronts : (src dst : ℕ) (class : Class) (victim : Option ℕ) (messages : List Msg) → state.lane src dst class ≡ messages → Holds (take_front charge sizes (program trace) state src dst class victim messages)
  unfolding local
  fronts src dst class victim [] front = λ d e. absurd (let n : ◌≡◌ {A = Result Done Cause} (Err LaneEmpty) (Ok d) = e in cc)
  fronts src dst class victim (m ∷ rest) front = acts dst (one_off src dst class) (take_from charge sizes dst (share dst) src m victim) (keeps-take src dst class victim m rest front)

  pub keeps-event : (event : Event) → Holds (effect charge sizes (program trace) state event)
  keeps-event (Hit node) = acts node none_off _ (keeps-local node HitNext (λ src m victim e. cc) (λ l e. cc))
  keeps-event (Issue node) = acts node none_off _ (keeps-local node IssueNext (λ src m victim e. cc) (λ l e. cc))
  keeps-event (Evict node line kind) = acts node none_off _ (keeps-local node (EvictLine line kind (has_room sizes (state.lane node (home_of sizes line) Request))) (λ src m victim e. cc) (λ l e. cc))
  keeps-event (Take src dst class victim) = fronts src dst class victim (state.lane src dst class) refl
  keeps-event (Reclaim line) = acts (home_of sizes line) none_off _ (keeps-local (home_of sizes line) (ReclaimLine line) (λ src m victim e. cc) (λ l e. let same : line ≡ l = cc in ap (home_of sizes) same))
