-- A message that is taken meets a row at its taker, and keeps what holds of the eager machine.
use Rattle.std.proofs.Common.{◌≡◌, ◌≢◌, ℕ, ◌<◌, Bool, true, false, cond, ◌==◌, not, inl, inr, List, ◌∷◌, drop, refl, arith, ap, sym, ◌∙◌, subst, Option, Some, None}
use Rattle.std.proofs.lemmas.Bool.Decides.{nat_tests}
use Rattle.line_map.specs.Sizes.{Sizes, home_of}
use Rattle.op_model.specs.Events.Node.{TakeFrom, by_row}
use Rattle.op_model.specs.Events.Step.{one_off}
use Rattle.op_model.specs.Lines.{For, LineShare, NoService, Outcome, Own, Room, Service, is_empty, sending, no_message, Absent}
use Rattle.op_model.specs.Messages.{Content, FAck, FwdGet, FwdGetX, Get, GetX, Inv, InvAck, Nak, Nakc, Put, PutX, Rpl, ShWb, Wb, msg_content, msg_line}
use Rattle.op_model.specs.Operations.{Words}
use Rattle.op_model.specs.Shares.{Share, Trace, Unlinked, copy_of, header_of, is_set_empty, line_share, room_of, share_at, want_on}
use Rattle.line_invariant.specs.Line.{taken}
use Rattle.line_invariant.specs.Rows.{IsServedFor, IsWantKept, wanting}
use Rattle.eager_model.specs.Types.{Class, Msg, Op, Want}
use Rattle.eager_model.specs.Ages.{LineAges, ages_taken, with_copy}
use Rattle.eager_model.specs.Good.{IsEagerGood}
use Rattle.eager_model.specs.Line.{AgedLine, ages_of, aged_row, taken_age}
use Rattle.eager_model.specs.Node.{aged, line_ages, meets_row, taking}
use Rattle.eager_model.specs.Rows.{meets, on_message, row_of}
use Rattle.eager_model.specs.Runs.{Past, past_after}
use Rattle.eager_model.specs.Served.{age_taken, IsServedAt}
use Rattle.eager_model.specs.Step.{first_age}
use Rattle.eager_model.proofs.Public.{any-aged, any-bare, any-done, any-front, any-local, any-served}
use Rattle.eager_model.proofs.Public.{any-take, any-writes, any_room, eager-alone, eager-empty, eager-want}
use Rattle.one_history.specs.Project.{of_line, project}
use Rattle.one_history.specs.Sound.{IsNextOp, answered_of}
use Rattle.one_history.proofs.Public.{IsNextWant, IsOwn, IsServedIn, at-home, begun-next, kept-fits}
use Rattle.one_history.proofs.Public.{of_line-front, one-dropped, own-row, taken_of, waits-alone, wanted}
use Rattle.eager_history.specs.Project.{plain_past, ages_on, aged_line}
use Rattle.eager_history.specs.Sound.{IsEagerSound}
use Rattle.eager_history.proofs.AgedProject.{with_lanes, project-aged-taken, project-aged-taken-other}
use Rattle.eager_history.proofs.Elsewhere.{away-meets, away-message}
use Rattle.eager_history.proofs.LaneAges.{left_ages, ages-front, paired-taken}
use Rattle.eager_history.proofs.OwnRows.{own-sound}

-- the copy that a message leaves has the age of the copy before, or of the message
pub taken-copy : (a b : Bool) (age : ℕ) (content : Content) (s t : LineShare) (x y : LineAges) → x.copy ≡ y.copy → (ages_taken a age content s x).copy ≡ (ages_taken b age content t y).copy
taken-copy a b age content s t x y e = left a s x content ∙ both content ∙ sym (left b t y content)
  where
    left_age : Content → ℕ → ℕ
    left_age (Put words) copy = age
    left_age (PutX words) copy = age
    left_age _ copy = copy

    both : (content : Content) → left_age content x.copy ≡ left_age content y.copy
    both content = ap (left_age content) e

    left : (b : Bool) (s : LineShare) (x : LineAges) (content : Content) → (ages_taken b age content s x).copy ≡ left_age content x.copy
    left b s x Get = stays _
      where
        stays : (c : Bool) → (cond c (record x { memory = x.copy }) x).copy ≡ x.copy
        stays true = refl
        stays false = refl
    left b s x GetX = refl
    left b s x (FwdGet r) = refl
    left b s x (FwdGetX r) = refl
    left b s x Inv = refl
    left b s x (Wb words) = refl
    left b s x Rpl = refl
    left b s x (Put words) = refl
    left b s x (PutX words) = refl
    left b s x (Nak cause) = refl
    left b s x InvAck = refl
    left b s x (ShWb words) = refl
    left b s x FAck = refl
    left b s x Nakc = refl

module _ (trace : Trace) (past : Past) (sound : IsEagerSound trace past) where
  abbrev sizes : Sizes
  sizes = trace.sizes

  abbrev share : ℕ → Share
  share node = past.state.share node

  abbrev line_at : ℕ → AgedLine
  line_at line = aged_line sizes past (sound.lines line).top line

  -- who waits for a line has neither a copy of it nor another line in its set
  waits : (node line : ℕ) (op : Op) (marked : Bool) → want_on sizes (share node).want line ≡ wanting op marked → is_set_empty sizes (share node) line ≡ is_empty (copy_of (share node) line)
  unfolding aged_line project
  waits node line op marked wants =
      let empty : copy_of (share node) line ≡ Absent = any-bare (home_of sizes line) (line_at line) (sound.lines line).good node op marked wants in
      waits-alone sizes (share node) line op marked (sound.cached node) wants empty ∙ sym (ap is_empty empty)

  -- a message meets a row by a node's own share exactly where it does by the whole machine
  pub own-meets : (src dst line : ℕ) (content : Content) → meets dst (home_of sizes line) src (is_set_empty sizes (share dst) line) content (line_share sizes (share dst) line) ≡ meets dst (home_of sizes line) src (is_empty (copy_of (share dst) line)) content (share_at sizes past.state dst line)
  own-meets src dst line content = go (dst == home_of sizes line) refl ∙ eager-alone dst (home_of sizes line) src (is_set_empty sizes (share dst) line) any_room (share_at sizes past.state dst line) (λ op marked wants. waits dst line op marked wants) content
    where
      go : (c : Bool) → (dst == home_of sizes line) ≡ c → meets dst (home_of sizes line) src (is_set_empty sizes (share dst) line) content (line_share sizes (share dst) line) ≡ meets dst (home_of sizes line) src (is_set_empty sizes (share dst) line) content (share_at sizes past.state dst line)
      go true e = ap (meets dst (home_of sizes line) src (is_set_empty sizes (share dst) line) content) (at-home sizes past.state dst line e)
      go false e = let apart : dst ≢ home_of sizes line = grind (arith, nat_tests) in away-meets dst (home_of sizes line) apart (share_at sizes past.state dst line) (header_of sizes (share dst) line) src (is_set_empty sizes (share dst) line) content

  -- the message at the front of a lane meets a row
  pub sound-meets : (src dst : ℕ) (class : Class) (m : Msg) (rest : List Msg) → past.state.lane src dst class ≡ m ∷ rest → meets_row sizes dst (share dst) src m ≡ true
  unfolding meets_row aged_line project
  sound-meets src dst class m rest front =
      own-meets src dst (msg_line m) (msg_content m)
      ∙ any-front (home_of sizes (msg_line m)) (line_at (msg_line m)) (sound.lines (msg_line m)).good src dst class (msg_content m) (of_line (msg_line m) rest) (ap (of_line (msg_line m)) front ∙ of_line-front m rest)

  message-own : (src dst line : ℕ) (content : Content) → IsOwn sizes dst line (on_message dst (home_of sizes line) src (is_set_empty sizes (share dst) line) (room_of Unlinked sizes (share dst)) content (line_share sizes (share dst) line))
      (on_message dst (home_of sizes line) src (is_empty (copy_of (share dst) line)) (room_of Unlinked sizes (share dst)) content (share_at sizes past.state dst line))
  unfolding on_message
  message-own src dst line content =
      subst (λ c. IsOwn sizes dst line (on_message dst (home_of sizes line) src (is_set_empty sizes (share dst) line) (room_of Unlinked sizes (share dst)) content (line_share sizes (share dst) line)) (cond c (row_of dst (home_of sizes line) src (room_of Unlinked sizes (share dst)) content (share_at sizes past.state dst line)) (sending (share_at sizes past.state dst line) no_message)))
      (eager-alone dst (home_of sizes line) src (is_set_empty sizes (share dst) line) any_room (share_at sizes past.state dst line) (λ op marked wants. waits dst line op marked wants) content)
      (own-row sizes past.state dst line (on_message dst (home_of sizes line) src (is_set_empty sizes (share dst) line) (room_of Unlinked sizes (share dst)) content) (λ apart s h. away-message dst (home_of sizes line) apart s h src (is_set_empty sizes (share dst) line) (room_of Unlinked sizes (share dst)) content))

  -- what a node wants of a line is its next operation
  next-of : (n line : ℕ) (op : Op) (marked : Bool) → want_on sizes (share n).want line ≡ wanting op marked → IsNextOp trace n (share n).place line op
  next-of n line op marked e = begun-next trace n (share n).place (share n).want line op marked (sound.ordered n).begun e

  served-in : (dst line : ℕ) (words : Words) (service : Service) → IsServedFor (λ n. want_on sizes (share n).want line) (answered_of sizes (plain_past past) line) dst words service → IsServedIn trace (plain_past past) dst line words service
  unfolding aged_line project
  served-in dst line words NoService h = tt
  served-in dst line words (Own op on) h =
      (h.0, next-of dst line op h.1.0 h.1.1, inr (wanted sizes (share dst).want line op h.1.0 h.1.1).0, any-writes (home_of sizes line) (line_at line) (sound.lines line).good dst op h.1.0 h.1.1 h.2)
  served-in dst line words (For node on) h = (h.0, h.1, h.2, h.3)

  kept-in : (dst line : ℕ) (next : Option Want) → IsWantKept (want_on sizes (share dst).want line) next → IsNextWant trace dst (share dst).place line next
  kept-in dst line next h = go (want_on sizes (share dst).want line) refl h
    where
      go : (want : Option Want) → want_on sizes (share dst).want line ≡ want → IsWantKept want next → IsNextWant trace dst (share dst).place line next
      go None e k = rw k tt
      go (Some want) e (inl k) = rw k tt
      go (Some want) e (inr k) = rw k.1 (next-of dst line want.op want.marked e)

module _ (trace : Trace) (positive : 0 < trace.sizes.words) (past : Past) (sound : IsEagerSound trace past) (src dst : ℕ) (class : Class) (m : Msg) (rest : List Msg) (front : past.state.lane src dst class ≡ m ∷ rest) where
  abbrev line : ℕ
  line = msg_line m

  abbrev home : ℕ
  home = home_of trace.sizes line

  abbrev before : AgedLine
  before = aged_line trace.sizes past (sound.lines line).top line

  abbrev good : IsEagerGood home before
  good = (sound.lines line).good

  abbrev at : ℕ
  at = first_age (past.ages.lane src dst class)

  abbrev behind : List ℕ
  behind = ages_on line rest (drop 1 (past.ages.lane src dst class))

  abbrev room : Room
  room = room_of Unlinked trace.sizes (past.state.share dst)

  abbrev whole : LineShare
  whole = share_at trace.sizes past.state dst line

  abbrev outcome : Outcome
  outcome = on_message dst home src (is_empty (copy_of (past.state.share dst) line)) room (msg_content m) whole

  -- the ages of the line where the message is taken
  abbrev by : LineAges
  by = cond (meets dst home src (is_empty (copy_of (past.state.share dst) line)) (msg_content m) whole) (ages_taken (dst == home) at (msg_content m) whole (ages_of before dst)) (ages_of before dst)

  abbrev mine : LineAges
  mine =
      cond (meets dst home src (is_set_empty trace.sizes (past.state.share dst) line) (msg_content m) (line_share trace.sizes (past.state.share dst) line))
      (ages_taken (dst == home) at (msg_content m) (line_share trace.sizes (past.state.share dst) line) (line_ages (past.ages.node dst) line)) (line_ages (past.ages.node dst) line)

  here : of_line line (past.state.lane src dst class) ≡ msg_content m ∷ of_line line rest
  here = ap (of_line line) front ∙ of_line-front m rest

  first : ages_on line (past.state.lane src dst class) (past.ages.lane src dst class) ≡ at ∷ behind
  first = ap (λ ms. ages_on line ms (past.ages.lane src dst class)) front ∙ ages-front m rest (past.ages.lane src dst class)

  met : meets dst home src (is_set_empty trace.sizes (past.state.share dst) line) (msg_content m) (line_share trace.sizes (past.state.share dst) line) ≡ meets dst home src (is_empty (copy_of (past.state.share dst) line)) (msg_content m) whole
  met = own-meets trace past sound src dst line (msg_content m)

  same-copy : by.copy ≡ mine.copy
  unfolding aged_line project
  same-copy = go (meets dst home src (is_empty (copy_of (past.state.share dst) line)) (msg_content m) whole) ∙ ap (λ c. (cond c (ages_taken (dst == home) at (msg_content m) (line_share trace.sizes (past.state.share dst) line) (line_ages (past.ages.node dst) line)) (line_ages (past.ages.node dst) line)).copy) (sym met)
    where
      go : (c : Bool) → (cond c (ages_taken (dst == home) at (msg_content m) whole (ages_of before dst)) (ages_of before dst)).copy
          ≡ (cond c (ages_taken (dst == home) at (msg_content m) (line_share trace.sizes (past.state.share dst) line) (line_ages (past.ages.node dst) line)) (line_ages (past.ages.node dst) line)).copy
      go true = taken-copy (dst == home) (dst == home) at (msg_content m) whole _ (ages_of before dst) _ refl
      go false = refl

  same-memory : (dst == home) ≡ true → by.memory ≡ mine.memory
  unfolding aged_line project
  same-memory e =
      let is : home ≡ dst = grind (arith, nat_tests) in
      (λ i. (cond (sym met i) (ages_taken (dst == home) at (msg_content m) (sym (at-home trace.sizes past.state dst line e) i) (record { copy = (past.ages.node dst).copy line; memory = (past.ages.node (is i)).memory line })) (record { copy = (past.ages.node dst).copy line; memory = (past.ages.node (is i)).memory line })).memory)

  kept : IsWantKept (want_on trace.sizes (past.state.share dst).want line) outcome.share.want
  kept = eager-want dst home src (is_empty (copy_of (past.state.share dst) line)) room whole (msg_content m)

  abbrev left : AgedLine
  left = aged_line trace.sizes (with_lanes past (taken_of src dst class rest past.state.lane) (left_ages src dst class past.ages.lane)) (sound.lines line).top line

  taken-line : left ≡ record before { line = record before.line { lane = taken src dst class (of_line line rest) before.line.lane }; lane_age = taken_age src dst class behind before.lane_age }
  taken-line = project-aged-taken trace.sizes past src dst class rest (sound.lines line).top line

  pub keeps-message : IsEagerSound trace (past_after trace.sizes past (record { node = dst; off = one_off src dst class; did = aged trace.sizes dst (past.state.share dst) (past.ages.node dst) (TakeFrom src m None) at (by_row trace.sizes dst (past.state.share dst) line (taking trace.sizes dst (past.state.share dst) src m)) }))
  unfolding meets_row aged_line project
  keeps-message =
      own-sound trace positive past sound dst line (taking trace.sizes dst (past.state.share dst) src m) outcome (one_off src dst class) (taken_of src dst class rest past.state.lane)
      (message-own trace past sound src dst line (msg_content m)) (TakeFrom src m None) at by before.line.words
      same-copy same-memory (one-dropped past.state src dst class m rest front)
      (served-in trace past sound dst line before.line.words outcome.served (any-served home before good src dst class (msg_content m) (of_line line rest) here room))
      (any-done home before good src dst class (msg_content m) (of_line line rest) here room)
      (kept-in trace past sound dst line outcome.share.want kept)
      (inl (λ empty none. (eager-empty dst home src (is_empty (copy_of (past.state.share dst) line)) room whole empty none (λ same. any-local home before good ∙ ap (λ k. not (is_empty (copy_of (past.state.share k) line))) (sym same)) (msg_content m), kept-fits _ _ kept none)))
      (inr (kept-fits _ _ kept))
      (paired-taken past.state.lane past.ages.lane src dst class rest m front sound.paired)
      (λ at q other. project-aged-taken-other trace.sizes past src dst class rest at m front q other)
      (subst (λ l. IsServedAt before (aged_row home dst outcome (with_copy outcome.share.copy by) l).top dst (age_taken home src dst (msg_content m) at room before) outcome.served) (sym taken-line)
      (any-aged home before good src dst class (msg_content m) (of_line line rest) here room at behind first))
      (subst (λ l. IsEagerGood home (aged_row home dst outcome (with_copy outcome.share.copy by) l)) (sym taken-line) (any-take home before good src dst class (msg_content m) (of_line line rest) here room at behind first))
