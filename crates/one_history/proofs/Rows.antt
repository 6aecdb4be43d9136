-- A message that is taken, a row that takes none, and a line that is called in keep what holds of the machine: each keeps what holds
-- of its line, and serves and leaves begun what is next at its node.
use Rattle.std.proofs.Common.{◌≡◌, ◌≢◌, ℕ, ◌<◌, Bool, true, false, not, ◌⊎◌, inl, inr, List, ◌∷◌, append-nil, refl, ap, sym, ◌∙◌, subst, Option, Some, None}
use Rattle.line_map.specs.Sizes.{Sizes, home_of}
use Rattle.op_model.specs.declared.events.Class.{Class}
use Rattle.op_model.specs.declared.messages.Msg.{Msg}
use Rattle.op_model.specs.declared.operations.Op.{Op}
use Rattle.op_model.specs.declared.state.Want.{Want}
use Rattle.op_model.specs.Lines.{For, NoService, Outcome, Own, Room, Service, is_empty, is_pending}
use Rattle.op_model.specs.Messages.{Content, FAck, FwdGet, FwdGetX, Get, GetX, Inv, InvAck, Nak, Nakc, Put, PutX, Rpl, ShWb, Wb, msg_content, msg_line}
use Rattle.op_model.specs.Operations.{Words}
use Rattle.op_model.specs.Run.Runs.{Past}
use Rattle.op_model.specs.Shares.{State, Trace, copy_of, header_of, share_at, want_on}
use Rattle.op_model.specs.Tables.Processor.{call_in, holds_link}
use Rattle.op_model.specs.Tables.Remote.{on_message}
use Rattle.line_invariant.specs.Good.{IsGood}
use Rattle.line_invariant.specs.Line.{Line, after_row}
use Rattle.line_invariant.specs.Rows.{IsDoneRight, IsPut, IsServedFor, IsWantKept, wanting}
use Rattle.line_invariant.proofs.Public.{done-right, good-call-in, good-take, keeps-want, linked-clean}
use Rattle.line_invariant.proofs.Public.{put-answered, served-take, stays-empty, writes-answered}
use Rattle.one_history.specs.Project.{line_words, of_line, project}
use Rattle.one_history.specs.Sound.{IsNextOp, IsSound, answered_of}
use Rattle.one_history.proofs.Order.{IsNextWant, begun-next, wanted}
use Rattle.one_history.proofs.Project.{project-taken, project-taken-other}
use Rattle.one_history.proofs.Sets.{IsRoomFor}
use Rattle.one_history.proofs.Shares.{after_row_of, of_line-front, row_past, taken_of}
use Rattle.one_history.proofs.Nodes.{IsServedIn}
use Rattle.one_history.proofs.Sound.{sound-row}

-- nothing is begun where nothing was
pub kept-fits : (want next : Option Want) → IsWantKept want next → want ≡ None → next ≡ None
kept-fits None next h e = h
kept-fits (Some want) next h e = absurd (let d : Some want ≡ None = e in cc)

module _ (trace : Trace) (positive : 0 < trace.sizes.words) (past : Past) (sound : IsSound trace past) where
  abbrev sizes : Sizes
  sizes = trace.sizes

  abbrev state : State
  state = past.state

  abbrev line_at_all : ℕ → Line
  line_at_all line = project sizes state (line_words sizes past.served line) (answered_of sizes past line) line

  -- what a node wants of a line is its next operation
  next-of : (n line : ℕ) (op : Op) (marked : Bool) → want_on sizes (state.share n).want line ≡ wanting op marked → IsNextOp trace n (state.share n).place line op
  next-of n line op marked e = begun-next trace n (state.share n).place (state.share n).want line op marked (sound.ordered n).begun e

  -- what a message serves is in its line
  served-in : (dst line : ℕ) (service : Service) → IsServedFor (λ n. want_on sizes (state.share n).want line) (answered_of sizes past line) dst (line_words sizes past.served line) service → IsServedIn trace past dst line (line_words sizes past.served line) service
  unfolding project
  served-in dst line NoService h = tt
  served-in dst line (Own op on) h = (h.0, next-of dst line op h.1.0 h.1.1, inr (wanted sizes (state.share dst).want line op h.1.0 h.1.1).0, writes-answered (home_of sizes line) (line_at_all line) (sound.lines line) dst op h.1.0 h.1.1 h.2)
  served-in dst line (For node on) h = (h.0, h.1, h.2, h.3)

  pub kept-in : (dst line : ℕ) (next : Option Want) → IsWantKept (want_on sizes (state.share dst).want line) next → IsNextWant trace dst (state.share dst).place line next
  kept-in dst line next h = go (want_on sizes (state.share dst).want line) refl h
    where
      go : (want : Option Want) → want_on sizes (state.share dst).want line ≡ want → IsWantKept want next → IsNextWant trace dst (state.share dst).place line next
      go None e k = rw k tt
      go (Some want) e (inl k) = rw k tt
      go (Some want) e (inr k) = rw k.1 (next-of dst line want.op want.marked e)

  -- a message is taken
  pub sound-take : (src dst : ℕ) (class : Class) (m : Msg) (rest : List Msg) (room : Room) → state.lane src dst class ≡ m ∷ rest →
      IsSound trace (row_past sizes past dst (msg_line m) (on_message dst (home_of sizes (msg_line m)) src (is_empty (copy_of (state.share dst) (msg_line m))) room (msg_content m) (share_at sizes state dst (msg_line m))) (taken_of src dst class rest state.lane))
  unfolding project
  sound-take src dst class m rest room front = takes (msg_line m) (msg_content m) (ap (of_line (msg_line m)) front ∙ of_line-front m rest) (λ q words marks other. project-taken-other sizes state words marks src dst class rest m front q other)
    where
      puts : (line : ℕ) (content : Content) → of_line line (state.lane src dst class) ≡ content ∷ of_line line rest → IsPut content → answered_of sizes past line dst ≡ true
      puts line (Put words) front k = put-answered (home_of sizes line) (line_at_all line) (sound.lines line) src (of_line line rest) dst class words front
      puts line Get front k = absurd k
      puts line GetX front k = absurd k
      puts line (FwdGet r) front k = absurd k
      puts line (FwdGetX r) front k = absurd k
      puts line Inv front k = absurd k
      puts line (Wb words) front k = absurd k
      puts line Rpl front k = absurd k
      puts line (PutX words) front k = absurd k
      puts line (Nak cause) front k = absurd k
      puts line InvAck front k = absurd k
      puts line (ShWb words) front k = absurd k
      puts line FAck front k = absurd k
      puts line Nakc front k = absurd k

      takes : (line : ℕ) (content : Content) → of_line line (state.lane src dst class) ≡ content ∷ of_line line rest →
          ((q : ℕ) (words : Words) (marks : ℕ → Bool) → q ≢ line → project sizes (record state { lane = taken_of src dst class rest state.lane }) words marks q ≡ project sizes state words marks q) →
          IsSound trace (row_past sizes past dst line (on_message dst (home_of sizes line) src (is_empty (copy_of (state.share dst) line)) room content (share_at sizes state dst line)) (taken_of src dst class rest state.lane))
      takes line content front' others =
          let home : ℕ = home_of sizes line in
          let it : IsGood home (line_at_all line) = sound.lines line in
          let kept : IsWantKept (want_on sizes (state.share dst).want line) (on_message dst home src (is_empty (copy_of (state.share dst) line)) room content (share_at sizes state dst line)).share.want = keeps-want dst home src (is_empty (copy_of (state.share dst) line)) room (share_at sizes state dst line) content in
          let words : Words = line_words sizes past.served line in
          sound-row trace positive past sound dst line (on_message dst home src (is_empty (copy_of (state.share dst) line)) room content (share_at sizes state dst line)) (taken_of src dst class rest state.lane)
          (served-in dst line _ (served-take home (line_at_all line) it src (of_line line rest) room dst class content front'))
          (done-right dst home src (is_empty (copy_of (state.share dst) line)) room (share_at sizes state dst line) (answered_of sizes past line dst ≡ true) content (puts line content front'))
          (kept-in dst line _ kept)
          (inl (λ empty none. (stays-empty dst home src (is_empty (copy_of (state.share dst) line)) room (share_at sizes state dst line) empty none (λ same. it.local ∙ ap (λ k. not (is_empty (copy_of (state.share k) line))) (sym same)) content, kept-fits _ _ kept none)))
          (inr (kept-fits _ _ kept))
          others
          (subst (λ l. IsGood home (after_row home dst (on_message dst home src (is_empty (copy_of (state.share dst) line)) room content (share_at sizes state dst line)) l)) (sym (project-taken sizes state words (answered_of sizes past line) src dst class rest line))
          (good-take home (line_at_all line) it src (of_line line rest) room dst class content front'))

  -- a row that takes no message
  pub sound-local : (node line : ℕ) (outcome : Outcome) → IsGood (home_of sizes line) (after_row (home_of sizes line) node outcome (line_at_all line)) →
      IsServedIn trace past node line (line_words sizes past.served line) outcome.served → IsDoneRight (answered_of sizes past line node ≡ true) outcome.served outcome.done outcome.share.want →
      IsNextWant trace node (state.share node).place line outcome.share.want → IsRoomFor sizes (state.share node) line outcome.share →
      ((state.share node).want ≡ None) ⊎ (want_on sizes (state.share node).want line ≡ None → outcome.share.want ≡ None) →
      IsSound trace (row_past sizes past node line outcome state.lane)
  sound-local node line outcome good served right begins room fits = sound-row trace positive past sound node line outcome state.lane served right begins room fits (λ q words marks other. refl) good

  -- a line is called in
  pub sound-called : (dst g : ℕ) (room : Room) → dst ≡ home_of sizes g → holds_link room (header_of sizes (state.share (home_of sizes g)) g) ≡ true → is_pending (header_of sizes (state.share (home_of sizes g)) g) ≡ false →
      IsSound trace (record { state = after_row_of sizes dst g (call_in (share_at sizes state dst g)) state; served = past.served })
  unfolding project
  sound-called dst g room here linked idle =
      let it : IsGood (home_of sizes g) (line_at_all g) = sound.lines g in
      let clean = linked-clean (home_of sizes g) it.phase (line_words sizes past.served g) (header_of sizes (state.share (home_of sizes g)) g) (copy_of (state.share (home_of sizes g)) g) room it.header idle linked in
      subst (λ served. IsSound trace (record { state = after_row_of sizes dst g (call_in (share_at sizes state dst g)) state; served = served })) (append-nil past.served)
      (sound-row trace positive past sound dst g (call_in (share_at sizes state dst g)) state.lane tt tt (kept-in dst g (want_on sizes (state.share dst).want g) (kept-same (want_on sizes (state.share dst).want g))) (inl (λ empty none. (empty, none))) (inr (λ e. e))
      (λ q words marks other. refl)
      (subst (λ t. IsGood (home_of sizes g) (after_row (home_of sizes g) t (call_in (share_at sizes state t g)) (line_at_all g))) (sym here) (good-call-in (home_of sizes g) (line_at_all g) it clean.0 clean.1)))
    where
      kept-same : (want : Option Want) → IsWantKept want want
      kept-same None = refl
      kept-same (Some want) = inr (want.marked, refl)
