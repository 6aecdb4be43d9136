-- Whatever a node does by itself, and each message that it takes, keeps what holds of its share.
use Rattle.std.proofs.Common.{◌≡◌, ◌≢◌, inl, inr, ℕ, Bool, true, false, cond, nat_le, ◌==◌, ◌&&◌, not, slice_get, List, refl, sym, ap, subst, ◌∙◌, Option, Some, None, Result, Ok, Err}
use Rattle.std.proofs.lemmas.Bool.{not-false}
use Rattle.line_map.specs.Sizes.{Sizes, home_of, line_of, set_of}
use Rattle.op_model.specs.declared.events.Cause.{Cause}
use Rattle.op_model.specs.declared.events.Cause.TheVariants.{LaneGate}
use Rattle.op_model.specs.declared.events.EvictKind.{EvictKind}
use Rattle.op_model.specs.declared.messages.Msg.{Msg}
use Rattle.op_model.specs.declared.operations.Op.{Op}
use Rattle.op_model.specs.Events.Node.{EvictLine, HitNext, Input, IssueNext, NodeOutcome, ReclaimLine, TakeFrom, and_call, asks_victim, bind, by_row, departs, evict_line, fits_victim, hit_next, is_get, is_outstanding, issue_next, local, map_ok, meets_row, take_from, taking, with_next, with_victim}
use Rattle.op_model.specs.Lines.{LineShare, Outcome, Room, is_empty, is_pending}
use Rattle.op_model.specs.Messages.{msg_content, msg_line}
use Rattle.op_model.specs.OwnPart.{IsOwnLine, IsOwnPart}
use Rattle.op_model.specs.Shares.{Charge, Share, conflicts, copy_of, header_of, is_set_empty, line_share, pending_lines, room_of, want_on}
use Rattle.op_model.specs.Tables.Home.{wants_victim}
use Rattle.op_model.specs.Tables.Processor.{begin_op, call_in, evict, hit, holds_link, reclaim, serves}
use Rattle.op_model.proofs.Public.{err-ok, free-want, last_two_parts, parts_but_last, serves-copy}
use Rattle.line_invariant.proofs.Public.{if-either}
use Rattle.one_history.proofs.Public.{header-kept, none-conflicts, refuses}
use Rattle.lane_bounds.proofs.Public.{IsAllowed, begin-allowed, call-allowed, evict-allowed, held-within}
use Rattle.lane_bounds.proofs.Public.{hit-allowed, links-bound, message-allowed, not-full, pending-stays}
use Rattle.lane_bounds.proofs.Public.{within-held}
use Rattle.own_part.proofs.BegunRows.{begun-row, effect-row, free-row, quiet-row}
use Rattle.own_part.proofs.OwnRows.{begin-keeps, call-keeps, call-quiet, evict-keeps, hit-keeps}
use Rattle.own_part.proofs.ShareRows.{IsPartOf}
use Rattle.own_part.proofs.TakeRows.{message-keeps}

module _ (charge : Charge) (sizes : Sizes) (node : ℕ) (program : List Op) (share : Share) (own : IsOwnPart charge sizes node program share) where
  abbrev Keeps : Result NodeOutcome Cause → Type 0
  Keeps r = (out : NodeOutcome) → r ≡ Ok out → IsOwnPart charge sizes node program out.share

  keeps-error : (c : Cause) → Keeps (Err c)
  keeps-error c out e = absurd (err-ok c out e)

  keeps-ok : (x : NodeOutcome) → IsOwnPart charge sizes node program x.share → Keeps (Ok x)
  keeps-ok x k out e = let is : x ≡ out = cc in subst (λ y. IsOwnPart charge sizes node program y.share) is k

  abbrev room : Room
  room = room_of charge sizes share

  abbrev at : ℕ → LineShare
  at line = line_share sizes share line

  -- what holds of a line at its home
  own-line : (line : ℕ) → node ≡ home_of sizes line → IsOwnLine (home_of sizes line) (at line)
  own-line line here = subst (λ k. IsOwnLine k (at line)) here (own.lines line (sym here))

  none-on : (line : ℕ) → share.want ≡ None → want_on sizes share.want line ≡ None
  none-on line free = ap (λ w. want_on sizes w line) free

  away : (line : ℕ) → conflicts sizes share line ≡ false → (b : ℕ) → b ≢ line → set_of sizes b ≡ set_of sizes line → is_empty (copy_of share b) ≡ true
  away line free b other same = none-conflicts sizes share line b free other same

  part : IsPartOf IsOwnLine sizes node program share
  part = record { outstanding = own.outstanding; lines = own.lines; pending = own.pending; sets = own.sets; headers = own.headers }

  -- a row takes links only where some are free
  with-links : (line : ℕ) (o : Outcome) → ((node == home_of sizes line) ≡ true → IsAllowed room (header_of sizes share line) o.share.header) →
      (((node == home_of sizes line) ≡ true → IsAllowed room (header_of sizes share line) o.share.header) → IsPartOf IsOwnLine sizes node program (by_row sizes node share line o).share) → IsOwnPart charge sizes node program (by_row sizes node share line o).share
  with-links line o allowed row =
      let next = (by_row sizes node share line o).share in
      let kept = row allowed in
      record {
        outstanding = kept.outstanding;
        lines = kept.lines;
        pending = kept.pending;
        links = held-within charge next sizes.links (λ linked. links-bound charge sizes share (node == home_of sizes line) line o.done o.share allowed linked (within-held charge share sizes.links own.links linked));
        sets = kept.sets;
        headers = kept.headers;
      }

  -- a hit
  hits : (line : ℕ) (op : Op) → share.want ≡ None → serves op (copy_of share line) ≡ true → IsOwnPart charge sizes node program (by_row sizes node share line (hit op (at line))).share
  unfolding hit
  hits line op free serve =
      with-links line (hit op (at line)) (λ _. hit-allowed room (at line) op)
      (λ allowed. free-row IsOwnLine charge sizes node program share part line (hit op (at line)) (λ here. hit-keeps (home_of sizes line) op (at line) (own-line line here)) allowed
      free (none-on line free) (inl (λ none. absurd (serves-copy op (copy_of share line) serve none))))

  keeps-hit : (next : Op) → share.want ≡ None → Keeps (hit_next sizes node share next)
  keeps-hit next free = if-either Keeps (serves next (copy_of share (line_of sizes next.word))) _ _ (λ serve. keeps-ok _ (hits (line_of sizes next.word) next free serve)) (λ _. keeps-error _)

  -- a beginning
  begins : (line : ℕ) (op : Op) → slice_get program share.place ≡ Some op → line_of sizes op.word ≡ line → share.want ≡ None → conflicts sizes share line ≡ false → (r : Result Outcome Cause) → begin_op node (home_of sizes line) room op (at line) ≡ r → Keeps (map_ok (by_row sizes node share line) r)
  begins line op next on free alone (Err c) e = keeps-error c
  begins line op next on free alone (Ok o) e =
      let k = begin-keeps node (home_of sizes line) room op (at line) o (own-line line) e in
      keeps-ok (by_row sizes node share line o) (with-links line o (λ _. begin-allowed room (at line) node (home_of sizes line) op o e) (λ allowed. elim k.1 [
        | inl none ↦ free-row IsOwnLine charge sizes node program share part line o k.0 allowed free (none ∙ none-on line free) (inr (away line alone))
        | inr b ↦ begun-row IsOwnLine charge sizes node program share part line o k.0 allowed op free next on b.0 b.1 b.2 (away line alone)
      ]))

  keeps-issue : (next : Op) → slice_get program share.place ≡ Some next → share.want ≡ None → Keeps (issue_next charge sizes node share next)
  keeps-issue next is free =
      if-either Keeps (serves next (copy_of share (line_of sizes next.word))) _ _ (λ _. keeps-error _) (λ _.
      (if-either Keeps (conflicts sizes share (line_of sizes next.word)) _ _ (λ _. keeps-error _)
      (λ alone. begins (line_of sizes next.word) next is refl free alone (begin_op node (home_of sizes (line_of sizes next.word)) room next (at (line_of sizes next.word))) refl)))

  keeps-next : (f : Op → Result NodeOutcome Cause) → ((next : Op) → slice_get program share.place ≡ Some next → share.want ≡ None → Keeps (f next)) → Keeps (with_next share (slice_get program share.place) f)
  keeps-next f each = go (slice_get program share.place) refl
    where
      go : (o : Option Op) → slice_get program share.place ≡ o → Keeps (with_next share o f)
      go None e = keeps-error _
      go (Some next) e = if-either Keeps (is_outstanding share.want) _ _ (λ _. keeps-error _) (λ free. each next e (free-want share.want free))

  -- an eviction
  keeps-evict : (line : ℕ) (kind : EvictKind) (gate : Bool) → Keeps (evict_line sizes node share line kind gate)
  keeps-evict line kind gate = go (evict node (home_of sizes line) kind (at line)) refl
    where
      go : (r : Result Outcome Cause) → evict node (home_of sizes line) kind (at line) ≡ r → Keeps (bind r (λ outcome. cond (departs (node == home_of sizes line) kind && not gate) (Err LaneGate) (Ok (by_row sizes node share line outcome))))
      go (Err c) e = keeps-error c
      go (Ok o) e =
          let k = evict-keeps node (home_of sizes line) kind (at line) o (own-line line) e in
          if-either Keeps (departs (node == home_of sizes line) kind && not gate) _ _ (λ _. keeps-error _)
          (λ _. keeps-ok (by_row sizes node share line o) (with-links line o (λ _. evict-allowed room (at line) node (home_of sizes line) kind o e) (λ allowed. quiet-row IsOwnLine charge sizes node program share part line o k.0 allowed k.1)))

  -- a line is called in: it holds a link, and so its header is kept, and it is a line of this home
  calls : (line : ℕ) → is_pending (header_of sizes share line) ≡ false → holds_link room (header_of sizes share line) ≡ true → room.full ≡ false → IsOwnPart charge sizes node program (by_row sizes node share line (call_in (at line))).share
  calls line free holds more =
      with-links line (call_in (at line)) (λ _. call-allowed room (at line) more)
      (λ allowed. quiet-row IsOwnLine charge sizes node program share part line (call_in (at line)) (λ here. call-keeps (home_of sizes line) room (at line) (own-line line here) free holds) allowed (call-quiet (at line)))

  keeps-reclaim : (line : ℕ) → Keeps (map_ok (by_row sizes node share line) (reclaim room (at line)))
  unfolding reclaim
  keeps-reclaim line =
      if-either Gives (not (holds_link room (header_of sizes share line))) _ _ (λ _. keeps-error _) (λ holds.
      (if-either Gives (is_pending (header_of sizes share line)) _ _ (λ _. keeps-error _) (λ free.
      (if-either Gives room.full _ _ (λ _. keeps-error _) (λ more. keeps-ok (by_row sizes node share line (call_in (at line))) (calls line free (not-false (holds_link room (header_of sizes share line)) holds) more))))))
    where
      Gives : Result Outcome Cause → Type 0
      Gives r = Keeps (map_ok (by_row sizes node share line) r)

  -- a message that is taken
  takes : (src : ℕ) (m : Msg) → IsOwnPart charge sizes node program (by_row sizes node share (msg_line m) (taking charge sizes node share src m)).share
  takes src m =
      let k = message-keeps node (home_of sizes (msg_line m)) src (is_set_empty sizes share (msg_line m)) room (at (msg_line m)) (own-line (msg_line m)) (msg_content m) in
      with-links (msg_line m) (taking charge sizes node share src m) (λ _. message-allowed room (at (msg_line m)) node (home_of sizes (msg_line m)) src (is_set_empty sizes share (msg_line m)) (msg_content m))
      (λ allowed. effect-row IsOwnLine charge sizes node program share part (msg_line m) (taking charge sizes node share src m) k.0 allowed k.1)

module _ (charge : Charge) (sizes : Sizes) (node : ℕ) (program : List Op) (share : Share) (own : IsOwnPart charge sizes node program share) (src : ℕ) (m : Msg) where
  abbrev line : ℕ
  line = msg_line m

  abbrev row : Outcome
  row = taking charge sizes node share src m

  abbrev out : NodeOutcome
  out = by_row sizes node share (msg_line m) (taking charge sizes node share src m)

  stays : asks_victim charge sizes node share src m ≡ true → row.share ≡ line_share sizes share (msg_line m)
  stays asks =
      let want = last_two_parts (meets_row sizes node share src m) (is_get (msg_content m)) (wants_victim (room_of charge sizes share) src (header_of sizes share (msg_line m))) asks in
      refuses node (home_of sizes (msg_line m)) src (is_set_empty sizes share (msg_line m)) (room_of charge sizes share) (msg_content m) (line_share sizes share (msg_line m)) want.0 want.1

  -- the line that a Get calls in for want of a link
  victims : (g : ℕ) → asks_victim charge sizes node share src m ≡ true → fits_victim charge sizes node share g ≡ true → IsOwnPart charge sizes node program (and_call sizes node g out).share
  victims g asks fit =
      let want = last_two_parts (meets_row sizes node share src m) (is_get (msg_content m)) (wants_victim (room_of charge sizes share) src (header_of sizes share (msg_line m))) asks in
      let fits = parts_but_last (home_of sizes g == node) (holds_link (room_of charge sizes share) (header_of sizes share g)) (is_pending (header_of sizes share g)) fit in
      let header : header_of sizes out.share g ≡ header_of sizes share g = header-kept sizes (node == home_of sizes (msg_line m)) (msg_line m) row.done row.share share (stays asks) g in
      let pending : pending_lines out.share ≡ pending_lines share = pending-stays charge sizes share (node == home_of sizes (msg_line m)) (msg_line m) row.done row.share (λ _. ap (λ s. s.header) (stays asks)) in
      calls charge sizes node program out.share (takes charge sizes node program share own src m) g
      (ap is_pending header ∙ fits.2) (ap (holds_link (room_of charge sizes share)) header ∙ fits.1)
      (ap (λ n. nat_le sizes.pending n) pending ∙ not-full (room_of charge sizes share) src (header_of sizes share (msg_line m)) want.1)

  keeps-take : (victim : Option ℕ) → Keeps charge sizes node program share own (take_from charge sizes node share src m victim)
  keeps-take victim = with (asks_victim charge sizes node share src m) refl victim
    where
      with : (b : Bool) → asks_victim charge sizes node share src m ≡ b → (victim : Option ℕ) → Keeps charge sizes node program share own (with_victim charge sizes node share b victim out)
      with true asks None = keeps-error charge sizes node program share own _
      with false asks None = keeps-ok charge sizes node program share own out (takes charge sizes node program share own src m)
      with false asks (Some g) = keeps-error charge sizes node program share own _
      with true asks (Some g) =
          if-either (Keeps charge sizes node program share own) (fits_victim charge sizes node share g) _ _
          (λ fit. keeps-ok charge sizes node program share own (and_call sizes node g out) (victims g asks fit)) (λ _. keeps-error charge sizes node program share own _)

-- whatever a node does keeps what holds of its share
pub own_act : (charge : Charge) (sizes : Sizes) (node : ℕ) (program : List Op) (share : Share) (input : Input) (out : NodeOutcome) → IsOwnPart charge sizes node program share → local charge sizes node program share input ≡ Ok out → IsOwnPart charge sizes node program out.share
unfolding local
own_act charge sizes node program share HitNext out own e = keeps-next charge sizes node program share own (hit_next sizes node share) (λ next is free. keeps-hit charge sizes node program share own next free) out e
own_act charge sizes node program share IssueNext out own e = keeps-next charge sizes node program share own (issue_next charge sizes node share) (keeps-issue charge sizes node program share own) out e
own_act charge sizes node program share (EvictLine line kind gate) out own e = keeps-evict charge sizes node program share own line kind gate out e
own_act charge sizes node program share (TakeFrom src m victim) out own e = keeps-take charge sizes node program share own src m victim out e
own_act charge sizes node program share (ReclaimLine line) out own e = keeps-reclaim charge sizes node program share own line out e
