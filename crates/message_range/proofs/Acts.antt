-- Whatever a node of a machine does by itself leaves its share fitting the machine, and sends messages of it.
-- Each row is of a line of the machine: an operation is on a word of it, a copy is of a line of it, a message names a line of it, and a
-- line that is called in is the home's own.
use Rattle.std.proofs.Common.{◌≡◌, ◌≢◌, ℕ, ◌+◌, ◌<◌, ◌≤◌, Bool, true, false, cond, ◌==◌, ◌&&◌, not, slice_get, unwrap_or, List, ◌++◌, length, refl, arith, sym, ap, subst, ◌∙◌, Option, Some, None, Result, Ok, Err}
use Rattle.std.proofs.lemmas.Bool.Decides.{nat_tests}
use Rattle.std.proofs.lemmas.List.{length-append}
use Rattle.std.proofs.lemmas.List.Elements.{All-append}
use Rattle.std.proofs.Math.Nat.{div-lt_iff_lt-mul}
use Rattle.std.specs.List.{All}
use Rattle.std.specs.FinMap as fin
use Rattle.line_map.specs.Sizes.{AreSizes, Sizes, all_lines, home_of, line_of}
use Rattle.op_model.specs.declared.events.Cause.{Cause}
use Rattle.op_model.specs.declared.events.Cause.TheVariants.{BudgetFull, LaneGate, LinePending, NoLinks}
use Rattle.op_model.specs.declared.events.EvictKind.{EvictKind}
use Rattle.op_model.specs.declared.messages.Msg.{Msg}
use Rattle.op_model.specs.declared.operations.Op.{Op}
use Rattle.op_model.specs.Events.Node.{EvictLine, HitNext, Input, IssueNext, NodeOutcome, ReclaimLine, TakeFrom, and_call, asks_victim, bind, by_row, departs, evict_line, fits_victim, hit_next, is_get, is_outstanding, issue_next, local, map_ok, meets_row, messages, take_from, taking, with_next, with_victim}
use Rattle.op_model.specs.Lines.{LineShare, Outcome, Room, is_empty, is_pending}
use Rattle.op_model.specs.Messages.{Content, FAck, FwdGet, FwdGetX, Get, GetX, Inv, InvAck, Nak, Nakc, Put, PutX, Rpl, ShWb, Wb, msg_content, msg_line}
use Rattle.op_model.specs.MessageWords.{IsMsgOf}
use Rattle.op_model.specs.Nodes.{count, listed, listings, none}
use Rattle.op_model.specs.OwnPart.{IsOwnLine, IsOwnPart}
use Rattle.op_model.specs.Shares.{Charge, Share, conflicts, copy_of, first_header, header_of, is_set_empty, line_share, room_of, header_in}
use Rattle.op_model.specs.Tables.Home.{wants_victim}
use Rattle.op_model.specs.Tables.Processor.{begin_op, call_in, evict, fits, hit, holds_link, reclaim, serves}
use Rattle.op_model.specs.Tables.Remote.{on_message}
use Rattle.op_model.proofs.Public.{err-ok, fits-copy, last_two_parts, parts_but_last}
use Rattle.line_invariant.proofs.Public.{if-either}
use Rattle.one_history.proofs.Public.{header-kept, refuses}
use Rattle.node_range.specs.Range.{IsHeaderIn, IsSentIn}
use Rattle.node_range.proofs.Public.{begin-in, call-in-in, evict-in, message-in, reclaim-in}
use Rattle.message_range.specs.Fitting.{IsInputForOther, IsInputOf, IsMsgForOther, AreOnWords, IsSentOf, IsServedOf, IsShareOf}
use Rattle.message_range.proofs.HomeRows.{call-few, call-fits}
use Rattle.message_range.proofs.Rows.{IsFitting, evict-fits, hit-fits}
use Rattle.message_range.proofs.Shares.{away-all, content-in, length-messages, row-share, sent-all, share-line}
use Rattle.message_range.proofs.TakeRows.{begin-fits, get-one, message-fits, reclaim-fits}

pub record IsActed (sizes : Sizes) (node : ℕ) (Asked : Type 0) (out : NodeOutcome) : Type 0 where
  pub share : IsShareOf sizes out.share
  pub served : IsServedOf sizes out.served
  pub sent : All (IsSentOf sizes) out.sends
  pub few : length out.sends ≤ sizes.nodes
  pub away : Asked → All (λ (send : ℕ × Msg). send.0 ≢ node) out.sends

hit-in : (nodes : ℕ) (op : Op) (s : LineShare) → IsHeaderIn nodes s.header → IsHeaderIn nodes (hit op s).share.header × IsSentIn nodes (hit op s).sends
unfolding hit
hit-in nodes op s h = (h, tt)

pub evicts-copy : (me home : ℕ) (kind : EvictKind) (s : LineShare) (o : Outcome) → evict me home kind s ≡ Ok o → is_empty s.copy ≡ false
unfolding evict
evicts-copy me home kind s o =
    if-either Gives (fits (me == home) kind s.copy) _ _ (λ fit _. fits-copy (me == home) kind s.copy fit) (λ _ e. absurd (err-ok _ o e))
  where
    Gives : Result Outcome Cause → Type 0
    Gives r = r ≡ Ok o → is_empty s.copy ≡ false

-- a line that holds a link has a header of its own
kept-header : (sizes : Sizes) (room : Room) (share : Share) (line : ℕ) → holds_link room (header_of sizes share line) ≡ true → fin.get share.headers line ≡ None → ⊥
unfolding header_in
kept-header sizes room share line holds none = go room.linked (count (first_header sizes).list) nobody (sym (ap (λ h. holds_link room (unwrap_or h (first_header sizes))) none) ∙ holds)
  where
    nobody : count (first_header sizes).list ≡ 0
    nobody = grind (arith, nat_tests, listings)

    go : (linked : Bool) (n : ℕ) → n ≡ 0 → (linked && not (n == 0) && not (n == 1)) ≡ true → ⊥
    go linked n e f = grind (arith, nat_tests)

pub reclaims-holder : (room : Room) (s : LineShare) (o : Outcome) → reclaim room s ≡ Ok o → holds_link room s.header ≡ true
unfolding reclaim
reclaims-holder room s o = go (holds_link room s.header)
  where
    go : (c : Bool) → cond (not c) (Err NoLinks) (cond (is_pending s.header) (Err LinePending) (cond room.full (Err BudgetFull) (Ok (call_in s)))) ≡ Ok o → c ≡ true
    go true e = refl
    go false e = absurd (cc)

module _ (charge : Charge) (sizes : Sizes) (node : ℕ) (program : List Op) (share : Share) (are : AreSizes sizes) (at : node < sizes.nodes) (ops : AreOnWords sizes program) (own : IsOwnPart charge sizes node program share) (of : IsShareOf sizes share) (Asked : Type 0) where
  abbrev Acted : NodeOutcome → Type 0
  Acted = IsActed sizes node Asked

  abbrev Gives : Result NodeOutcome Cause → Type 0
  Gives r = (out : NodeOutcome) → r ≡ Ok out → Acted out

  bad : (c : Cause) → Gives (Err c)
  bad c out e = absurd (let d : ◌≡◌ {A = Result NodeOutcome Cause} (Err c) (Ok out) = e in cc)

  good : (x : NodeOutcome) → Acted x → Gives (Ok x)
  good x k out e = let is : x ≡ out = cc in subst Acted is k

  several : 2 ≤ sizes.nodes
  several = let n = are.nodes in grind (arith, nat_tests)

  some : 0 < sizes.nodes
  some = let n = several in omega arith

  some_lines : 0 < sizes.lines
  some_lines = let n = are.lines in grind (arith, nat_tests)

  some_words : 0 < sizes.words
  some_words = let n = are.words in grind (arith, nat_tests)

  abbrev room : Room
  room = room_of charge sizes share

  abbrev line_at : ℕ → LineShare
  line_at line = line_share sizes share line

  header-in : (line : ℕ) → IsHeaderIn sizes.nodes (header_of sizes share line)
  header-in line = (of.headers line).nodes

  home-in : (line : ℕ) → line < all_lines sizes → home_of sizes line < sizes.nodes
  home-in line below = (div-lt_iff_lt-mul some_lines).1 below

  line-in : (line : ℕ) → home_of sizes line < sizes.nodes → line < all_lines sizes
  line-in line home = (div-lt_iff_lt-mul some_lines).0 home

  own-line : (line : ℕ) → node ≡ home_of sizes line → IsOwnLine (home_of sizes line) (line_at line)
  own-line line here = subst (λ k. IsOwnLine k (line_at line)) here (own.lines line (sym here))

  op-in : (op : Op) → slice_get program share.place ≡ Some op → line_of sizes op.word < all_lines sizes
  op-in op next = (div-lt_iff_lt-mul some_words).1 (ops share.place op next)

  -- a row of a line
  acted : (line : ℕ) (o : Outcome) → line < all_lines sizes → IsFitting sizes Asked node o → IsHeaderIn sizes.nodes o.share.header × IsSentIn sizes.nodes o.sends → Acted (by_row sizes node share line o)
  acted line o below fits within =
      record {
        served = fits.served;
        share = row-share sizes node share of line o fits.line (λ _. within.0) below;
        sent = sent-all sizes line below Asked node o.sends within.1 fits.sends;
        few = subst (λ n. n ≤ sizes.nodes) (sym (length-messages line o.sends)) fits.few;
        away = λ asked. away-all sizes line Asked node asked o.sends fits.sends;
      }

  gives-hit : (op : Op) → slice_get program share.place ≡ Some op → Gives (hit_next sizes node share op)
  gives-hit op next =
      let line = line_of sizes op.word in
      if-either Gives (serves op (copy_of share (line_of sizes op.word))) _ _
      (λ serve. good _ (acted line (hit op (line_at line)) (op-in op next) (hit-fits sizes several Asked node (home_of sizes line) (line_at line) (share-line sizes share line of) op serve) (hit-in sizes.nodes op (line_at line) (header-in line))))
      (λ _. bad _)

  gives-issue : (op : Op) → slice_get program share.place ≡ Some op → Gives (issue_next charge sizes node share op)
  gives-issue op next =
      if-either Gives (serves op (copy_of share line)) _ _ (λ _. bad _) (λ _.
      (if-either Gives (conflicts sizes share line) _ _ (λ _. bad _) (λ _. go (begin_op node (home_of sizes line) room op (line_at line)) refl)))
    where
      line : ℕ
      line = line_of sizes op.word

      go : (r : Result Outcome Cause) → begin_op node (home_of sizes line) room op (line_at line) ≡ r → Gives (map_ok (by_row sizes node share line) r)
      go (Err c) e = bad c
      go (Ok o) e =
          let below = op-in op next in
          good _ (acted line o below
          (begin-fits sizes several Asked node (home_of sizes line) at room (line_at line) (share-line sizes share line of) (header-in line).lists (own-line line) op o e)
          (begin-in sizes.nodes some room (line_at line) (header-in line) node (home_of sizes line) at (home-in line below) op o e))

  gives-next : (f : Op → Result NodeOutcome Cause) → ((op : Op) → slice_get program share.place ≡ Some op → Gives (f op)) → Gives (with_next share (slice_get program share.place) f)
  gives-next f each = go (slice_get program share.place) refl
    where
      go : (o : Option Op) → slice_get program share.place ≡ o → Gives (with_next share o f)
      go None e = bad _
      go (Some op) e = if-either Gives (is_outstanding share.want) _ _ (λ _. bad _) (λ _. each op e)

  gives-evict : (line : ℕ) (kind : EvictKind) (gate : Bool) → Gives (evict_line sizes node share line kind gate)
  gives-evict line kind gate = go (evict node (home_of sizes line) kind (line_at line)) refl
    where
      go : (r : Result Outcome Cause) → evict node (home_of sizes line) kind (line_at line) ≡ r → Gives (bind r (λ outcome. cond (departs (node == home_of sizes line) kind && not gate) (Err LaneGate) (Ok (by_row sizes node share line outcome))))
      go (Err c) e = bad c
      go (Ok o) e =
          let below = of.lines line (evicts-copy node (home_of sizes line) kind (line_at line) o e) in
          if-either Gives (departs (node == home_of sizes line) kind && not gate) _ _ (λ _. bad _)
          (λ _. good _ (acted line o below
          (evict-fits sizes several Asked node (home_of sizes line) (line_at line) (share-line sizes share line of) kind o e)
          (evict-in sizes.nodes some room (line_at line) (header-in line) node (home_of sizes line) at (home-in line below) kind o e)))

  -- a line that holds a link is the home's own
  here-of : (line : ℕ) → holds_link room (header_of sizes share line) ≡ true → node ≡ home_of sizes line
  here-of line holds = go (home_of sizes line == node) refl
    where
      go : (c : Bool) → (home_of sizes line == node) ≡ c → node ≡ home_of sizes line
      go true e = let same : home_of sizes line ≡ node = grind (arith, nat_tests) in sym same
      go false e = let far : home_of sizes line ≢ node = grind (arith, nat_tests) in absurd (kept-header sizes room share line holds (own.headers line far))

  gives-reclaim : (line : ℕ) → Gives (map_ok (by_row sizes node share line) (reclaim room (line_at line)))
  gives-reclaim line = go (reclaim room (line_at line)) refl
    where
      go : (r : Result Outcome Cause) → reclaim room (line_at line) ≡ r → Gives (map_ok (by_row sizes node share line) r)
      go (Err c) e = bad c
      go (Ok o) e =
          let here = here-of line (reclaims-holder room (line_at line) o e) in
          let home = subst (λ k. k < sizes.nodes) here at in
          good _ (acted line o (line-in line home)
          (reclaim-fits sizes several Asked node (home_of sizes line) at room (line_at line) (share-line sizes share line of) (header-in line).lists (own-line line) here o e)
          (reclaim-in sizes.nodes some room (line_at line) (header-in line) node (home_of sizes line) at home o e))

get-is : (content : Content) → is_get content ≡ true → content ≡ Get
get-is Get e = refl
get-is GetX e = absurd (cc)
get-is (FwdGet r) e = absurd (cc)
get-is (FwdGetX r) e = absurd (cc)
get-is Inv e = absurd (cc)
get-is (Wb words) e = absurd (cc)
get-is Rpl e = absurd (cc)
get-is (Put words) e = absurd (cc)
get-is (PutX words) e = absurd (cc)
get-is (Nak cause) e = absurd (cc)
get-is InvAck e = absurd (cc)
get-is (ShWb words) e = absurd (cc)
get-is FAck e = absurd (cc)
get-is Nakc e = absurd (cc)

module _ (charge : Charge) (sizes : Sizes) (node : ℕ) (program : List Op) (share : Share) (are : AreSizes sizes) (at : node < sizes.nodes) (ops : AreOnWords sizes program) (own : IsOwnPart charge sizes node program share) (of : IsShareOf sizes share) (src : ℕ) (from : src < sizes.nodes) (m : Msg) (of_machine : IsMsgOf sizes m) where
  abbrev Asked : Type 0
  Asked = IsMsgForOther node m

  abbrev line : ℕ
  line = msg_line m

  abbrev row : Outcome
  row = taking charge sizes node share src m

  abbrev out : NodeOutcome
  out = by_row sizes node share (msg_line m) (taking charge sizes node share src m)

  taken : IsActed sizes node Asked out
  taken =
      let is = content-in sizes (msg_content m) of_machine.1 in
      acted charge sizes node program share are at ops own of Asked line row of_machine.0
      (message-fits sizes (several charge sizes node program share are at ops own of Asked) Asked node (home_of sizes line) at (room_of charge sizes share) (line_share sizes share line) (share-line sizes share line of) (of.headers line).nodes.lists (own-line charge sizes node program share are at ops own of Asked line) src (is_set_empty sizes share line) (msg_content m) is.1 (λ asked. asked))
      (message-in sizes.nodes (some charge sizes node program share are at ops own of Asked) (room_of charge sizes share) (line_share sizes share line) (of.headers line).nodes node (home_of sizes line) at (home-in charge sizes node program share are at ops own of Asked line of_machine.0) src from (is_set_empty sizes share line) (msg_content m) is.0)

  -- the line that a Get calls in for want of a link: its header is as it was, and the Get is answered by one message
  victims : (g : ℕ) → asks_victim charge sizes node share src m ≡ true → fits_victim charge sizes node share g ≡ true → IsActed sizes node Asked (and_call sizes node g out)
  victims g asks fit =
      record {
        served = taken.served;
        share = row-share sizes node out.share taken.share g (call_in row_at) fitting.line (λ _. called.0) below;
        sent = All-append (IsSentOf sizes) out.sends _ taken.sent (sent-all sizes g below Asked node (call_in row_at).sends called.1 fitting.sends);
        few = fewer;
        away = λ asked. All-append (λ (send : ℕ × Msg). send.0 ≢ node) out.sends _ (taken.away asked) (away-all sizes g Asked node asked (call_in row_at).sends fitting.sends);
      }
    where
      row_at : LineShare
      row_at = line_share sizes out.share g

      want : (is_get (msg_content m) ≡ true) × (wants_victim (room_of charge sizes share) src (header_of sizes share (msg_line m)) ≡ true)
      want = last_two_parts (meets_row sizes node share src m) (is_get (msg_content m)) (wants_victim (room_of charge sizes share) src (header_of sizes share (msg_line m))) asks

      here : node ≡ home_of sizes g
      here = let t = (parts_but_last (home_of sizes g == node) (holds_link (room_of charge sizes share) (header_of sizes share g)) (is_pending (header_of sizes share g)) fit).0 in grind (arith, nat_tests)

      home : home_of sizes g < sizes.nodes
      home = subst (λ k. k < sizes.nodes) here at

      below : g < all_lines sizes
      below = line-in charge sizes node program share are at ops own of Asked g home

      header : header_of sizes out.share g ≡ header_of sizes share g
      header = header-kept sizes (node == home_of sizes (msg_line m)) (msg_line m) row.done row.share share (refuses node (home_of sizes (msg_line m)) src (is_set_empty sizes share (msg_line m)) (room_of charge sizes share) (msg_content m) (line_share sizes share (msg_line m)) want.0 want.1) g

      unlisted : listed row_at.header.list node ≡ false
      unlisted = ap (λ h. listed h.list node) header ∙ (own.lines g (sym here)).unlisted

      fitting : IsFitting sizes Asked node (call_in row_at)
      fitting = call-fits sizes Asked node at row_at (share-line sizes out.share g taken.share) (taken.share.headers g).nodes.lists unlisted

      more : length (call_in row_at).sends + 1 ≤ sizes.nodes
      more = call-few sizes Asked node at row_at (share-line sizes out.share g taken.share) (taken.share.headers g).nodes.lists unlisted

      called : IsHeaderIn sizes.nodes (call_in row_at).share.header × IsSentIn sizes.nodes (call_in row_at).sends
      called = call-in-in sizes.nodes (some charge sizes node program share are at ops own of Asked) (room_of charge sizes share) row_at (taken.share.headers g).nodes node (home_of sizes g) at home

      one : length out.sends ≤ 1
      one =
          subst (λ n. n ≤ 1) (sym (length-messages line row.sends))
          (subst (λ c. length (on_message node (home_of sizes line) src (is_set_empty sizes share line) (room_of charge sizes share) c (line_share sizes share line)).sends ≤ 1) (sym (get-is (msg_content m) want.0))
          (get-one sizes (several charge sizes node program share are at ops own of Asked) Asked node (home_of sizes line) at (room_of charge sizes share) (line_share sizes share line) (share-line sizes share line of) (of.headers line).nodes.lists (own-line charge sizes node program share are at ops own of Asked line) src (is_set_empty sizes share line)))

      fewer : length (out.sends ++ messages g (call_in row_at).sends) ≤ sizes.nodes
      fewer = let l = length-append out.sends (messages g (call_in row_at).sends) in let k = length-messages g (call_in row_at).sends in let a = one in let b = more in omega arith

  gives-take : (victim : Option ℕ) → Gives charge sizes node program share are at ops own of Asked (take_from charge sizes node share src m victim)
  gives-take victim = with (asks_victim charge sizes node share src m) refl victim
    where
      with : (b : Bool) → asks_victim charge sizes node share src m ≡ b → (victim : Option ℕ) → Gives charge sizes node program share are at ops own of Asked (with_victim charge sizes node share b victim out)
      with true asks None = bad charge sizes node program share are at ops own of Asked _
      with false asks None = good charge sizes node program share are at ops own of Asked out taken
      with false asks (Some g) = bad charge sizes node program share are at ops own of Asked _
      with true asks (Some g) =
          if-either (Gives charge sizes node program share are at ops own of Asked) (fits_victim charge sizes node share g) _ _
          (λ fit. good charge sizes node program share are at ops own of Asked (and_call sizes node g out) (victims g asks fit)) (λ _. bad charge sizes node program share are at ops own of Asked _)

-- whatever a node of the machine does
pub every-act : (charge : Charge) (sizes : Sizes) (node : ℕ) (program : List Op) (share : Share) (input : Input) (out : NodeOutcome) → AreSizes sizes → node < sizes.nodes → AreOnWords sizes program → IsOwnPart charge sizes node program share → IsShareOf sizes share → IsInputOf sizes input → local charge sizes node program share input ≡ Ok out → IsActed sizes node (IsInputForOther node input) out
unfolding local
every-act charge sizes node program share HitNext out are at ops own of is e = gives-next charge sizes node program share are at ops own of (Unit {0}) (hit_next sizes node share) (gives-hit charge sizes node program share are at ops own of (Unit {0})) out e
every-act charge sizes node program share IssueNext out are at ops own of is e = gives-next charge sizes node program share are at ops own of (Unit {0}) (issue_next charge sizes node share) (gives-issue charge sizes node program share are at ops own of (Unit {0})) out e
every-act charge sizes node program share (EvictLine line kind gate) out are at ops own of is e = gives-evict charge sizes node program share are at ops own of (Unit {0}) line kind gate out e
every-act charge sizes node program share (TakeFrom src m victim) out are at ops own of is e = gives-take charge sizes node program share are at ops own of src is.0 m is.1 victim out e
every-act charge sizes node program share (ReclaimLine line) out are at ops own of is e = gives-reclaim charge sizes node program share are at ops own of (Unit {0}) line out e
