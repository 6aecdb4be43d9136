-- The line of a link may be called in where a message asks for it.
use Rattle.std.proofs.Common.{◌≡◌, ◌⊎◌, inl, inr, ℕ, ◌+◌, ◌-◌, ◌*◌, ◌<◌, Bool, true, false, cond, not, ◌&&◌, ◌||◌, ◌==◌, List, [], ◌∷◌, refl, sym, ap, ◌∙◌, subst, arith, Option, Some, None, Result, Ok, Err}
use Rattle.std.specs.Prelude.{is_some, is_ok, is_err, nat_lt, IsOk, IfSome, IsNone, unwrap_or, option_map}
use Rattle.std.specs.List.{list_any}
use Rattle.std.specs.Ordering.{nat_cmp}
use Rattle.std.specs.Cmp.{unsigned_tied}
use Rattle.std.specs.FinMap as fin
use Rattle.std.specs.FinMap.{find as find_key}
use Rattle.std.proofs.lemmas.Bool.Decides.{nat_tests}
use Rattle.line_map.specs.Sizes.{Sizes, home_of}
use Rattle.op_model.specs.declared.events.Cause.{Cause}
use Rattle.op_model.specs.declared.messages.Msg.{Msg}
use Rattle.op_model.specs.Nodes.{count}
use Rattle.op_model.specs.Lines.{Header, Room, is_pending}
use Rattle.op_model.specs.Tables.Home.{wants_victim, lacks_link}
use Rattle.op_model.specs.Tables.Processor.{holds_link}
use Rattle.op_model.specs.Shares.{Charge, Linked, Unlinked, Share, header_in, header_of, line_share, room_of, links_among, first_header}
use Rattle.op_model.specs.Messages.{msg_line, msg_content}
use Rattle.op_model.specs.Events.Node.{NodeOutcome, TakeFrom, local, meets_row, is_get, with_victim, asks_victim, fits_victim, permit}
use Rattle.op_model.proofs.Public.{above_one, three_parts}
use Rattle.dir_header.specs.Sharers.{free_in, held_in}
use Rattle.dir_header.specs.HomeSides.{HomeView, IsHome}
use Rattle.sharer_dir.specs.Linked.{LinkedView, linked_directory, line_with}
use Rattle.node_box.specs.Boxes.{LinkedNode, outcome_at}
use Rattle.node_box.specs.Turns.{line_by_link, victim_by, asks}

-- a value whose key is there fails a test that none passes
get_any : {X : Type 0} (test : X → Bool) (q : ℕ) (x : X) (es : List (ℕ × X)) → find_key nat_cmp q es ≡ Some x → list_any (λ e. test e.1) es ≡ false → test x ≡ false
get_any {X} test q x [] at none = absurd (let d : ◌≡◌ {A = Option X} None (Some x) = at in cc)
get_any {X} test q x (e ∷ es) at none = go (q == e.0) (sym (ap (λ c. cond c (Some e.1) (find_key nat_cmp q es)) (unsigned_tied q e.0)) ∙ at) (λ rest. get_any test q x es rest (right (test e.1) _ none))
  where
    left : (a b : Bool) → (a || b) ≡ false → a ≡ false
    left true b is = is
    left false b is = refl

    right : (a b : Bool) → (a || b) ≡ false → b ≡ false
    right true b is = absurd (cc)
    right false b is = is

    go : (c : Bool) → cond c (Some e.1) (find_key nat_cmp q es) ≡ Some x → (find_key nat_cmp q es ≡ Some x → test x ≡ false) → test x ≡ false
    go true here rest = let same : e.1 ≡ x = cc in ap test (sym same) ∙ left (test e.1) _ none
    go false there rest = rest there

-- a home asks for a victim where no pending line holds a link and none is free
no_link_pending : (room : Room) (src : ℕ) (header : Header) → wants_victim room src header ≡ true → (room.link_pending ≡ false) × (room.link_free ≡ false)
unfolding wants_victim
no_link_pending room src header is = let both = go (is_pending header) (lacks_link room src header) room.link_pending room.full is in (both.0, free _ room.link_free both.1)
  where
    go : (a b c d : Bool) → (not a && b && not c && not d) ≡ true → (c ≡ false) × (b ≡ true)
    go a b c d e = (grind arith, grind arith)

    free : (a b : Bool) → (a && not b) ≡ true → b ≡ false
    free a b e = grind arith

asks_none : (sizes : Sizes) (me : ℕ) (share : Share) (src : ℕ) (m : Msg) → asks_victim Linked sizes me share src m ≡ true → ((room_of Linked sizes share).link_pending ≡ false) × ((room_of Linked sizes share).link_free ≡ false)
asks_none sizes me share src m is =
    let header : Header = (line_share sizes share (msg_line m)).header in
    let parts = three_parts (meets_row sizes me share src m) (is_get (msg_content m)) (wants_victim (room_of Linked sizes share) src header) is in
    no_link_pending (room_of Linked sizes share) src header parts.2

header_there : (sizes : Sizes) (share : Share) (line : ℕ) (o : Option Header) → fin.get share.headers line ≡ o → is_some o ≡ true → (h : Header) × (fin.get share.headers line ≡ Some h) × (header_of sizes share line ≡ h)
unfolding header_in
header_there sizes share line None at there = absurd (cc)
header_there sizes share line (Some h) at there = (h, at, ap (λ o. unwrap_or o (first_header sizes)) at)

-- a line of the home that holds a link fits
victim_fits : (sizes : Sizes) (me : ℕ) (share : Share) (src : ℕ) (m : Msg) (line : ℕ) → is_some (fin.get share.headers line) ≡ true → home_of sizes line ≡ me → holds_link (room_of Linked sizes share) (header_of sizes share line) ≡ true
    → asks_victim Linked sizes me share src m ≡ true → fits_victim Linked sizes me share line ≡ true
victim_fits sizes me share src m line there home holds asked =
    let calm = (asks_none sizes me share src m asked).0 in
    let h = header_there sizes share line (fin.get share.headers line) refl there in
    let header : Header = header_of sizes share line in
    let fails : (is_pending h.0 && nat_lt 1 (count h.0.list)) ≡ false = get_any (λ (x : Header). is_pending x && nat_lt 1 (count x.list)) line h.0 (fin.entries share.headers) (sym (fin.get-entries share.headers line) ∙ h.1) calm in
    let fails' : (is_pending header && nat_lt 1 (count header.list)) ≡ false = subst (λ (x : Header). (is_pending x && nat_lt 1 (count x.list)) ≡ false) (sym h.2) fails in
    go (home_of sizes line) (holds_link (room_of Linked sizes share) header) (is_pending header) (count header.list) home holds fails' (above_one true (count header.list) holds)
  where
    go : (g : ℕ) (holds pending : Bool) (n : ℕ) → g ≡ me → holds ≡ true → (pending && nat_lt 1 n) ≡ false → 1 < n → ((g == me) && holds && not pending) ≡ true
    go g holds true n at some fails many = absurd (let yes : nat_lt 1 n ≡ true = grind (arith, nat_tests) in cc)
    go g holds false n at some fails many = grind (arith, nat_tests)

-- whether a message calls a victim in, by what a node says of it without one
none_asks : (charge : Charge) (sizes : Sizes) (me : ℕ) (share : Share) (out : NodeOutcome) (t : Bool) → is_ok (permit (with_victim charge sizes me share t None out)) ≡ true → t ≡ false
none_asks charge sizes me share out true is = absurd (cc)
none_asks charge sizes me share out false is = refl

some_asks : (charge : Charge) (sizes : Sizes) (me : ℕ) (share : Share) (out : NodeOutcome) (t : Bool) → is_ok (permit (with_victim charge sizes me share t None out)) ≡ false → t ≡ true
some_asks charge sizes me share out true is = refl
some_asks charge sizes me share out false is = absurd (cc)

-- the home of a node
abbrev pub home_side : LinkedNode → HomeView LinkedView
home_side node = record { sizes = node.sizes; node = node.number; charge = node.charge; dir = node.dir; headers = node.share.headers }

module _ (node : LinkedNode) (linked : node.charge ≡ Linked) (src : ℕ) (m : Msg) where
  same_asks : asks_victim node.charge node.sizes node.number node.share src m ≡ asks node src m
  same_asks = ap (λ c. asks_victim c node.sizes node.number node.share src m) linked

  unasked : is_ok (permit (outcome_at node (TakeFrom src m None))) ≡ true → asks node src m ≡ false
  unfolding local
  unasked is = sym same_asks ∙ none_asks node.charge node.sizes node.number node.share _ _ is

  asked : is_ok (permit (outcome_at node (TakeFrom src m None))) ≡ false → asks node src m ≡ true
  unfolding local
  asked is = sym same_asks ∙ some_asks node.charge node.sizes node.number node.share _ _ is

  goes_with : (line : ℕ) → asks node src m ≡ true → fits_victim Linked node.sizes node.number node.share line ≡ true → IsOk (outcome_at node (TakeFrom src m (Some line)))
  unfolding local
  goes_with line is fits = go _ _ (same_asks ∙ is) (ap (λ c. fits_victim c node.sizes node.number node.share line) linked ∙ fits)
    where
      go : (out : NodeOutcome) (t : Bool) → t ≡ true → fits_victim node.charge node.sizes node.number node.share line ≡ true → IsOk (with_victim node.charge node.sizes node.number node.share t (Some line) out)
      go out true at fit = rw fit refl
      go out false at fit = absurd (cc)

  -- a message that asks for no victim has none
  pub no_victim : (link : ℕ) → is_ok (permit (outcome_at node (TakeFrom src m None))) ≡ true → None ≡ victim_by node link src m
  no_victim link is = sym (ap (λ b. cond b (line_by_link node link) None) (unasked is))

  pub its_victim : (link : ℕ) (r : Option ℕ) → is_ok (permit (outcome_at node (TakeFrom src m None))) ≡ false → r ≡ line_by_link node link → r ≡ victim_by node link src m
  its_victim link r is found = found ∙ sym (ap (λ b. cond b (line_by_link node link) None) (asked is))

  -- no link is free where a message asks for a victim
  none_free : IsHome (linked_directory node.dir) (home_side node) → asks node src m ≡ true → 0 < free_in (linked_directory node.dir) → ⊥
  none_free home is free =
      let full = (asks_none node.sizes node.number node.share src m is).1 in
      let held : links_among node.share.headers ≡ held_in (linked_directory node.dir) = home.held linked in
      let links : (linked_directory node.dir).links ≡ node.sizes.links = home.links in
      go (links_among node.share.headers) (held_in (linked_directory node.dir)) (linked_directory node.dir).links node.sizes.links held links full free
    where
      go : (a b k l : ℕ) → a ≡ b → k ≡ l → nat_lt a l ≡ false → 0 < k - b → ⊥
      go a b k l e f fails some = absurd (let y : nat_lt a l ≡ true = (let lt : a < l = omega (arith, e, f, some) in grind (arith, nat_tests)) in cc)

  linked_charge : node.charge ≡ Unlinked → ⊥
  linked_charge is = let both : Linked ≡ Unlinked = sym linked ∙ is in cc

  -- and with it the node doesn't refuse the message
  pub victim_goes : (r : Option ℕ) → IsHome (linked_directory node.dir) (home_side node) → is_ok (permit (outcome_at node (TakeFrom src m None))) ≡ false
      → (IsNone r → (0 < free_in (linked_directory node.dir)) ⊎ (node.charge ≡ Unlinked))
      → IfSome r (λ line. (home_of node.sizes line ≡ node.number) × (holds_link (room_of node.charge node.sizes node.share) (header_of node.sizes node.share line) ≡ true)) → IsOk (outcome_at node (TakeFrom src m r))
  victim_goes None home is free holds = absurd (go (free refl))
    where
      go : (0 < free_in (linked_directory node.dir)) ⊎ (node.charge ≡ Unlinked) → ⊥
      go (inl some) = none_free home (asked is) some
      go (inr other) = linked_charge other
  victim_goes (Some line) home is free holds =
      let link : holds_link (room_of Linked node.sizes node.share) (header_of node.sizes node.share line) ≡ true = subst (λ c. holds_link (room_of c node.sizes node.share) (header_of node.sizes node.share line) ≡ true) linked holds.1 in
      goes_with line (asked is) (victim_fits node.sizes node.number node.share src m line ((home.own line).1 holds.0) holds.0 link (asked is))

-- what is found by a link's number, of the home that a node is seen with
pub found_line : (old new : LinkedNode) (home : HomeView LinkedView) (link : ℕ) (r : Option ℕ) → home ≡ home_side old → old ≡ new → r ≡ option_map (λ m. home.node * home.sizes.lines + m) (line_with home.dir link) → r ≡ line_by_link new link
found_line old new home link r is same found =
    found ∙ (ap (λ (h : HomeView LinkedView). option_map (λ m. h.node * h.sizes.lines + m) (line_with h.dir link)) is ∙ ap (λ n. line_by_link n link) same)

pub permits : {A : Type 0} (r : Result A Cause) → IsOk r → is_err (permit r) ≡ false
permits (Ok out) is = refl
permits (Err cause) is = absurd (cc)

pub same_some : (r : Option ℕ) (a b : ℕ) → r ≡ Some a → r ≡ Some b → a ≡ b
same_some r a b x y = let e : ◌≡◌ {A = Option ℕ} (Some a) (Some b) = sym x ∙ y in cc

pub not_both : (r : Option ℕ) (a : ℕ) → r ≡ None → r ≡ Some a → ⊥
not_both r a x y = let e : ◌≡◌ {A = Option ℕ} None (Some a) = sym x ∙ y in cc
