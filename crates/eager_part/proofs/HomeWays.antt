-- What a row of the delayed core sends, told from the share of its node: each message is on its way and goes to another node, and a forward asks its owner for another node. The nodes that a home calls in or forwards to are listed, and the home isn't.
use Rattle.std.proofs.Common.{◌≡◌, ◌≢◌, ℕ, ◌<◌, Bool, true, false, cond, ◌&&◌, not, List, [], ◌∷◌, refl, arith, ap, sym, ◌∙◌, subst, Result, Ok, Err}
use Rattle.std.proofs.lemmas.Bool.{not-false}
use Rattle.std.proofs.lemmas.Bool.Decides.{nat_tests}
use Rattle.op_model.specs.declared.events.Cause.{Cause}
use Rattle.op_model.specs.declared.operations.Op.{Op}
use Rattle.op_model.specs.declared.state.Wait.TheVariants.{Idle}
use Rattle.op_model.specs.Lines.{LineShare, Outcome, Room, is_exclusive, is_idle, is_pending, nobody_listed, owner, to_each, to_listed}
use Rattle.op_model.specs.Messages.{Content, FwdGet, FwdGetX}
use Rattle.op_model.specs.Nodes.{Nodes, count, in_order, listed, listings, times, unlist}
use Rattle.op_model.specs.Operations.{is_load}
use Rattle.op_model.specs.OwnPart.{IsOwnLine}
use Rattle.op_model.specs.Tables.Home.{lacks_link, no_other, on_get, on_getx}
use Rattle.op_model.specs.Tables.Processor.{begin_at_home, serves}
use Rattle.op_model.specs.Tables.Remote.{asks_well}
use Rattle.op_model.proofs.Public.{err-ok, in_order-listed, other_fails, unserved-shared}
use Rattle.line_invariant.proofs.Public.{if-either}
use Rattle.lane_bounds.specs.Ways.{IsWay}
use Rattle.own_part.proofs.Public.{idle-exclusive, idle-is, not-local, waits-so}
use Rattle.message_range.specs.Fitting.{IsContentForOther}
use Rattle.message_range.proofs.Public.{owner-listed}

abbrev pub IsGoing : (home me : ℕ) → ℕ × Content → Type 0
IsGoing home me send = IsWay home me send.0 send.1 × IsContentForOther send.0 send.1 × (me ≢ send.0)

abbrev pub AreGoing : (home me : ℕ) → List (ℕ × Content) → Type 0
AreGoing home me [] = Unit {0}
AreGoing home me (send ∷ sends) = IsGoing home me send × AreGoing home me sends

-- the home calls listed nodes in, and isn't one
pub listed-going : (home : ℕ) (list : Nodes) → listed list home ≡ false → AreGoing home home (to_listed list)
listed-going home list off = each (in_order list) (in_order-listed list)
  where
    apart : (n : ℕ) → listed list n ≡ true → home ≢ n
    apart n is same = let d : true ≡ false = sym is ∙ ap (listed list) (sym same) ∙ off in cc

    each : (nodes : List ℕ) → ((q : ℕ) → 0 < times q nodes → listed list q ≡ true) → AreGoing home home (to_each nodes)
    each [] h = tt
    each (n ∷ ns) h = ((refl, tt, apart n (h n (grind (arith, nat_tests)))), each ns (λ q lt. h q (grind (arith, nat_tests))))

pub from-home : (me home : ℕ) (sends : List (ℕ × Content)) → me ≡ home → AreGoing home home sends → AreGoing home me sends
from-home me home sends same going = subst (λ k. AreGoing home k sends) (sym same) going

module _ (home : ℕ) (room : Room) (s : LineShare) (own : IsOwnLine home s) where
  abbrev Goes : Outcome → Type 0
  Goes o = AreGoing home home o.sends

  -- a line that another node owns
  module _ (idle : s.header.wait ≡ Idle) (dirty : s.header.dirty ≡ true) (remote : s.header.local ≡ false) where
    owned : listed s.header.list (owner s.header) ≡ true
    owned = owner-listed s.header (above (count s.header.list) ((waits-so home Idle s idle own).1 dirty ∙ ap (λ c. cond c 0 1) remote))
      where
        above : (n : ℕ) → n ≡ 1 → 0 < n
        above n e = omega arith

    other-owner : (q : ℕ) → listed s.header.list q ≡ false → q ≢ owner s.header
    other-owner q off same = let d : true ≡ false = sym owned ∙ ap (listed s.header.list) (sym same) ∙ off in cc

    -- a forward to the owner
    asks-owner : (q : ℕ) → listed s.header.list q ≡ false → AreGoing home home ((owner s.header, FwdGet q) ∷ []) × AreGoing home home ((owner s.header, FwdGetX q) ∷ [])
    asks-owner q off =
        let apart = other-owner q off in
        let away = other-owner home own.unlisted in
        (((refl, apart, away), tt), ((refl, apart, away), tt))

  module _ (op : Op) (miss : serves op s.copy ≡ false) where
    abbrev Gives : Result Outcome Cause → Type 0
    Gives r = (o : Outcome) → r ≡ Ok o → Goes o

    bad : (c : Cause) → Gives (Err c)
    bad c o e = absurd (err-ok c o e)

    good : (x : Outcome) → Goes x → Gives (Ok x)
    good x k o e = let is : x ≡ o = cc in subst Goes is k

    asks : not (is_idle s.header.wait) ≡ false → not s.header.dirty ≡ false → AreGoing home home ((owner s.header, FwdGet home) ∷ []) × AreGoing home home ((owner s.header, FwdGetX home) ∷ [])
    asks free clean =
        let idle = idle-is s.header.wait free in
        let dirty = not-false s.header.dirty clean in
        asks-owner idle dirty (not-local (is_exclusive s.copy) s.header.dirty s.header.local (idle-exclusive home s idle own) (unserved-shared op s.copy miss) dirty) home own.unlisted

    pub begin-home-going : Gives (begin_at_home home room op s)
    unfolding begin_at_home
    begin-home-going =
        if-either Gives (is_pending s.header) _ _ (λ _. bad _) (λ free.
        (if-either Gives (not s.header.dirty && is_load op.kind) _ _ (λ _. good _ tt) (λ _.
        (if-either Gives (not s.header.dirty && nobody_listed s.header.list) _ _ (λ _. good _ tt) (λ _.
        (if-either Gives room.full _ _ (λ _. bad _) (λ _.
        (if-either Gives (not s.header.dirty) _ _ (λ _. good _ (listed-going home s.header.list own.unlisted)) (λ clean.
        (if-either Gives (is_load op.kind) _ _ (λ _. good _ (asks free clean).0) (λ _. good _ (asks free clean).1)))))))))))

  -- requests
  module _ (src : ℕ) (apart : src ≢ home) (well : asks_well src s.header ≡ true) where
    to-sender : home ≢ src
    to-sender e = apart (sym e)

    forwards : not (is_idle s.header.wait) ≡ false → (s.header.dirty && s.header.local) ≡ false → s.header.dirty ≡ true → AreGoing home home ((owner s.header, FwdGet src) ∷ []) × AreGoing home home ((owner s.header, FwdGetX src) ∷ [])
    forwards free not_own dirty =
        let remote = other_fails s.header.dirty s.header.local not_own dirty in
        asks-owner (idle-is s.header.wait free) dirty remote src (unlisted (is_idle s.header.wait) s.header.dirty s.header.local (listed s.header.list src) well free dirty remote)
      where
        unlisted : (idle dirty local listed : Bool) → not (idle && dirty && not local && listed) ≡ true → not idle ≡ false → dirty ≡ true → local ≡ false → listed ≡ false
        unlisted idle dirty local listed e f g h = grind arith

    pub get-going : Goes (on_get room src s)
    unfolding on_get
    get-going =
        if-either Goes (is_pending s.header) _ _ (λ _. ((tt, tt, to-sender), tt)) (λ free.
        (if-either Goes (lacks_link room src s.header && room.link_pending) _ _ (λ _. ((tt, tt, to-sender), tt)) (λ _.
        (if-either Goes (lacks_link room src s.header && room.full) _ _ (λ _. ((tt, tt, to-sender), tt)) (λ _.
        (if-either Goes (lacks_link room src s.header) _ _ (λ _. ((tt, tt, to-sender), tt)) (λ _.
        (if-either Goes (s.header.dirty && s.header.local) _ _ (λ _. ((tt, tt, to-sender), tt)) (λ not_own.
        (if-either Goes (s.header.dirty && room.full) _ _ (λ _. ((tt, tt, to-sender), tt)) (λ _.
        (if-either Goes s.header.dirty _ _ (λ dirty. (forwards free not_own dirty).0) (λ _. ((tt, tt, to-sender), tt))))))))))))))

    pub getx-going : Goes (on_getx room src s)
    unfolding on_getx
    getx-going =
        if-either Goes (is_pending s.header) _ _ (λ _. ((tt, tt, to-sender), tt)) (λ free.
        (if-either Goes (s.header.dirty && s.header.local) _ _ (λ _. ((tt, tt, to-sender), tt)) (λ not_own.
        (if-either Goes (s.header.dirty && room.full) _ _ (λ _. ((tt, tt, to-sender), tt)) (λ _.
        (if-either Goes s.header.dirty _ _ (λ dirty. (forwards free not_own dirty).1) (λ _.
        (if-either Goes (no_other src s.header.list) _ _ (λ _. ((tt, tt, to-sender), tt)) (λ _.
        (if-either Goes room.full _ _ (λ _. ((tt, tt, to-sender), tt)) (λ _. listed-going home (unlist s.header.list src) gone)))))))))))
      where
        gone : listed (unlist s.header.list src) home ≡ false
        gone = let none = own.unlisted in grind (arith, nat_tests, listings)
