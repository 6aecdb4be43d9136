-- The acknowledgements, the answers of an owner, a writeback and a hint at the home keep what holds of its line by itself.
use Rattle.std.proofs.Common.{◌≡◌, ◌⊎◌, inl, inr, ℕ, ◌-◌, ◌<◌, Bool, true, false, cond, nat_le, ◌==◌, ◌&&◌, not, refl, arith, sym, ap, subst, ◌∙◌, Option, Some, None}
use Rattle.std.proofs.Math.Bool.{and-false}
use Rattle.std.proofs.lemmas.Bool.Decides.{nat_tests}
use Rattle.op_model.specs.Nodes.{Nodes, listed, unlist, count, none, only, listings}
use Rattle.op_model.specs.Operations.{Words}
use Rattle.op_model.specs.Lines.{Absent, LineShare, Outcome, is_idle, is_empty, is_exclusive, is_outstanding}
use Rattle.op_model.specs.OwnPart.{IsOwnLine, IsOwnWait, IsOwnGrantee}
use Rattle.op_model.specs.declared.state.Want.{Want}
use Rattle.op_model.specs.declared.state.Wait.{Wait}
use Rattle.op_model.specs.declared.state.Wait.TheVariants.{Idle, Invalidate, ForwardGet, ForwardGetX}
use Rattle.op_model.specs.declared.state.Grantee.{Grantee}
use Rattle.op_model.specs.declared.state.Grantee.TheVariants.{Nobody, Me, Node}
use Rattle.line_invariant.proofs.Public.{if-either}
use Rattle.op_model.specs.Tables.Home.{grant, grantee_of, on_inv_ack, on_shwb, on_fack, on_nakc, on_wb, on_rpl, requester_of}
use Rattle.op_model.specs.Tables.Remote.{waits_write, is_invalidate, is_forward, gets_elsewhere, getxs_elsewhere}
use Rattle.op_model.proofs.Public.{write-outstanding}
use Rattle.own_part.proofs.Basics.{away-empty, gets, getxs, idle-is, invalidates, none-between}
use Rattle.own_part.proofs.Effects.{IsQuiet, IsEnd, waits-so}

abbrev pub Ends : LineShare → Outcome → Type 0
Ends s o = IsQuiet s o ⊎ IsEnd s o

-- the sets of one node and of none
unlisted-only : (home k r : ℕ) → k ≡ r → (r == home) ≡ false → listed (only k) home ≡ false
unlisted-only home k r e f = grind (arith, nat_tests, listings)

unlisted-none : (home : ℕ) → listed none home ≡ false
unlisted-none home = grind (arith, nat_tests, listings)

pub count-only : (n : ℕ) → count (only n) ≡ 1
count-only n = grind (arith, nat_tests, listings)

-- a line that is idle now and not local isn't exclusive at its home
pub not-owned : (s : LineShare) → s.header.local ≡ not (is_empty s.copy) → s.header.local ≡ false → is_exclusive s.copy ≡ (true && s.header.dirty && s.header.local)
not-owned s local away = ap is_exclusive (away-empty s.header.local s.copy local away) ∙ sym (ap (λ l. true && s.header.dirty && l) away ∙ and-false (true && s.header.dirty))

-- an invalidated line: what is left when one more acknowledgement is in
module _ (home sender : ℕ) (s : LineShare) (own : IsOwnLine home s) (from : listed s.header.list sender ≡ true) where
  abbrev rest : Nodes
  rest = unlist s.header.list sender

  unlisted-rest : listed rest home ≡ false
  unlisted-rest = let un = own.unlisted in grind (arith, nat_tests, listings)

  fewer : count rest ≡ count s.header.list - 1
  fewer = grind (arith, nat_tests, listings)

  module _ (clean : s.header.dirty ≡ false) (due : s.header.acks ≡ count s.header.list) (some : 0 < s.header.acks) where
    not-exclusive : is_exclusive s.copy ≡ false
    not-exclusive = own.exclusive ∙ (ap (λ d. is_idle s.header.wait && d && s.header.local) clean ∙ none-between (is_idle s.header.wait) s.header.local)

    last : (g : Grantee) → s.header.wait ≡ Invalidate g → IsOwnGrantee home g s → nat_le s.header.acks 1 ≡ true → IsOwnLine home (grant g s.want rest s).share × Ends s (grant g s.want rest s)
    last Nobody is granted le = (record { local = own.local; unlisted = unlisted-rest; exclusive = not-exclusive ∙ sym (ap (λ d. true && d && s.header.local) clean); waiting = (refl, λ d. absurd (let e : false ≡ true = sym clean ∙ d in cc)) }, inl (refl, refl, λ none. none))
    last (Node n) is granted le =
        let away : s.header.local ≡ false = own.local ∙ ap (λ c. not (is_empty c)) granted.0 in
        let apart = granted.1 in
        (record { local = own.local; unlisted = grind (arith, nat_tests, listings); exclusive = not-exclusive ∙ sym (ap (λ l. true && true && l) away); waiting = (refl, λ d. count-only n ∙ sym (ap (λ c. cond c 0 1) away)) }, inl (refl, refl, λ none. none))
    last Me is granted le = by-want s.want granted.1
      where
        gone : count rest ≡ 0
        gone = fewer ∙ zero-left s.header.acks (count s.header.list) due le
          where
            zero-left : (a c : ℕ) → a ≡ c → nat_le a 1 ≡ true → c - 1 ≡ 0
            zero-left a c e le = grind (arith, nat_tests)

        by-want : (want : Option Want) → waits_write want ≡ true → IsOwnLine home (grant Me want rest s).share × ((((grant Me want rest s).share.want ≡ s.want) × ((grant Me want rest s).done ≡ false) × (s.copy ≡ Absent → (grant Me want rest s).share.copy ≡ Absent)) ⊎ (((grant Me want rest s).share.want ≡ None) × (is_outstanding s.want ≡ true)))
        by-want None writes = absurd (cc)
        by-want (Some want) writes = (record { local = refl; unlisted = unlisted-rest; exclusive = refl; waiting = (refl, λ d. gone) }, inr (refl, write-outstanding s.want granted.1))

    more : (g : Grantee) → s.header.wait ≡ Invalidate g → IsOwnGrantee home g s → nat_le s.header.acks 1 ≡ false → IsOwnLine home (record s { header = record s.header { list = rest; acks = s.header.acks - 1 } })
    more g is granted le =
        record {
          local = own.local;
          unlisted = unlisted-rest;
          exclusive = own.exclusive;
          waiting = subst (λ k. IsOwnWait home k (record s { header = record s.header { list = rest; acks = s.header.acks - 1 } })) (sym is) (clean, above s.header.acks le, left s.header.acks (count s.header.list) (count rest) due fewer, still g granted);
        }
      where
        above : (a : ℕ) → nat_le a 1 ≡ false → 0 < a - 1
        above a e = grind (arith, nat_tests)

        left : (a c r : ℕ) → a ≡ c → r ≡ c - 1 → a - 1 ≡ r
        left a c r e f = grind arith

        still : (g : Grantee) → IsOwnGrantee home g s → IsOwnGrantee home g (record s { header = record s.header { list = rest; acks = s.header.acks - 1 } })
        still Nobody h = tt
        still Me h = h
        still (Node n) h = let un = h.2 in (h.0, h.1, grind (arith, nat_tests, listings))

pub inv-ack-keeps : (home sender : ℕ) (s : LineShare) → IsOwnLine home s → is_invalidate s.header.wait ≡ true → listed s.header.list sender ≡ true → IsOwnLine home (on_inv_ack sender s).share × Ends s (on_inv_ack sender s)
unfolding on_inv_ack
inv-ack-keeps home sender s own called from =
    let g = invalidates s.header.wait called in
    let w = waits-so home (Invalidate g.0) s g.1 own in
    if-either (λ o. IsOwnLine home o.share × Ends s o) (nat_le s.header.acks 1) _ _
    (λ le. subst (λ k. IsOwnLine home (grant (grantee_of k) s.want (unlist s.header.list sender) s).share × Ends s (grant (grantee_of k) s.want (unlist s.header.list sender) s)) (sym g.1) (last home sender s own from w.0 w.2 w.1 g.0 g.1 w.3 le))
    (λ le. (more home sender s own from w.0 w.2 w.1 g.0 g.1 w.3 le, inl (refl, refl, λ none. none)))

pub shwb-keeps : (home : ℕ) (words : Words) (s : LineShare) → IsOwnLine home s → gets_elsewhere home s.header.wait ≡ true → IsOwnLine home (on_shwb words s).share × IsQuiet s (on_shwb words s)
unfolding on_shwb
shwb-keeps home words s own forwards =
    let r = gets home s.header.wait forwards in
    let w = waits-so home (ForwardGet r.0) s r.1 own in
    let none = away-empty s.header.local s.copy own.local w.1 in
    (record { local = own.local; unlisted = own.unlisted; exclusive = ap is_exclusive none; waiting = (w.0, λ d. absurd (cc)) }, (refl, refl, λ e. e))

pub fack-keeps : (home : ℕ) (s : LineShare) → IsOwnLine home s → getxs_elsewhere home s.header.wait ≡ true → IsOwnLine home (on_fack s).share × IsQuiet s (on_fack s)
unfolding on_fack
fack-keeps home s own forwards =
    let r = getxs home s.header.wait forwards in
    let w = waits-so home (ForwardGetX r.0) s r.1 own in
    let which : requester_of s.header.wait ≡ r.0 = ap requester_of r.1 in
    let is : (s.header.dirty ≡ true → cond s.header.dirty (only (requester_of s.header.wait)) none ≡ only r.0) = λ d. ap (λ c. cond c (only (requester_of s.header.wait)) none) d ∙ ap only which in (
      record {
        local = own.local;
        unlisted = if-either (λ l. listed l home ≡ false) s.header.dirty _ _ (λ _. unlisted-only home (requester_of s.header.wait) r.0 which r.2) (λ _. unlisted-none home);
        exclusive = not-owned s own.local w.1;
        waiting = (w.0, λ d. ap count (is d) ∙ count-only r.0 ∙ sym (ap (λ c. cond c 0 1) w.1));
      },
      (refl, refl, λ e. e),
    )

-- a forward that was refused: a remote requester of a shared copy was listed, and its owner stays
module _ (home : ℕ) (s : LineShare) (own : IsOwnLine home s) where
  -- the list that a Nakc of this requester leaves
  abbrev after_nakc : ℕ → Nodes
  after_nakc requester = cond s.header.dirty (unlist s.header.list requester) none

  abbrev refused : ℕ → LineShare
  refused requester = record s { header = record s.header { wait = Idle; list = after_nakc requester } }

  owner-left : (r : ℕ) (c : Bool) (lists : Bool) → lists ≡ not c → listed s.header.list r ≡ lists → count s.header.list ≡ cond c 1 2 → s.header.dirty ≡ true → count (after_nakc r) ≡ 1
  owner-left r true lists e l n d = let f : listed s.header.list r ≡ false = l ∙ e in ap (λ b. count (cond b (unlist s.header.list r) none)) d ∙ grind (arith, nat_tests, listings)
  owner-left r false lists e l n d = let f : listed s.header.list r ≡ true = l ∙ e in ap (λ b. count (cond b (unlist s.header.list r) none)) d ∙ grind (arith, nat_tests, listings)

  refused-keeps : (r : ℕ) → s.header.acks ≡ 0 → s.header.local ≡ false → (s.header.dirty ≡ true → count (after_nakc r) ≡ 1) → IsOwnLine home (refused r)
  refused-keeps r acks away one =
      let un = own.unlisted in
      record {
        local = own.local;
        unlisted = if-either (λ l. listed l home ≡ false) s.header.dirty _ _ (λ _. grind (arith, nat_tests, listings)) (λ _. unlisted-none home);
        exclusive = not-owned s own.local away;
        waiting = (acks, λ d. one d ∙ sym (ap (λ c. cond c 0 1) away));
      }

  by-wait : (wait : Wait) → s.header.wait ≡ wait → is_forward wait ≡ true → IsOwnLine home (refused (requester_of s.header.wait))
  by-wait Idle is f = absurd (cc)
  by-wait (Invalidate g) is f = absurd (cc)
  by-wait (ForwardGet r) is f =
      let w = waits-so home (ForwardGet r) s is own in
      subst (λ k. IsOwnLine home (refused k)) (sym (ap requester_of is)) (refused-keeps r w.0 w.1 (owner-left r (r == home) (listed s.header.list r) w.2 refl w.3))
  by-wait (ForwardGetX r) is f =
      let w = waits-so home (ForwardGetX r) s is own in
      subst (λ k. IsOwnLine home (refused k)) (sym (ap requester_of is)) (refused-keeps r w.0 w.1 (owner-left r true false refl w.2 w.3))

pub nakc-keeps : (home : ℕ) (s : LineShare) → IsOwnLine home s → is_forward s.header.wait ≡ true → IsOwnLine home (on_nakc s).share × IsQuiet s (on_nakc s)
unfolding on_nakc
nakc-keeps home s own forwards = (by-wait home s own s.header.wait refl forwards, (refl, refl, λ e. e))

pub wb-keeps : (home : ℕ) (words : Words) (s : LineShare) → IsOwnLine home s → s.header.local ≡ false → is_invalidate s.header.wait ≡ false → IsOwnLine home (on_wb words s).share × IsQuiet s (on_wb words s)
unfolding on_wb
wb-keeps home words s own away called = (
  record {
    local = own.local;
    unlisted = if-either (λ l. listed l home ≡ false) (is_idle s.header.wait) _ _ (λ _. unlisted-none home) (λ _. own.unlisted);
    exclusive = ap is_exclusive (away-empty s.header.local s.copy own.local away) ∙ sym (none-between (is_idle s.header.wait) s.header.local);
    waiting = waits s.header.wait refl called;
  },
  (refl, refl, λ e. e),
)
  where
    -- what a line has that waits for this, after a writeback
    After : Wait → Type 0
    After k = IsOwnWait home k (record s { header = record s.header { memory = words; dirty = false; list = cond (is_idle k) none s.header.list } })

    waits : (wait : Wait) → s.header.wait ≡ wait → is_invalidate wait ≡ false → IsOwnWait home s.header.wait (record s { header = record s.header { memory = words; dirty = false; list = cond (is_idle s.header.wait) none s.header.list } })
    waits Idle is f = let w = waits-so home Idle s is own in subst After (sym is) (w.0, λ d. absurd (cc))
    waits (Invalidate g) is f = absurd (cc)
    waits (ForwardGet r) is f = subst After (sym is) (waits-so home (ForwardGet r) s is own)
    waits (ForwardGetX r) is f = subst After (sym is) (waits-so home (ForwardGetX r) s is own)

pub rpl-keeps : (home sender : ℕ) (s : LineShare) → IsOwnLine home s → IsOwnLine home (on_rpl sender s).share × IsQuiet s (on_rpl sender s)
unfolding on_rpl
rpl-keeps home sender s own =
    if-either (λ o. IsOwnLine home o.share × IsQuiet s o) (is_idle s.header.wait && not s.header.dirty) _ _
    (λ both.
    let is = idle-is s.header.wait (turn (is_idle s.header.wait) s.header.dirty both).0 in
    let clean = (turn (is_idle s.header.wait) s.header.dirty both).1 in
    let w = waits-so home Idle s is own in
    let un = own.unlisted in
    (record { local = own.local; unlisted = grind (arith, nat_tests, listings); exclusive = own.exclusive; waiting = subst (λ k. IsOwnWait home k (record s { header = record s.header { list = unlist s.header.list sender } })) (sym is) (w.0, λ d. absurd (let e : false ≡ true = sym clean ∙ d in cc)) }, (refl, refl, λ e. e)))
    (λ _. (own, (refl, refl, λ e. e)))
  where
    turn : (a b : Bool) → (a && not b) ≡ true → (not a ≡ false) × (b ≡ false)
    turn a b e = (grind arith, grind arith)
