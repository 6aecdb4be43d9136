-- A Get and a GetX at the home keep what holds of its line by itself.
use Rattle.std.proofs.Common.{◌≡◌, ◌≢◌, ℕ, Bool, true, false, cond, ◌&&◌, not, refl, arith, sym, ap, subst, ◌∙◌}
use Rattle.std.proofs.Math.Bool.{and-false}
use Rattle.std.proofs.lemmas.Bool.Decides.{nat_tests}
use Rattle.op_model.specs.Nodes.{listed, enlist, unlist, count, only, listings}
use Rattle.op_model.specs.Lines.{LineShare, Outcome, Room, is_idle, is_pending, is_exclusive}
use Rattle.op_model.specs.OwnPart.{IsOwnLine, IsOwnWait}
use Rattle.op_model.specs.declared.state.Wait.TheVariants.{Idle}
use Rattle.line_invariant.proofs.Public.{if-either}
use Rattle.op_model.specs.declared.messages.NakCause.{NakCause}
use Rattle.op_model.specs.declared.messages.NakCause.TheVariants.{Pending, NoLink, Budget}
use Rattle.op_model.specs.Tables.Home.{on_get, on_getx, lacks_link, no_other, refuse, share_home_copy, share_memory, forward_get, give_home_copy, give_memory, forward_getx, invalidate_for}
use Rattle.op_model.specs.Tables.Remote.{asks_well}
use Rattle.op_model.proofs.Public.{other_fails}
use Rattle.own_part.proofs.Basics.{idle-is, above-none, none-between}
use Rattle.own_part.proofs.Effects.{IsQuiet, waits-so, idle-exclusive}

asks-of : (idle dirty local listed : Bool) → not (idle && dirty && not local && listed) ≡ true → idle ≡ true → dirty ≡ true → local ≡ false → listed ≡ false
asks-of idle dirty local listed e f g h = grind arith

module _ (home sender : ℕ) (apart : sender ≢ home) (s : LineShare) (own : IsOwnLine home s) where
  abbrev Keeps : Outcome → Type 0
  Keeps o = IsOwnLine home o.share × IsQuiet s o

  -- refused
  stays : (cause : NakCause) → Keeps (refuse sender cause s)
  stays cause = (own, (refl, refl, λ none. none))

  unlisted-enlist : listed (enlist s.header.list sender) home ≡ false
  unlisted-enlist = let un = own.unlisted in grind (arith, nat_tests, listings)

  unlisted-only : listed (only sender) home ≡ false
  unlisted-only = grind (arith, nat_tests, listings)

  count-only : count (only sender) ≡ 1
  count-only = grind (arith, nat_tests, listings)

  module _ (idle : s.header.wait ≡ Idle) where
    -- H5
    shares : (s.header.dirty && s.header.local) ≡ true → Keeps (share_home_copy sender s)
    shares both =
        let w = waits-so home Idle s idle own in
        let x = idle-exclusive home s idle own in (
          record { local = grind arith; unlisted = unlisted-enlist; exclusive = sym (none-between (is_idle s.header.wait) s.header.local); waiting = subst (λ k. IsOwnWait home k (share_home_copy sender s).share) (sym idle) (w.0, λ d. absurd (cc)) },
          (refl, refl, λ none. absurd (let e : is_exclusive s.copy ≡ false = ap is_exclusive none in let d : false ≡ true = sym e ∙ x ∙ both in cc)),
        )

    -- H8
    lends : s.header.dirty ≡ false → Keeps (share_memory sender s)
    lends clean =
        let w = waits-so home Idle s idle own in
        (record { local = own.local; unlisted = unlisted-enlist; exclusive = own.exclusive; waiting = subst (λ k. IsOwnWait home k (share_memory sender s).share) (sym idle) (w.0, λ d. absurd (let e : false ≡ true = sym clean ∙ d in cc)) }, (refl, refl, λ none. none))

    -- H10
    gives : (s.header.dirty && s.header.local) ≡ true → Keeps (give_home_copy sender s)
    gives both =
        let w = waits-so home Idle s idle own in
        (record { local = refl; unlisted = unlisted-only; exclusive = sym (and-false (is_idle s.header.wait && s.header.dirty)); waiting = subst (λ k. IsOwnWait home k (give_home_copy sender s).share) (sym idle) (w.0, λ d. count-only) }, (refl, refl, λ none. refl))

    -- H13
    gives-memory : Keeps (give_memory sender s)
    gives-memory =
        let w = waits-so home Idle s idle own in
        (record { local = refl; unlisted = unlisted-only; exclusive = sym (and-false (is_idle s.header.wait && true)); waiting = subst (λ k. IsOwnWait home k (give_memory sender s).share) (sym idle) (w.0, λ d. count-only) }, (refl, refl, λ none. refl))

    -- H15
    calls : s.header.dirty ≡ false → no_other sender s.header.list ≡ false → Keeps (invalidate_for sender s)
    calls clean others =
        let un = own.unlisted in
        (record { local = refl; unlisted = grind (arith, nat_tests, listings); exclusive = refl; waiting = (clean, above-none (count (unlist s.header.list sender)) others, refl, (refl, apart, grind (arith, nat_tests, listings))) }, (refl, refl, λ none. refl))

    module _ (asks : asks_well sender s.header ≡ true) (dirty : s.header.dirty ≡ true) (away : s.header.local ≡ false) where
      free : listed s.header.list sender ≡ false
      free = asks-of (is_idle s.header.wait) s.header.dirty s.header.local (listed s.header.list sender) asks (ap is_idle idle) dirty away

      one : count s.header.list ≡ 1
      one = (waits-so home Idle s idle own).1 dirty ∙ ap (λ c. cond c 0 1) away

      shared-only : is_exclusive s.copy ≡ false
      shared-only = let x = idle-exclusive home s idle own in grind arith

      -- H7
      forwards-get : Keeps (forward_get sender s)
      forwards-get =
          let w = waits-so home Idle s idle own in
          let f = free in
          let n = one in
          (record { local = own.local; unlisted = unlisted-enlist; exclusive = shared-only; waiting = (w.0, away, grind (arith, nat_tests, listings), grind (arith, nat_tests, listings)) }, (refl, refl, λ none. none))

      -- H12
      forwards-getx : Keeps (forward_getx sender s)
      forwards-getx =
          let w = waits-so home Idle s idle own in
          (record { local = own.local; unlisted = own.unlisted; exclusive = shared-only; waiting = (w.0, away, free, one) }, (refl, refl, λ none. none))

pub get-keeps : (home sender : ℕ) → sender ≢ home → (room : Room) (s : LineShare) → IsOwnLine home s → asks_well sender s.header ≡ true → IsOwnLine home (on_get room sender s).share × IsQuiet s (on_get room sender s)
unfolding on_get
get-keeps home sender apart room s own asks =
    if-either K (is_pending s.header) _ _ (λ _. no Pending) (λ free.
    (if-either K (lacks_link room sender s.header && room.link_pending) _ _ (λ _. no NoLink) (λ _.
    (if-either K (lacks_link room sender s.header && room.full) _ _ (λ _. no Budget) (λ _.
    (if-either K (lacks_link room sender s.header) _ _ (λ _. no NoLink) (λ _.
    (if-either K (s.header.dirty && s.header.local) _ _ (λ both. shares home sender apart s own (idle-is s.header.wait free) both) (λ not_own.
    (if-either K (s.header.dirty && room.full) _ _ (λ _. no Budget) (λ _.
    (if-either K s.header.dirty _ _ (λ dirty. forwards-get home sender apart s own (idle-is s.header.wait free) asks dirty (other_fails s.header.dirty s.header.local not_own dirty)) (λ clean. lends home sender apart s own (idle-is s.header.wait free) clean)))))))))))))
  where
    K : Outcome → Type 0
    K o = IsOwnLine home o.share × IsQuiet s o

    no : (cause : NakCause) → IsOwnLine home (refuse sender cause s).share × IsQuiet s (refuse sender cause s)
    no cause = stays home sender apart s own cause

pub getx-keeps : (home sender : ℕ) → sender ≢ home → (room : Room) (s : LineShare) → IsOwnLine home s → asks_well sender s.header ≡ true → IsOwnLine home (on_getx room sender s).share × IsQuiet s (on_getx room sender s)
unfolding on_getx
getx-keeps home sender apart room s own asks =
    if-either K (is_pending s.header) _ _ (λ _. no Pending) (λ free.
    (if-either K (s.header.dirty && s.header.local) _ _ (λ both. gives home sender apart s own (idle-is s.header.wait free) both) (λ not_own.
    (if-either K (s.header.dirty && room.full) _ _ (λ _. no Budget) (λ _.
    (if-either K s.header.dirty _ _ (λ dirty. forwards-getx home sender apart s own (idle-is s.header.wait free) asks dirty (other_fails s.header.dirty s.header.local not_own dirty)) (λ clean.
    (if-either K (no_other sender s.header.list) _ _ (λ _. gives-memory home sender apart s own (idle-is s.header.wait free)) (λ others.
    (if-either K room.full _ _ (λ _. no Budget) (λ _. calls home sender apart s own (idle-is s.header.wait free) clean others)))))))))))
  where
    K : Outcome → Type 0
    K o = IsOwnLine home o.share × IsQuiet s o

    no : (cause : NakCause) → IsOwnLine home (refuse sender cause s).share × IsQuiet s (refuse sender cause s)
    no cause = stays home sender apart s own cause
