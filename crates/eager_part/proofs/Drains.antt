-- What a row does to a line that drains, at its home: E1 and E2 begin it, E3 to E5 wait for fewer nodes, and the home's copy and the owner's words may go meanwhile.
use Rattle.std.proofs.Common.{◌≡◌, ◌≢◌, ℕ, ◌-◌, ◌<◌, Bool, true, false, cond, nat_le, ◌==◌, ◌&&◌, not, refl, arith, sym, ap, subst, ◌∙◌}
use Rattle.std.proofs.lemmas.Bool.{eqb-true, eqb-false}
use Rattle.std.proofs.lemmas.Bool.Decides.{nat_tests}
use Rattle.op_model.specs.declared.operations.Op.{Op}
use Rattle.op_model.specs.declared.state.Wait.TheVariants.{Idle}
use Rattle.op_model.specs.Nodes.{Nodes, count, listed, listings, none, only, unlist}
use Rattle.op_model.specs.Operations.{Words}
use Rattle.op_model.specs.Lines.{Absent, Copy, Exclusive, LineShare, Outcome, Shared, is_empty, is_exclusive, is_idle, nobody_listed}
use Rattle.op_model.specs.OwnPart.{IsOwnLine}
use Rattle.op_model.specs.Tables.Home.{no_other, on_wb}
use Rattle.op_model.specs.Tables.Processor.{done_on, hit, leave_home}
use Rattle.line_invariant.proofs.Public.{if-either}
use Rattle.own_part.proofs.Public.{above-none, count-only, done-copy, not-owned}
use Rattle.eager_model.specs.Rows.{Drain, drained_list, give_and_drain, on_inv_ack, write_and_drain}
use Rattle.eager_part.specs.Part.{IsDrainingLine, IsEagerLine}
use Rattle.eager_part.proofs.Lines.{IsLine}

-- E1
pub home-drains : (home : ℕ) (op : Op) (s : LineShare) → listed s.header.list home ≡ false → nobody_listed s.header.list ≡ false → IsDrainingLine home home (write_and_drain home op s).share
home-drains home op s unlisted some =
    record { some = above-none (count s.header.list) some; due = refl; unlisted = unlisted; granted = unlisted; local = refl; exclusive = refl; at_home = λ _. refl; away = λ far. absurd (far refl) }

-- E2
pub sender-drains : (home sender : ℕ) (s : LineShare) → sender ≢ home → listed s.header.list home ≡ false → no_other sender s.header.list ≡ false → IsDrainingLine home sender (give_and_drain sender s).share
sender-drains home sender s apart unlisted others =
    record {
      some = above-none (count (unlist s.header.list sender)) others;
      due = refl;
      unlisted = grind (arith, nat_tests, listings);
      granted = grind (arith, nat_tests, listings);
      local = refl;
      exclusive = refl;
      at_home = λ same. absurd (apart same);
      away = λ _. refl;
    }

module _ (home grantee : ℕ) (s : LineShare) (waits : s.header.wait ≡ Drain grantee) (is : IsDrainingLine home grantee s) where
  -- the line drains on
  on : (x : LineShare) → x.header.wait ≡ s.header.wait → IsDrainingLine home grantee x → IsLine home x
  on x stays drains = subst (λ k. IsEagerLine home k x) (sym (stays ∙ waits)) drains

  -- a hit on the home's copy
  pub hit-drains : (op : Op) → IsLine home (hit op s).share
  unfolding hit
  hit-drains op =
      let same = done-copy op s.copy in
      on (hit op s).share refl
      (record {
        some = is.some;
        due = is.due;
        unlisted = is.unlisted;
        granted = is.granted;
        local = is.local ∙ sym (ap not same.0);
        exclusive = same.1 ∙ is.exclusive ∙ sym (ap not same.0);
        at_home = is.at_home;
        away = λ far. ap (done_on op) (is.away far);
      })

  -- the home's copy leaves its cache, and memory takes its words
  pub leave-drains : (copy : Copy) → s.copy ≡ copy → IsLine home (leave_home copy s).share
  leave-drains Absent has = on s refl is
  leave-drains (Shared words) has = absurd (let d : false ≡ true = sym (ap is_exclusive has) ∙ is.exclusive ∙ ap (λ c. not (is_empty c)) has in cc)
  leave-drains (Exclusive words) has =
      on (leave_home (Exclusive words) s).share refl
      (record { some = is.some; due = is.due; unlisted = is.unlisted; granted = is.granted; local = refl; exclusive = refl; at_home = λ _. refl; away = λ _. refl })

  -- a writeback of the node that was granted the line
  pub wb-drains : (words : Words) → s.header.local ≡ false → IsLine home (on_wb words s).share
  unfolding on_wb
  wb-drains words far =
      let kept : cond (is_idle s.header.wait) none s.header.list ≡ s.header.list = ap (λ k. cond (is_idle k) none s.header.list) waits in
      on (on_wb words s).share refl
      (record {
        some = is.some;
        due = is.due ∙ sym (ap count kept);
        unlisted = ap (λ l. listed l home) kept ∙ is.unlisted;
        granted = ap (λ l. listed l grantee) kept ∙ is.granted;
        local = is.local;
        exclusive = is.exclusive;
        at_home = λ _. sym far;
        away = is.away;
      })

  -- one more acknowledgement
  abbrev rest : ℕ → Nodes
  rest sender = unlist s.header.list sender

  module _ (sender : ℕ) (from : listed s.header.list sender ≡ true) where
    fewer : count (rest sender) ≡ count s.header.list - 1
    fewer = grind (arith, nat_tests, listings)

    unlisted-rest : listed (rest sender) home ≡ false
    unlisted-rest = let un = is.unlisted in grind (arith, nat_tests, listings)

    granted-rest : listed (rest sender) grantee ≡ false
    granted-rest = let un = is.granted in grind (arith, nat_tests, listings)

    -- E3
    more : nat_le s.header.acks 1 ≡ false → IsLine home (record s { header = record s.header { list = rest sender; acks = s.header.acks - 1 } })
    more many =
        on (record s { header = record s.header { list = rest sender; acks = s.header.acks - 1 } }) refl
        (record { some = above s.header.acks many; due = left s.header.acks (count s.header.list) (count (rest sender)) is.due fewer; unlisted = unlisted-rest; granted = granted-rest; local = is.local; exclusive = is.exclusive; at_home = is.at_home; away = is.away })
      where
        above : (a : ℕ) → nat_le a 1 ≡ false → 0 < a - 1
        above a e = grind (arith, nat_tests)

        left : (a c r : ℕ) → a ≡ c → r ≡ c - 1 → a - 1 ≡ r
        left a c r e f = grind arith

    -- E4 and E5
    last : nat_le s.header.acks 1 ≡ true → IsOwnLine home (record s { header = record s.header { wait = Idle; list = drained_list home s.header (rest sender); acks = 0 } })
    last one = subst (λ list. IsOwnLine home (record s { header = record s.header { wait = Idle; list = list; acks = 0 } })) (sym told) (by s.header.dirty refl (grantee == home) refl)
      where
        told : drained_list home s.header (rest sender) ≡ cond (s.header.dirty && not (grantee == home)) (only grantee) (rest sender)
        told = rw waits

        gone : count (rest sender) ≡ 0
        gone = fewer ∙ zero-left s.header.acks (count s.header.list) is.due one
          where
            zero-left : (a c : ℕ) → a ≡ c → nat_le a 1 ≡ true → c - 1 ≡ 0
            zero-left a c e le = grind (arith, nat_tests)

        by : (d : Bool) → s.header.dirty ≡ d → (b : Bool) → (grantee == home) ≡ b → IsOwnLine home (record s { header = record s.header { wait = Idle; list = cond (d && not b) (only grantee) (rest sender); acks = 0 } })
        by true dirty false far =
            let none = is.away (eqb-false grantee home far) in
            let off : s.header.local ≡ false = is.local ∙ ap (λ c. not (is_empty c)) none in
            record { local = is.local; unlisted = grind (arith, nat_tests, listings); exclusive = not-owned s is.local off; waiting = (refl, λ d. count-only grantee ∙ sym (ap (λ c. cond c 0 1) off)) }
        by true dirty true same =
            let held : s.header.local ≡ true = sym (is.at_home (eqb-true grantee home same)) ∙ dirty in
            record { local = is.local; unlisted = unlisted-rest; exclusive = is.exclusive ∙ sym is.local ∙ held ∙ sym (ap (λ d. true && d && s.header.local) dirty ∙ held); waiting = (refl, λ d. gone ∙ sym (ap (λ c. cond c 0 1) held)) }
        by false clean b e =
            record { local = is.local; unlisted = unlisted-rest; exclusive = is.exclusive ∙ sym is.local ∙ none b e ∙ sym (ap (λ d. true && d && s.header.local) clean); waiting = (refl, λ d. absurd (let n : false ≡ true = sym clean ∙ d in cc)) }
          where
            none : (b : Bool) → (grantee == home) ≡ b → s.header.local ≡ false
            none true same = sym (is.at_home (eqb-true grantee home same)) ∙ clean
            none false far = is.local ∙ ap (λ c. not (is_empty c)) (is.away (eqb-false grantee home far))

    pub ack-drains : IsLine home (on_inv_ack home sender s).share
    unfolding on_inv_ack
    ack-drains = if-either (λ (o : Outcome). IsLine home o.share) (nat_le s.header.acks 1) _ _ last more
