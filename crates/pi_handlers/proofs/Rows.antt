-- Which row begins an operation at the line's home.
use Rattle.std.proofs.Common.{◌≡◌, ℕ, ◌<◌, Bool, true, false, cond, not, ◌&&◌, Result, Ok, Err, refl, sym, ap, ◌∙◌, subst, arith}
use Rattle.std.proofs.lemmas.Bool.{cond-true, cond-false}
use Rattle.op_model.specs.declared.events.Cause.{Cause}
use Rattle.op_model.specs.declared.events.Cause.TheVariants.{HeldPending, HeldBudget}
use Rattle.op_model.specs.declared.operations.Op.{Op}
use Rattle.op_model.specs.declared.state.Wait.TheVariants.{Idle}
use Rattle.op_model.specs.Nodes.{count}
use Rattle.op_model.specs.Operations.{is_load}
use Rattle.op_model.specs.Lines.{Header, LineShare, Outcome, Room, is_idle, is_pending, nobody_listed}
use Rattle.op_model.specs.OwnPart.{IsOwnLine, IsOwnWait}
use Rattle.op_model.specs.Events.Node.{permit}
use Rattle.op_model.specs.Tables.Processor.{begin_at_home, load_at_home, write_at_home, invalidate_for_home, forward_get_home, forward_getx_home, serves}
use Rattle.op_model.proofs.Public.{idle-wait, unserved-shared}

module _ (node : ℕ) (room : Room) (op : Op) (share : LineShare) where
  pub begin-pending : is_idle share.header.wait ≡ false → begin_at_home node room op share ≡ Err HeldPending
  unfolding begin_at_home
  begin-pending waits = cond-true (is_pending share.header) _ _ (ap not waits)

  module _ (idle : is_idle share.header.wait ≡ true) where
    module _ (dirty : share.header.dirty ≡ true) where
      owned : begin_at_home node room op share ≡ cond room.full (Err HeldBudget) (cond (is_load op.kind) (Ok (forward_get_home node op share)) (Ok (forward_getx_home node op share)))
      unfolding begin_at_home
      owned =
          cond-false (is_pending share.header) _ _ (ap not idle)
          ∙ ap (λ d. cond (not d && is_load op.kind) (Ok (load_at_home op share)) (cond (not d && nobody_listed share.header.list) (Ok (write_at_home op share)) (cond room.full (Err HeldBudget) (cond (not d) (Ok (invalidate_for_home op share)) (cond (is_load op.kind) (Ok (forward_get_home node op share)) (Ok (forward_getx_home node op share))))))) dirty

      pub begin-owned_full : room.full ≡ true → begin_at_home node room op share ≡ Err HeldBudget
      begin-owned_full full = owned ∙ cond-true room.full _ _ full

      pub begin-get : room.full ≡ false → is_load op.kind ≡ true → begin_at_home node room op share ≡ Ok (forward_get_home node op share)
      begin-get full load = owned ∙ cond-false room.full _ _ full ∙ cond-true (is_load op.kind) _ _ load

      pub begin-getx : room.full ≡ false → is_load op.kind ≡ false → begin_at_home node room op share ≡ Ok (forward_getx_home node op share)
      begin-getx full write = owned ∙ cond-false room.full _ _ full ∙ cond-false (is_load op.kind) _ _ write

    module _ (clean : share.header.dirty ≡ false) where
      fresh : begin_at_home node room op share ≡ cond (is_load op.kind) (Ok (load_at_home op share)) (cond (nobody_listed share.header.list) (Ok (write_at_home op share)) (cond room.full (Err HeldBudget) (Ok (invalidate_for_home op share))))
      unfolding begin_at_home
      fresh =
          cond-false (is_pending share.header) _ _ (ap not idle)
          ∙ ap (λ d. cond (not d && is_load op.kind) (Ok (load_at_home op share)) (cond (not d && nobody_listed share.header.list) (Ok (write_at_home op share)) (cond room.full (Err HeldBudget) (cond (not d) (Ok (invalidate_for_home op share)) (cond (is_load op.kind) (Ok (forward_get_home node op share)) (Ok (forward_getx_home node op share))))))) clean

      pub begin-load : is_load op.kind ≡ true → begin_at_home node room op share ≡ Ok (load_at_home op share)
      begin-load load = fresh ∙ cond-true (is_load op.kind) _ _ load

      module _ (write : is_load op.kind ≡ false) where
        pub begin-write : nobody_listed share.header.list ≡ true → begin_at_home node room op share ≡ Ok (write_at_home op share)
        begin-write nobody = fresh ∙ cond-false (is_load op.kind) _ _ write ∙ cond-true (nobody_listed share.header.list) _ _ nobody

        pub begin-called_full : nobody_listed share.header.list ≡ false → room.full ≡ true → begin_at_home node room op share ≡ Err HeldBudget
        begin-called_full some full = fresh ∙ cond-false (is_load op.kind) _ _ write ∙ cond-false (nobody_listed share.header.list) _ _ some ∙ cond-true room.full _ _ full

        pub begin-called : nobody_listed share.header.list ≡ false → room.full ≡ false → begin_at_home node room op share ≡ Ok (invalidate_for_home op share)
        begin-called some full = fresh ∙ cond-false (is_load op.kind) _ _ write ∙ cond-false (nobody_listed share.header.list) _ _ some ∙ cond-false room.full _ _ full

-- whether an operation has to wait at its line's home
abbrev pub has_to_wait : Op → Header → Bool
has_to_wait op header = not (not header.dirty && is_load op.kind) && not (not header.dirty && nobody_listed header.list)

-- whether it can be begun, for short
abbrev may : Bool → Bool → Bool → Result (Unit {0}) Cause
may idle waits full = cond (not idle) (Err HeldPending) (cond (not waits) (Ok tt) (cond full (Err HeldBudget) (Ok tt)))

begin-may : (node : ℕ) (room : Room) (op : Op) (share : LineShare) → permit (begin_at_home node room op share) ≡ may (is_idle share.header.wait) (has_to_wait op share.header) room.full
unfolding begin_at_home
begin-may node room op share =
    by (is_idle share.header.wait) share.header.dirty (is_load op.kind) (nobody_listed share.header.list) room.full (load_at_home op share) (write_at_home op share) (invalidate_for_home op share) (forward_get_home node op share) (forward_getx_home node op share)
  where
    by : (idle dirty load nobody full : Bool) (o1 o2 o3 o4 o5 : Outcome) →
        permit (cond (not idle) (Err HeldPending) (cond (not dirty && load) (Ok o1) (cond (not dirty && nobody) (Ok o2) (cond full (Err HeldBudget) (cond (not dirty) (Ok o3) (cond load (Ok o4) (Ok o5)))))))
        ≡ may idle (not (not dirty && load) && not (not dirty && nobody)) full
    by false dirty load nobody full o1 o2 o3 o4 o5 = refl
    by true true true nobody true o1 o2 o3 o4 o5 = refl
    by true true true nobody false o1 o2 o3 o4 o5 = refl
    by true true false nobody true o1 o2 o3 o4 o5 = refl
    by true true false nobody false o1 o2 o3 o4 o5 = refl
    by true false true nobody full o1 o2 o3 o4 o5 = refl
    by true false false true full o1 o2 o3 o4 o5 = refl
    by true false false false true o1 o2 o3 o4 o5 = refl
    by true false false false false o1 o2 o3 o4 o5 = refl

module _ (node : ℕ) (room : Room) (op : Op) (share : LineShare) where
  abbrev idle : Bool
  idle = is_idle share.header.wait

  abbrev waits : Bool
  waits = has_to_wait op share.header

  pub may-pending : idle ≡ false → Err HeldPending ≡ permit (begin_at_home node room op share)
  may-pending e = sym (begin-may node room op share ∙ ap (λ b. may b waits room.full) e)

  module _ (on : idle ≡ true) where
    pub may-rest : waits ≡ false → Ok tt ≡ permit (begin_at_home node room op share)
    may-rest e = sym (begin-may node room op share ∙ ap (λ b. may b waits room.full) on ∙ ap (λ b. may true b room.full) e)

    pub may-full : waits ≡ true → room.full ≡ true → Err HeldBudget ≡ permit (begin_at_home node room op share)
    may-full e f = sym (begin-may node room op share ∙ ap (λ b. may b waits room.full) on ∙ ap (λ b. may true b room.full) e ∙ ap (may true true) f)

    pub may-wait : waits ≡ true → room.full ≡ false → Ok tt ≡ permit (begin_at_home node room op share)
    may-wait e f = sym (begin-may node room op share ∙ ap (λ b. may b waits room.full) on ∙ ap (λ b. may true b room.full) e ∙ ap (may true true) f)

  module _ (done : Ok tt ≡ permit (begin_at_home node room op share)) where
    pub allowed-idle : idle ≡ true
    allowed-idle = by idle waits room.full (done ∙ begin-may node room op share)
      where
        by : (i w f : Bool) → Ok tt ≡ may i w f → i ≡ true
        by true w f e = refl
        by false w f e = cc

    pub allowed-room : waits ≡ true → room.full ≡ false
    allowed-room on = by idle waits room.full (done ∙ begin-may node room op share) on
      where
        by : (i w f : Bool) → Ok tt ≡ may i w f → w ≡ true → f ≡ false
        by i w false e on = refl
        by true true true e on = cc
        by true false true e on = cc
        by false w true e on = cc

-- a dirty line makes every operation wait, and a listed node a write
pub dirty-waits : (op : Op) (header : Header) → header.dirty ≡ true → has_to_wait op header ≡ true
dirty-waits op header e = ap (λ d. not (not d && is_load op.kind) && not (not d && nobody_listed header.list)) e

pub load-rests : (op : Op) (header : Header) → header.dirty ≡ false → is_load op.kind ≡ true → has_to_wait op header ≡ false
load-rests op header e f = ap (λ d. not (not d && is_load op.kind) && not (not d && nobody_listed header.list)) e ∙ ap (λ l. not l && not (nobody_listed header.list)) f

pub write-waits : (op : Op) (header : Header) → header.dirty ≡ false → is_load op.kind ≡ false → has_to_wait op header ≡ not (nobody_listed header.list)
write-waits op header e f = ap (λ d. not (not d && is_load op.kind) && not (not d && nobody_listed header.list)) e ∙ ap (λ l. not l && not (nobody_listed header.list)) f

-- what is allowed is done
pub permits : {A : Type 0} (act : Result A Cause) (done : A) → act ≡ Ok done → Ok tt ≡ permit act
permits act done e = sym (ap permit e)

-- so a dirty line that is idle is another node's, who alone is listed
module _ (home : ℕ) (share : LineShare) (op : Op) (own : IsOwnLine home share) (idle : is_idle share.header.wait ≡ true) where
  resting : IsOwnWait home Idle share
  resting = subst (λ w. IsOwnWait home w share) (idle-wait share.header.wait idle) own.waiting

  pub no-acks : share.header.acks ≡ 0
  no-acks = resting.0

  pub owner-listed : share.header.dirty ≡ true → serves op share.copy ≡ false → 0 < count share.header.list
  owner-listed dirty unserved = by share.header.local (resting.1 dirty) (sym (unserved-shared op share.copy unserved) ∙ own.exclusive ∙ (λ i. (idle i && dirty i) && share.header.local))
    where
      by : (l : Bool) → count share.header.list ≡ cond l 0 1 → false ≡ l → 0 < count share.header.list
      by true e f = cc
      by false e f = omega arith
