-- What a home does with a request where no line waits and a link is free or not needed, and what an owner does with a forward: the
-- request is answered, forwarded, or calls in the copies of others.
use Rattle.std.proofs.Common.{◌≡◌, ℕ, ◌≤◌, Bool, true, false, cond, not, ◌==◌, ◌&&◌, ◌⊎◌, inl, inr, List, [], ◌∷◌, refl, arith, None, is_some, Result, Ok, Err}
use Rattle.op_model.specs.declared.events.Cause.{Cause}
use Rattle.op_model.specs.declared.events.Cause.TheVariants.{HeldBudget}
use Rattle.op_model.specs.declared.messages.NakCause.TheVariants.{Budget}
use Rattle.op_model.specs.declared.operations.Op.{Op}
use Rattle.op_model.specs.declared.state.Grantee.TheVariants.{Node}
use Rattle.op_model.specs.declared.state.Wait.{Wait}
use Rattle.op_model.specs.declared.state.Wait.TheVariants.{ForwardGet, ForwardGetX, Idle, Invalidate}
use Rattle.op_model.specs.Nodes.{unlist}
use Rattle.op_model.specs.Operations.{Words, is_load}
use Rattle.op_model.specs.Messages.{Content, FAck, FwdGet, FwdGetX, Get, GetX, Put, PutX, ShWb}
use Rattle.op_model.specs.Lines.{Absent, For, Header, LineShare, Outcome, Room, Shared, begun, is_exclusive, is_idle, is_pending, nobody_listed, owner, sending, to_each, to_listed, without_shared, words_of}
use Rattle.op_model.specs.Tables.Home.{forward_get, forward_getx, give_home_copy, give_memory, invalidate_for, lacks_link, no_other, on_get, on_getx, refuse, share_home_copy, share_memory}
use Rattle.op_model.specs.Tables.Processor.{ask, begin_at_home, begin_op, forward_get_home, forward_getx_home, invalidate_for_home, load_at_home, serves, write_at_home}
use Rattle.op_model.specs.Tables.Remote.{on_fwd_get, on_fwd_getx}
use Rattle.op_model.proofs.Public.{eqb-self}
use Rattle.schedule_laws.proofs.Settled.{AllSettle, grants, still_sent}

-- a row that leaves what is begun as it was
abbrev pub IsPassive : LineShare → Outcome → Type 0
IsPassive share outcome = (outcome.share.want ≡ share.want) × (outcome.done ≡ false)

-- the request is forwarded to the owner
abbrev pub IsForwarded : Content → LineShare → Outcome → Type 0
IsForwarded content share outcome =
    (share.header.dirty ≡ true) × (share.header.local ≡ false) × (outcome.sends ≡ (owner share.header, content) ∷ []) × (grants outcome.share.header.wait ≡ 0) × IsPassive share outcome

-- it is answered at once
abbrev pub IsAnswered : (Words → Content) → ℕ → LineShare → Outcome → Type 0
IsAnswered answer node share outcome =
    (words : Words) × (outcome.sends ≡ (node, answer words) ∷ []) × (grants outcome.share.header.wait ≡ 0) × IsPassive share outcome

idle-wait : (header : Header) → is_pending header ≡ false → grants header.wait ≡ 0
idle-wait header e = go header.wait e
  where
    go : (wait : Wait) → not (is_idle wait) ≡ false → grants wait ≡ 0
    go Idle e = refl
    go (Invalidate g) e = cc
    go (ForwardGet r) e = cc
    go (ForwardGetX r) e = cc

pub get-row : (room : Room) (p : ℕ) (share : LineShare) → is_pending share.header ≡ false → lacks_link room p share.header ≡ false → room.full ≡ false →
    IsAnswered Put p share (on_get room p share) ⊎ IsForwarded (FwdGet p) share (on_get room p share)
unfolding on_get
get-row room p share idle has free = rw (idle, has, free) (go share.header.dirty share.header.local refl refl)
  where
    quiet : grants share.header.wait ≡ 0
    quiet = idle-wait share.header idle

    Done : Outcome → Type 0
    Done o = IsAnswered Put p share o ⊎ IsForwarded (FwdGet p) share o

    go : (d l : Bool) → share.header.dirty ≡ d → share.header.local ≡ l →
        Done (cond (d && l) (share_home_copy p share) (cond (d && false) (refuse p Budget share) (cond d (forward_get p share) (share_memory p share))))
    go true true x y = inl (words_of share.copy, refl, quiet, (refl, refl))
    go true false x y = inr (x, y, refl, refl, (refl, refl))
    go false l x y = inl (share.header.memory, refl, quiet, (refl, refl))

-- a GetX that waits for acknowledgements
abbrev pub IsInvalidating : ℕ → LineShare → Outcome → Type 0
IsInvalidating p share outcome = (outcome.sends ≡ to_listed (unlist share.header.list p)) × (outcome.share.header.wait ≡ Invalidate (Node p)) × IsPassive share outcome

pub getx-row : (room : Room) (p : ℕ) (share : LineShare) → is_pending share.header ≡ false → room.full ≡ false →
    IsAnswered PutX p share (on_getx room p share) ⊎ IsForwarded (FwdGetX p) share (on_getx room p share) ⊎ IsInvalidating p share (on_getx room p share)
unfolding on_getx
getx-row room p share idle free = rw (idle, free) (go share.header.dirty share.header.local (no_other p share.header.list) refl refl)
  where
    quiet : grants share.header.wait ≡ 0
    quiet = idle-wait share.header idle

    Done : Outcome → Type 0
    Done o = IsAnswered PutX p share o ⊎ IsForwarded (FwdGetX p) share o ⊎ IsInvalidating p share o

    go : (d l n : Bool) → share.header.dirty ≡ d → share.header.local ≡ l →
        Done (cond (d && l) (give_home_copy p share) (cond (d && false) (refuse p Budget share) (cond d (forward_getx p share) (cond n (give_memory p share) (cond false (refuse p Budget share) (invalidate_for p share))))))
    go true true n x y = inl (words_of share.copy, refl, quiet, (refl, refl))
    go true false n x y = inr (inl (x, y, refl, refl, (refl, refl)))
    go false l true x y = inl (share.header.memory, refl, quiet, (refl, refl))
    go false l false x y = inr (inr (refl, refl, (refl, refl)))

-- the owner answers a forward: nothing that is sent asks or refuses, and at most two messages are
abbrev pub IsHandedOn : LineShare → Outcome → Type 0
IsHandedOn share outcome = AllSettle outcome.sends × (still_sent outcome.sends ≤ 2) × IsPassive share outcome

pub forward-row : (home r : ℕ) (share : LineShare) → is_exclusive share.copy ≡ true → IsHandedOn share (on_fwd_get home r share)
unfolding on_fwd_get
forward-row home r share has = rw has (go (r == home))
  where
    out : (c : Bool) → Outcome
    out c = record {
      share = record share { copy = Shared (words_of share.copy) };
      sends = (cond c ((home, Put (words_of share.copy)) ∷ []) ((r, Put (words_of share.copy)) ∷ (home, ShWb (words_of share.copy)) ∷ []));
      served = For r (words_of share.copy);
      done = false;
    }

    go : (c : Bool) → IsHandedOn share (out c)
    go true = ((refl, refl, tt), omega arith, (refl, refl))
    go false = ((refl, refl, (refl, refl, tt)), omega arith, (refl, refl))

pub forwardx-row : (home r : ℕ) (share : LineShare) → is_exclusive share.copy ≡ true → IsHandedOn share (on_fwd_getx home r share)
unfolding on_fwd_getx
forwardx-row home r share has = rw has (go (r == home))
  where
    go : (c : Bool) → IsHandedOn share (sending (record share { copy = Absent }) (cond c ((home, PutX (words_of share.copy)) ∷ []) ((r, PutX (words_of share.copy)) ∷ (home, FAck) ∷ [])))
    go true = ((refl, refl, tt), omega arith, (refl, refl))
    go false = ((refl, refl, (refl, refl, tt)), omega arith, (refl, refl))

-- an Inv to each of some nodes settles
pub each-settles : (nodes : List ℕ) → AllSettle (to_each nodes)
each-settles [] = tt
each-settles (n ∷ ns) = (refl, refl, each-settles ns)

-- What an Issue comes to at the line's home, where no line waits: the operation is done at once, the copies are called in for it, or it is
-- forwarded to the owner
abbrev pub IsDoneHere : Outcome → Type 0
IsDoneHere outcome = (outcome.done ≡ true) × (outcome.sends ≡ []) × (outcome.share.want ≡ None)

abbrev pub IsBegun : Outcome → Type 0
IsBegun outcome = (outcome.done ≡ false) × (is_some outcome.share.want ≡ true)

abbrev pub IsBegunAs : Content → LineShare → Outcome → Type 0
IsBegunAs content share outcome =
    (share.header.dirty ≡ true) × (outcome.sends ≡ (owner share.header, content) ∷ []) × (grants outcome.share.header.wait ≡ 0) × IsBegun outcome

abbrev pub IsCallingFor : LineShare → Outcome → Type 0
IsCallingFor share outcome = (outcome.sends ≡ to_listed share.header.list) × (grants outcome.share.header.wait ≡ 0) × IsBegun outcome

abbrev pub IsBegunHere : ℕ → LineShare → Outcome → Type 0
IsBegunHere home share outcome =
    IsDoneHere outcome ⊎ IsCallingFor share outcome ⊎ IsBegunAs (FwdGet home) share outcome ⊎ IsBegunAs (FwdGetX home) share outcome

pub home-row : (home : ℕ) (room : Room) (op : Op) (share : LineShare) → is_pending share.header ≡ false → room.full ≡ false → share.want ≡ None →
    (o : Outcome) × (begin_at_home home room op share ≡ Ok o) × IsBegunHere home share o
unfolding begin_at_home
home-row home room op share idle free none = rw (idle, free) (go share.header.dirty (is_load op.kind) (nobody_listed share.header.list) refl)
  where
    Found : Result Outcome Cause → Type 0
    Found r = (o : Outcome) × (r ≡ Ok o) × IsBegunHere home share o

    go : (d l n : Bool) → share.header.dirty ≡ d →
        Found (cond (not d && l) (Ok (load_at_home op share)) (cond (not d && n) (Ok (write_at_home op share)) (cond false (Err HeldBudget) (cond (not d) (Ok (invalidate_for_home op share)) (cond l (Ok (forward_get_home home op share)) (Ok (forward_getx_home home op share)))))))
    go false true n x = (load_at_home op share, refl, inl (refl, refl, none))
    go false false true x = (write_at_home op share, refl, inl (refl, refl, none))
    go false false false x = (invalidate_for_home op share, refl, inr (inl (refl, refl, (refl, refl))))
    go true true n x = (forward_get_home home op share, refl, inr (inr (inl (x, refl, refl, (refl, refl)))))
    go true false n x = (forward_getx_home home op share, refl, inr (inr (inr (x, refl, refl, (refl, refl)))))

pub begin-home : (home : ℕ) (room : Room) (op : Op) (share : LineShare) → serves op share.copy ≡ false → begin_op home home room op share ≡ begin_at_home home room op share
unfolding begin_op
begin-home home room op share serve = rw (serve, eqb-self home) refl

-- elsewhere the home is asked for the line
pub begin-away : (p home : ℕ) (room : Room) (op : Op) (share : LineShare) → serves op share.copy ≡ false → (p == home) ≡ false → begin_op p home room op share ≡ Ok (ask home op share)
unfolding begin_op
begin-away p home room op share serve apart = rw (serve, apart) refl

pub ask-row : (home : ℕ) (op : Op) (share : LineShare) → IsBegun (ask home op share) × ((ask home op share).share.header ≡ share.header) × ((ask home op share).sends ≡ (home, cond (is_load op.kind) Get GetX) ∷ [])
unfolding ask
ask-row home op share = go (is_load op.kind)
  where
    out : Bool → Outcome
    out c = cond c (sending (record share { want = begun op }) ((home, Get) ∷ [])) (sending (record share { want = begun op; copy = without_shared share.copy }) ((home, GetX) ∷ []))

    go : (c : Bool) → IsBegun (out c) × ((out c).share.header ≡ share.header) × ((out c).sends ≡ (home, cond c Get GetX) ∷ [])
    go true = ((refl, refl), refl, refl)
    go false = ((refl, refl), refl, refl)
