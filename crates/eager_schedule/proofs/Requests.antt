-- What a home does with a request for a line that isn't pending, where one more may be: it is done or answered at once, with an Inv to each other listed node where there is one, or it is forwarded to the owner.
use Rattle.std.proofs.Common.{◌≡◌, ℕ, ◌*◌, ◌<◌, ◌≤◌, ◌⊎◌, inl, inr, Bool, true, false, cond, not, ◌==◌, ◌&&◌, [], ◌∷◌, refl, arith, sym, subst, None, Result, Ok, Err}
use Rattle.std.proofs.lemmas.Bool.Decides.{nat_tests}
use Rattle.op_model.specs.declared.events.Cause.{Cause}
use Rattle.op_model.specs.declared.events.Cause.TheVariants.{HeldBudget}
use Rattle.op_model.specs.declared.messages.NakCause.TheVariants.{Budget}
use Rattle.op_model.specs.declared.operations.Op.{Op}
use Rattle.op_model.specs.Events.Node.{map_ok}
use Rattle.op_model.specs.Lines.{LineShare, Outcome, Room, is_pending, nobody_listed, to_listed, words_of}
use Rattle.op_model.specs.Messages.{Content, FwdGet, FwdGetX, Get, GetX, Put, PutX}
use Rattle.op_model.specs.Nodes.{listed, listings, unlist}
use Rattle.op_model.specs.Operations.{Words, is_load}
use Rattle.op_model.specs.Tables.Home.{forward_getx, give_home_copy, give_memory, invalidate_for, lacks_link, no_other, on_get, refuse}
use Rattle.op_model.specs.Tables.Home as delayed_home
use Rattle.op_model.specs.Tables.Processor.{ask, begin_at_home, forward_get_home, forward_getx_home, invalidate_for_home, load_at_home, serves, write_at_home}
use Rattle.op_model.specs.Tables.Processor as delayed
use Rattle.op_model.specs.Tables.Remote as delayed_remote
use Rattle.op_model.proofs.Public.{eqb-self}
use Rattle.rest_laws.proofs.Public.{sends-cons, sends-none, sends_weight}
use Rattle.schedule_laws.proofs.Public.{AllSettle, IsAnswered, IsBegunAs, IsForwarded, IsPassive}
use Rattle.schedule_laws.proofs.Public.{each-settles, get-row, listed-weight, still, still-weight}
use Rattle.eager_model.specs.Rows.{begin_op, give_and_drain, meets, on_getx, on_message, row_of, write_and_drain}

-- what is sent settles, within two messages for each node
abbrev pub AreFew : ℕ → Outcome → Type 0
AreFew nodes outcome = AllSettle outcome.sends × (sends_weight still nodes outcome.sends ≤ 2 * nodes)

-- an operation of the home is done at once
abbrev pub IsDoneHere : ℕ → Outcome → Type 0
IsDoneHere nodes outcome = (outcome.done ≡ true) × (outcome.share.want ≡ None) × AreFew nodes outcome

-- a request is answered at once
abbrev pub IsGiven : ℕ → LineShare → Outcome → Type 0
IsGiven nodes share outcome = AreFew nodes outcome × IsPassive share outcome

-- few messages
module _ (nodes home : ℕ) (within : home < nodes) where
  few-none : sends_weight still nodes [] ≤ 2 * nodes
  few-none = let z = sends-none still nodes in omega arith

  few-one : (p : ℕ) (content : Content) → still content ≡ 1 → sends_weight still nodes ((p, content) ∷ []) ≤ 2 * nodes
  few-one p content one = let w = still-weight nodes ((p, content) ∷ []) in omega arith

  home-unlisted : (share : LineShare) (p : ℕ) → listed share.header.list home ≡ false → listed (unlist share.header.list p) home ≡ false
  home-unlisted share p off = grind (arith, nat_tests, listings)

  few-listed : (share : LineShare) → listed share.header.list home ≡ false → sends_weight still nodes (to_listed share.header.list) ≤ 2 * nodes
  few-listed share off = let w = listed-weight nodes home share.header.list within off in omega arith

  few-given : (share : LineShare) (p : ℕ) (words : Words) → listed share.header.list home ≡ false → sends_weight still nodes ((p, PutX words) ∷ to_listed (unlist share.header.list p)) ≤ 2 * nodes
  few-given share p words off =
      let w = listed-weight nodes home (unlist share.header.list p) within (home-unlisted share p off) in
      let c = sends-cons still nodes (p, PutX words) (to_listed (unlist share.header.list p)) in
      omega arith

  -- an Issue at the home
  pub home-row : (room : Room) (op : Op) (share : LineShare) → serves op share.copy ≡ false → is_pending share.header ≡ false → room.full ≡ false → share.want ≡ None → listed share.header.list home ≡ false →
      (o : Outcome) × (begin_op home home room op share ≡ Ok o) × (IsDoneHere nodes o ⊎ IsBegunAs (FwdGet home) share o ⊎ IsBegunAs (FwdGetX home) share o)
  unfolding begin_op delayed.begin_op begin_at_home
  home-row room op share serve idle free none off = rw (serve, eqb-self home, idle, free) (go share.header.dirty (is_load op.kind) (nobody_listed share.header.list) refl)
    where
      Found : Result Outcome Cause → Type 0
      Found r = (o : Outcome) × (r ≡ Ok o) × (IsDoneHere nodes o ⊎ IsBegunAs (FwdGet home) share o ⊎ IsBegunAs (FwdGetX home) share o)

      go : (d l n : Bool) → share.header.dirty ≡ d →
          Found (map_ok (λ row. cond (not d && not l && not n) (write_and_drain home op share) row)
          (cond (not d && l) (Ok (load_at_home op share)) (cond (not d && n) (Ok (write_at_home op share)) (cond false (Err HeldBudget) (cond (not d) (Ok (invalidate_for_home op share)) (cond l (Ok (forward_get_home home op share)) (Ok (forward_getx_home home op share))))))))
      go false true n x = (load_at_home op share, refl, inl (refl, none, (tt, few-none)))
      go false false true x = (write_at_home op share, refl, inl (refl, none, (tt, few-none)))
      go false false false x = (write_and_drain home op share, refl, inl (refl, none, (each-settles _, few-listed share off)))
      go true true n x = (forward_get_home home op share, refl, inr (inl (x, refl, refl, (refl, refl))))
      go true false n x = (forward_getx_home home op share, refl, inr (inr (x, refl, refl, (refl, refl))))

  -- a Get at the home
  pub get-given : (room : Room) (p : ℕ) (share : LineShare) → is_pending share.header ≡ false → lacks_link room p share.header ≡ false → room.full ≡ false → IsGiven nodes share (on_get room p share) ⊎ IsForwarded (FwdGet p) share (on_get room p share)
  get-given room p share idle has free = by (on_get room p share) (get-row room p share idle has free)
    where
      by : (o : Outcome) → IsAnswered Put p share o ⊎ IsForwarded (FwdGet p) share o → IsGiven nodes share o ⊎ IsForwarded (FwdGet p) share o
      by o (inl it) = inl ((subst AllSettle (sym it.1) (refl, refl, tt), subst (λ l. sends_weight still nodes l ≤ 2 * nodes) (sym it.1) (few-one p (Put it.0) refl)), it.3)
      by o (inr it) = inr it

  -- a GetX at the home
  pub getx-given : (room : Room) (p : ℕ) (share : LineShare) → is_pending share.header ≡ false → room.full ≡ false → listed share.header.list home ≡ false → IsGiven nodes share (on_getx room p share) ⊎ IsForwarded (FwdGetX p) share (on_getx room p share)
  unfolding on_getx delayed_home.on_getx
  getx-given room p share idle free off = rw (idle, free) (go share.header.dirty share.header.local (no_other p share.header.list) refl refl)
    where
      Done : Outcome → Type 0
      Done o = IsGiven nodes share o ⊎ IsForwarded (FwdGetX p) share o

      go : (d l n : Bool) → share.header.dirty ≡ d → share.header.local ≡ l →
          Done (cond (not d && not n && not false) (give_and_drain p share)
          (cond (d && l) (give_home_copy p share) (cond (d && false) (refuse p Budget share) (cond d (forward_getx p share) (cond n (give_memory p share) (cond false (refuse p Budget share) (invalidate_for p share)))))))
      go true true n x y = inl (((refl, refl, tt), few-one p (PutX (words_of share.copy)) refl), (refl, refl))
      go true false n x y = inr (x, y, refl, refl, (refl, refl))
      go false l true x y = inl (((refl, refl, tt), few-one p (PutX share.header.memory) refl), (refl, refl))
      go false l false x y = inl (((refl, refl, each-settles _), few-given share p share.header.memory off), (refl, refl))

-- elsewhere the home is asked for the line
pub begin-away : (p home : ℕ) (room : Room) (op : Op) (share : LineShare) → serves op share.copy ≡ false → (p == home) ≡ false → begin_op p home room op share ≡ Ok (ask home op share)
unfolding begin_op delayed.begin_op
begin-away p home room op share serve apart = rw (serve, apart) refl

-- a request that meets its row does it
pub met-get : (me home src : ℕ) (alone : Bool) (room : Room) (share : LineShare) → meets me home src alone Get share ≡ true → on_message me home src alone room Get share ≡ on_get room src share
unfolding on_message row_of delayed_remote.row_of
met-get me home src alone room share meet = rw meet refl

pub met-getx : (me home src : ℕ) (alone : Bool) (room : Room) (share : LineShare) → meets me home src alone GetX share ≡ true → on_message me home src alone room GetX share ≡ on_getx room src share
unfolding on_message row_of
met-getx me home src alone room share meet = rw meet refl
