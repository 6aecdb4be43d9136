-- Which row of a Get is done, and what the home answers then.
use Rattle.std.proofs.Common.{◌≡◌, ℕ, Bool, true, false, cond, not, ◌&&◌, refl, sym, ap, ◌∙◌, arith}
use Rattle.std.proofs.lemmas.Bool.{cond-true, cond-false, and_from, and_right, and_left, and_parts}
use Rattle.op_model.specs.declared.messages.NakCause.TheVariants.{Pending, NoLink, Budget}
use Rattle.op_model.specs.Lines.{Header, LineShare, Room, NoService, Outcome, is_idle}
use Rattle.op_model.specs.Shares.{line_share, header_of, header_in, Copies}
use Rattle.op_model.specs.Tables.Home.{on_get, wants_victim, lacks_link, refuse, share_home_copy, share_memory, forward_get}
use Rattle.op_model.proofs.Public.{three_parts}
use Rattle.cpu_cache.specs.Processors.{ProcView}
use Rattle.dir_header.specs.HomeSides.{HomeView, header_at, room_in}
use Rattle.node_share.specs.Parts.{share_of}
use Rattle.home_get.specs.declared.get.GetOut.{GetOut}
use Rattle.home_get.specs.declared.get.GetOut.TheVariants.{NakAndReclaim}
use Rattle.home_get.specs.Answers.{answer_by, get_answer}

-- a refusal for want of a link
abbrev pub for_link : Room → ℕ → LineShare → Outcome
for_link room src share = cond room.link_pending (refuse src NoLink share) (cond room.full (refuse src Budget share) (refuse src NoLink share))

-- it serves nothing and does nothing
pub for_link-quiet : (room : Room) (src : ℕ) (share : LineShare) → ((for_link room src share).served ≡ NoService) × ((for_link room src share).done ≡ false)
for_link-quiet room src share = by room.link_pending room.full
  where
    by : (k f : Bool) → ((cond k (refuse src NoLink share) (cond f (refuse src Budget share) (refuse src NoLink share))).served ≡ NoService) × ((cond k (refuse src NoLink share) (cond f (refuse src Budget share) (refuse src NoLink share))).done ≡ false)
    by true f = (refl, refl)
    by false true = (refl, refl)
    by false false = (refl, refl)

module _ (room : Room) (src : ℕ) (share : LineShare) where
  abbrev lacks : Bool
  lacks = lacks_link room src share.header

  pub get-pending : is_idle share.header.wait ≡ false → on_get room src share ≡ refuse src Pending share
  unfolding on_get
  get-pending waits = cond-true (not (is_idle share.header.wait)) _ _ (ap not waits)

  module _ (idle : is_idle share.header.wait ≡ true) where
    pub get-holds : lacks ≡ true → room.link_pending ≡ true → on_get room src share ≡ refuse src NoLink share
    unfolding on_get
    get-holds l k = cond-false (not (is_idle share.header.wait)) _ _ (ap not idle) ∙ cond-true (lacks && room.link_pending) _ _ (and_from lacks room.link_pending l k)

    pub get-full : lacks ≡ true → room.link_pending ≡ false → room.full ≡ true → on_get room src share ≡ refuse src Budget share
    unfolding on_get
    get-full l k f =
        cond-false (not (is_idle share.header.wait)) _ _ (ap not idle) ∙ cond-false (lacks && room.link_pending) _ _ (and_right lacks room.link_pending k) ∙ cond-true (lacks && room.full) _ _ (and_from lacks room.full l f)

    pub get-wants : lacks ≡ true → room.link_pending ≡ false → room.full ≡ false → on_get room src share ≡ refuse src NoLink share
    unfolding on_get
    get-wants l k f =
        cond-false (not (is_idle share.header.wait)) _ _ (ap not idle) ∙ cond-false (lacks && room.link_pending) _ _ (and_right lacks room.link_pending k) ∙ cond-false (lacks && room.full) _ _ (and_right lacks room.full f) ∙ cond-true lacks _ _ l

    pub get-lacks : lacks ≡ true → on_get room src share ≡ for_link room src share
    get-lacks l = by room.link_pending room.full refl refl
      where
        by : (k f : Bool) → room.link_pending ≡ k → room.full ≡ f → on_get room src share ≡ for_link room src share
        by true f e e' = get-holds l e ∙ sym (cond-true room.link_pending _ _ e)
        by false true e e' = get-full l e e' ∙ sym (cond-false room.link_pending _ _ e ∙ cond-true room.full _ _ e')
        by false false e e' = get-wants l e e' ∙ sym (cond-false room.link_pending _ _ e ∙ cond-false room.full _ _ e')

    module _ (l : lacks ≡ false) where
      linked : on_get room src share ≡ cond (share.header.dirty && share.header.local) (share_home_copy src share) (cond (share.header.dirty && room.full) (refuse src Budget share) (cond share.header.dirty (forward_get src share) (share_memory src share)))
      unfolding on_get
      linked =
          cond-false (not (is_idle share.header.wait)) _ _ (ap not idle) ∙ cond-false (lacks && room.link_pending) _ _ (and_left lacks room.link_pending l) ∙ cond-false (lacks && room.full) _ _ (and_left lacks room.full l) ∙ cond-false lacks _ _ l

      pub get-copy : share.header.dirty ≡ true → share.header.local ≡ true → on_get room src share ≡ share_home_copy src share
      get-copy dirty local = linked ∙ cond-true (share.header.dirty && share.header.local) _ _ (and_from share.header.dirty share.header.local dirty local)

      pub get-owner : share.header.dirty ≡ true → share.header.local ≡ false → on_get room src share ≡ cond room.full (refuse src Budget share) (forward_get src share)
      get-owner dirty local =
          linked ∙ cond-false (share.header.dirty && share.header.local) _ _ (and_right share.header.dirty share.header.local local)
          ∙ ap (λ b. cond (b && room.full) (refuse src Budget share) (cond b (forward_get src share) (share_memory src share))) dirty

      pub get-memory : share.header.dirty ≡ false → on_get room src share ≡ share_memory src share
      get-memory clean =
          linked ∙ ap (λ b. cond (b && share.header.local) (share_home_copy src share) (cond (b && room.full) (refuse src Budget share) (cond b (forward_get src share) (share_memory src share)))) clean

-- whether a victim is asked for
module _ (room : Room) (src : ℕ) (header : Header) where
  unless-idle : (i l k f : Bool) → i ≡ false → (not (not i) && l && not k && not f) ≡ false
  unless-idle i l k f e = grind arith

  unless-lacks : (i l k f : Bool) → l ≡ false → (not (not i) && l && not k && not f) ≡ false
  unless-lacks i l k f e = grind arith

  unless-free : (i l k f : Bool) → k ≡ true → (not (not i) && l && not k && not f) ≡ false
  unless-free i l k f e = grind arith

  by-full : (i l k f : Bool) → i ≡ true → l ≡ true → k ≡ false → (not (not i) && l && not k && not f) ≡ not f
  by-full i l k f a b c = grind arith

  pub wants-pending : is_idle header.wait ≡ false → wants_victim room src header ≡ false
  unfolding wants_victim
  wants-pending e = unless-idle (is_idle header.wait) (lacks_link room src header) room.link_pending room.full e

  pub wants-linked : lacks_link room src header ≡ false → wants_victim room src header ≡ false
  unfolding wants_victim
  wants-linked e = unless-lacks (is_idle header.wait) (lacks_link room src header) room.link_pending room.full e

  pub wants-holds : room.link_pending ≡ true → wants_victim room src header ≡ false
  unfolding wants_victim
  wants-holds e = unless-free (is_idle header.wait) (lacks_link room src header) room.link_pending room.full e

  pub wants-by_full : is_idle header.wait ≡ true → lacks_link room src header ≡ true → room.link_pending ≡ false → wants_victim room src header ≡ not room.full
  unfolding wants_victim
  wants-by_full i l k = by-full (is_idle header.wait) (lacks_link room src header) room.link_pending room.full i l k

  -- where a link is wanted links count
  pub counts : lacks_link room src header ≡ true → room.linked ≡ true
  counts l = (three_parts room.linked (not (Rattle.op_model.specs.Nodes.listed header.list src)) (not (Rattle.op_model.specs.Lines.nobody_listed header.list)) (and_parts (room.linked && not (Rattle.op_model.specs.Nodes.listed header.list src) && not (Rattle.op_model.specs.Lines.nobody_listed header.list)) (not room.link_free) l).0).0

  pub holds-is : lacks_link room src header ≡ true → (room.linked && room.link_pending) ≡ room.link_pending
  holds-is l = ap (λ b. b && room.link_pending) (counts l)

module _ {D : Type 0} (home : HomeView D) (copies : Copies) (src line : ℕ) (proc : ProcView) where
  abbrev here : LineShare
  here = line_share home.sizes (share_of proc copies home.headers) line

  abbrev pub answer : GetOut
  answer = get_answer (room_in home) src here

  pub answer-is : (row : LineShare → Outcome) (a : GetOut) → ((share : LineShare) → share.header ≡ header_at home line → on_get (room_in home) src share ≡ row share) → ((share : LineShare) → a ≡ answer_by (row share).sends) →
      wants_victim (room_in home) src (header_at home line) ≡ false → a ≡ answer
  unfolding header_in
  answer-is row a same is wants =
      is here ∙ ap (λ o. answer_by o.sends) (sym (same here refl))
      ∙ sym (ap (λ b. cond b NakAndReclaim (answer_by (on_get (room_in home) src here).sends)) wants)

  pub answer-reclaim : wants_victim (room_in home) src (header_at home line) ≡ true → NakAndReclaim ≡ answer
  unfolding header_in
  answer-reclaim wants = sym (ap (λ b. cond b NakAndReclaim (answer_by (on_get (room_in home) src here).sends)) wants)
