-- What a message serves while a line drains: the grantee's own write alone, on the newest words and at the greatest age.
use Rattle.std.proofs.Common.{◌≡◌, ◌≢◌, ℕ, ◌≤◌, Bool, true, false, cond, nat_le, ◌==◌, List, ◌∷◌, map, refl, arith, ap, sym, ◌∙◌, subst}
use Rattle.std.proofs.lemmas.Bool.Decides.{nat_tests}
use Rattle.eager_model.specs.Types.{Class, Request, Reply}
use Rattle.op_model.specs.Messages.{Content, Get, GetX, Inv, Wb, Rpl, Put, PutX, Nak, InvAck}
use Rattle.op_model.specs.Lines.{Room, LineShare, Outcome, Service, NoService, is_empty}
use Rattle.op_model.specs.Tables.Home.{on_wb}
use Rattle.op_model.specs.Tables.Remote.{on_inv, on_nak}
use Rattle.line_invariant.specs.Line.{share_of, taken}
use Rattle.line_invariant.specs.Rows.{IsServedFor}
use Rattle.line_invariant.proofs.Public.{answered, if-either}
use Rattle.eager_model.specs.Rows.{meets, on_inv_ack, on_message}
use Rattle.eager_model.specs.Ages.{LineAges, ages_taken, with_copy}
use Rattle.eager_model.specs.Line.{AgedLine, ages_of, aged_row, after_take, row_taken, ages_after_take, taken_age}
use Rattle.eager_model.specs.Good.{IsDraining, message_age}
use Rattle.eager_model.specs.Served.{age_served, IsServedAt}
use Rattle.eager_model.proofs.Acknowledgements as acked
use Rattle.eager_model.proofs.Acks.{does-ack}
use Rattle.eager_model.proofs.Hints.{does-rpl}
use Rattle.eager_model.proofs.DrainingRows.{away-top}
use Rattle.eager_model.proofs.DrainingFronts.{asks-apart, owes-apart, answers}
use Rattle.eager_model.proofs.DrainingMeets.{does-get, does-getx, does-wb, does-inv, does-put, does-nak}
use Rattle.eager_model.proofs.DrainingAtHome.{is_dirty, not_local}
use Rattle.eager_model.proofs.DrainingAway.{wants, given-age, putx-met, is-row, putx-row, row, putx-words}
use Rattle.eager_model.proofs.DrainingTakes.{IsComing, get_comes, getx_comes, wb_comes, rpl_comes, ack_comes, inv_comes, put_comes, putx_comes, nak_comes, coming}

abbrev Quiet : Outcome → Type 0
Quiet o = o.served ≡ NoService

quiet-ack : (home from : ℕ) (share : LineShare) → (on_inv_ack home from share).served ≡ NoService
unfolding on_inv_ack
quiet-ack home from share = if-either Quiet (nat_le share.header.acks 1) _ _ (λ _. refl) (λ _. refl)

served-none : (line : AgedLine) (top me age : ℕ) (served : Service) → served ≡ NoService → IsServedFor line.line.want line.line.answered me line.line.words served × IsServedAt line top me age served
served-none line top me age served none = rw none (tt, tt)

module _ (home : ℕ) (line : AgedLine) (newest : line.words_at line.top ≡ line.line.words) (good : IsDraining home line) (from : ℕ) (rest : List Content) (age : ℕ) (ages : List ℕ) (room : Room) where
  abbrev Serves : ℕ → Class → Content → Type 0
  Serves to class content =
      IsServedFor line.line.want line.line.answered to line.line.words (row_taken home from to content room line.line).served
      × IsServedAt line (after_take home from to class content rest age ages room line).top to (age_served home to (row_taken home from to content room line.line) (ages_after_take home from to content age room line) line) (row_taken home from to content room line.line).served

  none : (to : ℕ) (class : Class) (content : Content) → (on_message to home from (is_empty (line.line.copy to)) room content (share_of line.line to)).served ≡ NoService → Serves to class content
  none to class content e = served-none line _ to _ _ e

  serves-home : (class : Class) (content : Content) → IsComing true class content → line.line.lane from home class ≡ content ∷ rest → Serves home class content
  unfolding on_wb
  serves-home class content get_comes front = none home Request Get (ap (λ o. o.served) (does-get home from (share_of line.line home) good.grantee good.header.waits (asks-apart home line good from Get rest front) room))
  serves-home class content getx_comes front = none home Request GetX (ap (λ o. o.served) (does-getx home from (share_of line.line home) good.grantee good.header.waits (asks-apart home line good from GetX rest front) room))
  serves-home class content (wb_comes words) front = none home Request (Wb words) (ap (λ o. o.served) (does-wb home from (share_of line.line home) words (is_dirty home line newest good from rest words front) (not_local home line newest good from rest words front) room))
  serves-home class content rpl_comes front = none home Request Rpl (ap (λ o. o.served) (does-rpl home from room (share_of line.line home) good.grantee good.header.waits))
  serves-home class content ack_comes front =
      let first = good.ages.lanes from home Reply ∙ ap (λ ms. map (message_age line.top good.has from home) ms) front in
      none home Reply InvAck
      (ap (λ o. o.served) (does-ack home from room (share_of line.line home) good.grantee good.header.waits (acked.from home line newest good from (owes-apart home line good from InvAck rest front) rest _ _ front first).1)
      ∙ quiet-ack home from (share_of line.line home))

  serves-away : (to : ℕ) → to ≢ home → (class : Class) (content : Content) → IsComing false class content → line.line.lane from to class ≡ content ∷ rest → line.lane_age from to class ≡ age ∷ ages → Serves to class content
  unfolding on_inv on_nak
  serves-away to apart class content inv_comes front first = none to Request Inv (ap (λ o. o.served) (does-inv to home apart from (share_of line.line to) room))
  serves-away to apart class content (put_comes words) front first =
      let is = (answers home line good from (Put words) rest to apart front).0 in
      let op = answered (line.line.want to) (line.line.copy to) from (Put words) (rw is at (good.nodes to apart).carried) in
      none to Reply (Put words) (ap (λ o. o.served) (does-put to home apart from (share_of line.line to) op.0 op.1 op.2 words room op.3 op.4))
  serves-away to apart class content (nak_comes cause) front first =
      let is = (answers home line good from (Nak cause) rest to apart front).0 in
      let op = answered (line.line.want to) (line.line.copy to) from (Nak cause) (rw is at (good.nodes to apart).carried) in
      none to Reply (Nak cause) (ap (λ o. o.served) (does-nak to home apart from (share_of line.line to) op.0 op.1 op.2 cause room))
  serves-away to apart class content (putx_comes words) front first =
      subst (λ o. Of o (meets to home from (is_empty (line.line.copy to)) (PutX words) (share_of line.line to))) (sym (is-row home line newest good to apart from rest age ages room words front first))
      (subst (λ m. Of the_row m) (sym (putx-met home line newest good to apart from rest age ages room words front first)) at-row)
    where
      the_row : Outcome
      the_row = row home line newest good to apart from rest age ages room words front first

      Of : Outcome → Bool → Type 0
      Of o m =
          let after : LineAges = with_copy o.share.copy (cond m (ages_taken (to == home) age (PutX words) (share_of line.line to) (ages_of line to)) (ages_of line to)) in
          IsServedFor line.line.want line.line.answered to line.line.words o.served
          × IsServedAt line (aged_row home to o after (record line { line = record line.line { lane = taken from to Reply rest line.line.lane }; lane_age = taken_age from to Reply ages line.lane_age })).top to (age_served home to o after line) o.served

      at-row : Of the_row true
      at-row =
          let is = wants home line newest good to apart from rest age ages room words front first in
          let on = putx-words home line newest good to apart from rest age ages room words front first in
          let top = away-top home line newest good to apart _ _ _ _ _ (putx-row home line newest good to apart from rest age ages room words front first) in
          let le : line.last to ≤ age = let past = good.ages.past to in let e = given-age home line newest good to apart from rest age ages room words front first in grind arith in
          ((on, (is.1, is.2), is.3), (le, rw is.3 (given-age home line newest good to apart from rest age ages room words front first ∙ sym top, on)))

  pub take-serves : (to : ℕ) (class : Class) (content : Content) → line.line.lane from to class ≡ content ∷ rest → line.lane_age from to class ≡ age ∷ ages → Serves to class content
  take-serves to class content front first = go (to == home) refl (coming home line newest good from content rest to class front)
    where
      go : (b : Bool) → (to == home) ≡ b → IsComing b class content → Serves to class content
      go true e comes =
          let same : home ≡ to = grind (arith, nat_tests) in
          subst (λ t. line.line.lane from t class ≡ content ∷ rest → Serves t class content) same (serves-home class content comes) front
      go false e comes = serves-away to (grind (arith, nat_tests)) class content comes front first
