-- An InvAck at the home, in any good line. A line that doesn't drain has none under way.
use Rattle.std.proofs.Common.{◌≡◌, ◌≢◌, ℕ, ◌⊎◌, true, nat_le, List, ◌∷◌, arith, sym, subst, inl, inr}
use Rattle.eager_model.specs.Types.{Reply}
use Rattle.op_model.specs.Nodes.{listed}
use Rattle.op_model.specs.Messages.{Content, InvAck}
use Rattle.op_model.specs.Lines.{Room, Outcome, Header, LineShare, is_empty}
use Rattle.op_model.specs.Tables.Remote.{is_invalidate}
use Rattle.op_model.specs.Tables.Remote as delayed
use Rattle.line_invariant.specs.Line.{share_of, taken}
use Rattle.line_invariant.specs.Good.{Called, IsGoodHeader}
use Rattle.line_invariant.proofs.Public.{ack-comes, called-phase, if-either}
use Rattle.op_model.proofs.Public.{eqb-self}
use Rattle.eager_model.specs.Rows.{Drain, on_inv_ack, on_message, row_of, meets}
use Rattle.eager_model.specs.Ages.{with_copy}
use Rattle.eager_model.specs.Line.{AgedLine, ages_of, aged_row, after_take, taken_age}
use Rattle.eager_model.specs.Good.{IsEagerGood, IsSettled, IsDraining, draining_role}
use Rattle.eager_model.proofs.Quiet.{quiet_row, quiet-newest}
use Rattle.eager_model.proofs.Acknowledgements.{from, drains-on}
use Rattle.eager_model.proofs.Drained.{good-drained}

pub meets-ack : (home from : ℕ) (share : LineShare) (grantee : ℕ) → share.header.wait ≡ Drain grantee → listed share.header.list from ≡ true → meets home home from (is_empty share.copy) InvAck share ≡ true
unfolding meets delayed.meets
meets-ack home from share grantee waits lists = simp (eqb-self home, waits, lists)

pub does-ack : (home from : ℕ) (room : Room) (share : LineShare) (grantee : ℕ) → share.header.wait ≡ Drain grantee → listed share.header.list from ≡ true → on_message home home from (is_empty share.copy) room InvAck share ≡ on_inv_ack home from share
unfolding on_message row_of
does-ack home from room share grantee waits lists = simp (meets-ack home from share grantee waits lists)

module _ (home : ℕ) (line : AgedLine) (p : ℕ) (apart : p ≢ home) (rest : List Content) (age : ℕ) (ages : List ℕ) (room : Room)
    (front : line.line.lane p home Reply ≡ InvAck ∷ rest) (first : line.lane_age p home Reply ≡ age ∷ ages) where
  settled-none : IsSettled home line → ⊥
  settled-none settled =
      let good = settled.good in
      let comes = ack-comes home line.line good p apart rest front in
      let called = called-phase home line.line.words good.phase p _ _ (good.nodes p apart).duty comes.1 in
      let header : IsGoodHeader home (Called called.0) line.line.words line.line.header (line.line.copy home) = rw called.1 at good.header in
      let waits : is_invalidate line.line.header.wait ≡ true = rw header.0 in
      let isnt = settled.settled in grind arith

  drains : line.words_at line.top ≡ line.line.words → IsDraining home line → IsEagerGood home (after_take home p home Reply InvAck rest age ages room line)
  unfolding on_inv_ack
  drains newest good = rw met (subst Keeps (sym does) row)
    where
      Keeps : Outcome → Type 0
      Keeps o =
          IsEagerGood home (aged_row home home o (with_copy o.share.copy (ages_of line home)) (record line { line = record line.line { lane = taken p home Reply rest line.line.lane }; lane_age = taken_age p home Reply ages line.lane_age }))

      lists : listed line.line.header.list p ≡ true
      lists = (from home line newest good p apart rest age ages front first).1

      met : meets home home p (is_empty (line.line.copy home)) InvAck (share_of line.line home) ≡ true
      met = meets-ack home p (share_of line.line home) good.grantee good.header.waits lists

      does : on_message home home p (is_empty (line.line.copy home)) room InvAck (share_of line.line home) ≡ on_inv_ack home p (share_of line.line home)
      does = does-ack home p room (share_of line.line home) good.grantee good.header.waits lists

      stays : (header : Header) → (IsSettled home (quiet_row home line p Reply InvAck rest age ages header) ⊎ IsDraining home (quiet_row home line p Reply InvAck rest age ages header)) → IsEagerGood home (quiet_row home line p Reply InvAck rest age ages header)
      stays header stands = record { newest = quiet-newest home line p Reply InvAck rest age ages header good.status (draining_role good.grantee good.holds) good.has good.ages; stands = stands }

      row : Keeps (on_inv_ack home p (share_of line.line home))
      row =
          if-either Keeps (nat_le line.line.header.acks 1) _ _
          (λ last. stays _ (inl (good-drained home line newest good p apart rest age ages front first last)))
          (λ more. stays _ (inr (drains-on home line newest good p apart rest age ages front first more)))

  pub good-ack : IsEagerGood home line → IsEagerGood home (after_take home p home Reply InvAck rest age ages room line)
  good-ack good = go good.stands
    where
      go : IsSettled home line ⊎ IsDraining home line → IsEagerGood home (after_take home p home Reply InvAck rest age ages room line)
      go (inl settled) = absurd (settled-none settled)
      go (inr draining) = drains good.newest draining
