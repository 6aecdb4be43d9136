-- E2, in any good line: a GetX of a clean and idle line that another node than the sender shares, where one more line may be pending.
use Rattle.std.proofs.Common.{◌≡◌, ◌≢◌, ◌⊎◌, ℕ, true, false, ◌==◌, List, ◌∷◌, arith, sym, subst, inl, inr}
use Rattle.eager_model.specs.Types.{Request}
use Rattle.op_model.specs.Messages.{Content, GetX}
use Rattle.op_model.specs.Lines.{Header, LineShare, Room, Outcome, is_pending, is_empty}
use Rattle.op_model.specs.Tables.Home.{no_other}
use Rattle.op_model.specs.Tables.Remote as delayed
use Rattle.line_invariant.specs.Line.{share_of, taken}
use Rattle.op_model.proofs.Public.{eqb-self}
use Rattle.std.proofs.lemmas.Bool.{ne_eqb}
use Rattle.eager_model.specs.Rows.{asks_shared, give_and_drain, on_getx, on_message, row_of, meets}
use Rattle.eager_model.specs.Ages.{with_copy}
use Rattle.eager_model.specs.Line.{AgedLine, ages_of, aged_row, after_take, taken_age}
use Rattle.eager_model.specs.Good.{IsEagerGood, IsSettled, IsDraining}
use Rattle.eager_model.proofs.Quiet.{at-top}
use Rattle.eager_model.proofs.HomeWrites.{draining-waits}
use Rattle.eager_model.proofs.SenderDrains.{sender-drains}

asks : (room : Room) (p : ℕ) (header : Header) → asks_shared room p header ≡ true → (is_pending header ≡ false) × (header.dirty ≡ false) × (no_other p header.list ≡ false)
asks room p header e = (grind arith, grind arith, grind arith)

meets-getx : (home from : ℕ) (share : LineShare) → from ≢ home → share.header.dirty ≡ false → meets home home from (is_empty share.copy) GetX share ≡ true
unfolding meets delayed.meets
meets-getx home from share apart clean = let on : (home == home) ≡ true = eqb-self home in let off : (from == home) ≡ false = ne_eqb from home apart in grind arith

does-getx : (home from : ℕ) (room : Room) (share : LineShare) → from ≢ home → share.header.dirty ≡ false → asks_shared room from share.header ≡ true → on_message home home from (is_empty share.copy) room GetX share ≡ give_and_drain from share
unfolding on_message row_of on_getx
does-getx home from room share apart clean shared = simp (meets-getx home from share apart clean, shared)

module _ (home : ℕ) (line : AgedLine) (p : ℕ) (apart : p ≢ home) (rest : List Content) (age : ℕ) (ages : List ℕ) (room : Room)
    (front : line.line.lane p home Request ≡ GetX ∷ rest) (first : line.lane_age p home Request ≡ age ∷ ages) (shared : asks_shared room p line.line.header ≡ true) where
  pub good-give : IsEagerGood home line → IsEagerGood home (after_take home p home Request GetX rest age ages room line)
  good-give good = rw (meets-getx home p (share_of line.line home) apart are.1) (subst Keeps (sym (does-getx home p room (share_of line.line home) apart are.1 shared)) (go good.stands))
    where
      are : (is_pending line.line.header ≡ false) × (line.line.header.dirty ≡ false) × (no_other p line.line.header.list ≡ false)
      are = asks room p line.line.header shared

      Keeps : Outcome → Type 0
      Keeps o =
          IsEagerGood home (aged_row home home o (with_copy o.share.copy (ages_of line home)) (record line { line = record line.line { lane = taken p home Request rest line.line.lane }; lane_age = taken_age p home Request ages line.lane_age }))

      go : IsSettled home line ⊎ IsDraining home line → Keeps (give_and_drain p (share_of line.line home))
      go (inl settled) = record { newest = at-top line.words_at line.line.words _; stands = inr (sender-drains home line good.newest settled p apart rest age ages front first are.0 are.1 are.2) }
      go (inr draining) = absurd (let waits = draining-waits home line draining in let idle = are.0 in grind arith)
