-- Each message of a line that drains meets a row, and what that row does.
use Rattle.std.proofs.Common.{◌≡◌, ◌≢◌, ℕ, Bool, true, false, cond, ◌==◌, List, ap, sym, subst}
use Rattle.std.proofs.lemmas.Bool.{ne_eqb}
use Rattle.eager_model.specs.Types.{Class, Op}
use Rattle.op_model.specs.Operations.{Words, is_load, after_op}
use Rattle.line_invariant.specs.Types.{NakCause, Pending}
use Rattle.op_model.specs.Messages.{Content, Get, GetX, Inv, Wb, Put, PutX, Nak}
use Rattle.op_model.specs.Lines.{Absent, Shared, Exclusive, Room, LineShare, Outcome, NoService, Own, no_message, is_empty}
use Rattle.op_model.specs.Tables.Home.{refuse, on_get, on_wb}
use Rattle.op_model.specs.Tables.Home as delayed_home
use Rattle.op_model.specs.Tables.Remote.{on_inv, on_nak, on_put, on_putx}
use Rattle.op_model.specs.Tables.Remote as delayed
use Rattle.op_model.proofs.Public.{eqb-self}
use Rattle.std.specs.Prelude.{None}
use Rattle.line_invariant.specs.Line.{share_of, taken}
use Rattle.line_invariant.specs.Rows.{wanting}
use Rattle.eager_model.specs.Rows.{Drain, on_getx, meets, row_of, on_message}
use Rattle.eager_model.specs.Ages.{LineAges, ages_taken, with_copy}
use Rattle.eager_model.specs.Line.{AgedLine, ages_of, aged_row, after_take, taken_age}
use Rattle.eager_model.specs.Good.{IsEagerGood}

-- a line after a message that meets a row which does this
pub by-row : (home from to : ℕ) (class : Class) (content : Content) (rest : List Content) (age : ℕ) (ages : List ℕ) (room : Room) (line : AgedLine) (row : Outcome) (next : LineAges) →
    meets to home from (is_empty (line.line.copy to)) content (share_of line.line to) ≡ true →
    on_message to home from (is_empty (line.line.copy to)) room content (share_of line.line to) ≡ row →
    ages_taken (to == home) age content (share_of line.line to) (ages_of line to) ≡ next →
    IsEagerGood home (aged_row home to row (with_copy row.share.copy next) (record line { line = record line.line { lane = taken from to class rest line.line.lane }; lane_age = taken_age from to class ages line.lane_age })) →
    IsEagerGood home (after_take home from to class content rest age ages room line)
by-row home from to class content rest age ages room line row next met does gives good =
    subst (λ o. Keeps o (meets to home from (is_empty (line.line.copy to)) content (share_of line.line to)) (ages_taken (to == home) age content (share_of line.line to) (ages_of line to))) (sym does)
    (subst (λ m. Keeps row m (ages_taken (to == home) age content (share_of line.line to) (ages_of line to))) (sym met)
    (subst (λ n. Keeps row true n) (sym gives) good))
  where
    Keeps : Outcome → Bool → LineAges → Type 0
    Keeps o m n =
        IsEagerGood home (aged_row home to o (with_copy o.share.copy (cond m n (ages_of line to))) (record line { line = record line.line { lane = taken from to class rest line.line.lane }; lane_age = taken_age from to class ages line.lane_age }))

-- at the home: a request is refused, and words come back
module _ (home from : ℕ) (share : LineShare) (grantee : ℕ) (waits : share.header.wait ≡ Drain grantee) where
  pub meets-get : from ≢ home → meets home home from (is_empty share.copy) Get share ≡ true
  unfolding meets delayed.meets
  meets-get apart = simp (eqb-self home, ne_eqb from home apart, waits)

  pub meets-getx : from ≢ home → meets home home from (is_empty share.copy) GetX share ≡ true
  unfolding meets delayed.meets
  meets-getx apart = simp (eqb-self home, ne_eqb from home apart, waits)

  pub does-get : from ≢ home → (room : Room) → on_message home home from (is_empty share.copy) room Get share ≡ refuse from Pending share
  unfolding on_message row_of delayed.row_of on_get
  does-get apart room = simp (meets-get apart, waits)

  pub does-getx : from ≢ home → (room : Room) → on_message home home from (is_empty share.copy) room GetX share ≡ refuse from Pending share
  unfolding on_message row_of on_getx delayed_home.on_getx
  does-getx apart room = simp (meets-getx apart, waits)

module _ (home from : ℕ) (share : LineShare) (words : Words) (dirty : share.header.dirty ≡ true) (away : share.header.local ≡ false) where
  pub meets-wb : meets home home from (is_empty share.copy) (Wb words) share ≡ true
  unfolding meets
  meets-wb = simp (eqb-self home, dirty, away)

  pub does-wb : (room : Room) → on_message home home from (is_empty share.copy) room (Wb words) share ≡ on_wb words share
  unfolding on_message row_of delayed.row_of
  does-wb room = simp meets-wb

-- elsewhere: an Inv, and an answer to what the node has begun
module _ (p home : ℕ) (apart : p ≢ home) (from : ℕ) (share : LineShare) where
  pub meets-inv : meets p home from (is_empty share.copy) Inv share ≡ true
  unfolding meets delayed.meets
  meets-inv = simp (ne_eqb p home apart)

  pub does-inv : (room : Room) → on_message p home from (is_empty share.copy) room Inv share ≡ on_inv home share
  unfolding on_message row_of delayed.row_of
  does-inv room = simp meets-inv

  module _ (op : Op) (marked : Bool) (wants : share.want ≡ wanting op marked) where
    pub meets-nak : (cause : NakCause) → meets p home from (is_empty share.copy) (Nak cause) share ≡ true
    unfolding meets delayed.meets
    meets-nak cause = simp (ne_eqb p home apart, wants)

    pub does-nak : (cause : NakCause) (room : Room) → on_message p home from (is_empty share.copy) room (Nak cause) share ≡ on_nak share
    unfolding on_message row_of delayed.row_of
    does-nak cause room = simp (meets-nak cause)

    pub meets-put : (words : Words) → is_load op.kind ≡ true → share.copy ≡ Absent → meets p home from (is_empty share.copy) (Put words) share ≡ true
    unfolding meets delayed.meets
    meets-put words load empty = simp (ne_eqb p home apart, wants, load, empty)

    pub does-put : (words : Words) (room : Room) → is_load op.kind ≡ true → share.copy ≡ Absent →
        on_message p home from (is_empty share.copy) room (Put words) share ≡ record { share = record share { copy = cond marked share.copy (Shared words); want = None }; sends = no_message; served = NoService; done = true }
    unfolding on_message row_of delayed.row_of on_put
    does-put words room load empty = simp (meets-put words load empty, ne_eqb p home apart, wants)

    pub meets-putx : (words : Words) → is_load op.kind ≡ false → share.copy ≡ Absent → meets p home from (is_empty share.copy) (PutX words) share ≡ true
    unfolding meets delayed.meets
    meets-putx words write empty = simp (ne_eqb p home apart, wants, write, empty)

    pub does-putx : (words : Words) (room : Room) → is_load op.kind ≡ false → share.copy ≡ Absent →
        on_message p home from (is_empty share.copy) room (PutX words) share ≡ record { share = record share { copy = Exclusive (after_op op words); want = None }; sends = no_message; served = Own op words; done = true }
    unfolding on_message row_of delayed.row_of on_putx
    does-putx words room write empty = simp (meets-putx words write empty, ne_eqb p home apart) (ap (λ w. on_putx false words (record share { want = w })) wants)
