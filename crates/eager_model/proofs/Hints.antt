-- A hint that comes while a line drains changes nothing at the home, H27.
use Rattle.std.proofs.Common.{◌≡◌, ◌≢◌, ℕ, Bool, true, List, ◌∷◌, refl, arith, sym, ◌∙◌, Option}
use Rattle.eager_model.specs.Types.{Request, Want}
use Rattle.op_model.specs.Operations.{Words}
use Rattle.op_model.specs.Messages.{Content, Rpl}
use Rattle.op_model.specs.Lines.{Copy, Room, LineShare, sending, no_message, is_empty}
use Rattle.op_model.specs.Tables.Home.{on_rpl}
use Rattle.op_model.specs.Tables.Remote as delayed
use Rattle.line_invariant.specs.Line.{share_of, sent}
use Rattle.line_invariant.specs.Good.{Status, Hints, NotLeaving, Role, IsGoodNode, asking_part}
use Rattle.op_model.proofs.Public.{eqb-self}
use Rattle.line_invariant.proofs.Public.{lanes-departed, rpl-first}
use Rattle.eager_model.specs.Rows.{Drain, meets, row_of, on_message}
use Rattle.eager_model.specs.Line.{AgedLine, ages_of, after_take}
use Rattle.eager_model.specs.Good.{IsEagerGood, IsDraining, has_words, draining_role}
use Rattle.eager_model.proofs.SentAges.{none-sent, given_age}
use Rattle.eager_model.proofs.DrainingTaken.{IsTakenHome, taken-home}
use Rattle.eager_model.proofs.DrainingMeets.{by-row}

node-hinted : (role : Role) (words : Words) (lists : Bool) (copy : Copy) (want : Option Want) (status : Status) → IsGoodNode role words lists copy want status → status.leaving ≡ Hints → IsGoodNode role words lists copy want (record status { leaving = NotLeaving })
node-hinted role words lists copy want status good leaves = grind arith

has-hinted : (copy : Copy) (want : Option Want) (status : Status) → has_words copy want (record status { leaving = NotLeaving }) ≡ true → has_words copy want status ≡ true
has-hinted copy want status e = grind arith

pub meets-rpl : (home from : ℕ) (share : LineShare) → meets home home from (is_empty share.copy) Rpl share ≡ true
unfolding meets delayed.meets
meets-rpl home from share = eqb-self home

pub does-rpl : (home from : ℕ) (room : Room) (share : LineShare) (grantee : ℕ) → share.header.wait ≡ Drain grantee → on_message home home from (is_empty share.copy) room Rpl share ≡ sending share no_message
unfolding on_message row_of delayed.row_of on_rpl
does-rpl home from room share grantee waits = simp (meets-rpl home from share, waits)

module _ (home : ℕ) (line : AgedLine) (newest : line.words_at line.top ≡ line.line.words) (good : IsDraining home line) (p : ℕ) (apart : p ≢ home)
    (rest : List Content) (age : ℕ) (ages : List ℕ) (room : Room) (front : line.line.lane p home Request ≡ Rpl ∷ rest) (first : line.lane_age p home Request ≡ age ∷ ages) where
  comes : ((good.status p).leaving ≡ Hints) × (rest ≡ asking_part (good.status p).carrier)
  comes = rpl-first _ _ rest (sym (simp (eqb-self home) at (good.lanes p home Request)) ∙ front)

  hinted : IsTakenHome home line newest good p apart Request Rpl rest age ages front first line.line.header no_message line.memory_age (record (good.status p) { leaving = NotLeaving }) good.holds
  hinted =
      record {
        lanes = lanes-departed home p line.line.lane good.status apart good.lanes rest comes.1;
        sent = none-sent (given_age home line home) line.top good.has home;
        same_role = λ node other. refl;
        of_header = good.header;
        list = refl;
        local = refl;
        node = node-hinted (draining_role good.grantee good.holds p) (line.words_at (good.has p)) _ (line.line.copy p) (line.line.want p) (good.status p) (good.nodes p apart) comes.0;
        had = λ e. (has-hinted (line.line.copy p) (line.line.want p) (good.status p) e, refl);
        put = refl;
        of_memory = good.ages.memory;
      }

  pub good-hint : IsEagerGood home (after_take home p home Request Rpl rest age ages room line)
  good-hint =
      by-row home p home Request Rpl rest age ages room line (sending (share_of line.line home) no_message) (ages_of line home)
      (meets-rpl home p (share_of line.line home)) (does-rpl home p room (share_of line.line home) good.grantee good.header.waits) refl
      (taken-home home line newest good p apart Request Rpl rest age ages front first line.line.header no_message line.memory_age _ good.holds hinted)
