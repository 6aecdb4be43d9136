-- While a line drains, each message that a node other than the home takes keeps it good: an Inv, N7, and the answers to what it has begun, N8, N9, N11 and N13.
use Rattle.std.proofs.Common.{◌≡◌, ◌≢◌, ℕ, Bool, true, false, cond, nat_lt, ◌==◌, List, [], ◌∷◌, refl, arith, ap, sym, ◌∙◌, inl, inr, Option, None}
use Rattle.std.proofs.lemmas.Bool.Decides.{nat_tests}
use Rattle.eager_model.specs.Types.{Op, Request, Reply, Want}
use Rattle.line_invariant.specs.Types.{NakCause}
use Rattle.op_model.specs.Nodes.{listed}
use Rattle.op_model.specs.Operations.{Words, is_load, after_op}
use Rattle.op_model.specs.Messages.{Content, Inv, Put, PutX, Nak, InvAck}
use Rattle.op_model.specs.Lines.{Copy, Absent, Shared, Exclusive, Room, Outcome, NoService, Own, no_message, is_empty, without_shared, marked_load}
use Rattle.op_model.specs.Tables.Remote.{on_inv, on_nak}
use Rattle.line_invariant.specs.Line.{share_of, taken}
use Rattle.line_invariant.specs.Good.{Status, Resting, Answered, Acked, Recalled, IsGoodNode, IsAnswerTo, holds_in, is_put}
use Rattle.line_invariant.specs.Rows.{wanting}
use Rattle.line_invariant.proofs.Public.{answered, done, keep, lanes-answer, lanes-inv, node-inv, node-nak}
use Rattle.line_invariant.proofs.Public.{node-put, node-putx}
use Rattle.eager_model.specs.Rows.{meets, on_message}
use Rattle.eager_model.specs.Ages.{LineAges, with_copy}
use Rattle.eager_model.specs.Line.{AgedLine, ages_of, after_take, taken_age}
use Rattle.eager_model.specs.Good.{IsEagerGood, IsDraining, has_words, draining_role}
use Rattle.eager_model.proofs.Quiet.{words-same}
use Rattle.eager_model.proofs.SentAges.{none-sent, one-sent, taken-ages}
use Rattle.eager_model.proofs.DrainingRows.{IsRowAway, away-good}
use Rattle.eager_model.proofs.DrainingFronts.{told, answers}
use Rattle.eager_model.proofs.DrainingAtHome.{holder-is}
use Rattle.eager_model.proofs.DrainingMeets.{by-row, meets-inv, does-inv, meets-nak, does-nak, meets-put, does-put, meets-putx, does-putx}

-- a copy that may go keeps its age where it stays
pub dropped-copy : (copy : Copy) (age has : ℕ) → age ≡ cond (is_empty copy) 0 has → cond (is_empty (without_shared copy)) 0 age ≡ cond (is_empty (without_shared copy)) 0 has
dropped-copy Absent age has e = refl
dropped-copy (Shared words) age has e = refl
dropped-copy (Exclusive words) age has e = e

pub stays-held : (copy : Copy) → is_empty (without_shared copy) ≡ false → is_empty copy ≡ false
stays-held copy e = grind arith

inv-had : (copy : Copy) (want : Option Want) (status : Status) → has_words (without_shared copy) (marked_load want) (record status { duty = Acked }) ≡ true → has_words copy want status ≡ true
inv-had copy want status e = grind arith

nak-had : (copy : Copy) (want : Option Want) (status : Status) → has_words copy None (record status { carrier = Resting }) ≡ true → has_words copy want status ≡ true
nak-had copy want status e = grind arith

put-had : (copy : Copy) (want : Option Want) (status : Status) (op : Op) (marked : Bool) (from : ℕ) (words : Words) → want ≡ wanting op marked → status.carrier ≡ Answered from (Put words) →
    has_words (cond marked copy (Shared words)) None (record status { carrier = Resting }) ≡ true → has_words copy want status ≡ true
put-had copy want status op true from words wants is e = grind arith
put-had copy want status op false from words wants is e = grind arith

putx-has : (copy : Copy) (want : Option Want) (status : Status) (from : ℕ) (words : Words) → status.carrier ≡ Answered from (PutX words) → has_words copy want status ≡ true
putx-has copy want status from words is = grind arith

module _ (home : ℕ) (line : AgedLine) (newest : line.words_at line.top ≡ line.line.words) (good : IsDraining home line) (p : ℕ) (apart : p ≢ home)
    (from : ℕ) (rest : List Content) (age : ℕ) (ages : List ℕ) (room : Room) where
  -- where the words stay, those of the node's age are the same ones
  words-stay : cond (nat_lt (good.has p) line.top) (line.words_at (good.has p)) line.line.words ≡ line.words_at (good.has p)
  words-stay = words-same line.words_at line.line.words line.top line.top (good.has p) refl newest (good.ages.within p)

  pub good-inv : line.line.lane from p Request ≡ Inv ∷ rest → line.lane_age from p Request ≡ age ∷ ages → IsEagerGood home (after_take home from p Request Inv rest age ages room line)
  unfolding on_inv
  good-inv front first =
      let comes = told home line good from Inv rest p apart front in
      let recalled : draining_role good.grantee good.holds p ≡ Recalled = rw comes.4 in
      by-row home from p Request Inv rest age ages room line (on_inv home (share_of line.line p)) (ages_of line p)
      (meets-inv p home apart from (share_of line.line p)) (does-inv p home apart from (share_of line.line p) room) refl
      (away-good home line newest good p apart (on_inv home (share_of line.line p)) (with_copy (without_shared (line.line.copy p)) (ages_of line p)) (taken from p Request rest line.line.lane) (taken_age from p Request ages line.lane_age) (record (good.status p) { duty = Acked })
      (record {
        lanes = rw comes.0 (lanes-inv home p line.line.lane good.status apart good.lanes rest comes.3 comes.2);
        lane_ages = (taken-ages line _ good.ages.lanes from p Request Inv rest age ages front first).1;
        copy = dropped-copy (line.line.copy p) (line.copy_age p) (good.has p) (good.ages.copies p);
        sends = one-sent (line.copy_age p) line.top good.has p home InvAck refl (grind arith);
        writes = inl refl;
        node = rw words-stay (node-inv _ (line.words_at (good.has p)) _ (line.line.copy p) (line.line.want p) (good.status p) (good.nodes p apart) recalled comes.2);
        had = inv-had (line.line.copy p) (line.line.want p) (good.status p);
        answered = λ node. keep line.line.answered good.status good.answered p _ refl node;
        last = (λ some. good.ages.under_copy p (stays-held (line.line.copy p) some), good.ages.of_put p);
      }))

  -- what the node has begun, where it is answered
  wanted : (content : Content) → (good.status p).carrier ≡ Answered from content → (op : Op) × (marked : Bool) × (line.line.want p ≡ wanting op marked) × IsAnswerTo (is_load op.kind) content × (line.line.copy p ≡ Absent)
  wanted content is = answered (line.line.want p) (line.line.copy p) from content (rw is at (good.nodes p apart).carried)

  pub good-nak : (cause : NakCause) → line.line.lane from p Reply ≡ Nak cause ∷ rest → line.lane_age from p Reply ≡ age ∷ ages → IsEagerGood home (after_take home from p Reply (Nak cause) rest age ages room line)
  unfolding on_nak
  good-nak cause front first =
      let comes = answers home line good from (Nak cause) rest p apart front in
      let op = wanted (Nak cause) comes.0 in
      by-row home from p Reply (Nak cause) rest age ages room line (on_nak (share_of line.line p)) (ages_of line p)
      (meets-nak p home apart from (share_of line.line p) op.0 op.1 op.2 cause) (does-nak p home apart from (share_of line.line p) op.0 op.1 op.2 cause room) refl
      (away-good home line newest good p apart (on_nak (share_of line.line p)) (with_copy (line.line.copy p) (ages_of line p)) (taken from p Reply rest line.line.lane) (taken_age from p Reply ages line.lane_age) (record (good.status p) { carrier = Resting })
      (record {
        lanes = lanes-answer home p line.line.lane good.status apart good.lanes from (Nak cause) rest comes.1 comes.0;
        lane_ages = (taken-ages line _ good.ages.lanes from p Reply (Nak cause) rest age ages front first).1;
        copy = rw op.4;
        sends = none-sent (line.copy_age p) line.top good.has p;
        writes = inl refl;
        node = rw words-stay (node-nak _ (line.words_at (good.has p)) _ (line.line.copy p) (line.line.want p) (good.status p) (good.nodes p apart) from cause comes.0);
        had = nak-had (line.line.copy p) (line.line.want p) (good.status p);
        answered = λ node. keep line.line.answered good.status good.answered p _ (sym (ap is_put comes.0)) node;
        last = (good.ages.under_copy p, λ put. absurd (grind arith));
      }))

  pub good-put : (words : Words) → line.line.lane from p Reply ≡ Put words ∷ rest → line.lane_age from p Reply ≡ age ∷ ages → IsEagerGood home (after_take home from p Reply (Put words) rest age ages room line)
  good-put words front first =
      let comes = answers home line good from (Put words) rest p apart front in
      let op = wanted (Put words) comes.0 in
      let row : Outcome = record { share = record (share_of line.line p) { copy = cond op.1 (line.line.copy p) (Shared words); want = None }; sends = no_message; served = NoService; done = true } in
      let taken_ages = taken-ages line _ good.ages.lanes from p Reply (Put words) rest age ages front first in
      let next : LineAges = record { copy = age; memory = cond (p == home) age line.memory_age } in
      by-row home from p Reply (Put words) rest age ages room line row next
      (meets-put p home apart from (share_of line.line p) op.0 op.1 op.2 words op.3 op.4) (does-put p home apart from (share_of line.line p) op.0 op.1 op.2 words room op.3 op.4) refl
      (away-good home line newest good p apart row (with_copy row.share.copy next) (taken from p Reply rest line.line.lane) (taken_age from p Reply ages line.lane_age) (record (good.status p) { carrier = Resting })
      (record {
        lanes = lanes-answer home p line.line.lane good.status apart good.lanes from (Put words) rest comes.1 comes.0;
        lane_ages = taken_ages.1;
        copy = ap (λ a. cond (is_empty (cond op.1 (line.line.copy p) (Shared words))) 0 a) taken_ages.0;
        sends = none-sent (line.copy_age p) line.top good.has p;
        writes = inl refl;
        node = rw words-stay (node-put _ (line.words_at (good.has p)) _ (line.line.copy p) (line.line.want p) (good.status p) (good.nodes p apart) op.0 op.1 from words op.2 comes.0);
        had = put-had (line.line.copy p) (line.line.want p) (good.status p) op.0 op.1 from words op.2 comes.0;
        answered = λ node. done line.line.answered good.status good.answered p _ refl node;
        last = (λ some. let same = good.ages.of_put p (ap is_put comes.0) in grind arith, λ put. absurd (grind arith));
      }))

  -- the grantee is given the line, and writes on its newest words
  module _ (words : Words) (front : line.line.lane from p Reply ≡ PutX words ∷ rest) (first : line.lane_age from p Reply ≡ age ∷ ages) where
    comes : ((good.status p).carrier ≡ Answered from (PutX words)) × (rest ≡ [])
    comes = answers home line good from (PutX words) rest p apart front

    pub wants : (op : Op) × (marked : Bool) × (line.line.want p ≡ wanting op marked) × (is_load op.kind ≡ false) × (line.line.copy p ≡ Absent)
    wants = wanted (PutX words) comes.0

    writes_on : (holds_in (draining_role good.grantee good.holds p) ≡ true) × (words ≡ line.words_at (good.has p)) × IsGoodNode (draining_role good.grantee good.holds p) (after_op wants.0 (line.words_at (good.has p))) (listed line.line.header.list p) (Exclusive (after_op wants.0 words)) None (record (good.status p) { carrier = Resting })
    writes_on = node-putx _ (line.words_at (good.has p)) _ (line.line.copy p) (line.line.want p) (good.status p) wants.0 wants.1 from words (good.nodes p apart) wants.2 comes.0

    holder : ((p == good.grantee) ≡ true) × (good.holds ≡ true)
    holder = holder-is good.grantee p good.holds writes_on.0

    newest-held : good.has p ≡ line.top
    newest-held = rw (holder.0, holder.1) at (good.ages.aged p apart (putx-has (line.line.copy p) (line.line.want p) (good.status p) from words comes.0))

    pub held-words : line.words_at (good.has p) ≡ line.line.words
    held-words = ap line.words_at newest-held ∙ newest

    pub putx-words : words ≡ line.line.words
    putx-words = writes_on.1 ∙ held-words

    abbrev pub row : Outcome
    row = record { share = record (share_of line.line p) { copy = Exclusive (after_op wants.0 words); want = None }; sends = no_message; served = Own wants.0 words; done = true }

    pub is-row : on_message p home from (is_empty (line.line.copy p)) room (PutX words) (share_of line.line p) ≡ row
    is-row = does-putx p home apart from (share_of line.line p) wants.0 wants.1 wants.2 words room wants.3 wants.4

    abbrev pub next : LineAges
    next = record (ages_of line p) { copy = age }

    pub given-age : age ≡ line.top
    given-age = (taken-ages line _ good.ages.lanes from p Reply (PutX words) rest age ages front first).0 ∙ newest-held

    pub putx-met : meets p home from (is_empty (line.line.copy p)) (PutX words) (share_of line.line p) ≡ true
    putx-met = meets-putx p home apart from (share_of line.line p) wants.0 wants.1 wants.2 words wants.3 wants.4

    pub putx-row : IsRowAway home line newest good p apart row (with_copy row.share.copy next) (taken from p Reply rest line.line.lane) (taken_age from p Reply ages line.lane_age) (record (good.status p) { carrier = Resting })
    putx-row =
        let taken_ages = taken-ages line _ good.ages.lanes from p Reply (PutX words) rest age ages front first in
        record {
          lanes = lanes-answer home p line.line.lane good.status apart good.lanes from (PutX words) rest comes.1 comes.0;
          lane_ages = taken_ages.1;
          copy = taken_ages.0;
          sends = none-sent (line.copy_age p) line.top good.has p;
          writes = inr holder;
          node = node-now;
          had = λ e. putx-has (line.line.copy p) (line.line.want p) (good.status p) from words comes.0;
          answered = λ node. done line.line.answered good.status good.answered p _ refl node;
          last = refl;
        }
      where
        node-now : IsGoodNode (draining_role good.grantee good.holds p) (cond (nat_lt (good.has p) line.top) (line.words_at (good.has p)) (after_op wants.0 line.line.words)) (listed line.line.header.list p) (Exclusive (after_op wants.0 words)) None (record (good.status p) { carrier = Resting })
        node-now =
            let over : nat_lt (good.has p) line.top ≡ false = let e = newest-held in grind (arith, nat_tests) in
            rw over (rw held-words at writes_on.2)

    pub good-putx : IsEagerGood home (after_take home from p Reply (PutX words) rest age ages room line)
    good-putx =
        by-row home from p Reply (PutX words) rest age ages room line row next putx-met is-row refl
        (away-good home line newest good p apart row (with_copy row.share.copy next) (taken from p Reply rest line.line.lane) (taken_age from p Reply ages line.lane_age) (record (good.status p) { carrier = Resting }) putx-row)
