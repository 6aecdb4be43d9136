-- While a line drains its home refuses each request, and takes the words that the grantee writes back, H1, H9 and H25.
use Rattle.std.proofs.Common.{◌≡◌, ◌≢◌, ℕ, Bool, true, false, cond, ◌==◌, List, [], ◌∷◌, refl, arith, ap, sym, ◌∙◌, Option}
use Rattle.std.proofs.lemmas.Bool.Decides.{nat_tests}
use Rattle.eager_model.specs.Types.{Request, Want}
use Rattle.line_invariant.specs.Types.{Pending}
use Rattle.op_model.specs.Nodes.{listed, none, count}
use Rattle.op_model.specs.Operations.{Words}
use Rattle.op_model.specs.Messages.{Content, Get, GetX, Wb, Nak}
use Rattle.op_model.specs.Lines.{Absent, Copy, Header, Room, no_message, one_to, is_empty, is_idle}
use Rattle.op_model.specs.Tables.Home.{refuse, on_wb}
use Rattle.line_invariant.specs.Line.{share_of}
use Rattle.line_invariant.specs.Good.{Status, Asking, AskingX, Answered, NotLeaving, WritesBack, NoDuty, Bare, Holds, Usual, IsGoodNode, holds_in, is_put, asking_part}
use Rattle.line_invariant.proofs.Public.{asks-no-put, get-first, getx-first, lanes-departed, lanes-reply, node-refused, node-wrote-back, wb-first}
use Rattle.eager_model.specs.Rows.{meets}
use Rattle.eager_model.specs.Line.{AgedLine, ages_of, after_take}
use Rattle.eager_model.specs.Good.{IsEagerGood, IsDraining, has_words, draining_role}
use Rattle.eager_model.proofs.Acknowledgements.{bare-has-none}
use Rattle.eager_model.proofs.SentAges.{none-sent, one-sent, given_age, taken-ages}
use Rattle.eager_model.proofs.DrainingFronts.{asks, asks-apart}
use Rattle.eager_model.proofs.DrainingTaken.{IsTakenHome, taken-home}
use Rattle.eager_model.proofs.DrainingMeets.{by-row, meets-get, meets-getx, does-get, does-getx, meets-wb, does-wb}

refused-has : (copy : Copy) (want : Option Want) (status : Status) (from : ℕ) (load : Bool) → status.carrier ≡ cond load Asking AskingX → has_words copy want (record status { carrier = Answered from (Nak Pending) }) ≡ has_words copy want status
refused-has copy want status from true asking = grind arith
refused-has copy want status from false asking = grind arith

-- who holds the line is its grantee
pub holder-is : (grantee p : ℕ) (holds : Bool) → holds_in (draining_role grantee holds p) ≡ true → ((p == grantee) ≡ true) × (holds ≡ true)
holder-is grantee p holds held = go (p == grantee) holds held
  where
    go : (b h : Bool) → holds_in (cond b (cond h (Holds NoDuty) (Bare Usual NoDuty)) Rattle.line_invariant.specs.Good.Recalled) ≡ true → (b ≡ true) × (h ≡ true)
    go true true held = (refl, refl)
    go true false held = absurd (grind arith)
    go false h held = absurd (grind arith)

back-has : (copy : Copy) (want : Option Want) (status : Status) (words : Words) → status.leaving ≡ WritesBack words → has_words copy want status ≡ true
back-has copy want status words leaves = grind arith

node-departed : (words : Words) (lists : Bool) (copy : Copy) (want : Option Want) (status : Status) (has : Words) → IsGoodNode (Holds NoDuty) words lists copy want status → status.leaving ≡ WritesBack has →
    IsGoodNode (Bare Usual NoDuty) words lists copy want (record status { leaving = NotLeaving })
node-departed words lists copy want status has good leaves = grind arith

-- who writes back holds the line
module _ (home : ℕ) (line : AgedLine) (newest : line.words_at line.top ≡ line.line.words) (good : IsDraining home line) (p : ℕ) (rest : List Content) (words : Words) (front : line.line.lane p home Request ≡ Wb words ∷ rest) where
  back-apart : p ≢ home
  back-apart = asks-apart home line good p (Wb words) rest front

  comes : ((good.status p).leaving ≡ WritesBack words) × (rest ≡ asking_part (good.status p).carrier)
  comes = wb-first _ _ words rest (asks home line good p (Wb words) rest front)

  wrote : (holds_in (draining_role good.grantee good.holds p) ≡ true) × (words ≡ line.words_at (good.has p))
  wrote = node-wrote-back (line.words_at (good.has p)) _ (line.line.copy p) (line.line.want p) (good.status p) _ words (good.nodes p back-apart) comes.0

  pub holder : ((p == good.grantee) ≡ true) × (good.holds ≡ true)
  holder = holder-is good.grantee p good.holds wrote.0

  away : (good.grantee == home) ≡ false
  away = let e = holder.0 in grind (arith, nat_tests)

  newest-held : good.has p ≡ line.top
  newest-held = rw (holder.0, holder.1) at (good.ages.aged p back-apart (back-has (line.line.copy p) (line.line.want p) (good.status p) words comes.0))

  none-home : line.line.copy home ≡ Absent
  none-home = rw (holder.1, away) at good.header.own

  pub is_dirty : line.line.header.dirty ≡ true
  is_dirty = good.header.dirty ∙ holder.1

  pub not_local : line.line.header.local ≡ false
  not_local = good.local ∙ rw none-home

  pub back-meets : meets home home p (is_empty (line.line.copy home)) (Wb words) (share_of line.line home) ≡ true
  back-meets = meets-wb home p (share_of line.line home) words is_dirty not_local

module _ (home : ℕ) (line : AgedLine) (newest : line.words_at line.top ≡ line.line.words) (good : IsDraining home line) (p : ℕ) (rest : List Content) (age : ℕ) (ages : List ℕ) (room : Room) where
  abbrev Keeps : Content → Type 0
  Keeps content = IsEagerGood home (after_take home p home Request content rest age ages room line)

  refused : (load : Bool) (content : Content) → (apart : p ≢ home) → (front : line.line.lane p home Request ≡ content ∷ rest) → (first : line.lane_age p home Request ≡ age ∷ ages) →
      ((good.status p).leaving ≡ NotLeaving) × ((good.status p).carrier ≡ cond load Asking AskingX) × (rest ≡ []) →
      IsTakenHome home line newest good p apart Request content rest age ages front first line.line.header (one_to p (Nak Pending)) line.memory_age (record (good.status p) { carrier = Answered home (Nak Pending) }) good.holds
  refused load content apart front first comes =
      record {
        lanes = lanes-reply home p line.line.lane good.status apart good.lanes load rest (Nak Pending) refl comes.2 comes.1 comes.0;
        sent = one-sent (given_age home line home) line.top good.has home p (Nak Pending) refl (grind arith);
        same_role = λ node other. refl;
        of_header = good.header;
        list = refl;
        local = refl;
        node = node-refused _ _ (line.line.copy p) (line.line.want p) (good.status p) _ load home Pending (good.nodes p apart) comes.1 comes.0;
        had = λ e. (sym (refused-has (line.line.copy p) (line.line.want p) (good.status p) home load comes.1) ∙ e, refl);
        put = sym (ap is_put comes.1 ∙ asks-no-put load);
        of_memory = good.ages.memory;
      }

  pub good-get : line.line.lane p home Request ≡ Get ∷ rest → line.lane_age p home Request ≡ age ∷ ages → Keeps Get
  good-get front first =
      let apart = asks-apart home line good p Get rest front in
      by-row home p home Request Get rest age ages room line (refuse p Pending (share_of line.line home)) (ages_of line home)
      (meets-get home p (share_of line.line home) good.grantee good.header.waits apart) (does-get home p (share_of line.line home) good.grantee good.header.waits apart room)
      (rw good.header.waits)
      (taken-home home line newest good p apart Request Get rest age ages front first line.line.header (one_to p (Nak Pending)) line.memory_age _ good.holds (refused true Get apart front first (get-first _ _ rest (asks home line good p Get rest front))))

  pub good-getx : line.line.lane p home Request ≡ GetX ∷ rest → line.lane_age p home Request ≡ age ∷ ages → Keeps GetX
  good-getx front first =
      let apart = asks-apart home line good p GetX rest front in
      by-row home p home Request GetX rest age ages room line (refuse p Pending (share_of line.line home)) (ages_of line home)
      (meets-getx home p (share_of line.line home) good.grantee good.header.waits apart) (does-getx home p (share_of line.line home) good.grantee good.header.waits apart room)
      refl
      (taken-home home line newest good p apart Request GetX rest age ages front first line.line.header (one_to p (Nak Pending)) line.memory_age _ good.holds (refused false GetX apart front first (getx-first _ _ rest (asks home line good p GetX rest front))))

  module _ (words : Words) (front : line.line.lane p home Request ≡ Wb words ∷ rest) (first : line.lane_age p home Request ≡ age ∷ ages) where
    apart : p ≢ home
    apart = back-apart home line newest good p rest words front

    leaves : ((good.status p).leaving ≡ WritesBack words) × (rest ≡ asking_part (good.status p).carrier)
    leaves = comes home line newest good p rest words front

    held : ((p == good.grantee) ≡ true) × (good.holds ≡ true)
    held = holder home line newest good p rest words front

    held-age : good.has p ≡ line.top
    held-age = newest-held home line newest good p rest words front

    age-top : age ≡ line.top
    age-top = (taken-ages line _ good.ages.lanes p home Request (Wb words) rest age ages front first).0 ∙ held-age

    abbrev header : Header
    header = record line.line.header { memory = words; dirty = false; list = cond (is_idle line.line.header.wait) none line.line.header.list }

    same-list : header.list ≡ line.line.header.list
    same-list = ap (λ w. cond (is_idle w) none line.line.header.list) good.header.waits

    left : IsGoodNode (Bare Usual NoDuty) (line.words_at (good.has p)) (listed line.line.header.list p) (line.line.copy p) (line.line.want p) (record (good.status p) { leaving = NotLeaving })
    left = node-departed (line.words_at (good.has p)) _ (line.line.copy p) (line.line.want p) (good.status p) words (rw (held.0, held.1) at (good.nodes p apart)) leaves.0

    came-back : IsTakenHome home line newest good p apart Request (Wb words) rest age ages front first header no_message age (record (good.status p) { leaving = NotLeaving }) false
    came-back =
        record {
          lanes = lanes-departed home p line.line.lane good.status apart good.lanes rest leaves.1;
          sent = none-sent (given_age home line home) line.top good.has home;
          same_role = λ node other. same-role node other;
          of_header = record {
            waits = good.header.waits;
            dirty = refl;
            memory = (wrote home line newest good p rest words front).1 ∙ ap line.words_at held-age ∙ newest;
            some = good.header.some;
            due = good.header.due ∙ ap count (sym same-list);
            granted = ap (λ l. listed l good.grantee) same-list ∙ good.header.granted;
            own = none-home home line newest good p rest words front;
          };
          list = same-list;
          local = refl;
          node = rw held.0 left;
          had = λ e. absurd (let no = bare-has-none (line.words_at (good.has p)) _ (line.line.copy p) (line.line.want p) (record (good.status p) { leaving = NotLeaving }) Usual NoDuty left in grind arith);
          put = refl;
          of_memory = λ clean. age-top;
        }
      where
        same-role : (node : ℕ) → node ≢ p → draining_role good.grantee false node ≡ draining_role good.grantee good.holds node
        same-role node other = let isnt : (node == good.grantee) ≡ false = let e = held.0 in grind (arith, nat_tests) in rw isnt

    pub good-back : Keeps (Wb words)
    unfolding on_wb
    good-back =
        by-row home p home Request (Wb words) rest age ages room line (on_wb words (share_of line.line home)) (record (ages_of line home) { memory = age })
        (back-meets home line newest good p rest words front) (does-wb home p (share_of line.line home) words (is_dirty home line newest good p rest words front) (not_local home line newest good p rest words front) room) refl
        (taken-home home line newest good p apart Request (Wb words) rest age ages front first header no_message age _ false came-back)
