-- What a row at any node does to the ages of a line that doesn't drain: any row, one that serves nothing, one that serves the load of another node, and one of the node's own operation.
use Rattle.std.proofs.Common.{◌≡◌, ℕ, ◌≤◌, Bool, true, false, cond, ◌==◌, ◌&&◌, List, [], ◌∷◌, map, refl, arith, ap, sym, ◌∙◌, subst}
use Rattle.std.proofs.lemmas.Bool.Decides.{nat_tests}
use Rattle.eager_model.specs.Types.{Class, Op}
use Rattle.op_model.specs.Operations.{Words, is_load}
use Rattle.op_model.specs.Messages.{Content}
use Rattle.op_model.specs.Lines.{Header, LineShare, Service, NoService, Own, For, Outcome, is_empty}
use Rattle.op_model.specs.Tables.Remote.{is_invalidate}
use Rattle.line_invariant.specs.Line.{share_of, addressed}
use Rattle.eager_model.specs.Ages.{LineAges, sent_age, age_given, served_age}
use Rattle.eager_model.specs.Line.{AgedLine, ages_of, aged_row, greater, begun_age}
use Rattle.eager_model.specs.Newest.{AreNewest, newest_age, counts}
use Rattle.eager_model.proofs.Sent.{AreSent, sent-ages, begun-within, top-kept, copy-within}
use Rattle.eager_model.proofs.Maps.{map-append, both-parts}

-- an operation has the greatest age, which a load doesn't raise
abbrev pub IsAtTop : ℕ → ℕ → Service → ℕ → Type 0
IsAtTop top next NoService age = Unit {0}
IsAtTop top next (Own op on) age = (age ≡ next) × (is_load op.kind ≡ true → age ≡ top)
IsAtTop top next (For node on) age = age ≡ top

-- what is shown of a row of a line that doesn't drain
pub record IsNewRow (home me : ℕ) (line : AgedLine) (row : Outcome) (ages : LineAges) : Type 0 where
  pub waits : is_invalidate (aged_row home me row ages line).line.header.wait ≡ false
  pub newest : AreNewest home (aged_row home me row ages line)
  pub at_top : IsAtTop line.top (aged_row home me row ages line).top row.served (served_age (age_given (me == home) (share_of line.line me) (ages_of line me)) ages.copy row.served)

module _ (home me : ℕ) (line : AgedLine) (row : Outcome) (ages : LineAges) (good : AreNewest home line) where
  abbrev pub given_by : ℕ
  given_by = age_given (me == home) (share_of line.line me) (ages_of line me)

  abbrev pub next_line : AgedLine
  next_line = aged_row home me row ages line

  -- any row, after which the greatest age is this one, and the last operation of each node has this age
  pub newest-row : (top : ℕ) (last : ℕ → ℕ) → next_line.top ≡ top → ((node : ℕ) → next_line.last node ≡ last node) →
      ages.copy ≡ cond (is_empty row.share.copy) 0 top →
      ((node : ℕ) → (node == me) ≡ false → is_empty (line.line.copy node) ≡ false → top ≡ line.top) →
      ((a b : ℕ) (class : Class) → map (newest_age line.top (line.last b)) (line.line.lane a b class) ≡ map (newest_age top (last b)) (line.line.lane a b class)) →
      AreSent given_by top last row.sends →
      (next_line.line.header.dirty ≡ false → next_line.memory_age ≡ top) →
      ((node : ℕ) → last node ≤ top) →
      ((node : ℕ) → next_line.line.answered node ≡ true → counts home node (next_line.line.want node) ≡ true → last node ≡ top) →
      AreNewest home next_line
  newest-row top last same lasts copy others lanes sends memory past served =
      record {
        copies = λ node. copies node (node == me) refl ∙ ap (λ t. cond (is_empty (next_line.line.copy node)) 0 t) (sym same);
        lanes = λ a b class.
            both-parts (good.lanes a b class ∙ lanes a b class) (behind b class (a == me))
            ∙ sym (map-append (newest_age top (last b)) (line.line.lane a b class) (cond (a == me) (addressed b class row.sends) []))
            ∙ ap (λ t. map (newest_age t (last b)) (next_line.line.lane a b class)) (sym same)
            ∙ ap (λ l. map (newest_age next_line.top l) (next_line.line.lane a b class)) (sym (lasts b));
        memory = λ clean. memory clean ∙ sym same;
        past = λ node. subst (λ t. next_line.last node ≤ t) (sym same) (subst (λ l. l ≤ top) (sym (lasts node)) (past node));
        served = λ node e counted. lasts node ∙ served node e counted ∙ sym same;
      }
    where
      behind : (b : ℕ) (class : Class) (c : Bool) → cond c (map (sent_age given_by) (addressed b class row.sends)) [] ≡ map (newest_age top (last b)) (cond c (addressed b class row.sends) [])
      behind b class true = sent-ages given_by top last row.sends sends b class
      behind b class false = refl

      copies : (node : ℕ) (b : Bool) → (node == me) ≡ b → cond b ages.copy (line.copy_age node) ≡ cond (is_empty (cond b row.share.copy (line.line.copy node))) 0 top
      copies node true e = copy
      copies node false e = good.copies node ∙ kept (is_empty (line.line.copy node)) (others node e)
        where
          kept : (c : Bool) → (c ≡ false → top ≡ line.top) → cond c 0 line.top ≡ cond c 0 top
          kept true h = refl
          kept false h = sym (h refl)

module _ (home me : ℕ) (line : AgedLine) (share : LineShare) (sends : List (ℕ × Content)) (done : Bool) (ages : LineAges) (good : AreNewest home line) where
  -- a row that serves nothing and begins no age
  pub newest-quiet :
      is_invalidate (cond (me == home) share.header line.line.header).wait ≡ false →
      ages.copy ≡ cond (is_empty share.copy) 0 line.top →
      AreSent (age_given (me == home) (share_of line.line me) (ages_of line me)) line.top line.last sends →
      ((cond (me == home) share.header line.line.header).dirty ≡ false → cond (me == home) ages.memory line.memory_age ≡ line.top) →
      (done ≡ false → line.line.answered me ≡ true → counts home me share.want ≡ true → counts home me (line.line.want me) ≡ true) →
      IsNewRow home me line (record { share = share; sends = sends; served = NoService; done = done }) ages
  newest-quiet waits copy sent memory wants =
      record {
        waits = waits;
        newest = newest-row home me line (record { share = share; sends = sends; served = NoService; done = done }) ages good line.top line.last
            (top-kept line.top ages.copy (begun_age (age_given (me == home) (share_of line.line me) (ages_of line me)) sends) (copy-within (is_empty share.copy) ages.copy line.top copy) (begun-within _ line.top line.last good.past sends sent))
            (λ node. refl) copy (λ node e f. refl) (λ a b class. refl) sent memory good.past
            (λ node e counted. served node (node == me) refl done refl e counted);
        at_top = tt;
      }
    where
      served : (node : ℕ) (b : Bool) → (node == me) ≡ b → (d : Bool) → done ≡ d → cond (d && b) false (line.line.answered node) ≡ true → counts home node (cond b share.want (line.line.want node)) ≡ true → line.last node ≡ line.top
      served node false e true f answered counted = good.served node answered counted
      served node false e false f answered counted = good.served node answered counted
      served node true e true f answered counted = absurd (grind arith)
      served node true e false f answered counted =
          let is : node ≡ me = grind (arith, nat_tests) in
          let here : line.line.answered me ≡ true = ap line.line.answered (sym is) ∙ answered in
          let before = wants f here (subst (λ n. counts home n share.want ≡ true) is counted) in
          ap line.last is ∙ good.served me here before

  -- a row that serves the load of another node, with the newest words
  pub newest-for : (x : ℕ) (on : Words) → done ≡ false →
      is_invalidate (cond (me == home) share.header line.line.header).wait ≡ false →
      ages.copy ≡ cond (is_empty share.copy) 0 line.top →
      age_given (me == home) (share_of line.line me) (ages_of line me) ≡ line.top →
      AreSent (age_given (me == home) (share_of line.line me) (ages_of line me)) line.top (λ b. cond (b == x) (age_given (me == home) (share_of line.line me) (ages_of line me)) (line.last b)) sends →
      ((cond (me == home) share.header line.line.header).dirty ≡ false → cond (me == home) ages.memory line.memory_age ≡ line.top) →
      share.want ≡ line.line.want me →
      ((a : ℕ) (class : Class) (l : ℕ) → map (newest_age line.top (line.last x)) (line.line.lane a x class) ≡ map (newest_age line.top l) (line.line.lane a x class)) →
      IsNewRow home me line (record { share = share; sends = sends; served = For x on; done = done }) ages
  newest-for x on waiting waits copy given sent memory wants free =
      record {
        waits = waits;
        newest = newest-row home me line (record { share = share; sends = sends; served = For x on; done = done }) ages good line.top last kept
            (λ node. refl) copy (λ node e f. refl) (λ a b class. lanes a b class (b == x) refl) sent memory past
            (λ node e counted. served node (node == me) refl (node == x) done waiting e counted);
        at_top = given;
      }
    where
      last : ℕ → ℕ
      last b = cond (b == x) (age_given (me == home) (share_of line.line me) (ages_of line me)) (line.last b)

      past : (node : ℕ) → last node ≤ line.top
      past node = go (node == x)
        where
          go : (c : Bool) → cond c (age_given (me == home) (share_of line.line me) (ages_of line me)) (line.last node) ≤ line.top
          go true = subst (λ n. n ≤ line.top) (sym given) (grind arith)
          go false = good.past node

      kept : greater line.top (greater ages.copy (begun_age (age_given (me == home) (share_of line.line me) (ages_of line me)) sends)) ≡ line.top
      kept = top-kept line.top ages.copy _ (copy-within (is_empty share.copy) ages.copy line.top copy) (begun-within _ line.top last past sends sent)

      lanes : (a b : ℕ) (class : Class) (c : Bool) → (b == x) ≡ c → map (newest_age line.top (line.last b)) (line.line.lane a b class) ≡ map (newest_age line.top (cond c (age_given (me == home) (share_of line.line me) (ages_of line me)) (line.last b))) (line.line.lane a b class)
      lanes a b class false e = refl
      lanes a b class true e =
          let is : x ≡ b = grind (arith, nat_tests) in
          subst (λ n. map (newest_age line.top (line.last n)) (line.line.lane a n class) ≡ map (newest_age line.top (age_given (me == home) (share_of line.line me) (ages_of line me))) (line.line.lane a n class)) is (free a class _)

      served : (node : ℕ) (b : Bool) → (node == me) ≡ b → (c d : Bool) → d ≡ false → cond (d && b) false (cond c true (line.line.answered node)) ≡ true → counts home node (cond b share.want (line.line.want node)) ≡ true →
          cond c (age_given (me == home) (share_of line.line me) (ages_of line me)) (line.last node) ≡ line.top
      served node b e true d f answered counted = given
      served node b e false true f answered counted = absurd (grind arith)
      served node false e false false f answered counted = good.served node answered counted
      served node true e false false f answered counted =
          let is : node ≡ me = grind (arith, nat_tests) in
          good.served node answered (subst (λ w. counts home node w ≡ true) (wants ∙ ap line.line.want (sym is)) counted)

  -- a row that does the node's own operation on its newest copy, and sends nothing
  pub newest-own : (op : Op) (on : Words) → sends ≡ [] → done ≡ true →
      is_invalidate (cond (me == home) share.header line.line.header).wait ≡ false →
      is_empty share.copy ≡ false → ages.copy ≡ line.top →
      ((cond (me == home) share.header line.line.header).dirty ≡ false → cond (me == home) ages.memory line.memory_age ≡ line.top) →
      ((a : ℕ) (class : Class) (l : ℕ) → map (newest_age line.top (line.last me)) (line.line.lane a me class) ≡ map (newest_age line.top l) (line.line.lane a me class)) →
      IsNewRow home me line (record { share = share; sends = sends; served = Own op on; done = done }) ages
  newest-own op on none ends waits full copy memory free =
      record {
        waits = waits;
        newest = newest-row home me line (record { share = share; sends = sends; served = Own op on; done = done }) ages good line.top last kept
            (λ node. refl) (copy ∙ ap (λ c. cond c 0 line.top) (sym full)) (λ node e f. refl) (λ a b class. lanes a b class (b == me) refl) (sent sends none) memory past
            (λ node e counted. served node (node == me) done ends e counted);
        at_top = (copy ∙ sym kept, λ load. copy);
      }
    where
      last : ℕ → ℕ
      last b = cond (b == me) ages.copy (line.last b)

      sent : (sends : List (ℕ × Content)) → sends ≡ [] → AreSent (age_given (me == home) (share_of line.line me) (ages_of line me)) line.top last sends
      sent [] e = tt
      sent (x ∷ xs) e = absurd (grind arith)

      past : (node : ℕ) → last node ≤ line.top
      past node = go (node == me)
        where
          go : (c : Bool) → cond c ages.copy (line.last node) ≤ line.top
          go true = grind arith
          go false = good.past node

      kept : greater line.top (greater ages.copy (begun_age (age_given (me == home) (share_of line.line me) (ages_of line me)) sends)) ≡ line.top
      kept = top-kept line.top ages.copy _ (grind arith) (begun-within _ line.top last past sends (sent sends none))

      lanes : (a b : ℕ) (class : Class) (c : Bool) → (b == me) ≡ c → map (newest_age line.top (line.last b)) (line.line.lane a b class) ≡ map (newest_age line.top (cond c ages.copy (line.last b))) (line.line.lane a b class)
      lanes a b class false e = refl
      lanes a b class true e =
          let is : me ≡ b = grind (arith, nat_tests) in
          subst (λ n. map (newest_age line.top (line.last n)) (line.line.lane a n class) ≡ map (newest_age line.top ages.copy) (line.line.lane a n class)) is (free a class _)

      served : (node : ℕ) (b d : Bool) → d ≡ true → cond (d && b) false (line.line.answered node) ≡ true → counts home node (cond b share.want (line.line.want node)) ≡ true → cond b ages.copy (line.last node) ≡ line.top
      served node true d e answered counted = copy
      served node false false e answered counted = good.served node answered counted
      served node false true e answered counted = good.served node answered counted

-- the words that a row sends: of the copy elsewhere and where the home's line is dirty, of memory where it is clean
pub given-copy : (at_home : Bool) (share : LineShare) (ages : LineAges) → at_home ≡ false → age_given at_home share ages ≡ ages.copy
given-copy at_home share ages e = rw e

pub given-home : (at_home : Bool) (share : LineShare) (ages : LineAges) → share.header.dirty ≡ true → age_given at_home share ages ≡ ages.copy
given-home true share ages e = rw e
given-home false share ages e = refl

pub given-memory : (at_home : Bool) (share : LineShare) (ages : LineAges) → at_home ≡ true → share.header.dirty ≡ false → age_given at_home share ages ≡ ages.memory
given-memory at_home share ages e f = rw (e, f)

-- a row elsewhere leaves the header; one at the home says what it is
module _ (line : AgedLine) (header : Header) (memory : ℕ) where
  pub away-waits : (b : Bool) → b ≡ false → is_invalidate line.line.header.wait ≡ false → is_invalidate (cond b header line.line.header).wait ≡ false
  away-waits b e w = rw e w

  pub home-waits : (b : Bool) → is_invalidate line.line.header.wait ≡ false → is_invalidate header.wait ≡ false → is_invalidate (cond b header line.line.header).wait ≡ false
  home-waits true w h = h
  home-waits false w h = w

  pub away-memory : (home : ℕ) → AreNewest home line → (b : Bool) → b ≡ false → (cond b header line.line.header).dirty ≡ false → cond b memory line.memory_age ≡ line.top
  away-memory home good false e clean = good.memory clean
  away-memory home good true e clean = absurd (grind arith)

  pub home-memory : (home : ℕ) → AreNewest home line → (b : Bool) → (header.dirty ≡ false → memory ≡ line.top) → (cond b header line.line.header).dirty ≡ false → cond b memory line.memory_age ≡ line.top
  home-memory home good true h clean = h clean
  home-memory home good false h clean = good.memory clean

-- a copy keeps its age
pub kept-copy : (c d : Bool) (age top : ℕ) → age ≡ cond c 0 top → (d ≡ false → c ≡ false) → cond d 0 age ≡ cond d 0 top
kept-copy c true age top e h = refl
kept-copy true false age top e h = absurd (let n = h refl in grind arith)
kept-copy false false age top e h = e

pub full-copy : (c : Bool) (age top : ℕ) → age ≡ cond c 0 top → c ≡ false → age ≡ top
full-copy c age top e f = e ∙ ap (λ d. cond d 0 top) f
