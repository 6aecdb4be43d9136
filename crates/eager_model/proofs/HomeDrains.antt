-- E1 keeps a line good: the home writes to a clean line, begins an age, and the shared copies become the older ones.
use Rattle.std.proofs.Common.{◌≡◌, ◌≢◌, ◌⊎◌, ℕ, suc, ◌≤◌, Bool, true, false, cond, nat_lt, ◌==◌, ◌||◌, [], map, refl, arith, ap, sym, ◌∙◌, inl, inr}
use Rattle.std.proofs.lemmas.Bool.Decides.{nat_tests}
use Rattle.eager_model.specs.Types.{Op, Class}
use Rattle.op_model.specs.Nodes.{listed, in_order}
use Rattle.op_model.specs.Operations.{Words, after_op}
use Rattle.op_model.specs.Lines.{Exclusive, is_empty, is_pending, nobody_listed, to_listed}
use Rattle.line_invariant.specs.Line.{share_of, addressed}
use Rattle.line_invariant.specs.Good.{Status, NotLeaving, NoDuty, Clean, MayShare, Recalled, Role, IsGoodNode, IsGoodHeader, IsGoodHome, IsCarried, role_in, is_put, is_write_answer}
use Rattle.op_model.proofs.Public.{eqb-self}
use Rattle.std.proofs.lemmas.Bool.{ne_eqb}
use Rattle.line_invariant.proofs.Public.{all_told, clean-phase, home-rests, lanes-call, node-called, rests}
use Rattle.eager_model.specs.Rows.{write_and_drain}
use Rattle.eager_model.specs.Ages.{with_copy, ages_begun, sent_age, age_given}
use Rattle.eager_model.specs.Line.{AgedLine, ages_of, aged_row}
use Rattle.eager_model.specs.Good.{IsSettled, IsDraining, AreAges, has_words, draining_role, message_age}
use Rattle.eager_model.proofs.Newest.{had, ages-of-newest}
use Rattle.eager_model.proofs.Maps.{map-append, both-parts}
use Rattle.eager_model.proofs.Kept.{call-ages, raised-called, any-words, kept-lane}

module _ (home : ℕ) (line : AgedLine) (newest : line.words_at line.top ≡ line.line.words) (settled : IsSettled home line) (op : Op)
    (idle : is_pending line.line.header ≡ false) (clean : line.line.header.dirty ≡ false) (some : nobody_listed line.line.header.list ≡ false) where
  abbrev has_before : ℕ → ℕ
  has_before = had home line settled.good

  ages_before : AreAges home line settled.good.status (role_in home line.line.words settled.good.phase) has_before
  ages_before = ages-of-newest home line settled.good settled.settled settled.ages

  phase : settled.good.phase ≡ Clean
  phase = clean-phase home settled.good.phase line.line.words line.line.header (line.line.copy home) settled.good.header idle clean

  header : IsGoodHeader home Clean line.line.words line.line.header (line.line.copy home)
  header = rw phase at settled.good.header

  at_home : IsGoodHome home Clean line.line.words (line.line.copy home) (line.line.want home) (settled.good.status home)
  at_home = rw phase at settled.good.at_home

  node : (n : ℕ) → n ≢ home → IsGoodNode (MayShare NoDuty) line.line.words (listed line.line.header.list n) (line.line.copy n) (line.line.want n) (settled.good.status n)
  node n far = rw phase at (settled.good.nodes n far)

  memory_top : line.memory_age ≡ line.top
  memory_top = ages_before.memory clean

  abbrev next : AgedLine
  next = aged_row home home (write_and_drain home op (share_of line.line home)) (with_copy (write_and_drain home op (share_of line.line home)).share.copy (ages_begun (write_and_drain home op (share_of line.line home)) (ages_of line home))) line

  -- the home's words are of the next age
  abbrev has : ℕ → ℕ
  has n = cond (n == home) (suc line.top) (has_before n)

  next-top : next.top ≡ suc line.top
  next-top = raised-called line.top line.memory_age _ (in_order line.line.header.list) memory_top

  -- each node that has words has the newest
  newest-before : (n : ℕ) → n ≢ home → has_words (line.line.copy n) (line.line.want n) (settled.good.status n) ≡ true → has_before n ≡ line.top
  newest-before n far e = rw phase at (ages_before.aged n far e)

  older-words : (age : ℕ) → age ≤ line.top → next.words_at age ≡ line.words_at age
  older-words age le = let under : nat_lt age next.top ≡ true = let t = next-top in grind (arith, nat_tests) in rw under

  duties : (n : ℕ) → (settled.good.status n).duty ≡ NoDuty
  duties n = go (n == home) refl
    where
      go : (b : Bool) → (n == home) ≡ b → (settled.good.status n).duty ≡ NoDuty
      go true e = let is : n ≡ home = grind (arith, nat_tests) in rw is at_home.off_duty
      go false e = (node n (λ same. grind (arith, nat_tests))).duty

  next-node : (n : ℕ) → n ≢ home → IsGoodNode (draining_role home true n) (next.words_at (has n)) (listed line.line.header.list n) (line.line.copy n) (line.line.want n) (all_told line.line.header.list settled.good.status n)
  next-node n far =
      let off : (n == home) ≡ false = ne_eqb n home far in
      let called = node-called line.line.words (listed line.line.header.list n) (line.line.copy n) (line.line.want n) (settled.good.status n) (node n far) in
      rw off (any-words Recalled line.line.words (next.words_at (has_before n)) (listed line.line.header.list n) (line.line.copy n) (line.line.want n) (all_told line.line.header.list settled.good.status n) called
      (λ e. older-words (has_before n) (ages_before.within n) ∙ ap line.words_at (newest-before n far e) ∙ newest))

  next-ages : AreAges home next (all_told line.line.header.list settled.good.status) (draining_role home true) has
  next-ages =
      record {
        copies = λ n. copies n (n == home) refl;
        lanes = λ a b class. lanes a b class;
        memory = λ e. absurd (let no : true ≡ false = simp (eqb-self home) at e in grind arith);
        at_home = held (home == home) (eqb-self home) ∙ sym next-top;
        within = λ n. rw next-top (within n (n == home));
        aged = λ n far e. rw (ne_eqb n home far, next-top) (let t = newest-before n far (simp (ne_eqb n home far) at e) in grind arith);
        past = λ n. rw next-top (past n (n == home));
        under_copy = λ n e. under n (n == home) refl e;
        of_put = λ n e. of_put n (n == home) refl e;
      }
    where
      held : (b : Bool) → b ≡ true → cond b (suc line.top) (has_before home) ≡ suc line.top
      held true e = refl
      held false e = absurd (grind arith)

      carried : (n : ℕ) (b : Bool) → (n == home) ≡ b → IsCarried (line.line.want n) (line.line.copy n) (settled.good.status n).carrier
      carried n true e = let is : n ≡ home = grind (arith, nat_tests) in rw is at_home.carried
      carried n false e = (node n (λ same. grind (arith, nat_tests))).carried

      leaves : (n : ℕ) (b : Bool) → (n == home) ≡ b → ((settled.good.status n).leaving ≡ NotLeaving) ⊎ (cond b (suc line.top) (has_before n) ≡ has_before n)
      leaves n true e = let is : n ≡ home = grind (arith, nat_tests) in inl (ap (λ m. (settled.good.status m).leaving) is ∙ at_home.stays)
      leaves n false e = inr refl

      answers : (n : ℕ) (b : Bool) → (n == home) ≡ b → ((is_put (settled.good.status n).carrier || is_write_answer (settled.good.status n).carrier) ≡ false) ⊎ (cond b (suc line.top) (has_before n) ≡ has_before n)
      answers n true e = let is : n ≡ home = grind (arith, nat_tests) in inl (ap (λ m. is_put (settled.good.status m).carrier || is_write_answer (settled.good.status m).carrier) is ∙ ap (λ c. is_put c || is_write_answer c) at_home.carrier)
      answers n false e = inr refl

      before : (a b : ℕ) (class : Class) → line.lane_age a b class ≡ map (message_age next.top has a b) (line.line.lane a b class)
      before a b class =
          ages_before.lanes a b class
          ∙ ap (λ ms. map (message_age line.top has_before a b) ms) (settled.good.lanes a b class)
          ∙ sym (kept-lane line.top next.top has_before has a b home settled.good.status (line.line.want b) (line.line.copy b) (carried b (b == home) refl) (duties a) (duties b) (leaves a (a == home) refl) (answers b (b == home) refl) class)
          ∙ ap (λ ms. map (message_age next.top has a b) ms) (sym (settled.good.lanes a b class))

      lanes : (a b : ℕ) (class : Class) → next.lane_age a b class ≡ map (message_age next.top has a b) (next.line.lane a b class)
      lanes a b class = both-parts (before a b class) (called (a == home)) ∙ sym (map-append (message_age next.top has a b) (line.line.lane a b class) (cond (a == home) (addressed b class (to_listed line.line.header.list)) []))
        where
          called : (h : Bool) → cond h (map (sent_age (age_given (home == home) (share_of line.line home) (ages_of line home))) (addressed b class (to_listed line.line.header.list))) [] ≡ map (message_age next.top has a b) (cond h (addressed b class (to_listed line.line.header.list)) [])
          called true = call-ages _ next.top has a b class (in_order line.line.header.list)
          called false = refl

      copies : (n : ℕ) (b : Bool) → (n == home) ≡ b → cond b (suc line.memory_age) (line.copy_age n) ≡ cond (is_empty (cond b (Exclusive (after_op op line.line.header.memory)) (line.line.copy n))) 0 (cond b (suc line.top) (has_before n))
      copies n true e = ap suc memory_top
      copies n false e = ages_before.copies n

      within : (n : ℕ) (b : Bool) → cond b (suc line.top) (has_before n) ≤ suc line.top
      within n true = grind arith
      within n false = let le = ages_before.within n in grind arith

      past : (n : ℕ) (b : Bool) → cond b (suc line.memory_age) (line.last n) ≤ suc line.top
      past n true = let e = memory_top in grind arith
      past n false = let le = ages_before.past n in grind arith

      under : (n : ℕ) (b : Bool) → (n == home) ≡ b → is_empty (cond b (Exclusive (after_op op line.line.header.memory)) (line.line.copy n)) ≡ false → cond b (suc line.memory_age) (line.last n) ≤ cond b (suc line.top) (has_before n)
      under n true e copy = let e = memory_top in grind arith
      under n false e copy = ages_before.under_copy n copy

      of_put : (n : ℕ) (b : Bool) → (n == home) ≡ b → is_put (settled.good.status n).carrier ≡ true → cond b (suc line.memory_age) (line.last n) ≡ cond b (suc line.top) (has_before n)
      of_put n true e put = ap suc memory_top
      of_put n false e put = ages_before.of_put n put

  pub home-drains : IsDraining home next
  home-drains =
      let on : (home == home) ≡ true = eqb-self home in
      record {
        grantee = home;
        holds = true;
        status = all_told line.line.header.list settled.good.status;
        has = has;
        lanes = lanes-call home line.line.lane settled.good.status settled.good.lanes line.line.header.list settled.good.unlisted (λ n far. (node n far).duty) at_home.off_duty;
        header = rw on (record { waits = refl; dirty = refl; memory = tt; some = grind (arith, nat_tests); due = refl; granted = settled.good.unlisted; own = rw on (ap (λ w. Exclusive (after_op op w)) header.2) });
        local = rw on;
        unlisted = rw on settled.good.unlisted;
        at_home = rw (on, settled.good.unlisted) (home-rests home Clean Clean line.line.words _ (line.line.copy home) _ (line.line.want home) (settled.good.status home) at_home at_home.carrier refl);
        nodes = λ n far. seen n (home == home) (n == home) on (ne_eqb n home far) _ _ _ (next-node n far);
        answered = λ n. rests line.line.answered settled.good.status settled.good.answered home (ap is_put at_home.carrier) n;
        ages = next-ages;
      }
    where
      seen : (n : ℕ) (on off : Bool) → on ≡ true → off ≡ false → (part : Role) (words : Words) (now : Status) → IsGoodNode part words (listed line.line.header.list n) (line.line.copy n) (line.line.want n) now →
          IsGoodNode part words (listed (cond on (write_and_drain home op (share_of line.line home)).share.header line.line.header).list n) (cond off (write_and_drain home op (share_of line.line home)).share.copy (line.line.copy n)) (cond off (line.line.want home) (line.line.want n)) now
      seen n true false e f part words now it = it
      seen n true true e f part words now it = absurd (grind arith)
      seen n false off e f part words now it = absurd (grind arith)
