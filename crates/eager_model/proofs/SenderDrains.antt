-- E2 keeps a line good: a node is given a clean line, begins an age, and the shared copies become the older ones.
use Rattle.std.proofs.Common.{◌≡◌, ◌≢◌, ◌⊎◌, ℕ, suc, ◌≤◌, Bool, true, false, cond, nat_lt, ◌==◌, ◌&&◌, ◌||◌, List, [], ◌∷◌, map, refl, arith, ap, sym, ◌∙◌, inl, inr}
use Rattle.std.proofs.lemmas.Bool.Decides.{nat_tests}
use Rattle.eager_model.specs.Types.{Class, Request}
use Rattle.op_model.specs.Nodes.{Nodes, listed, unlist, in_order, listings}
use Rattle.op_model.specs.Operations.{Words}
use Rattle.op_model.specs.Messages.{Content, GetX, PutX, same_class}
use Rattle.op_model.specs.Lines.{Absent, is_empty, is_pending, to_listed, to_each}
use Rattle.op_model.specs.Tables.Home.{no_other}
use Rattle.line_invariant.specs.Line.{share_of, addressed, taken}
use Rattle.line_invariant.specs.Good.{Status, Resting, AskingX, Answered, Holds, NotLeaving, NoDuty, Told, Clean, MayShare, Recalled, Role, IsGoodNode, IsGoodHeader, IsGoodHome, IsCarried, role_in, is_put, is_write_answer}
use Rattle.op_model.proofs.Public.{eqb-self}
use Rattle.std.proofs.lemmas.Bool.{ne_eqb}
use Rattle.line_invariant.proofs.Public.{at-one, clean-phase, getx-comes, home-rests}
use Rattle.eager_model.specs.Rows.{give_and_drain}
use Rattle.eager_model.specs.Ages.{with_copy, sent_age, age_given}
use Rattle.eager_model.specs.Line.{AgedLine, ages_of, aged_row, greater, begun_age, taken_age}
use Rattle.eager_model.specs.Good.{IsSettled, IsDraining, IsAgeIn, AreAges, has_words, draining_role, message_age}
use Rattle.eager_model.proofs.Newest.{had, ages-of-newest}
use Rattle.eager_model.proofs.Maps.{map-append, both-parts}
use Rattle.eager_model.proofs.Kept.{calls-begin-none, any-words, kept-lane}
use Rattle.eager_model.proofs.GivenLanes.{given_and_told, lanes-given, given-ages, node-given, node-told, asking-bare}

module _ (home : ℕ) (line : AgedLine) (newest : line.words_at line.top ≡ line.line.words) (settled : IsSettled home line) (p : ℕ) (apart : p ≢ home)
    (rest : List Content) (age : ℕ) (ages : List ℕ) (front : line.line.lane p home Request ≡ GetX ∷ rest) (first : line.lane_age p home Request ≡ age ∷ ages)
    (idle : is_pending line.line.header ≡ false) (clean : line.line.header.dirty ≡ false) (some : no_other p line.line.header.list ≡ false) where
  abbrev has_before : ℕ → ℕ
  has_before = had home line settled.good

  ages_before : AreAges home line settled.good.status (role_in home line.line.words settled.good.phase) has_before
  ages_before = ages-of-newest home line settled.good settled.settled settled.ages

  phase : settled.good.phase ≡ Clean
  phase = clean-phase home settled.good.phase line.line.words line.line.header (line.line.copy home) settled.good.header idle clean

  header : IsGoodHeader home Clean line.line.words line.line.header (line.line.copy home)
  header = rw phase at settled.good.header

  at_home : IsGoodHome home Clean line.line.words (line.line.copy home) (line.line.want home) (settled.good.status home)
  at_home = rw phase at settled.good.at_home

  node : (n : ℕ) → n ≢ home → IsGoodNode (MayShare NoDuty) line.line.words (listed line.line.header.list n) (line.line.copy n) (line.line.want n) (settled.good.status n)
  node n far = rw phase at (settled.good.nodes n far)

  memory_top : line.memory_age ≡ line.top
  memory_top = ages_before.memory clean

  comes : ((settled.good.status p).leaving ≡ NotLeaving) × ((settled.good.status p).carrier ≡ AskingX) × (rest ≡ [])
  comes = getx-comes home line.line settled.good p apart rest front

  abbrev list : Nodes
  list = unlist line.line.header.list p

  abbrev next : AgedLine
  next = aged_row home home (give_and_drain p (share_of line.line home)) (with_copy Absent (ages_of line home)) (record line { line = record line.line { lane = taken p home Request rest line.line.lane }; lane_age = taken_age p home Request ages line.lane_age })

  -- the sender's words are of the next age; the home has none
  abbrev has : ℕ → ℕ
  has n = cond ((n == home) || (n == p)) (suc line.top) (has_before n)

  abbrev now : ℕ → Status
  now = given_and_told home p line.line.header.memory list settled.good.status

  given-top : age_given (home == home) (share_of line.line home) (ages_of line home) ≡ line.top
  given-top = rw (eqb-self home, clean) memory_top

  next-top : next.top ≡ suc line.top
  next-top = top (in_order list) _ given-top
    where
      top : (xs : List ℕ) (given : ℕ) → given ≡ line.top → greater line.top (greater 0 (greater (suc given) (begun_age given (to_each xs)))) ≡ suc line.top
      top xs given e = let none = calls-begin-none given xs in grind (arith, nat_tests)

  -- each node that has words has the newest
  newest-before : (n : ℕ) → n ≢ home → has_words (line.line.copy n) (line.line.want n) (settled.good.status n) ≡ true → has_before n ≡ line.top
  newest-before n far e = rw phase at (ages_before.aged n far e)

  older-words : (age : ℕ) → age ≤ line.top → next.words_at age ≡ line.words_at age
  older-words age le = let under : nat_lt age next.top ≡ true = let t = next-top in grind (arith, nat_tests) in rw under

  duties : (n : ℕ) → (settled.good.status n).duty ≡ NoDuty
  duties n = go (n == home) refl
    where
      go : (b : Bool) → (n == home) ≡ b → (settled.good.status n).duty ≡ NoDuty
      go true e = let is : n ≡ home = grind (arith, nat_tests) in rw is at_home.off_duty
      go false e = (node n (λ same. grind (arith, nat_tests))).duty

  gone : listed list p ≡ false
  gone = grind (arith, nat_tests, listings)

  home-off : listed list home ≡ false
  home-off = let e = settled.good.unlisted in grind (arith, nat_tests, listings)

  next-words : next.words_at (suc line.top) ≡ line.line.words
  next-words = let over : nat_lt (suc line.top) next.top ≡ false = let t = next-top in grind (arith, nat_tests) in rw over

  next-node : (n : ℕ) → n ≢ home → IsGoodNode (draining_role p true n) (next.words_at (has n)) (listed list n) (line.line.copy n) (line.line.want n) (now n)
  next-node n far = go (n == home) (n == p) (ne_eqb n home far) refl
    where
      go : (h b : Bool) → h ≡ false → (n == p) ≡ b →
          IsGoodNode (cond b (Holds NoDuty) Recalled) (next.words_at (cond (h || b) (suc line.top) (has_before n))) (listed list n) (line.line.copy n) (line.line.want n)
          (record { carrier = cond b (Answered home (PutX line.line.header.memory)) (settled.good.status n).carrier; leaving = (settled.good.status n).leaving; duty = cond (listed list n) Told (settled.good.status n).duty })
      go true b e f = absurd (grind arith)
      go false true e f =
          let is : n ≡ p = grind (arith, nat_tests) in
          let off : listed list n ≡ false = grind (arith, nat_tests, listings) in
          rw (off, next-words, header.2) (node-given line.line.words (listed line.line.header.list n) (line.line.copy n) (line.line.want n) (settled.good.status n) home false (node n far) (rw is comes.1) (rw is comes.0))
      go false false e f =
          let lists : listed list n ≡ listed line.line.header.list n = grind (arith, nat_tests, listings) in
          let told = node-told line.line.words (listed line.line.header.list n) (line.line.copy n) (line.line.want n) (settled.good.status n) (node n far) in
          any-words Recalled line.line.words (next.words_at (has_before n)) (listed list n) (line.line.copy n) (line.line.want n) _ (rw lists told)
          (λ e. older-words (has_before n) (ages_before.within n) ∙ ap line.words_at (newest-before n far e) ∙ newest)

  next-ages : AreAges home next now (draining_role p true) has
  next-ages =
      record {
        copies = λ n. copies n (n == home) (n == p) refl refl;
        lanes = λ a b class. lanes a b class;
        memory = λ e. absurd (let no : true ≡ false = simp (eqb-self home) at e in grind arith);
        at_home = held (home == home) (eqb-self home) ∙ sym next-top;
        within = λ n. rw next-top (within n ((n == home) || (n == p)));
        aged = λ n far e. rw next-top (aged n far (n == home) (n == p) (ne_eqb n home far) refl (simp (ne_eqb n home far) at e));
        past = λ n. rw next-top (let le = ages_before.past n in grind arith);
        under_copy = λ n e. under n (n == home) (n == p) refl refl e;
        of_put = λ n e. of_put n (n == home) (n == p) refl refl e;
      }
    where
      held : (b : Bool) → b ≡ true → cond (b || (home == p)) (suc line.top) (has_before home) ≡ suc line.top
      held true e = refl
      held false e = absurd (grind arith)

      carried : (n : ℕ) (b : Bool) → (n == home) ≡ b → IsCarried (line.line.want n) (line.line.copy n) (settled.good.status n).carrier
      carried n true e = let is : n ≡ home = grind (arith, nat_tests) in rw is at_home.carried
      carried n false e = (node n (λ same. grind (arith, nat_tests))).carried

      leaves : (n : ℕ) (h b : Bool) → (n == home) ≡ h → (n == p) ≡ b → ((settled.good.status n).leaving ≡ NotLeaving) ⊎ (cond (h || b) (suc line.top) (has_before n) ≡ has_before n)
      leaves n true b e f = let is : n ≡ home = grind (arith, nat_tests) in inl (ap (λ m. (settled.good.status m).leaving) is ∙ at_home.stays)
      leaves n false true e f = let is : n ≡ p = grind (arith, nat_tests) in inl (ap (λ m. (settled.good.status m).leaving) is ∙ comes.0)
      leaves n false false e f = inr refl

      answers : (n : ℕ) (h b : Bool) → (n == home) ≡ h → (n == p) ≡ b → ((is_put (settled.good.status n).carrier || is_write_answer (settled.good.status n).carrier) ≡ false) ⊎ (cond (h || b) (suc line.top) (has_before n) ≡ has_before n)
      answers n true b e f = let is : n ≡ home = grind (arith, nat_tests) in inl (ap (λ m. is_put (settled.good.status m).carrier || is_write_answer (settled.good.status m).carrier) is ∙ ap (λ c. is_put c || is_write_answer c) at_home.carrier)
      answers n false true e f = let is : n ≡ p = grind (arith, nat_tests) in inl (ap (λ m. is_put (settled.good.status m).carrier || is_write_answer (settled.good.status m).carrier) is ∙ ap (λ c. is_put c || is_write_answer c) comes.1)
      answers n false false e f = inr refl

      before : (a b : ℕ) (class : Class) → line.lane_age a b class ≡ map (message_age next.top has a b) (line.line.lane a b class)
      before a b class =
          ages_before.lanes a b class
          ∙ ap (λ ms. map (message_age line.top has_before a b) ms) (settled.good.lanes a b class)
          ∙ sym (kept-lane line.top next.top has_before has a b home settled.good.status (line.line.want b) (line.line.copy b) (carried b (b == home) refl) (duties a) (duties b) (leaves a (a == home) (a == p) refl refl) (answers b (b == home) (b == p) refl refl) class)
          ∙ ap (λ ms. map (message_age next.top has a b) ms) (sym (settled.good.lanes a b class))

      no-ages : ages ≡ []
      no-ages = empty ages (sym first ∙ ages_before.lanes p home Request ∙ ap (λ ms. map (message_age line.top has_before p home) ms) (front ∙ ap (λ r. GetX ∷ r) comes.2))
        where
          empty : (xs : List ℕ) → age ∷ xs ≡ 0 ∷ [] → xs ≡ []
          empty xs e = grind arith

      after-taken : (a b : ℕ) (class : Class) (c : Bool) → cond c ages (line.lane_age a b class) ≡ map (message_age next.top has a b) (cond c rest (line.line.lane a b class))
      after-taken a b class true = no-ages ∙ ap (λ ms. map (message_age next.top has a b) ms) (sym comes.2)
      after-taken a b class false = before a b class

      lanes : (a b : ℕ) (class : Class) → next.lane_age a b class ≡ map (message_age next.top has a b) (next.line.lane a b class)
      lanes a b class =
          both-parts (after-taken a b class ((a == p) && (b == home) && same_class class Request)) (called (a == home))
          ∙ sym (map-append (message_age next.top has a b) (taken p home Request rest line.line.lane a b class) (cond (a == home) (addressed b class ((p, PutX line.line.header.memory) ∷ to_listed list)) []))
        where
          called : (h : Bool) → cond h (map (sent_age (age_given (home == home) (share_of line.line home) (ages_of line home))) (addressed b class ((p, PutX line.line.header.memory) ∷ to_listed list))) [] ≡ map (message_age next.top has a b) (cond h (addressed b class ((p, PutX line.line.header.memory) ∷ to_listed list)) [])
          called true = given-ages _ next.top has p line.line.header.memory (own ∙ ap suc (sym given-top)) a b class (in_order list)
            where
              own : has p ≡ suc line.top
              own = let is : (p == p) ≡ true = eqb-self p in let off : (p == home) ≡ false = ne_eqb p home apart in rw (is, off)
          called false = refl

      copies : (n : ℕ) (h b : Bool) → (n == home) ≡ h → (n == p) ≡ b → cond h 0 (line.copy_age n) ≡ cond (is_empty (cond h Absent (line.line.copy n))) 0 (cond (h || b) (suc line.top) (has_before n))
      copies n true b e f = refl
      copies n false true e f =
          let is : n ≡ p = grind (arith, nat_tests) in
          let bare : line.line.copy n ≡ Absent = asking-bare (line.line.want n) (line.line.copy n) (settled.good.status n).carrier (carried n false e) (rw is comes.1) in
          rw bare (ages_before.copies n ∙ rw bare)
      copies n false false e f = ages_before.copies n

      within : (n : ℕ) (b : Bool) → cond b (suc line.top) (has_before n) ≤ suc line.top
      within n true = grind arith
      within n false = let le = ages_before.within n in grind arith

      aged : (n : ℕ) → n ≢ home → (h b : Bool) → h ≡ false → (n == p) ≡ b →
          has_words (line.line.copy n) (line.line.want n) (record { carrier = cond b (Answered home (PutX line.line.header.memory)) (settled.good.status n).carrier; leaving = (settled.good.status n).leaving; duty = cond (listed list n) Told (settled.good.status n).duty }) ≡ true →
          IsAgeIn (cond b (Holds NoDuty) Recalled) (cond (h || b) (suc line.top) (has_before n)) (suc line.top)
      aged n far true b e f words = absurd (grind arith)
      aged n far false true e f words = refl
      aged n far false false e f words = let t = newest-before n far words in grind arith

      under : (n : ℕ) (h b : Bool) → (n == home) ≡ h → (n == p) ≡ b → is_empty (cond h Absent (line.line.copy n)) ≡ false → line.last n ≤ cond (h || b) (suc line.top) (has_before n)
      under n true b e f copy = absurd (grind arith)
      under n false true e f copy = let le = ages_before.past n in grind arith
      under n false false e f copy = ages_before.under_copy n copy

      of_put : (n : ℕ) (h b : Bool) → (n == home) ≡ h → (n == p) ≡ b → is_put (cond b (Answered home (PutX line.line.header.memory)) (settled.good.status n).carrier) ≡ true → line.last n ≡ cond (h || b) (suc line.top) (has_before n)
      of_put n h true e f put = absurd (grind arith)
      of_put n true false e f put =
          let is : n ≡ home = grind (arith, nat_tests) in
          let rest_now : (settled.good.status n).carrier ≡ Resting = ap (λ m. (settled.good.status m).carrier) is ∙ at_home.carrier in
          absurd (let no : false ≡ true = sym (ap is_put rest_now) ∙ put in grind arith)
      of_put n false false e f put = ages_before.of_put n put

  pub sender-drains : IsDraining home next
  sender-drains =
      let on : (home == home) ≡ true = eqb-self home in
      let off : (home == p) ≡ false = ne_eqb home p (λ e. apart (sym e)) in
      record {
        grantee = p;
        holds = true;
        status = now;
        has = has;
        lanes = lanes-given home p line.line.lane settled.good.status apart settled.good.lanes line.line.header.memory list home-off duties rest comes.2 comes.1 comes.0;
        header = rw on (record { waits = refl; dirty = refl; memory = tt; some = grind (arith, nat_tests); due = refl; granted = gone; own = rw (ne_eqb p home apart) });
        local = rw on;
        unlisted = rw on home-off;
        at_home = rw (on, off, home-off) (home-rests home Clean Clean line.line.words _ (line.line.copy home) _ (line.line.want home) (settled.good.status home) at_home at_home.carrier refl);
        nodes = λ n far. seen n (home == home) (n == home) on (ne_eqb n home far) _ _ _ (next-node n far);
        answered = λ n. at-one line.line.answered settled.good.status settled.good.answered p (Answered home (PutX line.line.header.memory)) (sym (ap is_put comes.1)) n;
        ages = next-ages;
      }
    where
      seen : (n : ℕ) (on off : Bool) → on ≡ true → off ≡ false → (part : Role) (words : Words) (now : Status) → IsGoodNode part words (listed list n) (line.line.copy n) (line.line.want n) now →
          IsGoodNode part words (listed (cond on (give_and_drain p (share_of line.line home)).share.header line.line.header).list n) (cond off Absent (line.line.copy n)) (cond off (line.line.want home) (line.line.want n)) now
      seen n true false e f part words now it = it
      seen n true true e f part words now it = absurd (grind arith)
      seen n false off e f part words now it = absurd (grind arith)
