-- The ages of a line that doesn't drain, told by what is under way and by one age a node: what begins to drain is read so, and what has drained is given back.
use Rattle.std.proofs.Common.{◌≡◌, ◌≢◌, ℕ, ◌≤◌, Bool, true, false, cond, ◌==◌, ◌&&◌, ◌||◌, map, refl, arith, ap, sym, ◌∙◌, subst, Option}
use Rattle.std.proofs.lemmas.Bool.Decides.{nat_tests}
use Rattle.eager_model.specs.Types.{Class, Want}
use Rattle.op_model.specs.Operations.{Words}
use Rattle.op_model.specs.Messages.{Content, Get, GetX, FwdGet, FwdGetX, Inv, Wb, Rpl, Put, PutX, Nak, InvAck, ShWb, FAck, Nakc}
use Rattle.op_model.specs.Lines.{Copy, Header, is_empty}
use Rattle.op_model.specs.Tables.Remote.{is_invalidate}
use Rattle.op_model.proofs.Public.{eqb-self}
use Rattle.line_invariant.specs.Good.{Status, Carrier, Leaving, NotLeaving, Duty, NoDuty, Role, Holds, Bare, Waiting, Usual, asked_role, Phase, Clean, HomeOwns, Owned, Called, Asked, SharedOut, HandedOn, IsGood, IsGoodHeader, IsCarried, IsLeft, role_in, is_put, is_write_answer, is_write_back}
use Rattle.eager_model.specs.Line.{AgedLine}
use Rattle.eager_model.specs.Newest.{AreNewest, newest_age, is_unmarked}
use Rattle.eager_model.specs.Good.{AreAges, IsAgeIn, has_words, message_age}
use Rattle.eager_model.proofs.LaneAges.{has_age, same-lane}

-- messages without words have no age
plain-age : (top last : ℕ) (has : ℕ → ℕ) (a b : ℕ) (c : Content) → has_age c ≡ false → newest_age top last c ≡ message_age top has a b c
plain-age top last has a b Get e = refl
plain-age top last has a b GetX e = refl
plain-age top last has a b (FwdGet r) e = refl
plain-age top last has a b (FwdGetX r) e = refl
plain-age top last has a b Inv e = refl
plain-age top last has a b Rpl e = refl
plain-age top last has a b (Nak cause) e = refl
plain-age top last has a b InvAck e = refl
plain-age top last has a b FAck e = refl
plain-age top last has a b Nakc e = refl
plain-age top last has a b (Wb w) e = absurd (grind arith)
plain-age top last has a b (Put w) e = absurd (grind arith)
plain-age top last has a b (PutX w) e = absurd (grind arith)
plain-age top last has a b (ShWb w) e = absurd (grind arith)

-- what an operation that is begun has under way
module _ (want : Option Want) (copy : Copy) (status : Status) where
  put-bare : IsCarried want copy status.carrier → is_empty copy ≡ false → is_put status.carrier ≡ false
  put-bare carried e = grind arith

  answered-put : is_write_answer status.carrier ≡ true → is_put status.carrier ≡ false
  answered-put e = grind arith

  back-put : IsLeft status.leaving copy status.carrier → is_write_back status.leaving ≡ true → is_put status.carrier ≡ false
  back-put left e = grind arith

  fresh-put : IsCarried want copy status.carrier → IsLeft status.leaving copy status.carrier → is_put status.carrier ≡ true → has_words copy want status ≡ true → is_unmarked want ≡ true
  fresh-put carried left put e = grind arith

  unmarked-has : is_put status.carrier ≡ true → is_unmarked want ≡ true → has_words copy want status ≡ true
  unmarked-has put e = grind arith

  copy-has : is_empty copy ≡ false → has_words copy want status ≡ true
  copy-has e = grind arith

  answer-has : is_write_answer status.carrier ≡ true → has_words copy want status ≡ true
  answer-has e = grind arith

  back-has : is_write_back status.leaving ≡ true → has_words copy want status ≡ true
  back-has e = grind arith

-- in a line that isn't called in no node's words are older ones
newest-role : (home : ℕ) (phase : Phase) (words : Words) (header : Header) (copy : Copy) (node top : ℕ) → IsGoodHeader home phase words header copy → is_invalidate header.wait ≡ false → IsAgeIn (role_in home words phase node) top top
newest-role home Clean words header copy node top good settled = refl
newest-role home HomeOwns words header copy node top good settled = tt
newest-role home (Owned o) words header copy node top good settled = go (node == o)
  where
    go : (c : Bool) → IsAgeIn (cond c (Holds NoDuty) (Bare Usual NoDuty)) top top
    go true = refl
    go false = tt
newest-role home (Called g) words header copy node top good settled = absurd (grind arith)
newest-role home (Asked w r o f h) words header copy node top good settled = go (node == o) h _ _
  where
    go : (c h : Bool) (duty : Duty) (waiting : Waiting) → IsAgeIn (cond c (asked_role h duty) (Bare waiting NoDuty)) top top
    go true true duty waiting = refl
    go true false duty waiting = tt
    go false h duty waiting = tt
newest-role home (SharedOut r o) words header copy node top good settled = refl
newest-role home (HandedOn r o h) words header copy node top good settled = go (node == o) (h && (node == r)) _
  where
    go : (c h : Bool) (duty : Duty) → IsAgeIn (cond c (Bare Usual duty) (asked_role h NoDuty)) top top
    go true h duty = tt
    go false true duty = refl
    go false false duty = tt

module _ (home : ℕ) (line : AgedLine) (good : IsGood home line.line) where
  pub carried : (n : ℕ) → IsCarried (line.line.want n) (line.line.copy n) (good.status n).carrier
  carried n = go (n == home) refl
    where
      go : (b : Bool) → (n == home) ≡ b → IsCarried (line.line.want n) (line.line.copy n) (good.status n).carrier
      go true e = let is : home ≡ n = grind (arith, nat_tests) in subst (λ m. IsCarried (line.line.want m) (line.line.copy m) (good.status m).carrier) is good.at_home.carried
      go false e = (good.nodes n (λ same. grind (arith, nat_tests))).carried

  left : (n : ℕ) → IsLeft (good.status n).leaving (line.line.copy n) (good.status n).carrier
  left n = go (n == home) refl
    where
      stays : (leaves : Leaving) (copy : Copy) (carries : Carrier) → leaves ≡ NotLeaving → IsLeft leaves copy carries
      stays leaves copy carries e = grind arith

      go : (b : Bool) → (n == home) ≡ b → IsLeft (good.status n).leaving (line.line.copy n) (good.status n).carrier
      go true e = let is : home ≡ n = grind (arith, nat_tests) in subst (λ m. IsLeft (good.status m).leaving (line.line.copy m) (good.status m).carrier) is (stays _ (line.line.copy home) (good.status home).carrier good.at_home.stays)
      go false e = (good.nodes n (λ same. grind (arith, nat_tests))).left

  -- both ways to tell a lane's ages are one
  told : (has : ℕ → ℕ) → ((n : ℕ) → is_write_back (good.status n).leaving ≡ true → has n ≡ line.top) → ((n : ℕ) → is_write_answer (good.status n).carrier ≡ true → has n ≡ line.top) → ((n : ℕ) → is_put (good.status n).carrier ≡ true → line.last n ≡ has n) →
      (a b : ℕ) (class : Class) → map (newest_age line.top (line.last b)) (line.line.lane a b class) ≡ map (message_age line.top has a b) (line.line.lane a b class)
  told has backs gives puts a b class =
      ap (λ ms. map (newest_age line.top (line.last b)) ms) (good.lanes a b class)
      ∙ same-lane (newest_age line.top (line.last b)) (message_age line.top has a b) (plain-age line.top (line.last b) has a b) home good.status a b (line.line.want b) (line.line.copy b) (carried b)
      (λ e w. sym (backs a e)) (λ e w. refl) (λ e w. puts b e) (λ e w. sym (gives b e)) class
      ∙ ap (λ ms. map (message_age line.top has a b) ms) (sym (good.lanes a b class))

  -- the age of what a node has: its words under way are those of its last operation
  abbrev pub had : ℕ → ℕ
  had n = cond (is_put (good.status n).carrier) (line.last n) line.top

  had-last : (n : ℕ) → is_put (good.status n).carrier ≡ true → line.last n ≡ had n
  had-last n e = rw e

  had-top : (n : ℕ) → is_put (good.status n).carrier ≡ false → had n ≡ line.top
  had-top n e = rw e

  pub ages-of-newest : is_invalidate line.line.header.wait ≡ false → AreNewest home line → AreAges home line good.status (role_in home line.line.words good.phase) had
  ages-of-newest settled newest =
      record {
        copies = λ n. newest.copies n ∙ copies n (is_empty (line.line.copy n)) refl;
        lanes = λ a b class.
            newest.lanes a b class
            ∙ told had (λ n e. had-top n (back-put (line.line.want n) (line.line.copy n) (good.status n) (left n) e)) (λ n e. had-top n (answered-put (line.line.want n) (line.line.copy n) (good.status n) e)) had-last a b class;
        memory = newest.memory;
        at_home = at-home (is_put (good.status home).carrier) refl;
        within = λ n. within n (is_put (good.status n).carrier);
        aged = λ n far e. subst (λ age. IsAgeIn (role_in home line.line.words good.phase n) age line.top) (sym (newest-had n far e (is_put (good.status n).carrier) refl)) (newest-role home good.phase line.line.words line.line.header (line.line.copy home) n line.top good.header settled);
        past = newest.past;
        under_copy = λ n e. subst (λ age. line.last n ≤ age) (sym (had-top n (put-bare (line.line.want n) (line.line.copy n) (good.status n) (carried n) e))) (newest.past n);
        of_put = had-last;
      }
    where
      copies : (n : ℕ) (b : Bool) → is_empty (line.line.copy n) ≡ b → cond b 0 line.top ≡ cond b 0 (had n)
      copies n true e = refl
      copies n false e = sym (had-top n (put-bare (line.line.want n) (line.line.copy n) (good.status n) (carried n) e))

      at-home : (b : Bool) → is_put (good.status home).carrier ≡ b → cond b (line.last home) line.top ≡ line.top
      at-home false e = refl
      at-home true e = newest.served home (good.answered home ∙ e) (let on : (home == home) ≡ true = eqb-self home in rw on)

      within : (n : ℕ) (b : Bool) → cond b (line.last n) line.top ≤ line.top
      within n true = newest.past n
      within n false = grind arith

      newest-had : (n : ℕ) → n ≢ home → has_words (line.line.copy n) (line.line.want n) (good.status n) ≡ true → (b : Bool) → is_put (good.status n).carrier ≡ b → cond b (line.last n) line.top ≡ line.top
      newest-had n far has false e = refl
      newest-had n far has true e =
          let fresh : is_unmarked (line.line.want n) ≡ true = fresh-put (line.line.want n) (line.line.copy n) (good.status n) (carried n) (left n) e has in
          newest.served n (good.answered n ∙ e) (counted (n == home) (is_unmarked (line.line.want n)) fresh)
        where
          counted : (a b : Bool) → b ≡ true → (a || b) ≡ true
          counted a b e = grind arith

  pub newest-of-ages : (role : ℕ → Role) (has : ℕ → ℕ) → AreAges home line good.status role has →
      ((n : ℕ) → n ≢ home → has_words (line.line.copy n) (line.line.want n) (good.status n) ≡ true → has n ≡ line.top) → AreNewest home line
  newest-of-ages role has ages newest =
      record {
        copies = λ n. ages.copies n ∙ copies n (is_empty (line.line.copy n)) refl;
        lanes = λ a b class. ages.lanes a b class ∙ sym (told has
            (λ n e. all n (back-has (line.line.want n) (line.line.copy n) (good.status n) e)) (λ n e. all n (answer-has (line.line.want n) (line.line.copy n) (good.status n) e)) ages.of_put a b class);
        memory = ages.memory;
        past = ages.past;
        served = λ n e counted. let put : is_put (good.status n).carrier ≡ true = sym (good.answered n) ∙ e in ages.of_put n put ∙ served n put (n == home) refl counted;
      }
    where
      all : (n : ℕ) → has_words (line.line.copy n) (line.line.want n) (good.status n) ≡ true → has n ≡ line.top
      all n e = go (n == home) refl
        where
          go : (b : Bool) → (n == home) ≡ b → has n ≡ line.top
          go true is = let same : n ≡ home = grind (arith, nat_tests) in ap has same ∙ ages.at_home
          go false is = newest n (λ same. grind (arith, nat_tests)) e

      copies : (n : ℕ) (b : Bool) → is_empty (line.line.copy n) ≡ b → cond b 0 (has n) ≡ cond b 0 line.top
      copies n true e = refl
      copies n false e = all n (copy-has (line.line.want n) (line.line.copy n) (good.status n) e)

      served : (n : ℕ) → is_put (good.status n).carrier ≡ true → (b : Bool) → (n == home) ≡ b → (b || is_unmarked (line.line.want n)) ≡ true → has n ≡ line.top
      served n put true e counted = let same : n ≡ home = grind (arith, nat_tests) in ap has same ∙ ages.at_home
      served n put false e counted = all n (unmarked-has (line.line.want n) (line.line.copy n) (good.status n) put counted)
