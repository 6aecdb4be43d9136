-- The ages after a row of the home that takes a message without words, sends nothing, serves nothing and leaves the home's copy.
use Rattle.std.proofs.Common.{◌≡◌, ◌≢◌, ℕ, ◌≤◌, Bool, true, false, cond, nat_lt, ◌==◌, List, ◌∷◌, refl, arith, ap, sym, ◌∙◌}
use Rattle.std.proofs.lemmas.Bool.Decides.{nat_tests}
use Rattle.eager_model.specs.Types.{Class}
use Rattle.op_model.specs.Nodes.{listed}
use Rattle.op_model.specs.Operations.{Words}
use Rattle.op_model.specs.Messages.{Content}
use Rattle.op_model.specs.Lines.{Header, sending, no_message, is_empty}
use Rattle.line_invariant.specs.Line.{share_of, taken}
use Rattle.line_invariant.specs.Good.{Status, Role, IsGoodNode, is_put}
use Rattle.op_model.proofs.Public.{eqb-self}
use Rattle.std.proofs.lemmas.Bool.{ne_eqb}
use Rattle.eager_model.specs.Ages.{with_copy}
use Rattle.eager_model.specs.Line.{AgedLine, ages_of, aged_row, greater, taken_age}
use Rattle.eager_model.proofs.SentAges.{kept-copy, done-ages, given_age, none-sent, taken-ages}
use Rattle.eager_model.specs.Good.{AreAges, IsAgeIn, has_words, message_age}

pub greater-same : (top age : ℕ) → age ≤ top → greater top (greater age 0) ≡ top
greater-same top age le = grind (arith, nat_tests)

-- the words of an age are the same ones, where the greatest age stays and so do the newest words
pub words-same : (words_at : ℕ → Words) (words : Words) (top top' age : ℕ) → top' ≡ top → words_at top ≡ words → age ≤ top → cond (nat_lt age top') (words_at age) words ≡ words_at age
words-same words_at words top top' age same newest le = go (nat_lt age top') refl
  where
    go : (b : Bool) → nat_lt age top' ≡ b → cond b (words_at age) words ≡ words_at age
    go true e = refl
    go false e = let is : age ≡ top = grind (arith, nat_tests) in sym newest ∙ ap words_at (sym is)

pub at-top : (words_at : ℕ → Words) (words : Words) (top : ℕ) → cond (nat_lt top top) (words_at top) words ≡ words
at-top words_at words top = let e : nat_lt top top ≡ false = grind (arith, nat_tests) in rw e

pub tail-same : (x y : ℕ) (xs ys : List ℕ) → x ∷ xs ≡ y ∷ ys → xs ≡ ys
tail-same x y xs ys e = grind arith

module _ (home : ℕ) (line : AgedLine) (p : ℕ) (class : Class) (content : Content) (rest : List Content) (age : ℕ) (ages : List ℕ) (header : Header) where
  -- the line after such a row
  abbrev pub quiet_row : AgedLine
  quiet_row =
      aged_row home home (sending (record (share_of line.line home) { header = header }) no_message) (with_copy (line.line.copy home) (ages_of line home))
      (record line { line = record line.line { lane = taken p home class rest line.line.lane }; lane_age = taken_age p home class ages line.lane_age })

  module _ (status : ℕ → Status) (role : ℕ → Role) (has : ℕ → ℕ) (good : AreAges home line status role has) where
    pub quiet-top : quiet_row.top ≡ line.top
    quiet-top = greater-same line.top (with_copy (line.line.copy home) (ages_of line home)).copy (go (is_empty (line.line.copy home)) (good.copies home))
      where
        go : (b : Bool) → line.copy_age home ≡ cond b 0 (has home) → cond b 0 (line.copy_age home) ≤ line.top
        go true e = grind arith
        go false e = let le = good.within home in grind arith

    pub quiet-newest : quiet_row.words_at quiet_row.top ≡ quiet_row.line.words
    quiet-newest = at-top line.words_at line.line.words quiet_row.top

    -- another node sees the same line
    pub quiet-node : line.words_at line.top ≡ line.line.words → (node : ℕ) → node ≢ home → (part : Role) (now : Status) →
        IsGoodNode part (line.words_at (has node)) (listed header.list node) (line.line.copy node) (line.line.want node) now →
        IsGoodNode part (quiet_row.words_at (has node)) (listed quiet_row.line.header.list node) (quiet_row.line.copy node) (quiet_row.line.want node) now
    quiet-node newest node far part now it =
        let on : (home == home) ≡ true = eqb-self home in
        let off : (node == home) ≡ false = ne_eqb node home far in
        let same = words-same line.words_at line.line.words line.top quiet_row.top (has node) quiet-top newest (good.within node) in
        rw (same, on, off) it

    pub quiet-ages : (status' : ℕ → Status) (role' : ℕ → Role) →
        line.line.lane p home class ≡ content ∷ rest → line.lane_age p home class ≡ age ∷ ages →
        (header.dirty ≡ false → line.line.header.dirty ≡ false) →
        ((node : ℕ) → node ≢ home → has_words (line.line.copy node) (line.line.want node) (status' node) ≡ true → IsAgeIn (role' node) (has node) line.top) →
        ((node : ℕ) → is_put (status' node).carrier ≡ is_put (status node).carrier) →
        AreAges home quiet_row status' role' has
    quiet-ages status' role' front first clean aged puts =
        done-ages home line status role has good home (sending (record (share_of line.line home) { header = header }) no_message) (with_copy (line.line.copy home) (ages_of line home)) (taken p home class rest line.line.lane) (taken_age p home class ages line.lane_age)
        (kept-copy (is_empty (line.line.copy home)) (line.copy_age home) (has home) (good.copies home)) (none-sent (given_age home line home) line.top has home) status' role'
        (taken-ages line (message_age line.top has) good.lanes p home class content rest age ages front first).1
        (λ e. rw (eqb-self home) (good.memory (clean (simp (eqb-self home) at e))))
        (λ node far e. aged node far (simp (ne_eqb node home far) at e))
        good.past
        (λ node e. good.under_copy node (same-copy node (node == home) refl ∙ e))
        (λ node e. good.of_put node (sym (puts node) ∙ e))
      where
        same-copy : (node : ℕ) (b : Bool) → (node == home) ≡ b → is_empty (line.line.copy node) ≡ is_empty (cond b (line.line.copy home) (line.line.copy node))
        same-copy node true e = let is : node ≡ home = grind (arith, nat_tests) in ap (λ n. is_empty (line.line.copy n)) is
        same-copy node false e = refl
