-- When one node alone has a line's words: the home's own copy is the only one, or memory of a line that nobody else shares, or an owner that is asked for it.
use Rattle.std.proofs.Common.{◌≡◌, ◌≢◌, ◌⊎◌, ℕ, suc, Bool, true, false, cond, ◌==◌, ◌||◌, refl, arith, ap, sym, ◌∙◌, subst, inl, inr, Option}
use Rattle.std.proofs.Math.Bool.{and-true}
use Rattle.std.proofs.lemmas.Bool.Decides.{nat_tests}
use Rattle.eager_model.specs.Types.{Want}
use Rattle.op_model.specs.Nodes.{listed}
use Rattle.op_model.specs.Operations.{Words}
use Rattle.op_model.specs.Lines.{Copy, is_empty, is_exclusive}
use Rattle.op_model.proofs.Public.{eqb-self}
use Rattle.line_invariant.specs.Good.{Status, AskingX, NotLeaving, NoDuty, ToGive, Clean, HomeOwns, Asked, MayShare, Bare, Holds, Waiting, Usual, ByForward, IsGood, IsGoodNode, IsGoodHome, IsGoodHeader, IsAskedBy, is_put, is_write_answer, is_write_back}
use Rattle.eager_model.specs.Line.{AgedLine}
use Rattle.eager_model.specs.Newest.{is_unmarked}
use Rattle.eager_model.proofs.LaneAges.{is_returned}
use Rattle.eager_model.proofs.Taken.{bare-lane}
use Rattle.eager_model.proofs.Begins.{IsAlone}

-- nothing that counts is under way for a node
record IsQuiet (want : Option Want) (status : Status) : Type 0 where
  backs : is_write_back status.leaving ≡ false
  gives : is_write_answer status.carrier ≡ false
  returns : is_returned status.duty ≡ false
  puts : is_put status.carrier ≡ true → is_unmarked want ≡ false

module _ (words : Words) (lists : Bool) (copy : Copy) (want : Option Want) (status : Status) where
  quiet-bare : (waiting : Waiting) → IsGoodNode (Bare waiting NoDuty) words lists copy want status → IsQuiet want status
  quiet-bare waiting good = record { backs = grind arith; gives = grind arith; returns = grind arith; puts = λ e. grind arith }

  empty-bare : (waiting : Waiting) → IsGoodNode (Bare waiting NoDuty) words lists copy want status → is_empty copy ≡ true
  empty-bare waiting good = grind arith

  quiet-unlisted : IsGoodNode (MayShare NoDuty) words lists copy want status → lists ≡ false → IsQuiet want status
  quiet-unlisted good off = record { backs = grind arith; gives = grind arith; returns = grind arith; puts = λ e. grind arith }

  empty-unlisted : IsGoodNode (MayShare NoDuty) words lists copy want status → lists ≡ false → is_empty copy ≡ true
  empty-unlisted good off = grind arith

  quiet-asking : IsGoodNode (MayShare NoDuty) words lists copy want status → status.carrier ≡ AskingX → IsQuiet want status
  quiet-asking good asks = record { backs = grind arith; gives = grind arith; returns = grind arith; puts = λ e. grind arith }

  empty-asking : IsGoodNode (MayShare NoDuty) words lists copy want status → status.carrier ≡ AskingX → is_empty copy ≡ true
  empty-asking good asks = grind arith

  quiet-owner : (write : Bool) (r : ℕ) → IsGoodNode (Holds (ToGive write r)) words lists copy want status → is_exclusive copy ≡ true → IsQuiet want status
  quiet-owner write r good held = record { backs = grind arith; gives = grind arith; returns = grind arith; puts = λ e. grind arith }

-- the home's own operation isn't answered
quiet-home : (want : Option Want) (status : Status) → status.leaving ≡ NotLeaving → status.duty ≡ NoDuty → is_put status.carrier ≡ false → is_write_answer status.carrier ≡ false → IsQuiet want status
quiet-home want status stays off no_put no_answer = record { backs = grind arith; gives = no_answer; returns = grind arith; puts = λ e. absurd (grind arith) }

module _ (home me : ℕ) (line : AgedLine) (good : IsGood home line.line) where
  -- told node by node
  alone-by : ((n : ℕ) → n ≢ home → IsQuiet (line.line.want n) (good.status n)) → IsQuiet (line.line.want home) (good.status home) → is_put (good.status home).carrier ≡ false →
      ((n : ℕ) → (n == me) ≡ false → is_empty (line.line.copy n) ≡ true) → IsAlone home me line
  alone-by nodes at_home no_put copies =
      record {
        copies = copies;
        lanes = λ l a b class. bare-lane home line good (λ n. (each n).backs) (λ n. (each n).gives) (λ n. (each n).returns) line.top (suc line.top) l a b class;
        puts = λ n e. go n (sym (good.answered n) ∙ e) (n == home) refl;
      }
    where
      each : (n : ℕ) → IsQuiet (line.line.want n) (good.status n)
      each n = by (n == home) refl
        where
          by : (b : Bool) → (n == home) ≡ b → IsQuiet (line.line.want n) (good.status n)
          by true e = let is : home ≡ n = grind (arith, nat_tests) in subst (λ m. IsQuiet (line.line.want m) (good.status m)) is at_home
          by false e = nodes n (λ same. grind (arith, nat_tests))

      go : (n : ℕ) → is_put (good.status n).carrier ≡ true → (b : Bool) → (n == home) ≡ b → (b || is_unmarked (line.line.want n)) ≡ false
      go n put true e = let is : n ≡ home = grind (arith, nat_tests) in absurd (let no : true ≡ false = sym put ∙ ap (λ m. is_put (good.status m).carrier) is ∙ no_put in grind arith)
      go n put false e = (each n).puts put

-- the home has the only copy
pub alone-home : (home : ℕ) (line : AgedLine) (good : IsGood home line.line) → good.phase ≡ HomeOwns → IsAlone home home line
alone-home home line good phase =
    alone-by home home line good (λ n far. quiet-bare _ _ (line.line.copy n) (line.line.want n) (good.status n) Usual (node n far))
    (quiet-home (line.line.want home) (good.status home) at_home.stays at_home.off_duty (ap is_put at_home.carrier) (ap is_write_answer at_home.carrier))
    (ap is_put at_home.carrier)
    (λ n e. empty-bare _ _ (line.line.copy n) (line.line.want n) (good.status n) Usual (node n (λ same. grind (arith, nat_tests))))
  where
    node : (n : ℕ) → n ≢ home → IsGoodNode (Bare Usual NoDuty) line.line.words (listed line.line.header.list n) (line.line.copy n) (line.line.want n) (good.status n)
    node n far = rw phase at (good.nodes n far)

    at_home : IsGoodHome home HomeOwns line.line.words (line.line.copy home) (line.line.want home) (good.status home)
    at_home = rw phase at good.at_home

-- memory has the words, and whoever is listed asks for the line
pub alone-memory : (home : ℕ) (line : AgedLine) (good : IsGood home line.line) → good.phase ≡ Clean → ((n : ℕ) → n ≢ home → (listed line.line.header.list n ≡ false) ⊎ ((good.status n).carrier ≡ AskingX)) → IsAlone home home line
alone-memory home line good phase unshared =
    alone-by home home line good (λ n far. quiet n far (unshared n far))
    (quiet-home (line.line.want home) (good.status home) at_home.stays at_home.off_duty (ap is_put at_home.carrier) (ap is_write_answer at_home.carrier))
    (ap is_put at_home.carrier)
    (λ n e. let far : n ≢ home = (λ same. grind (arith, nat_tests)) in empty n far (unshared n far))
  where
    node : (n : ℕ) → n ≢ home → IsGoodNode (MayShare NoDuty) line.line.words (listed line.line.header.list n) (line.line.copy n) (line.line.want n) (good.status n)
    node n far = rw phase at (good.nodes n far)

    at_home : IsGoodHome home Clean line.line.words (line.line.copy home) (line.line.want home) (good.status home)
    at_home = rw phase at good.at_home

    quiet : (n : ℕ) → n ≢ home → (listed line.line.header.list n ≡ false) ⊎ ((good.status n).carrier ≡ AskingX) → IsQuiet (line.line.want n) (good.status n)
    quiet n far (inl off) = quiet-unlisted _ _ (line.line.copy n) (line.line.want n) (good.status n) (node n far) off
    quiet n far (inr asks) = quiet-asking _ _ (line.line.copy n) (line.line.want n) (good.status n) (node n far) asks

    empty : (n : ℕ) → n ≢ home → (listed line.line.header.list n ≡ false) ⊎ ((good.status n).carrier ≡ AskingX) → is_empty (line.line.copy n) ≡ true
    empty n far (inl off) = empty-unlisted _ _ (line.line.copy n) (line.line.want n) (good.status n) (node n far) off
    empty n far (inr asks) = empty-asking _ _ (line.line.copy n) (line.line.want n) (good.status n) (node n far) asks

-- an owner has the only copy and is asked for it
pub alone-owner : (home : ℕ) (line : AgedLine) (good : IsGood home line.line) (p : ℕ) → p ≢ home → (write : Bool) (r : ℕ) → good.phase ≡ Asked write r p false true → is_exclusive (line.line.copy p) ≡ true → IsAlone home p line
alone-owner home line good p apart write r phase held =
    alone-by home p line good (λ n far. quiet n far (n == p) refl)
    (quiet-home (line.line.want home) (good.status home) at_home.stays at_home.off_duty (carrier-put (r == home) at_home.carrier) (carrier-gives (r == home) at_home.carrier))
    (carrier-put (r == home) at_home.carrier)
    (λ n e. empty n e (n == home) refl)
  where
    at_home : IsGoodHome home (Asked write r p false true) line.line.words (line.line.copy home) (line.line.want home) (good.status home)
    at_home = rw phase at good.at_home

    header : IsGoodHeader home (Asked write r p false true) line.line.words line.line.header (line.line.copy home)
    header = rw phase at good.header

    carrier-put : (c : Bool) → IsAskedBy c false write p (good.status home).carrier → is_put (good.status home).carrier ≡ false
    carrier-put true e = ap is_put e
    carrier-put false e = ap is_put e

    carrier-gives : (c : Bool) → IsAskedBy c false write p (good.status home).carrier → is_write_answer (good.status home).carrier ≡ false
    carrier-gives true e = ap is_write_answer e
    carrier-gives false e = ap is_write_answer e

    owner : IsGoodNode (Holds (ToGive write r)) line.line.words (listed line.line.header.list p) (line.line.copy p) (line.line.want p) (good.status p)
    owner = rw (eqb-self p) at (rw phase at (good.nodes p apart))

    node : (n : ℕ) → n ≢ home → (n == p) ≡ false → IsGoodNode (Bare (cond (n == r) (ByForward write) Usual) NoDuty) line.line.words (listed line.line.header.list n) (line.line.copy n) (line.line.want n) (good.status n)
    node n far other = simp (other, and-true) at (rw phase at (good.nodes n far))

    quiet : (n : ℕ) → n ≢ home → (b : Bool) → (n == p) ≡ b → IsQuiet (line.line.want n) (good.status n)
    quiet n far true e = let is : p ≡ n = grind (arith, nat_tests) in subst (λ m. IsQuiet (line.line.want m) (good.status m)) is (quiet-owner _ _ (line.line.copy p) (line.line.want p) (good.status p) write r owner held)
    quiet n far false e = quiet-bare _ _ (line.line.copy n) (line.line.want n) (good.status n) _ (node n far e)

    empty : (n : ℕ) → (n == p) ≡ false → (b : Bool) → (n == home) ≡ b → is_empty (line.line.copy n) ≡ true
    empty n other true e = let is : n ≡ home = grind (arith, nat_tests) in ap (λ m. is_empty (line.line.copy m)) is ∙ ap is_empty header.4
    empty n other false e = empty-bare _ _ (line.line.copy n) (line.line.want n) (good.status n) _ (node n (λ same. grind (arith, nat_tests)) other)
