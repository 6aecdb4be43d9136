-- What is under way: one message put into its lane, one taken, and what an event sends.
use Rattle.std.proofs.Common.{◌≡◌, ℕ, zero, suc, ◌+◌, ◌<◌, ◌≤◌, Bool, true, false, cond, ◌==◌, ◌&&◌, List, [], ◌∷◌, ◌++◌, length, drop, map, refl, ap, arith, sym, ◌∙◌, Option, Some, None}
use Rattle.std.specs.Prelude.{slice_get}
use Rattle.std.proofs.Math.Seq.{drop-nil}
use Rattle.std.proofs.lemmas.List.{append-nil, append_assoc}
use Rattle.std.proofs.lemmas.Bool.Decides.{nat_tests}
use Rattle.op_model.specs.declared.events.Class.{Class}
use Rattle.op_model.specs.declared.events.Event.TheVariants.{Take}
use Rattle.op_model.specs.declared.messages.Msg.{Msg}
use Rattle.op_model.specs.Messages.{same_class, msg_class, msg_content}
use Rattle.op_model.specs.Events.Step.{to_lane}
use Rattle.op_model.proofs.Public.{eqb-swap, same_class-is, same_class-self}
use Rattle.machine.proofs.Public.{sent_by-nil}
use Rattle.eager_model.specs.Ages.{sent_age}
use Rattle.eager_machine.specs.declared.queue.AgedMsg.{AgedMsg}
use Rattle.eager_machine.specs.Lanes.{UnderWay, with_lane, with_age, msg_of, age_of, sent_from, taken_off, IsSilent}

module _ (node given : ℕ) (way : UnderWay) (dst : ℕ) (m : Msg) (rest : List (ℕ × Msg)) where
  -- at one lane: whether it is to this taker, from this node and of the message's class
  at-lane : (a b : ℕ) (class : Class) (to from of : Bool) → (b == dst) ≡ to → (a == node) ≡ from → same_class class (msg_class m) ≡ of →
      cond (to && (from && of)) (way node dst (msg_class m) ++ with_age given m ∷ []) (way a b class) ++ cond from (map (with_age given) (to_lane b class rest)) []
      ≡ way a b class ++ cond from (map (with_age given) (cond (to && of) (m ∷ to_lane b class rest) (to_lane b class rest))) []
  at-lane a b class true true true x y z =
      let is_to : b ≡ dst = grind (arith, nat_tests) in
      let is_from : a ≡ node = grind (arith, nat_tests) in
      let is_class : class ≡ msg_class m = same_class-is class (msg_class m) z in
      let same : way node dst (msg_class m) ≡ way a b class = λ i. way (sym is_from i) (sym is_to i) (sym is_class i) in
      ap (λ l. (l ++ with_age given m ∷ []) ++ map (with_age given) (to_lane b class rest)) same ∙ append_assoc (way a b class) (with_age given m ∷ []) (map (with_age given) (to_lane b class rest))
  at-lane a b class true true false x y z = refl
  at-lane a b class true false of x y z = refl
  at-lane a b class false true of x y z = refl
  at-lane a b class false false of x y z = refl

  -- the first message that is left goes into its lane
  pub sent-first : sent_from node given rest (with_lane way node dst (msg_class m) (way node dst (msg_class m) ++ with_age given m ∷ [])) ≡ sent_from node given ((dst, m) ∷ rest) way
  sent-first = λ i a b class. whole a b class i
    where
      whole : (a b : ℕ) (class : Class) → sent_from node given rest (with_lane way node dst (msg_class m) (way node dst (msg_class m) ++ with_age given m ∷ [])) a b class ≡ sent_from node given ((dst, m) ∷ rest) way a b class
      whole a b class =
          at-lane a b class (b == dst) (a == node) (same_class class (msg_class m)) refl refl refl
          ∙ ap (λ t. way a b class ++ cond (a == node) (map (with_age given) (cond (t && same_class class (msg_class m)) (m ∷ to_lane b class rest) (to_lane b class rest))) []) (eqb-swap b dst)

-- one more of a list is left out
after-next : {A : Type 0} (xs : List A) (i : ℕ) (x : A) → slice_get xs i ≡ Some x → drop i xs ≡ x ∷ drop (suc i) xs
after-next [] i x is = cc
after-next (y ∷ xs) zero x is = let e : y ≡ x = cc in ap (λ z. z ∷ xs) e
after-next (y ∷ xs) (suc i) x is = after-next xs i x is

pub drop-next : {A : Type 0} (xs : List A) (i : ℕ) (x : A) → slice_get xs i ≡ Some x → drop i xs ≡ x ∷ drop (i + 1) xs
drop-next xs i x is = let one : suc i ≡ i + 1 = omega arith in after-next xs i x is ∙ ap (λ n. x ∷ drop n xs) one

-- the message at a lane's front is taken
pub taken-front : (way : UnderWay) (src dst : ℕ) (class : Class) (victim : Option ℕ) → with_lane way src dst class (drop 1 (way src dst class)) ≡ taken_off (Take src dst class victim) way
taken-front way src dst class victim = λ i a b k. go a b k (b == dst) (a == src) (same_class k class) refl refl refl i
  where
    go : (a b : ℕ) (k : Class) (to from of : Bool) → (b == dst) ≡ to → (a == src) ≡ from → same_class k class ≡ of →
        cond (to && (from && of)) (drop 1 (way src dst class)) (way a b k) ≡ drop (cond (to && (from && of)) 1 0) (way a b k)
    go a b k true true true x y z =
        let is_to : b ≡ dst = grind (arith, nat_tests) in
        let is_from : a ≡ src = grind (arith, nat_tests) in
        let is_class : k ≡ class = same_class-is k class z in
        ap (drop 1) (λ i. way (sym is_from i) (sym is_to i) (sym is_class i))
    go a b k true true false x y z = refl
    go a b k true false of x y z = refl
    go a b k false from of x y z = refl

-- messages and ages of what a node sends
pub msgs-sent : (given : ℕ) (ms : List Msg) → map msg_of (map (with_age given) ms) ≡ ms
msgs-sent given [] = refl
msgs-sent given (m ∷ ms) = ap (λ l. m ∷ l) (msgs-sent given ms)

pub ages-sent : (given : ℕ) (ms : List Msg) → map age_of (map (with_age given) ms) ≡ map (λ m. sent_age given (msg_content m)) ms
ages-sent given [] = refl
ages-sent given (m ∷ ms) = ap (λ l. sent_age given (msg_content m) ∷ l) (ages-sent given ms)

-- one message more of a list has gone into its lane
pub moved-one : (node given : ℕ) (list : List (ℕ × Msg)) (i : ℕ) (send : ℕ × Msg) (age : ℕ) (old new : UnderWay) → slice_get list i ≡ Some send → age ≡ sent_age given (msg_content send.1) →
    new ≡ with_lane old node send.0 (msg_class send.1) (old node send.0 (msg_class send.1) ++ record { msg = send.1; age = age } ∷ []) → sent_from node given (drop (i + 1) list) new ≡ sent_from node given (drop i list) old
moved-one node given list i send age old new there age_is is =
    ap (sent_from node given (drop (i + 1) list)) (is ∙ ap (λ n. with_lane old node send.0 (msg_class send.1) (old node send.0 (msg_class send.1) ++ record { msg = send.1; age = n } ∷ [])) age_is)
    ∙ sent-first node given old send.0 send.1 (drop (i + 1) list) ∙ ap (λ l. sent_from node given l old) (sym (drop-next list i send there))

-- none is left
pub all-moved : (node given : ℕ) (list : List (ℕ × Msg)) (i : ℕ) (way : UnderWay) → length list ≤ i → sent_from node given (drop i list) way ≡ way
all-moved node given list i way over = ap (λ l. sent_from node given l way) (none list i over) ∙ sent_by-nil (map (with_age given)) refl node way
  where
    none : {A : Type 0} (xs : List A) (k : ℕ) → length xs ≤ k → drop k xs ≡ []
    none [] k le = drop-nil k
    none (x ∷ xs) zero le = absurd (omega arith)
    none (x ∷ xs) (suc k) le = none xs k (omega arith)

-- where a message is left something is under way
pub left-sent : (node given : ℕ) (list : List (ℕ × Msg)) (i : ℕ) (way : UnderWay) → i < length list → ((src : ℕ) → IsSilent (sent_from node given (drop i list) way) src) → ⊥
left-sent node given list i way within silent = go (slice_get list i) refl
  where
    there : (xs : List (ℕ × Msg)) (k : ℕ) → k < length xs → slice_get xs k ≡ None → ⊥
    there [] k below none = absurd (omega arith)
    there (x ∷ xs) zero below none = cc
    there (x ∷ xs) (suc k) below none = there xs k (omega arith) none

    self : (m : Msg) → same_class (msg_class m) (msg_class m) ≡ true
    self m = same_class-self (msg_class m)

    behind : (xs ys : List AgedMsg) → xs ++ ys ≡ [] → ys ≡ []
    behind [] ys e = e
    behind (x ∷ xs) ys e = cc

    go : (o : Option (ℕ × Msg)) → slice_get list i ≡ o → ⊥
    go None is = there list i within is
    go (Some send) is =
        let first = drop-next list i send is in
        let empty = silent node send.0 (msg_class send.1) in
        let own : (node == node) ≡ true = grind (arith, nat_tests) in
        let to : (send.0 == send.0) ≡ true = grind (arith, nat_tests) in
        let of = self send.1 in
        let shown : sent_from node given (drop i list) way node send.0 (msg_class send.1) ≡ way node send.0 (msg_class send.1) ++ (with_age given send.1 ∷ map (with_age given) (to_lane send.0 (msg_class send.1) (drop (i + 1) list))) =
        ap (λ l. sent_from node given l way node send.0 (msg_class send.1)) first
        ∙ (λ j. way node send.0 (msg_class send.1) ++ cond (own j) (map (with_age given) (cond (to j && of j) (send.1 ∷ to_lane send.0 (msg_class send.1) (drop (i + 1) list)) (to_lane send.0 (msg_class send.1) (drop (i + 1) list)))) []) in
        let none = behind (way node send.0 (msg_class send.1)) _ (sym shown ∙ empty) in
        cc
