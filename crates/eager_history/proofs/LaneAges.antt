-- The ages of a lane beside its messages: what the messages of one line have of them, where there is one for each message.
use Rattle.std.proofs.Common.{◌≡◌, ◌≢◌, ℕ, Bool, true, false, cond, ◌==◌, ◌&&◌, List, [], ◌∷◌, ◌++◌, map, drop, length, refl, arith, ap, sym, ◌∙◌}
use Rattle.std.proofs.lemmas.Bool.Decides.{nat_tests}
use Rattle.op_model.specs.Messages.{Content, msg_content, msg_line, same_class}
use Rattle.op_model.specs.Events.Node.{messages}
use Rattle.op_model.specs.Events.Step.{to_lane, one_off}
use Rattle.op_model.specs.Shares.{Lanes}
use Rattle.op_model.proofs.Public.{eqb-self, same_class-is}
use Rattle.line_invariant.specs.Line.{addressed}
use Rattle.eager_model.specs.Types.{Class, Msg}
use Rattle.eager_model.specs.Ages.{sent_age}
use Rattle.eager_model.specs.Line.{taken_age}
use Rattle.eager_model.specs.Step.{first_age}
use Rattle.one_history.specs.Project.{of_line}
use Rattle.one_history.proofs.Public.{of_line-other, of_line-same, taken_of}
use Rattle.eager_history.specs.Project.{ages_on}

pub ages-append : (line : ℕ) (ms ns : List Msg) (xs bs : List ℕ) → length xs ≡ length ms → ages_on line (ms ++ ns) (xs ++ bs) ≡ ages_on line ms xs ++ ages_on line ns bs
ages-append line [] ns [] bs e = refl
ages-append line [] ns (a ∷ xs) bs e = absurd (omega (arith, e))
ages-append line (m ∷ ms) ns [] bs e = absurd (omega (arith, e))
ages-append line (m ∷ ms) ns (a ∷ xs) bs e = go (msg_line m == line) (ages-append line ms ns xs bs (omega (arith, e)))
  where
    go : (c : Bool) → ages_on line (ms ++ ns) (xs ++ bs) ≡ ages_on line ms xs ++ ages_on line ns bs →
        cond c (a ∷ ages_on line (ms ++ ns) (xs ++ bs)) (ages_on line (ms ++ ns) (xs ++ bs)) ≡ cond c (a ∷ ages_on line ms xs) (ages_on line ms xs) ++ ages_on line ns bs
    go true rest = ap (λ l. a ∷ l) rest
    go false rest = rest

-- what is sent has its ages
abbrev pub ages_sent : ℕ → List Msg → List ℕ
ages_sent given ms = map (λ m. sent_age given (msg_content m)) ms

pub ages-sent : (line given : ℕ) (ms : List Msg) → ages_on line ms (ages_sent given ms) ≡ map (sent_age given) (of_line line ms)
ages-sent line given [] = refl
ages-sent line given (m ∷ ms) = go (msg_line m == line) (ages-sent line given ms)
  where
    go : (c : Bool) → ages_on line ms (ages_sent given ms) ≡ map (sent_age given) (of_line line ms) →
        cond c (sent_age given (msg_content m) ∷ ages_on line ms (ages_sent given ms)) (ages_on line ms (ages_sent given ms)) ≡ map (sent_age given) (cond c (msg_content m ∷ of_line line ms) (of_line line ms))
    go true rest = ap (λ l. sent_age given (msg_content m) ∷ l) rest
    go false rest = rest

-- the message in front, at its line and at the others
pub ages-front : (m : Msg) (rest : List Msg) (ages : List ℕ) → ages_on (msg_line m) (m ∷ rest) ages ≡ first_age ages ∷ ages_on (msg_line m) rest (drop 1 ages)
ages-front m rest ages = let e : (msg_line m == msg_line m) ≡ true = eqb-self (msg_line m) in rw e refl

pub ages-behind : (q : ℕ) (m : Msg) (rest : List Msg) (ages : List ℕ) → q ≢ msg_line m → ages_on q (m ∷ rest) ages ≡ ages_on q rest (drop 1 ages)
ages-behind q m rest ages other = ap (λ c. cond c (first_age ages ∷ ages_on q rest (drop 1 ages)) (ages_on q rest (drop 1 ages))) (apart (msg_line m) other)
  where
    apart : (at : ℕ) → q ≢ at → (at == q) ≡ false
    apart at e = grind (arith, nat_tests)

-- the ages after the first message of a lane is taken
abbrev pub Ages : Type 0
Ages = ℕ → ℕ → Class → List ℕ

abbrev pub left_ages : ℕ → ℕ → Class → Ages → Ages
left_ages src dst class lane a b k = drop (one_off src dst class a b k) (lane a b k)

module _ (lane : Lanes) (ages : Ages) (src dst : ℕ) (class : Class) (rest : List Msg) where
  pub ages-taken : (line : ℕ) (a b : ℕ) (k : Class) →
      ages_on line (taken_of src dst class rest lane a b k) (left_ages src dst class ages a b k) ≡ taken_age src dst class (ages_on line rest (drop 1 (ages src dst class))) (λ a b k. ages_on line (lane a b k) (ages a b k)) a b k
  ages-taken line a b k = go (a == src) (b == dst) (same_class k class) refl refl refl
    where
      go : (c d e : Bool) → (a == src) ≡ c → (b == dst) ≡ d → same_class k class ≡ e →
          ages_on line (cond (d && (c && e)) rest (lane a b k)) (drop (cond (d && (c && e)) 1 0) (ages a b k)) ≡ cond (c && d && e) (ages_on line rest (drop 1 (ages src dst class))) (ages_on line (lane a b k) (ages a b k))
      go true true true x y z =
          let from : a ≡ src = grind (arith, nat_tests) in
          let to : b ≡ dst = grind (arith, nat_tests) in
          let is : k ≡ class = same_class-is k class z in
          (λ i. ages_on line rest (drop 1 (ages (from i) (to i) (is i))))
      go true true false x y z = refl
      go true false e x y z = refl
      go false true e x y z = refl
      go false false e x y z = refl

  pub ages-taken-other : (m : Msg) → lane src dst class ≡ m ∷ rest → (q : ℕ) → q ≢ msg_line m → (a b : ℕ) (k : Class) → ages_on q (taken_of src dst class rest lane a b k) (left_ages src dst class ages a b k) ≡ ages_on q (lane a b k) (ages a b k)
  ages-taken-other m front q other a b k = go (a == src) (b == dst) (same_class k class) refl refl refl
    where
      go : (c d e : Bool) → (a == src) ≡ c → (b == dst) ≡ d → same_class k class ≡ e → ages_on q (cond (d && (c && e)) rest (lane a b k)) (drop (cond (d && (c && e)) 1 0) (ages a b k)) ≡ ages_on q (lane a b k) (ages a b k)
      go true true true x y z =
          let from : src ≡ a = grind (arith, nat_tests) in
          let to : dst ≡ b = grind (arith, nat_tests) in
          let is : class ≡ k = sym (same_class-is k class z) in
          (λ i. ages_on q rest (drop 1 (ages (sym from i) (sym to i) (sym is i)))) ∙ sym (ages-behind q m rest (ages src dst class) other) ∙ ap (λ ms. ages_on q ms (ages src dst class)) (sym front) ∙ (λ i. ages_on q (lane (from i) (to i) (is i)) (ages (from i) (to i) (is i)))
      go true true false x y z = refl
      go true false e x y z = refl
      go false true e x y z = refl
      go false false e x y z = refl

  pub paired-taken : (m : Msg) → lane src dst class ≡ m ∷ rest → ((a b : ℕ) (k : Class) → length (ages a b k) ≡ length (lane a b k)) → (a b : ℕ) (k : Class) → length (left_ages src dst class ages a b k) ≡ length (taken_of src dst class rest lane a b k)
  paired-taken m front paired a b k = go (a == src) (b == dst) (same_class k class) refl refl refl
    where
      go : (c d e : Bool) → (a == src) ≡ c → (b == dst) ≡ d → same_class k class ≡ e → length (drop (cond (d && (c && e)) 1 0) (ages a b k)) ≡ length (cond (d && (c && e)) rest (lane a b k))
      go true true true x y z =
          let from : a ≡ src = grind (arith, nat_tests) in
          let to : b ≡ dst = grind (arith, nat_tests) in
          let is : k ≡ class = same_class-is k class z in
          ap (λ l. length (drop 1 l)) (λ i. ages (from i) (to i) (is i)) ∙ shorter (ages src dst class) (paired src dst class ∙ ap length front)
        where
          shorter : (xs : List ℕ) → length xs ≡ length (m ∷ rest) → length (drop 1 xs) ≡ length rest
          shorter [] e = absurd (omega (arith, e))
          shorter (a ∷ xs) e = omega (arith, e)
      go true true false x y z = paired a b k
      go true false e x y z = paired a b k
      go false true e x y z = paired a b k
      go false false e x y z = paired a b k

-- what a row sends, at its line and at the others
pub sent-here : (line given : ℕ) (b : ℕ) (class : Class) (sends : List (ℕ × Content)) → ages_on line (to_lane b class (messages line sends)) (ages_sent given (to_lane b class (messages line sends))) ≡ map (sent_age given) (addressed b class sends)
sent-here line given b class sends = ages-sent line given (to_lane b class (messages line sends)) ∙ ap (map (sent_age given)) (of_line-same line b class sends)

pub sent-there : (line q given : ℕ) (b : ℕ) (class : Class) (sends : List (ℕ × Content)) → q ≢ line → ages_on q (to_lane b class (messages line sends)) (ages_sent given (to_lane b class (messages line sends))) ≡ []
sent-there line q given b class sends other = ages-sent q given (to_lane b class (messages line sends)) ∙ ap (map (sent_age given)) (of_line-other line q b class sends other)
