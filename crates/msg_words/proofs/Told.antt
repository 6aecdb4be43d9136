-- What a kind, an argument and words tell is a content of this machine with that kind, that argument and those words. By the tests of
-- `content_by`, one after another.
use Rattle.std.proofs.Common.{◌≡◌, ℕ, ◌<◌, Bool, true, false, cond, ◌&&◌, ◌==◌, nat_lt, length, refl, sym, Option, Some, None}
use Rattle.std.proofs.lemmas.Bool.{eqb-true, ltb-true, and_parts}
use Rattle.line_map.specs.Sizes.{Sizes}
use Rattle.op_model.specs.Operations.{Words}
use Rattle.op_model.specs.declared.messages.NakCause.{NakCause}
use Rattle.op_model.specs.declared.messages.NakCause.TheVariants.{Pending, NoLink, Budget, Gone}
use Rattle.op_model.specs.Messages.{Content, Get, GetX, FwdGet, FwdGetX, Inv, Wb, Rpl, Put, PutX, Nak, InvAck, ShWb, FAck, Nakc}
use Rattle.op_model.specs.MessageWords.{kind_of, number_of, argument_of, has_words, words_behind, IsContentOf, without_argument, with_words, for_node, nak_by, content_by}

pub record IsTold (sizes : Sizes) (k a : ℕ) (words : Words) (content : Content) : Type 0 where
  pub of_machine : IsContentOf sizes content
  pub kind : kind_of content ≡ k
  pub argument : argument_of content ≡ a
  pub behind : has_words content ≡ true → words_behind content ≡ words

abbrev pub Tells : Sizes → ℕ → ℕ → Words → Option Content → Type 0
Tells sizes k a words told = (content : Content) → told ≡ Some content → IsTold sizes k a words content

-- one test, and what comes where it isn't met
test : (sizes : Sizes) (k a : ℕ) (words : Words) (b : Bool) (here later : Option Content) → (b ≡ true → Tells sizes k a words here) → Tells sizes k a words later → Tells sizes k a words (cond b here later)
test sizes k a words true here later is others = is refl
test sizes k a words false here later is others = others

nothing : (sizes : Sizes) (k a : ℕ) (words : Words) → Tells sizes k a words None
nothing sizes k a words content e = cc

one : (sizes : Sizes) (k a : ℕ) (words : Words) (own : Content) → IsTold sizes k a words own → Tells sizes k a words (Some own)
one sizes k a words own is content e = let same : own ≡ content = cc in rw same at is

-- a message without an argument and without words
bare : (sizes : Sizes) (k a : ℕ) (words : Words) (own : Content) → IsContentOf sizes own → kind_of own ≡ k → argument_of own ≡ 0 → has_words own ≡ false → Tells sizes k a words (without_argument a own)
bare sizes k a words own is kind none few = test sizes k a words (a == 0) (Some own) None
    (λ t. one sizes k a words own (record { of_machine = is; kind = kind; argument = let e = eqb-true a 0 t in cc; behind = λ h. cc }))
    (nothing sizes k a words)

full : (sizes : Sizes) (k a : ℕ) (words : Words) (own : Content) → (length words ≡ sizes.words → IsContentOf sizes own) → kind_of own ≡ k → argument_of own ≡ 0 → words_behind own ≡ words → Tells sizes k a words (with_words sizes a words own)
full sizes k a words own is kind none behind = test sizes k a words ((a == 0) && (length words == sizes.words)) (Some own) None
    (λ t. let both = and_parts (a == 0) (length words == sizes.words) t in
    one sizes k a words own (record { of_machine = is (eqb-true _ _ both.1); kind = kind; argument = let e = eqb-true a 0 both.0 in cc; behind = λ h. behind }))
    (nothing sizes k a words)

forward : (sizes : Sizes) (k a : ℕ) (words : Words) (own : Content) → (a < sizes.nodes → IsContentOf sizes own) → kind_of own ≡ k → argument_of own ≡ a → has_words own ≡ false → Tells sizes k a words (for_node sizes a own)
forward sizes k a words own is kind node few = test sizes k a words (nat_lt a sizes.nodes) (Some own) None
    (λ t. one sizes k a words own (record { of_machine = is (ltb-true a sizes.nodes t); kind = kind; argument = node; behind = λ h. cc }))
    (nothing sizes k a words)

nak : (sizes : Sizes) (k a : ℕ) (words : Words) → k ≡ 10 → Tells sizes k a words (nak_by a)
nak sizes k a words kind =
    test sizes k a words (a == 0) _ _ (λ t. by Pending 0 t refl)
    (test sizes k a words (a == 1) _ _ (λ t. by NoLink 1 t refl)
    (test sizes k a words (a == 2) _ _ (λ t. by Budget 2 t refl)
    (test sizes k a words (a == 3) _ _ (λ t. by Gone 3 t refl) (nothing sizes k a words))))
  where
    by : (cause : NakCause) (n : ℕ) → (a == n) ≡ true → number_of cause ≡ n → Tells sizes k a words (Some (Nak cause))
    by cause n t is = one sizes k a words (Nak cause) (record { of_machine = tt; kind = sym kind; argument = let e = eqb-true a n t in cc; behind = λ h. cc })

pub content_told : (sizes : Sizes) (k a : ℕ) (words : Words) → Tells sizes k a words (content_by sizes k a words)
content_told sizes k a words =
    test sizes k a words (k == 1) _ _ (λ t. bare sizes k a words Get tt (is 1 t) refl refl)
    (test sizes k a words (k == 2) _ _ (λ t. bare sizes k a words GetX tt (is 2 t) refl refl)
    (test sizes k a words (k == 3) _ _ (λ t. forward sizes k a words (FwdGet a) (λ lt. lt) (is 3 t) refl refl)
    (test sizes k a words (k == 4) _ _ (λ t. forward sizes k a words (FwdGetX a) (λ lt. lt) (is 4 t) refl refl)
    (test sizes k a words (k == 5) _ _ (λ t. bare sizes k a words Inv tt (is 5 t) refl refl)
    (test sizes k a words (k == 6) _ _ (λ t. full sizes k a words (Wb words) (λ wide. wide) (is 6 t) refl refl)
    (test sizes k a words (k == 7) _ _ (λ t. bare sizes k a words Rpl tt (is 7 t) refl refl)
    (test sizes k a words (k == 8) _ _ (λ t. full sizes k a words (Put words) (λ wide. wide) (is 8 t) refl refl)
    (test sizes k a words (k == 9) _ _ (λ t. full sizes k a words (PutX words) (λ wide. wide) (is 9 t) refl refl)
    (test sizes k a words (k == 10) _ _ (λ t. nak sizes k a words (eqb-true k 10 t))
    (test sizes k a words (k == 11) _ _ (λ t. bare sizes k a words InvAck tt (is 11 t) refl refl)
    (test sizes k a words (k == 12) _ _ (λ t. full sizes k a words (ShWb words) (λ wide. wide) (is 12 t) refl refl)
    (test sizes k a words (k == 13) _ _ (λ t. bare sizes k a words FAck tt (is 13 t) refl refl)
    (test sizes k a words (k == 14) _ _ (λ t. bare sizes k a words Nakc tt (is 14 t) refl refl)
    (nothing sizes k a words))))))))))))))
  where
    is : (n : ℕ) → (k == n) ≡ true → n ≡ k
    is n t = sym (eqb-true k n t)
