-- Letters that are put behind the others, lane by lane.
use Rattle.std.proofs.Common.{◌≡◌, ◌≢◌, ℕ, zero, suc, ◌+◌, ◌<◌, ◌≤◌, Bool, true, false, cond, ◌==◌, List, [], ◌∷◌, ◌++◌, Some, length, take, drop, map, refl, sym, ap, subst, ◌∙◌, arith}
use Rattle.std.specs.Prelude.{slice_get, ◌&&◌}
use Rattle.std.specs.List.{All}
use Rattle.std.proofs.lemmas.List.{append-nil, append_assoc, map-append, take_all, length-take-le, drop-append-le}
use Rattle.std.proofs.lemmas.Option.{slice_get_within}
use Rattle.std.proofs.lemmas.List.Elements.{All-weaker, All-map, All-drop, filter-append}
use Rattle.std.proofs.lemmas.Bool.Decides.{nat_tests}
use Rattle.op_model.specs.declared.events.Class.{Class}
use Rattle.op_model.specs.declared.events.Class.TheVariants.{Request, Reply}
use Rattle.op_model.specs.declared.messages.Msg.{Msg}
use Rattle.op_model.specs.Messages.{same_class, msg_class}
use Rattle.op_model.specs.Shares.{Lanes}
use Rattle.op_model.proofs.Public.{same_class-is, take-next}
use Rattle.chart_strokes.specs.declared.strokes.Letter.{Letter}
use Rattle.chart_strokes.specs.Strokes.{letter_from}
use Rattle.run_chart.specs.Charts.{is_in_lane, in_lane}
use Rattle.run_chart.specs.Lettered.{new_letters, AreOfClass, ArePosted}
use Rattle.run_chart.proofs.Filtered.{filter-all}
use Rattle.run_chart.proofs.InLanes.{is_lane, lane-same, same-lane, lane-named, named-lane}

-- ---- one lane

-- a letter of a message of a lane is in that lane alone
letter-lane : (number src dst : ℕ) (class : Class) (a b : ℕ) (k : Class) (msg : Msg) → same_class class (msg_class msg) ≡ true → is_in_lane a b k (letter_from number src dst msg) ≡ is_lane src dst class a b k
letter-lane number src dst class a b k msg of = go (is_in_lane a b k (letter_from number src dst msg)) (is_lane src dst class a b k) refl refl
  where
    its : class ≡ msg_class msg
    its = same_class-is class (msg_class msg) of

    go : (x y : Bool) → is_in_lane a b k (letter_from number src dst msg) ≡ x → is_lane src dst class a b k ≡ y → x ≡ y
    go true true in_it one = refl
    go false false in_it one = refl
    go true false in_it one =
        let named = lane-named a b k (letter_from number src dst msg) in_it in
        sym (lane-same src dst class a b k (sym named.0) (sym named.1) (named.2 ∙ sym its)) ∙ one
    go false true in_it one =
        let same = same-lane src dst class a b k one in
        sym in_it ∙ named-lane a b k (letter_from number src dst msg) (sym same.0) (sym same.1) (same.2 ∙ its)

-- letters of messages of a lane are in that lane alone
letters-lane : (number src dst : ℕ) (class : Class) (messages : List Msg) (a b : ℕ) (k : Class) → All (λ msg. same_class class (msg_class msg) ≡ true) messages →
    in_lane (map (letter_from number src dst) messages) a b k ≡ cond (is_lane src dst class a b k) (map (letter_from number src dst) messages) []
letters-lane number src dst class messages a b k all =
    filter-all (is_in_lane a b k) (is_lane src dst class a b k) (map (letter_from number src dst) messages)
    (All-map (λ l. is_in_lane a b k l ≡ is_lane src dst class a b k) (letter_from number src dst) messages
    (All-weaker (λ msg. same_class class (msg_class msg) ≡ true) (λ msg. is_in_lane a b k (letter_from number src dst msg) ≡ is_lane src dst class a b k) (letter-lane number src dst class a b k) messages all))

module _ (number src dst : ℕ) (class : Class) (lane : List Msg) (old new : List Letter) where
  abbrev behind : List Letter
  behind = new_letters number src dst class old lane

  posted-at : All (λ msg. same_class class (msg_class msg) ≡ true) lane → new ≡ old ++ behind → (a b : ℕ) (k : Class) → in_lane new a b k ≡ in_lane old a b k ++ cond (is_lane src dst class a b k) behind []
  posted-at all is a b k =
      ap (λ ls. in_lane ls a b k) is
      ∙ filter-append (is_in_lane a b k) old behind
      ∙ ap (λ ls. in_lane old a b k ++ ls) (letters-lane number src dst class (drop (length (in_lane old src dst class)) lane) a b k (All-drop (λ msg. same_class class (msg_class msg) ≡ true) (length (in_lane old src dst class)) lane all))

  -- the lane has the new letters, and no other one has
  posted-own : All (λ msg. same_class class (msg_class msg) ≡ true) lane → new ≡ old ++ behind → in_lane new src dst class ≡ in_lane old src dst class ++ behind
  posted-own all is = posted-at all is src dst class ∙ ap (λ t. in_lane old src dst class ++ cond t behind []) (lane-same src dst class src dst class refl refl refl)

  posted-other : All (λ msg. same_class class (msg_class msg) ≡ true) lane → new ≡ old ++ behind → (a b : ℕ) (k : Class) → is_lane src dst class a b k ≡ false → in_lane new a b k ≡ in_lane old a b k
  posted-other all is a b k other = posted-at all is a b k ∙ ap (λ t. in_lane old a b k ++ cond t behind []) other ∙ append-nil (in_lane old a b k)

-- ---- both lanes to a node, and all nodes

not-lane-dst : (src dst : ℕ) (class : Class) (a b : ℕ) (k : Class) → (b ≡ dst → ⊥) → is_lane src dst class a b k ≡ false
not-lane-dst src dst class a b k other = go (is_lane src dst class a b k) refl
  where
    go : (t : Bool) → is_lane src dst class a b k ≡ t → t ≡ false
    go true e = absurd (other (same-lane src dst class a b k e).1)
    go false e = refl

not-lane-src : (src dst : ℕ) (class : Class) (a b : ℕ) (k : Class) → (a ≡ src → ⊥) → is_lane src dst class a b k ≡ false
not-lane-src src dst class a b k other = go (is_lane src dst class a b k) refl
  where
    go : (t : Bool) → is_lane src dst class a b k ≡ t → t ≡ false
    go true e = absurd (other (same-lane src dst class a b k e).0)
    go false e = refl

not-lane-class : (src dst : ℕ) (class : Class) (a b : ℕ) (k : Class) → same_class k class ≡ false → is_lane src dst class a b k ≡ false
not-lane-class src dst class a b k other = go (b == dst) (a == src)
  where
    go : (x y : Bool) → (x && (y && same_class k class)) ≡ false
    go true true = other
    go true false = refl
    go false y = refl

-- so far it is done for the first n nodes
pub record AreBelow (number src n : ℕ) (lane : Lanes) (old new : List Letter) : Type 0 where
  pub posted : ArePosted number src n lane old new
  pub beyond : (dst : ℕ) (class : Class) → n ≤ dst → in_lane new src dst class ≡ in_lane old src dst class

pub posted-none : (number src : ℕ) (lane : Lanes) (old : List Letter) → AreBelow number src 0 lane old old
posted-none number src lane old = record {
  posted = record { own = λ dst class lt. absurd (omega arith); others = λ a b class other. refl };
  beyond = λ dst class le. refl;
}

module _ (number src n : ℕ) (lane : Lanes) (old mid one two : List Letter) (before : AreBelow number src n lane old mid) (all : AreOfClass src (n + 1) lane)
    (first : one ≡ mid ++ new_letters number src n Request mid (lane src n Request)) (second : two ≡ one ++ new_letters number src n Reply one (lane src n Reply)) where
  requests : All (λ msg. same_class Request (msg_class msg) ≡ true) (lane src n Request)
  requests = all n Request (omega arith)

  replies : All (λ msg. same_class Reply (msg_class msg) ≡ true) (lane src n Reply)
  replies = all n Reply (omega arith)

  -- a lane that isn't to this node stays
  elsewhere : (a b : ℕ) (k : Class) → is_lane src n Request a b k ≡ false → is_lane src n Reply a b k ≡ false → in_lane two a b k ≡ in_lane mid a b k
  elsewhere a b k x y =
      posted-other number src n Reply (lane src n Reply) one two replies second a b k y
      ∙ posted-other number src n Request (lane src n Request) mid one requests first a b k x

  here : (k : Class) → in_lane two src n k ≡ in_lane old src n k ++ new_letters number src n k old (lane src n k)
  here Request =
      let was : in_lane mid src n Request ≡ in_lane old src n Request = before.beyond n Request (omega arith) in
      posted-other number src n Reply (lane src n Reply) one two replies second src n Request (not-lane-class src n Reply src n Request refl)
      ∙ posted-own number src n Request (lane src n Request) mid one requests first
      ∙ ap (λ ls. ls ++ map (letter_from number src n) (drop (length ls) (lane src n Request))) was
  here Reply =
      let was : in_lane one src n Reply ≡ in_lane old src n Reply = posted-other number src n Request (lane src n Request) mid one requests first src n Reply (not-lane-class src n Request src n Reply refl) ∙ before.beyond n Reply (omega arith) in
      posted-own number src n Reply (lane src n Reply) one two replies second
      ∙ ap (λ ls. ls ++ map (letter_from number src n) (drop (length ls) (lane src n Reply))) was

  own-more : (b : ℕ) (k : Class) → b < n + 1 → in_lane two src b k ≡ in_lane old src b k ++ new_letters number src b k old (lane src b k)
  own-more b k lt = go (b == n) refl
    where
      go : (t : Bool) → (b == n) ≡ t → in_lane two src b k ≡ in_lane old src b k ++ new_letters number src b k old (lane src b k)
      go true e =
          let same : b ≡ n = grind (arith, nat_tests) in
          subst (λ (d : ℕ). in_lane two src d k ≡ in_lane old src d k ++ new_letters number src d k old (lane src d k)) (sym same) (here k)
      go false e =
          let apart : b ≡ n → ⊥ = grind (arith, nat_tests) in
          let below : b < n = omega arith in
          elsewhere src b k (not-lane-dst src n Request src b k apart) (not-lane-dst src n Reply src b k apart) ∙ before.posted.own b k below

  others-more : (a b : ℕ) (k : Class) → a ≢ src → in_lane two a b k ≡ in_lane old a b k
  others-more a b k apart = elsewhere a b k (not-lane-src src n Request a b k apart) (not-lane-src src n Reply a b k apart) ∙ before.posted.others a b k apart

  beyond-more : (b : ℕ) (k : Class) → n + 1 ≤ b → in_lane two src b k ≡ in_lane old src b k
  beyond-more b k le =
      let apart : b ≡ n → ⊥ = (λ e. omega arith) in
      elsewhere src b k (not-lane-dst src n Request src b k apart) (not-lane-dst src n Reply src b k apart) ∙ before.beyond b k (omega arith)

  pub posted-more : AreBelow number src (n + 1) lane old two
  posted-more = record { posted = record { own = own-more; others = others-more }; beyond = beyond-more }

-- ---- the loop over one lane

drop-take_none : {A : Type 0} (k : ℕ) (xs : List A) → drop k (take k xs) ≡ []
drop-take_none zero xs = refl
drop-take_none (suc k) [] = refl
drop-take_none (suc k) (x ∷ xs) = drop-take_none k xs

-- at first nothing is put behind the letters
pub sent-none : (number src dst known : ℕ) (lane : List Msg) (old : List Letter) → old ≡ old ++ map (letter_from number src dst) (drop known (take known lane))
sent-none number src dst known lane old = sym (ap (λ ms. old ++ map (letter_from number src dst) ms) (drop-take_none known lane) ∙ append-nil old)

-- then the message at each place
pub sent-more : (number src dst known i : ℕ) (lane : List Msg) (msg : Msg) (old now next : List Letter) → known ≤ i → slice_get lane i ≡ Some msg → now ≡ old ++ map (letter_from number src dst) (drop known (take i lane)) → next ≡ now ++ letter_from number src dst msg ∷ [] →
    next ≡ old ++ map (letter_from number src dst) (drop known (take (i + 1) lane))
sent-more number src dst known i lane msg old now next le at so_far is =
    let within : i < length lane = slice_get_within lane i msg at in
    let long : length (take i lane) ≡ i = length-take-le i lane (omega arith) in
    let cut : drop known (take (i + 1) lane) ≡ drop known (take i lane) ++ msg ∷ [] =
    ap (λ (ms : List Msg). drop known ms) (take-next lane i msg at) ∙ drop-append-le known (take i lane) (msg ∷ []) (omega arith) in
    is ∙ ap (λ (ls : List Letter). ls ++ letter_from number src dst msg ∷ []) so_far
    ∙ append_assoc old (map (letter_from number src dst) (drop known (take i lane))) (letter_from number src dst msg ∷ [])
    ∙ ap (λ (ls : List Letter). old ++ ls) (sym (map-append (letter_from number src dst) (drop known (take i lane)) (msg ∷ [])))
    ∙ ap (λ (ms : List Msg). old ++ map (letter_from number src dst) ms) (sym cut)

-- and at last those of the whole lane
pub sent-all : (number src dst : ℕ) (class : Class) (known i : ℕ) (lane : List Msg) (letters old now : List Letter) → known ≡ length (in_lane letters src dst class) → letters ≡ old → length lane ≤ i → now ≡ old ++ map (letter_from number src dst) (drop known (take i lane)) → now ≡ old ++ new_letters number src dst class old lane
sent-all number src dst class known i lane letters old now counted same le is =
    is ∙ ap (λ ms. old ++ map (letter_from number src dst) (drop known ms)) (take_all i lane le)
    ∙ ap (λ n. old ++ map (letter_from number src dst) (drop n lane)) (counted ∙ ap (λ ls. length (in_lane ls src dst class)) same)
