-- How the composed state changes where one part does.
use Rattle.std.proofs.Common.{◌≡◌, ℕ, zero, suc, ◌+◌, ◌≤◌, Bool, true, false, cond, ◌==◌, List, [], ◌∷◌, ◌++◌, length, drop, append-nil, refl, sym, ap, ◌∙◌, zero-add, suc-add}
use Rattle.op_model.specs.declared.events.Class.{Class}
use Rattle.op_model.specs.declared.messages.Msg.{Msg}
use Rattle.op_model.specs.Shares.{Share, State}
use Rattle.op_model.specs.Events.Node.{NodeOutcome}
use Rattle.op_model.specs.Events.Step.{Off, put_at, to_lane, after}
use Rattle.op_model.specs.Parts.Part.{Part, ByLane, at_lane, sent_to, taken_from}
use Rattle.op_model.specs.Parts.OwnStep.{after_outcome}
use Rattle.op_model.specs.Parts.Composition.{compose}
use Rattle.std.proofs.Math.Seq.{drop-nil}
use Rattle.std.proofs.lemmas.Bool.{eqb-true}
use Rattle.std.proofs.lemmas.List.{drop-append-le}
use Rattle.one_history.proofs.Public.{to_lane-append}

drop_more : {A : Type 0} (j k : ℕ) (xs : List A) → drop (j + k) xs ≡ drop k (drop j xs)
drop_more zero k xs = ap (λ n. drop n xs) (zero-add k)
drop_more (suc j) k [] = drop-nil (suc j + k) ∙ sym (drop-nil k)
drop_more (suc j) k (x ∷ xs) = ap (λ n. drop n (x ∷ xs)) (suc-add j k) ∙ drop_more j k xs

-- what compose reads of a part
abbrev pub Core : Type 0
Core = Share × (List (ℕ × Msg) × ByLane ℕ)

abbrev pub core : Part → Core
core p = (p.share, (p.sent, p.taken))

abbrev build : (ℕ → Core) → State
build g = record { share = λ n. (g n).0; lane = λ a b c. drop (at_lane 0 ((g b).1).1 a c) (to_lane b c ((g a).1).0) }

pub compose_core : (f g : ℕ → Part) → ((i : ℕ) → core (f i) ≡ core (g i)) → compose f ≡ compose g
compose_core f g e = ap build (λ k i. e i k)

core_with : (parts : ℕ → Part) (n : ℕ) (p : Part) (c : Core) (i : ℕ) → core p ≡ c → core (put_at parts n p i) ≡ cond (i == n) c (core (parts i))
core_with parts n p c i e = here (i == n)
  where
    here : (v : Bool) → core (cond v p (parts i)) ≡ cond v c (core (parts i))
    here true = e
    here false = refl

-- a step that changes neither share, sent nor taken
pub compose_same : (parts : ℕ → Part) (n : ℕ) (p : Part) → core p ≡ core (parts n) → compose (put_at parts n p) ≡ compose parts
compose_same parts n p e = compose_core (put_at parts n p) parts (λ i. core_with parts n p (core (parts n)) i e ∙ here i (i == n) refl)
  where
    here : (i : ℕ) (v : Bool) → (i == n) ≡ v → cond v (core (parts n)) (core (parts i)) ≡ core (parts i)
    here i true t = ap (λ k. core (parts k)) (sym (eqb-true i n t))
    here i false t = refl

-- two parts that compose reads alike
pub compose_alike : (parts : ℕ → Part) (n : ℕ) (p q : Part) → core p ≡ core q → compose (put_at parts n p) ≡ compose (put_at parts n q)
compose_alike parts n p q e = compose_core (put_at parts n p) (put_at parts n q) (λ i. core_with parts n p (core q) i e ∙ sym (core_with parts n q (core q) i refl))

-- how compose changes where one part does
pub composed : (parts : ℕ → Part) (n : ℕ) (taken : ByLane ℕ) (o : NodeOutcome) (off : Off)
    → ((a b : ℕ) (c : Class) → taken_from (put_at parts n (after_outcome (parts n) taken o) b) a c ≡ taken_from (parts b) a c + off a b c)
    → ((a b : ℕ) (c : Class) → taken_from (parts b) a c + off a b c ≤ length (sent_to (parts a) b c))
    → after (compose parts) (record { node = n; out = o; off = off }) ≡ compose (put_at parts n (after_outcome (parts n) taken o))
composed parts n taken o off tk le k = record { share = λ m. sym (shares m (m == n)) k; lane = λ a b c. sym (lanes a b c) k }
  where
    shares : (m : ℕ) (v : Bool) → (cond v (after_outcome (parts n) taken o) (parts m)).share ≡ cond v o.share (parts m).share
    shares m true = refl
    shares m false = refl

    sents : (a b : ℕ) (c : Class) (v : Bool) → (a == n) ≡ v → sent_to (cond v (after_outcome (parts n) taken o) (parts a)) b c ≡ sent_to (parts a) b c ++ cond v (to_lane b c o.sends) []
    sents a b c true e = to_lane-append b c (parts n).sent o.sends ∙ ap (λ m. sent_to (parts m) b c ++ to_lane b c o.sends) (sym (eqb-true a n e))
    sents a b c false e = sym (append-nil (sent_to (parts a) b c))

    lanes : (a b : ℕ) (c : Class) → drop (taken_from (put_at parts n (after_outcome (parts n) taken o) b) a c) (sent_to (put_at parts n (after_outcome (parts n) taken o) a) b c)
        ≡ drop (off a b c) (drop (taken_from (parts b) a c) (sent_to (parts a) b c)) ++ cond (a == n) (to_lane b c o.sends) []
    lanes a b c =
        (λ k. drop (tk a b c k) (sents a b c (a == n) refl k))
        ∙ (drop-append-le (taken_from (parts b) a c + off a b c) (sent_to (parts a) b c) (cond (a == n) (to_lane b c o.sends) []) (le a b c)
        ∙ ap (λ xs. xs ++ cond (a == n) (to_lane b c o.sends) []) (drop_more (taken_from (parts b) a c) (off a b c) (sent_to (parts a) b c)))
