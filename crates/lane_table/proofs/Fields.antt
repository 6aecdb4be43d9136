-- What one reads of the parts after one of them changed, and of a list by lanes after one entry did.
use Rattle.std.proofs.Common.{◌≡◌, ◌≢◌, ◌⊎◌, inl, inr, ℕ, Bool, true, false, cond, ◌==◌, ◌&&◌, refl, sym, ap, ◌∙◌, ⊎_elim, eq-eqb, ne_eqb}
use Rattle.std.proofs.lemmas.Bool.{eqb-true, and_parts}
use Rattle.std.proofs.lemmas.Bool.Decides.{eqb_tells}
use Rattle.op_model.specs.declared.events.Class.{Class}
use Rattle.op_model.specs.declared.events.Class.TheVariants.{Request, Reply}
use Rattle.op_model.specs.Messages.{same_class}
use Rattle.op_model.specs.Events.Step.{put_at}
use Rattle.op_model.specs.Parts.Part.{ByLane, at_lane, put_lane, Part}
use Rattle.op_model.proofs.Public.{same_class-is, same_class-self}
use Rattle.lane_table.specs.Calls.{IsOtherLane}

pub put_here : {A : Type 0} (parts : ℕ → A) (n m : ℕ) (q : A) → m ≡ n → put_at parts n q m ≡ q
put_here parts n m q e = ap (λ v. cond v q (parts m)) (eq-eqb m n e)

pub put_else : {A : Type 0} (parts : ℕ → A) (n m : ℕ) (q : A) → m ≢ n → put_at parts n q m ≡ parts m
put_else parts n m q e = ap (λ v. cond v q (parts m)) (ne_eqb m n e)

-- what a step didn't change
pub field_same : {A : Type 0} (g : Part → A) (parts : ℕ → Part) (n : ℕ) (q : Part) (m : ℕ) → g q ≡ g (parts n) → g (put_at parts n q m) ≡ g (parts m)
field_same g parts n q m e = here (m == n) refl
  where
    here : (v : Bool) → (m == n) ≡ v → g (cond v q (parts m)) ≡ g (parts m)
    here true is = e ∙ ap (λ k. g (parts k)) (sym (eqb-true m n is))
    here false is = refl

-- the same where it may have changed it for others alone
pub field_when : {A : Type 0} (g : Part → A) (parts : ℕ → Part) (n : ℕ) (q : Part) (m : ℕ) → (m ≡ n → g q ≡ g (parts n)) → g (put_at parts n q m) ≡ g (parts m)
field_when g parts n q m e = here (m == n) refl
  where
    here : (v : Bool) → (m == n) ≡ v → g (cond v q (parts m)) ≡ g (parts m)
    here true is = let k = eqb-true m n is in e k ∙ ap (λ i. g (parts i)) (sym k)
    here false is = refl

pub field_here : {A : Type 0} (g : Part → A) (parts : ℕ → Part) (n : ℕ) (q : Part) → g (put_at parts n q n) ≡ g q
field_here g parts n q = ap (λ v. g (cond v q (parts n))) (eq-eqb n n refl)

pub at_here : {A : Type 0} (other : A) (xs : ByLane A) (b : ℕ) (c : Class) (x : A) → at_lane other (put_lane xs b c x) b c ≡ x
at_here other xs b c x = ap (λ v. cond (v && same_class c c) x (at_lane other xs b c)) (eq-eqb b b refl) ∙ ap (λ v. cond v x (at_lane other xs b c)) (same_class-self c)

pub at_else : {A : Type 0} (other : A) (xs : ByLane A) (b : ℕ) (c : Class) (x : A) (j : ℕ) (d : Class) → IsOtherLane b c j d → at_lane other (put_lane xs b c x) j d ≡ at_lane other xs j d
at_else other xs b c x j d apart = here ((j == b) && same_class d c) refl
  where
    here : (v : Bool) → ((j == b) && same_class d c) ≡ v → cond v x (at_lane other xs j d) ≡ at_lane other xs j d
    here true e = let (p, q) = and_parts (j == b) (same_class d c) e in absurd (apart (eqb-true j b p, same_class-is d c q))
    here false e = refl

class_tells : (c d : Class) → (c ≡ d) ⊎ (c ≡ d → ⊥)
class_tells Request Request = inl refl
class_tells Request Reply = inr (λ e. absurd (cc))
class_tells Reply Request = inr (λ e. absurd (cc))
class_tells Reply Reply = inl refl

pub lane_tells : (a b : ℕ) (c : Class) (i j : ℕ) (d : Class) → ((i ≡ a) × (j ≡ b) × (d ≡ c)) ⊎ ((i ≡ a) × (j ≡ b) × (d ≡ c) → ⊥)
lane_tells a b c i j d =
    ⊎_elim
    (λ (s : ((i == a) ≡ true) × (i ≡ a)).
    ⊎_elim
    (λ (t : ((j == b) ≡ true) × (j ≡ b)). ⊎_elim (λ (u : d ≡ c). inl (s.1, t.1, u)) (λ (u : d ≡ c → ⊥). inr (λ h. u h.2)) (class_tells d c))
    (λ (t : ((j == b) ≡ false) × (j ≢ b)). inr (λ h. t.1 h.1))
    (eqb_tells j b))
    (λ (s : ((i == a) ≡ false) × (i ≢ a)). inr (λ h. s.1 h.0))
    (eqb_tells i a)
