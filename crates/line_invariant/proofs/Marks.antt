-- Whose load was served, after a row: exactly the nodes that have a Put under way.
-- A row changes one node's carrier, and so its mark, or neither.
use Rattle.std.proofs.Common.{◌≡◌, ℕ, Bool, true, false, cond, ◌==◌, refl, arith, sym, ap, ◌∙◌}
use Rattle.std.proofs.lemmas.Bool.Decides.{nat_tests}
use Rattle.op_model.specs.Events.Step.{put_at}
use Rattle.line_invariant.specs.Good.{Status, Carrier, Asking, AskingX, is_put}

pub asks-no-put : (load : Bool) → is_put (cond load Asking AskingX) ≡ false
asks-no-put true = refl
asks-no-put false = refl

module _ (answered : ℕ → Bool) (status : ℕ → Status) (good : (node : ℕ) → answered node ≡ is_put (status node).carrier) where
  -- one carrier changes, and neither is a Put
  pub at-one : (x : ℕ) (c : Carrier) → is_put c ≡ is_put (status x).carrier → (node : ℕ) → answered node ≡ is_put (cond (node == x) c (status node).carrier)
  at-one x c e node = go (node == x) refl
    where
      go : (b : Bool) → (node == x) ≡ b → answered node ≡ is_put (cond b c (status node).carrier)
      go true is = let same : node ≡ x = grind (arith, nat_tests) in good node ∙ ap (λ n. is_put (status n).carrier) same ∙ sym e
      go false is = good node

  -- the operation is done
  pub at-one-done : (x : ℕ) (c : Carrier) → is_put c ≡ false → (node : ℕ) → cond (node == x) false (answered node) ≡ is_put (cond (node == x) c (status node).carrier)
  at-one-done x c e node = go (node == x)
    where
      go : (b : Bool) → cond b false (answered node) ≡ is_put (cond b c (status node).carrier)
      go true = sym e
      go false = good node

  -- a load is served
  pub at-one-gets : (x : ℕ) (c : Carrier) → is_put c ≡ true → (node : ℕ) → cond (node == x) true (answered node) ≡ is_put (cond (node == x) c (status node).carrier)
  at-one-gets x c e node = go (node == x)
    where
      go : (b : Bool) → cond b true (answered node) ≡ is_put (cond b c (status node).carrier)
      go true = sym e
      go false = good node

  pub keep : (p : ℕ) (s : Status) → is_put s.carrier ≡ is_put (status p).carrier → (node : ℕ) → answered node ≡ is_put (put_at status p s node).carrier
  keep p s e node = go (node == p) (at-one p s.carrier e node)
    where
      go : (b : Bool) → answered node ≡ is_put (cond b s.carrier (status node).carrier) → answered node ≡ is_put (cond b s (status node)).carrier
      go true h = h
      go false h = h

  pub done : (p : ℕ) (s : Status) → is_put s.carrier ≡ false → (node : ℕ) → cond (node == p) false (answered node) ≡ is_put (put_at status p s node).carrier
  done p s e node = go (node == p)
    where
      go : (b : Bool) → cond b false (answered node) ≡ is_put (cond b s (status node)).carrier
      go true = sym e
      go false = good node

  pub gets : (p : ℕ) (s : Status) → is_put s.carrier ≡ true → (node : ℕ) → cond (node == p) true (answered node) ≡ is_put (put_at status p s node).carrier
  gets p s e node = go (node == p)
    where
      go : (b : Bool) → cond b true (answered node) ≡ is_put (cond b s (status node)).carrier
      go true = sym e
      go false = good node

  -- the operation of a node that waits for nothing is done
  pub rests : (p : ℕ) → is_put (status p).carrier ≡ false → (node : ℕ) → cond (node == p) false (answered node) ≡ is_put (status node).carrier
  rests p e node = go (node == p) refl
    where
      go : (b : Bool) → (node == p) ≡ b → cond b false (answered node) ≡ is_put (status node).carrier
      go true is = let same : node ≡ p = grind (arith, nat_tests) in sym (ap (λ n. is_put (status n).carrier) same ∙ e)
      go false is = good node
