-- The weight of what a row sends to the nodes of the machine, by any weight of a message.
-- It is at most the sum of the weights. An Inv to each listed node weighs, with one Inv more, at most an Inv for each node, since the home
-- isn't listed: each node has one for being listed or one for being the home, never both.
use Rattle.std.proofs.Common.{◌≡◌, ℕ, ◌+◌, ◌*◌, ◌<◌, ◌≤◌, Bool, true, false, cond, ◌==◌, ◌&&◌, List, [], ◌∷◌, refl, arith, ap, sym, ◌∙◌}
use Rattle.std.proofs.lemmas.Bool.Decides.{nat_tests}
use Rattle.std.specs.List.{sum_by}
use Rattle.op_model.specs.declared.events.Class.{Class}
use Rattle.op_model.specs.declared.events.Class.TheVariants.{Reply, Request}
use Rattle.op_model.specs.Lines.{to_listed}
use Rattle.op_model.specs.Messages.{Content, Inv, class_of, same_class}
use Rattle.op_model.specs.Nodes.{Nodes, in_order, listed}
use Rattle.op_model.specs.Run.Weight.{total}
use Rattle.op_model.proofs.Public.{total-add, total-zero}
use Rattle.line_invariant.specs.Line.{addressed}
use Rattle.line_invariant.proofs.Public.{addressed-listed, no-replies}
use Rattle.lane_bounds.proofs.Public.{contents-cons}
use Rattle.rest_laws.proofs.Totals.{total-at, total-const, total-le, total-one, total-same}

module _ (w : Content → ℕ) (nodes : ℕ) where
  -- what is sent to one node
  abbrev pub sent_to : List (ℕ × Content) → ℕ → ℕ
  sent_to sends b = sum_by w (addressed b Request sends) + sum_by w (addressed b Reply sends)

  -- what is sent to the nodes of the machine
  abbrev pub sends_weight : List (ℕ × Content) → ℕ
  sends_weight sends = total (sent_to sends) nodes

  pub sends-none : sends_weight [] ≡ 0
  sends-none = total-same (sent_to []) (λ i. 0) nodes (λ i. refl) ∙ total-zero nodes

  sent-cons : (s : ℕ × Content) (sends : List (ℕ × Content)) (b : ℕ) → sent_to (s ∷ sends) b ≤ cond (b == s.0) (w s.1) 0 + sent_to sends b
  sent-cons s sends b = go (s.0 == b) refl (class_of s.1)
    where
      go : (c : Bool) → (s.0 == b) ≡ c → (k : Class) →
          sum_by w (cond ((s.0 == b) && same_class Request k) (s.1 ∷ addressed b Request sends) (addressed b Request sends)) + sum_by w (cond ((s.0 == b) && same_class Reply k) (s.1 ∷ addressed b Reply sends) (addressed b Reply sends))
          ≤ cond (b == s.0) (w s.1) 0 + sent_to sends b
      go true e Request = let on : (b == s.0) ≡ true = grind (arith, nat_tests) in let c = contents-cons w s.1 (addressed b Request sends) in rw (e, on) (omega (arith, c))
      go true e Reply = let on : (b == s.0) ≡ true = grind (arith, nat_tests) in let c = contents-cons w s.1 (addressed b Reply sends) in rw (e, on) (omega (arith, c))
      go false e k = let off : (b == s.0) ≡ false = grind (arith, nat_tests) in rw (e, off) (omega arith)

  -- a message more
  pub sends-cons : (s : ℕ × Content) (sends : List (ℕ × Content)) → sends_weight (s ∷ sends) ≤ w s.1 + sends_weight sends
  sends-cons s sends =
      let a = total-le (sent_to (s ∷ sends)) (λ b. cond (b == s.0) (w s.1) 0 + sent_to sends b) nodes (sent-cons s sends) in
      let b = total-add (λ b. cond (b == s.0) (w s.1) 0) (sent_to sends) nodes in
      let c = total-one s.0 (w s.1) nodes in
      omega arith

  -- an Inv to each listed node, and none to the home
  pub sends-listed : (list : Nodes) (home : ℕ) → home < nodes → listed list home ≡ false → sends_weight (to_listed list) + w Inv ≤ w Inv * nodes
  sends-listed list home within off =
      let a = total-le (λ b. sent_to (to_listed list) b + cond (b == home) (w Inv) 0) (λ b. w Inv) nodes each in
      let b = total-add (sent_to (to_listed list)) (λ b. cond (b == home) (w Inv) 0) nodes in
      let c = total-const (w Inv) nodes in
      let d = total-at (λ b. cond (b == home) (w Inv) 0) nodes home within in
      let on : (home == home) ≡ true = grind (arith, nat_tests) in
      let e : w Inv ≤ total (λ b. cond (b == home) (w Inv) 0) nodes = rw on at d in
      omega arith
    where
      each : (b : ℕ) → sent_to (to_listed list) b + cond (b == home) (w Inv) 0 ≤ w Inv
      each b = rw (addressed-listed b list, no-replies b (in_order list)) (go (listed list b) refl (b == home) refl)
        where
          go : (c : Bool) → listed list b ≡ c → (d : Bool) → (b == home) ≡ d → sum_by w (cond c (Inv ∷ []) []) + 0 + cond d (w Inv) 0 ≤ w Inv
          go true e true f = absurd (let same : b ≡ home = grind (arith, nat_tests) in let n : true ≡ false = sym e ∙ ap (listed list) same ∙ off in cc)
          go true e false f = let one = contents-cons w Inv [] in omega arith
          go false e true f = omega arith
          go false e false f = omega arith
