-- Small sets of nodes: how many, in which order, and without one of them. By the laws of finite sets alone.
use Rattle.std.proofs.Common.{◌≡◌, ℕ, [], ◌∷◌, arith}
use Rattle.std.proofs.lemmas.Bool.Decides.{nat_tests}
use Rattle.op_model.specs.Nodes.{none, unlist, listings, same_nodes, in_order-none, in_order-enlist}
use Rattle.row_examples.specs.Situations.{nodes}

-- a node more, so that the order is new, or none, so that it is the same
pub nodes-12_3 : nodes (3 ∷ 1 ∷ 2 ∷ []) ≡ nodes (1 ∷ 2 ∷ 3 ∷ [])
nodes-12_3 = same_nodes _ _ (λ q. grind (arith, nat_tests, listings))

pub nodes-1_2 : nodes (2 ∷ 1 ∷ []) ≡ nodes (1 ∷ 2 ∷ [])
nodes-1_2 = same_nodes _ _ (λ q. grind (arith, nat_tests, listings))

pub nodes-12_1 : nodes (1 ∷ 1 ∷ 2 ∷ []) ≡ nodes (1 ∷ 2 ∷ [])
nodes-12_1 = same_nodes _ _ (λ q. grind (arith, nat_tests, listings))

-- a node less
pub without : (node : ℕ) → unlist (nodes (node ∷ [])) node ≡ none
without node = same_nodes _ _ (λ q. grind (arith, nat_tests, listings))

pub without-other-1_2 : unlist (nodes (1 ∷ [])) 2 ≡ nodes (1 ∷ [])
without-other-1_2 = same_nodes _ _ (λ q. grind (arith, nat_tests, listings))

pub without-12_2 : unlist (nodes (1 ∷ 2 ∷ [])) 2 ≡ nodes (1 ∷ [])
without-12_2 = same_nodes _ _ (λ q. grind (arith, nat_tests, listings))

pub without-13_2 : unlist (nodes (1 ∷ 3 ∷ [])) 2 ≡ nodes (1 ∷ 3 ∷ [])
without-13_2 = same_nodes _ _ (λ q. grind (arith, nat_tests, listings))

pub without-123_1 : unlist (nodes (1 ∷ 2 ∷ 3 ∷ [])) 1 ≡ nodes (2 ∷ 3 ∷ [])
without-123_1 = same_nodes _ _ (λ q. grind (arith, nat_tests, listings))

pub without-23_2 : unlist (nodes (2 ∷ 3 ∷ [])) 2 ≡ nodes (3 ∷ [])
without-23_2 = same_nodes _ _ (λ q. grind (arith, nat_tests, listings))

pub ruleset orders = (in_order-none, in_order-enlist)

pub ruleset more_or_less = (nodes-12_3, nodes-1_2, nodes-12_1, without, without-other-1_2, without-12_2, without-13_2, without-123_1, without-23_2)
