-- A list stands for its set: what one node more and one node less do to it, wherever the node stands in the list.
use Rattle.std.specs.Prelude.{◌≡◌, ℕ, ◌+◌, ◌-◌, ◌≤◌, ◌==◌, ◌||◌, ◌&&◌, not, Bool, true, false, cond, [], ◌∷◌, length, Option, Some, None}
use Rattle.std.proofs.Common.{refl, sym, ap, ◌∙◌, arith}
use Rattle.std.proofs.lemmas.Bool.Decides.{nat_tests}
use Rattle.op_model.specs.Nodes.{Nodes, none, listed, enlist, unlist, count, listed-none, listed-enlist, listed-unlist, count-none, count-enlist, count-unlist}
use Rattle.op_model.proofs.Public.{eqb-swap}
use Rattle.link_store.specs.Pools.{Chain, times_in, nodes_of, has_node, without, first_node}
use Rattle.dir_header.specs.Sharers.{only_this}
use Rattle.sharer_dir.specs.Linked.{Stands, nodes_in}

pub stands_first : Stands None [] none
stands_first = record {
  empty = λ e. refl;
  once = λ node. let e = listed-none node in rw e refl;
  many = sym count-none;
}

more_once : (a b : Bool) (t u : ℕ) → u ≡ cond a 1 0 + t → t ≡ cond b 1 0 → (a ≡ true → b ≡ false) → u ≡ cond (a || b) 1 0
more_once true true t u e f apart = let g = apart refl in cc
more_once true false t u e f apart = omega arith
more_once false b t u e f apart = e ∙ (let z : 0 + t ≡ t = omega arith in z ∙ f)

-- with one node more, which wasn't listed
pub stands_more : (head head' : Option ℕ) (chain chain' : Chain) (set : Nodes) (node : ℕ) → Stands head chain set → listed set node ≡ false → (head' ≡ None → ⊥) → ((q : ℕ) → times_in q (nodes_in head' chain') ≡ cond (node == q) 1 0 + times_in q (nodes_in head chain)) → length (nodes_in head' chain') ≡ length (nodes_in head chain) + 1 → Stands head' chain' (enlist set node)
stands_more head head' chain chain' set node is absent some once many = record {
  empty = λ e. absurd (some e);
  once = λ q. more_once (node == q) (listed set q) (times_in q (nodes_in head chain)) (times_in q (nodes_in head' chain')) (once q) (is.once q) (λ same. let e : node ≡ q = grind (arith, nat_tests, same) in rw (← e) absent)
      ∙ ap (λ b. cond b 1 0) (ap (λ b. b || listed set q) (eqb-swap node q) ∙ sym (listed-enlist set node q));
  many = let e = is.many in let c : length (nodes_in head' chain') ≡ count set + 1 = omega (arith, e, many) in c ∙ sym (count-enlist set node ∙ rw absent refl);
}

fewer_once : (a b : Bool) (t u : ℕ) → t ≡ cond a 1 0 + u → t ≡ cond b 1 0 → (a ≡ true → b ≡ true) → u ≡ cond (not a && b) 1 0
fewer_once true true t u e f same = omega arith
fewer_once true false t u e f same = let g = same refl in cc
fewer_once false b t u e f same = (let z : u ≡ 0 + u = omega arith in z) ∙ sym e ∙ f

-- with one node less, which was listed
pub stands_fewer : (head head' : Option ℕ) (chain chain' : Chain) (set : Nodes) (node : ℕ) → Stands head chain set → listed set node ≡ true → (head' ≡ None → chain' ≡ []) → ((q : ℕ) → times_in q (nodes_in head chain) ≡ cond (node == q) 1 0 + times_in q (nodes_in head' chain')) → length (nodes_in head chain) ≡ length (nodes_in head' chain') + 1 → Stands head' chain' (unlist set node)
stands_fewer head head' chain chain' set node is there empty once many = record {
  empty = empty;
  once = λ q. fewer_once (node == q) (listed set q) (times_in q (nodes_in head chain)) (times_in q (nodes_in head' chain')) (once q) (is.once q) (λ same. let e : node ≡ q = grind (arith, nat_tests, same) in rw (← e) there)
      ∙ ap (λ b. cond b 1 0) (ap (λ b. not b && listed set q) (eqb-swap node q) ∙ sym (listed-unlist set node q));
  many = let e = is.many in let c : count set - 1 ≡ length (nodes_in head' chain') = omega (arith, e, many) in sym c ∙ sym (count-unlist set node ∙ rw there refl);
}

-- a node that is added becomes the head of an empty list
pub stands_head : (chain : Chain) (set : Nodes) (node : ℕ) → Stands None chain set → listed set node ≡ false → Stands (Some node) chain (enlist set node)
stands_head chain set node is absent = stands_more None (Some node) chain chain set node is absent (λ e. cc) (λ q. refl) (omega arith)

-- or stands in a link in front of the others
pub stands_link : (head link node : ℕ) (chain : Chain) (set : Nodes) → Stands (Some head) chain set → listed set node ≡ false → Stands (Some head) ((link, node) ∷ chain) (enlist set node)
stands_link head link node chain set is absent =
    stands_more (Some head) (Some head) chain ((link, node) ∷ chain) set node is absent (λ e. cc) (λ q. omega arith) (omega arith)

-- the chain without its first link
abbrev pub rest_of : Chain → Chain
rest_of [] = []
rest_of (e ∷ chain) = chain

-- the head is listed
pub head_listed : (head : ℕ) (chain : Chain) (set : Nodes) → Stands (Some head) chain set → listed set head ≡ true
head_listed head chain set is = by (listed set head) (is.once head)
  where
    by : (b : Bool) → times_in head (head ∷ nodes_of chain) ≡ cond b 1 0 → b ≡ true
    by true once = refl
    by false once = let same : (head == head) ≡ true = grind (arith, nat_tests) in absurd (let f = rw same at once in omega (arith, f))

-- the head is removed
pub stands_next : (head : ℕ) (chain : Chain) (set : Nodes) → Stands (Some head) chain set → Stands (first_node chain) (rest_of chain) (unlist set head)
stands_next head [] set is = stands_fewer (Some head) None [] [] set head is (head_listed head [] set is) (λ e. refl) (λ q. refl) (omega arith)
stands_next head (e ∷ chain) set is = stands_fewer (Some head) (Some e.1) (e ∷ chain) chain set head is (head_listed head (e ∷ chain) set is) (λ e'. cc) (λ q. refl) (omega arith)

-- a link that has the node, and a chain without it
taken_out : (chain : Chain) (node : ℕ) → has_node chain node ≡ true → ((q : ℕ) → times_in q (nodes_of chain) ≡ cond (node == q) 1 0 + times_in q (nodes_of (without chain node))) × (length (nodes_of chain) ≡ length (nodes_of (without chain node)) + 1)
taken_out [] node has = cc
taken_out (e ∷ chain) node has = by (e.1 == node) refl has (λ later. taken_out chain node later)
  where
    by : (b : Bool) → (e.1 == node) ≡ b → (b || has_node chain node) ≡ true → (has_node chain node ≡ true → ((q : ℕ) → times_in q (nodes_of chain) ≡ cond (node == q) 1 0 + times_in q (nodes_of (without chain node))) × (length (nodes_of chain) ≡ length (nodes_of (without chain node)) + 1)) → ((q : ℕ) → times_in q (nodes_of (e ∷ chain)) ≡ cond (node == q) 1 0 + times_in q (nodes_of (cond b chain (e ∷ without chain node)))) × (length (nodes_of (e ∷ chain)) ≡ length (nodes_of (cond b chain (e ∷ without chain node))) + 1)
    by true same has later = let e' : e.1 ≡ node = grind (arith, nat_tests, same) in (λ q. ap (λ n. cond (n == q) 1 0 + times_in q (nodes_of chain)) e', omega arith)
    by false same has later = let on = later has in let many = on.1 in (λ q. let once = on.0 q in omega (arith, once), omega (arith, many))

no_node : (chain : Chain) (node : ℕ) → has_node chain node ≡ false → times_in node (nodes_of chain) ≡ 0
no_node [] node none = refl
no_node (e ∷ chain) node none = by (e.1 == node) none (λ later. no_node chain node later)
  where
    by : (b : Bool) → (b || has_node chain node) ≡ false → (has_node chain node ≡ false → times_in node (nodes_of chain) ≡ 0) → cond b 1 0 + times_in node (nodes_of chain) ≡ 0
    by true none later = cc
    by false none later = let z = later none in omega (arith, z)

some_node : (chain : Chain) (node : ℕ) → has_node chain node ≡ true → 1 ≤ times_in node (nodes_of chain)
some_node chain node has = let once = (taken_out chain node has).0 node in let same : (node == node) ≡ true = grind (arith, nat_tests) in let f = rw same at once in omega (arith, f)

-- a node that isn't the head is listed exactly where a link has it
pub listed_by_link : (head node : ℕ) (chain : Chain) (set : Nodes) → Stands (Some head) chain set → (head == node) ≡ false → listed set node ≡ has_node chain node
listed_by_link head node chain set is other = by (listed set node) (has_node chain node) refl refl (rw other at (is.once node))
  where
    by : (a b : Bool) → listed set node ≡ a → has_node chain node ≡ b → 0 + times_in node (nodes_of chain) ≡ cond (listed set node) 1 0 → listed set node ≡ has_node chain node
    by true true e f once = e ∙ sym f
    by false false e f once = e ∙ sym f
    by true false e f once = let z = no_node chain node f in let g = rw e at once in absurd (omega (arith, z, g))
    by false true e f once = let z = some_node chain node f in let g = rw e at once in absurd (omega (arith, z, g))

-- another node than the head is removed
pub stands_without : (head node : ℕ) (chain : Chain) (set : Nodes) → Stands (Some head) chain set → (head == node) ≡ false → has_node chain node ≡ true → Stands (Some head) (without chain node) (unlist set node)
stands_without head node chain set is other has =
    let out = taken_out chain node has in
    let many = out.1 in
    stands_fewer (Some head) (Some head) chain (without chain node) set node is (listed_by_link head node chain set is other ∙ has) (λ e. cc) (λ q. let once = out.0 q in omega (arith, once)) (omega (arith, many))

-- where there is no head, no node is listed
pub none_listed : (chain : Chain) (set : Nodes) (node : ℕ) → Stands None chain set → listed set node ≡ false
none_listed chain set node is = by (listed set node) (is.once node)
  where
    empty : chain ≡ []
    empty = is.empty refl

    by : (b : Bool) → times_in node (nodes_of chain) ≡ cond b 1 0 → b ≡ false
    by true once = let z : times_in node (nodes_of chain) ≡ 0 = ap (λ (c : Chain). times_in node (nodes_of c)) empty in absurd (omega (arith, z, once))
    by false once = refl

-- a list of one node, and an empty one
pub stands_only : (only : Option ℕ) → Stands only [] (only_this only)
stands_only None = stands_first
stands_only (Some node) = stands_head [] none node stands_first (listed-none node)
