-- What holds of each directory stays where one list changes: the links that all lists hold change by those of that list. A new listing
-- takes one link at most, a list that loses a node or becomes that of one node takes none.
use Rattle.std.proofs.Common.{◌≡◌, ◌≢◌, ℕ, zero, suc, ◌+◌, ◌-◌, ◌<◌, ◌≤◌, Bool, true, false, cond, not, ◌&&◌, ◌==◌, IsTrue, length, Option, Some, None, IfSome, refl, sym, ap, ◌∙◌, arith}
use Rattle.std.proofs.lemmas.Bool.Decides.{nat_tests}
use Rattle.std.proofs.lemmas.List.{get_or-set_same, get_or-set_other, set-get_or}
use Rattle.std.proofs.lemmas.List.Sums.{sum_by-set}
use Rattle.op_model.specs.Nodes.{Nodes, listed, enlist, unlist, none, only, count, listed-none, listed-enlist, listed-unlist, count-none, count-enlist, count-unlist, same_nodes}
use Rattle.op_model.specs.Lines.{nobody_listed}
use Rattle.dir_header.specs.Sharers.{Directory, Charge, Linked, Unlinked, is_linked, IsDirectory, list_at, held_by, held_in, free_in, needs_link, with_list, only_this}

pub held-set : (dir : Directory) (m : ℕ) (list : Nodes) → m < length dir.lists → held_in (with_list dir m list) + held_by dir.charge (list_at dir m) ≡ held_in dir + held_by dir.charge list
held-set dir m list within = sum_by-set (held_by dir.charge) dir.lists m list none within

pub list-set_same : (dir : Directory) (m : ℕ) (list : Nodes) → m < length dir.lists → list_at (with_list dir m list) m ≡ list
list-set_same dir m list within = get_or-set_same dir.lists m list none within

pub list-set_other : (dir : Directory) (m k : ℕ) (list : Nodes) → k ≢ m → list_at (with_list dir m list) k ≡ list_at dir k
list-set_other dir m k list other = get_or-set_other dir.lists m k list none other

pub with_list_keeps : (dir : Directory) (m : ℕ) (list : Nodes) → IsDirectory dir → m < length dir.lists → ((q : ℕ) → listed list q ≡ true → q < dir.nodes) →
    held_by dir.charge list + held_in dir ≤ dir.links + held_by dir.charge (list_at dir m) → IsDirectory (with_list dir m list)
with_list_keeps dir m list is within below room = record {
  fits = let e = held-set dir m list within in omega arith;
  below = λ k node. at_line k node (k == m) refl;
}
  where
    at_line : (k node : ℕ) (b : Bool) → (k == m) ≡ b → listed (list_at (with_list dir m list) k) node ≡ true → node < dir.nodes
    at_line k node true e there =
        let same : k ≡ m = grind (arith, nat_tests) in
        below node (ap (λ l. listed l node) (sym (ap (list_at (with_list dir m list)) same ∙ list-set_same dir m list within)) ∙ there)
    at_line k node false e there =
        let other : k ≢ m = grind (arith, nat_tests) in
        is.below k node (ap (λ l. listed l node) (sym (list-set_other dir m k list other)) ∙ there)

pub held-linked : (list : Nodes) → held_by Linked list ≡ count list - 1
held-linked list = by_count (count list)
  where
    by_count : (n : ℕ) → (cond (n == 0) 0 (Prim.Native.Nat.pred n)) ≡ n - 1
    by_count zero = refl
    by_count (suc n) = let off : (suc n == 0) ≡ false = grind (arith, nat_tests) in let less : Prim.Native.Nat.pred (suc n) ≡ n = refl in ap (λ b. cond b 0 (Prim.Native.Nat.pred (suc n))) off ∙ less ∙ omega arith

-- a list that has no more nodes holds no more links
pub held-fewer : (charge : Charge) (list list' : Nodes) → count list' ≤ count list → held_by charge list' ≤ held_by charge list
held-fewer Linked list list' fewer = let a = held-linked list in let b = held-linked list' in omega arith
held-fewer Unlinked list list' fewer = omega arith

pub held-none : (charge : Charge) → held_by charge none ≡ 0
held-none Linked = held-linked none ∙ (let c = count-none in omega arith)
held-none Unlinked = refl

pub held-only : (charge : Charge) (node : ℕ) → held_by charge (only node) ≡ 0
held-only Linked node =
    let c = count-enlist none node in let z = count-none in let n = listed-none node in
    held-linked (only node) ∙ (let one : count (only node) ≤ 1 = grind (arith, nat_tests) in omega arith)
held-only Unlinked node = refl

pub held-only_this : (charge : Charge) (only : Option ℕ) → held_by charge (only_this only) ≡ 0
held-only_this charge None = held-none charge
held-only_this charge (Some node) = held-only charge node

-- a list of nodes below a bound that gains one below it, loses one, or becomes that of one
pub enlist-below : (list : Nodes) (node bound q : ℕ) → node < bound → (listed list q ≡ true → q < bound) → listed (enlist list node) q ≡ true → q < bound
enlist-below list node bound q below each there = let l = listed-enlist list node q in grind (arith, nat_tests)

pub unlist-below : (list : Nodes) (node bound q : ℕ) → (listed list q ≡ true → q < bound) → listed (unlist list node) q ≡ true → q < bound
unlist-below list node bound q each there = let l = listed-unlist list node q in grind (arith, nat_tests)

pub only-below : (only : Option ℕ) (bound q : ℕ) → IfSome only (λ node. node < bound) → listed (only_this only) q ≡ true → q < bound
only-below None bound q below there = let l = listed-none q in grind (arith, nat_tests)
only-below (Some node) bound q below there = enlist-below none node bound q below (λ h. let l = listed-none q in grind (arith, nat_tests)) there

-- a directory stays one where a node is listed and a link is free if one is needed, where a node is unlisted, and where a list is cleared
module _ (dir : Directory) (m : ℕ) (is : IsDirectory dir) (within : m < length dir.lists) where
  abbrev list : Nodes
  list = list_at dir m

  one_more : (charge : Charge) (node : ℕ) → ((is_linked charge && (not (listed list node) && not (nobody_listed list))) ≡ true → held_in dir < dir.links) → held_in dir ≤ dir.links →
      held_by charge (enlist list node) + held_in dir ≤ dir.links + held_by charge list
  one_more Linked node free fits =
      let a = held-linked list in let b = held-linked (enlist list node) in let c = count-enlist list node in
      by_list (listed list node) (count list) (count (enlist list node)) (held_by Linked list) (held_by Linked (enlist list node)) c a b free
    where
      by_list : (l : Bool) (n n' h h' : ℕ) → n' ≡ cond l n (n + 1) → h ≡ n - 1 → h' ≡ n' - 1 → ((not l && not (n == 0)) ≡ true → held_in dir < dir.links) → h' + held_in dir ≤ dir.links + h
      by_list true n n' h h' c a b f = omega arith
      by_list false zero n' h h' c a b f = omega arith
      by_list false (suc n) n' h h' c a b f = let less = f (let t : (suc n == 0) ≡ false = grind (arith, nat_tests) in grind (arith, nat_tests)) in omega arith
  one_more Unlinked node free fits = omega arith

  pub unlisted-keeps : (node : ℕ) → IsDirectory (with_list dir m (unlist list node))
  unlisted-keeps node = with_list_keeps dir m (unlist list node) is within (λ q. unlist-below list node dir.nodes q (is.below m q))
      (let f = held-fewer dir.charge list (unlist list node) (let c = count-unlist list node in grind (arith, nat_tests)) in let h = is.fits in omega arith)

  pub cleared-keeps : (only : Option ℕ) → IfSome only (λ node. node < dir.nodes) → IsDirectory (with_list dir m (only_this only))
  cleared-keeps only below = with_list_keeps dir m (only_this only) is within (λ q. only-below only dir.nodes q below) (let f = held-only_this dir.charge only in let h = is.fits in omega arith)

  pub listed-keeps : (node : ℕ) → node < dir.nodes → (IsTrue (needs_link dir m node) × (free_in dir ≡ 0) → ⊥) → IsDirectory (with_list dir m (enlist list node))
  listed-keeps node below room = with_list_keeps dir m (enlist list node) is within (λ q. enlist-below list node dir.nodes q below (is.below m q))
      (one_more dir.charge node (λ needs. left (held_in dir) dir.links (λ none. room (needs, none)) is.fits) is.fits)
    where
      left : (held links : ℕ) → (links - held ≡ 0 → ⊥) → held ≤ links → held < links
      left held links some fits = omega (arith, some)

-- a node that isn't listed is taken off without a change
pub unlist-none : (list : Nodes) (node : ℕ) → listed list node ≡ false → unlist list node ≡ list
unlist-none list node off = same_nodes (unlist list node) list (λ q. by q (q == node) refl)
  where
    by : (q : ℕ) (b : Bool) → (q == node) ≡ b → listed (unlist list node) q ≡ listed list q
    by q true e = let l = listed-unlist list node q in let same : q ≡ node = grind (arith, nat_tests) in let o : listed list q ≡ false = ap (listed list) same ∙ off in grind (arith, nat_tests)
    by q false e = let l = listed-unlist list node q in grind (arith, nat_tests)

pub unlist-same : (dir : Directory) (m node : ℕ) → listed (list_at dir m) node ≡ false → dir ≡ with_list dir m (unlist (list_at dir m) node)
unlist-same dir m node off = ap (λ ls. record dir { lists = ls }) (sym (set-get_or dir.lists m none) ∙ ap (λ l. (with_list dir m l).lists) (sym (unlist-none (list_at dir m) node off)))
