-- The ages of what a row sends, and the greatest age after it.
use Rattle.std.proofs.Common.{◌≡◌, ℕ, ◌≤◌, Bool, true, false, cond, ◌==◌, ◌&&◌, List, [], ◌∷◌, map, refl, arith, sym, subst}
use Rattle.std.proofs.lemmas.Bool.Decides.{nat_tests}
use Rattle.eager_model.specs.Types.{Class}
use Rattle.op_model.specs.Messages.{Content, class_of, same_class}
use Rattle.line_invariant.specs.Line.{addressed}
use Rattle.eager_model.specs.Ages.{sent_age}
use Rattle.eager_model.specs.Line.{greater, begun_age}
use Rattle.eager_model.specs.Newest.{newest_age}

-- each message that is sent has the age that it has under way
abbrev pub AreSent : ℕ → ℕ → (ℕ → ℕ) → List (ℕ × Content) → Type 0
AreSent given top last [] = Unit {0}
AreSent given top last (send ∷ sends) = (sent_age given send.1 ≡ newest_age top (last send.0) send.1) × AreSent given top last sends

pub sent-ages : (given top : ℕ) (last : ℕ → ℕ) (sends : List (ℕ × Content)) → AreSent given top last sends → (b : ℕ) (class : Class) → map (sent_age given) (addressed b class sends) ≡ map (newest_age top (last b)) (addressed b class sends)
sent-ages given top last [] are b class = refl
sent-ages given top last (send ∷ sends) are b class = go ((send.0 == b) && same_class class (class_of send.1)) refl (sent-ages given top last sends are.1 b class)
  where
    go : (c : Bool) → ((send.0 == b) && same_class class (class_of send.1)) ≡ c → map (sent_age given) (addressed b class sends) ≡ map (newest_age top (last b)) (addressed b class sends) →
        map (sent_age given) (cond c (send.1 ∷ addressed b class sends) (addressed b class sends)) ≡ map (newest_age top (last b)) (cond c (send.1 ∷ addressed b class sends) (addressed b class sends))
    go false e same = same
    go true e same =
        let to : send.0 ≡ b = grind (arith, nat_tests) in
        let here : sent_age given send.1 ≡ newest_age top (last b) send.1 = subst (λ n. sent_age given send.1 ≡ newest_age top (last n) send.1) to are.0 in
        rw (here, same)

newest-within : (top last : ℕ) (content : Content) → last ≤ top → newest_age top last content ≤ top
newest-within top last content le = grind arith

greater-within : (x y top : ℕ) → x ≤ top → y ≤ top → greater x y ≤ top
greater-within x y top a b = grind (arith, nat_tests)

pub begun-within : (given top : ℕ) (last : ℕ → ℕ) → ((node : ℕ) → last node ≤ top) → (sends : List (ℕ × Content)) → AreSent given top last sends → begun_age given sends ≤ top
begun-within given top last past [] are = grind arith
begun-within given top last past (send ∷ sends) are =
    greater-within (sent_age given send.1) (begun_age given sends) top (subst (λ n. n ≤ top) (sym are.0) (newest-within top (last send.0) send.1 (past send.0))) (begun-within given top last past sends are.1)

pub top-kept : (top copy begun : ℕ) → copy ≤ top → begun ≤ top → greater top (greater copy begun) ≡ top
top-kept top copy begun a b = grind (arith, nat_tests)

pub copy-within : (c : Bool) (copy top : ℕ) → copy ≡ cond c 0 top → copy ≤ top
copy-within true copy top e = grind arith
copy-within false copy top e = grind arith
