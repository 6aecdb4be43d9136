-- What is appended for each stroke that is shown, one more at a time.
use Rattle.std.proofs.Common.{◌≡◌, ℕ, ◌+◌, ◌<◌, Bool, true, false, List, ◌++◌, length, take, filter, get_or, append_assoc}
use Rattle.std.specs.List.{flat_map}
use Rattle.std.proofs.lemmas.List.{append-nil}
use Rattle.std.proofs.lemmas.List.Elements.{filter_more}
use Rattle.std.proofs.lemmas.Grind.{flat_map-append}

pub shown_more : {X : Type 0} (f : X → List ℕ) (p : X → Bool) (xs : List X) (i : ℕ) (x : X) (before now next : List ℕ) → i < length xs → p (get_or xs i x) ≡ true → now ≡ before ++ flat_map f (filter p (take i xs)) → next ≡ now ++ f (get_or xs i x) → next ≡ before ++ flat_map f (filter p (take (i + 1) xs))
shown_more f p xs i x before now next lt shown is more =
    let e = filter_more p xs i x lt in
    rw (more, is, e, shown, flat_map-append, append-nil) (simp append_assoc)

pub hidden_more : {X : Type 0} (f : X → List ℕ) (p : X → Bool) (xs : List X) (i : ℕ) (x : X) (before now : List ℕ) → i < length xs → p (get_or xs i x) ≡ false → now ≡ before ++ flat_map f (filter p (take i xs)) → now ≡ before ++ flat_map f (filter p (take (i + 1) xs))
hidden_more f p xs i x before now lt hidden is =
    let e = filter_more p xs i x lt in
    rw (e, hidden) (rw append-nil is)
