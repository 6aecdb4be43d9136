-- The first bad entry of a list, found behind a good history whose entries are counted by node.
use Rattle.std.proofs.Common.{◌≡◌, ℕ, suc, ◌+◌, ◌<◌, ◌≤◌, List, [], ◌∷◌, ◌++◌, length, get_or, take, drop, take-append-drop, drop-cons, arith, ap, sym, ◌∙◌, subst, ◌⊎◌, inl, inr}
use Rattle.std.specs.FinMap as fin
use Rattle.std.proofs.lemmas.Bool.{cases_lt}
use Rattle.std.proofs.lemmas.List.{get_or_past, length-take, take_more}
use Rattle.std.proofs.lemmas.Option.{unwrap_or-slice_get}
use Rattle.op_model.specs.declared.operations.Op.{Op}
use Rattle.op_model.specs.declared.operations.Entry.{Entry}
use Rattle.op_model.specs.Flat.{FlatMemory, IsLegalAt, after_from}
use Rattle.op_model.specs.Events.Step.{Programs}
use Rattle.op_model.specs.Run.History.{entries_by}
use Rattle.hist_check.specs.declared.fault.EntryCause.{EntryCause}
use Rattle.hist_check.specs.declared.fault.EntryCause.TheVariants.{Foreign, Order, Differs, Value}
use Rattle.op_model.specs.Programs.{programs_of}
use Rattle.hist_check.specs.Good.{IsGood, IsKnown}
use Rattle.hist_check.specs.Bad.{HasCause, HasPlace, HasPlaceCause, IsFirstBad}
use Rattle.hist_check.proofs.Histories.{good-more}

-- each node has so many entries
abbrev pub AreCounted : List ℕ → List Entry → Type 0
AreCounted counts entries = (n : ℕ) → n < 64 → get_or counts n 0 ≡ length (entries_by n entries)

known-node : (programs : List (List Op)) (e : Entry) → IsKnown (programs_of programs e.node) e → e.node < length programs
known-node programs e known = go (cases_lt e.node (length programs))
  where
    go : (e.node < length programs) ⊎ (length programs ≤ e.node) → e.node < length programs
    go (inl lt) = lt
    go (inr le) = absurd (let none = ap length (unwrap_or-slice_get programs e.node [] ∙ get_or_past programs e.node [] le) in omega (arith, none, known))

module _ (programs : List (List Op)) (counts : List ℕ) (before : List Entry) (e : Entry) (few : length programs ≤ 64) (counted : AreCounted counts before) where
  counted-at : IsKnown (programs_of programs e.node) e → get_or counts e.node 0 ≡ length (entries_by e.node before)
  counted-at known = let lt = known-node programs e known in counted e.node (omega arith)

  pub place-good : HasPlace (programs_of programs e.node) (get_or counts e.node 0) e → HasPlace (programs_of programs e.node) (length (entries_by e.node before)) e
  place-good place = record { known = place.known; next = place.next ∙ counted-at place.known; own = place.own }

  pub place-bad : (cause : EntryCause) → HasPlaceCause (programs_of programs e.node) (get_or counts e.node 0) e cause → HasCause (programs_of programs) before e cause
  place-bad Foreign bad = bad
  place-bad Order bad = (bad.0, λ same. bad.1 (same ∙ sym (counted-at bad.0)))
  place-bad Differs bad = (bad.0, (bad.1.0 ∙ counted-at bad.0, bad.1.1))
  place-bad Value bad = absurd bad

pub value-bad : (programs : Programs) (before : List Entry) (e : Entry) (flat : FlatMemory) → flat ≡ after_from fin.empty before → HasPlace (programs e.node) (length (entries_by e.node before)) e → (IsLegalAt flat e → ⊥) → HasCause programs before e Value
value-bad programs before e flat is place not = (place, λ legal. not (subst (λ (f : FlatMemory). IsLegalAt f e) (sym is) legal))

split : (h : List Entry) (i : ℕ) (d : Entry) → i < length h → h ≡ take i h ++ get_or h i d ∷ drop (suc i) h
split h i d lt = sym (take-append-drop i h) ∙ ap (λ (xs : List Entry). take i h ++ xs) (drop-cons h i d lt)

pub first-bad : (programs : Programs) (h : List Entry) (i : ℕ) (d : Entry) (cause : EntryCause) → i < length h → IsGood programs (take i h) → HasCause programs (take i h) (get_or h i d) cause → IsFirstBad programs h (i + 1) cause
first-bad programs h i d cause lt good bad =
    record { before = take i h; entry = get_or h i d; after = drop (suc i) h; whole = split h i d lt; counted = omega (arith, length-take i h); good = good; bad = bad }

pub good-next : (programs : Programs) (h : List Entry) (i : ℕ) (d : Entry) (flat : FlatMemory) → i < length h → IsGood programs (take i h) → flat ≡ after_from fin.empty (take i h) → HasPlace (programs (get_or h i d).node) (length (entries_by (get_or h i d).node (take i h))) (get_or h i d) → IsLegalAt flat (get_or h i d) → IsGood programs (take (i + 1) h)
good-next programs h i d flat lt good is place legal =
    subst (IsGood programs) (sym (take_more h i d lt)) (good-more programs (take i h) (get_or h i d) good place (subst (λ (f : FlatMemory). IsLegalAt f (get_or h i d)) is legal))
