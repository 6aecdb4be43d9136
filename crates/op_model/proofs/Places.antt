-- Each count stands at its own place among all counts.
use Rattle.std.proofs.Common.{◌≡◌, ℕ, ◌<◌, List, [], ◌∷◌, length, map, get_or, refl, sym, ap, ◌∙◌, ◌+◌, arith}
use Rattle.std.specs.List.{range_with_len}
use Rattle.std.proofs.lemmas.List.{get_or-map}
use Rattle.std.proofs.lemmas.List.FromFn.{get_or-range_with_len}
use Rattle.op_model.specs.declared.counts.Count.{Count}
use Rattle.op_model.specs.declared.counts.Count.TheVariants.{Events, Hits, Issues, Local, EvictWb, EvictHint, EvictSilent, TakeGet, TakeGetX, TakeFwdGet, TakeFwdGetX, TakeInv, TakeWb, TakeRpl, TakePut, TakePutX, TakeNak, TakeInvAck, TakeShWb, TakeFAck, TakeNakc, NakPending, NakNoLink, NakBudget, NakGone, Reclaims, Marked}
use Rattle.op_model.specs.Run.CountPlaces.{place_of}

placed : (counts : List Count) (place : ℕ) (d : Count) → map place_of counts ≡ range_with_len 0 (length counts) → place < length counts → place_of (get_or counts place d) ≡ place
placed counts place d each lt =
    sym (get_or-map place_of counts place d 0 lt) ∙ ap (λ (xs : List ℕ). get_or xs place 0) each ∙ (let at : get_or (range_with_len 0 (length counts)) place 0 ≡ 0 + place = get_or-range_with_len 0 (length counts) place 0 lt in omega arith)

abbrev pub all : List Count
all = Events ∷ Hits ∷ Issues ∷ Local ∷ EvictWb ∷ EvictHint ∷ EvictSilent ∷ TakeGet ∷ TakeGetX ∷ TakeFwdGet ∷ TakeFwdGetX ∷ TakeInv ∷ TakeWb ∷ TakeRpl ∷ TakePut ∷ TakePutX ∷ TakeNak ∷ TakeInvAck ∷ TakeShWb ∷ TakeFAck ∷ TakeNakc ∷ NakPending ∷ NakNoLink ∷ NakBudget ∷ NakGone ∷ Reclaims ∷ Marked ∷ []

pub placed_in_all : (place : ℕ) (d : Count) → place < 27 → place_of (get_or all place d) ≡ place
placed_in_all place d lt = placed all place d refl lt
