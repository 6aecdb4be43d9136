-- The table at the start: all words are 0, and the parts are those of nodes that have done nothing.
use Rattle.std.proofs.Common.{◌≡◌, ◌≢◌, ◌⊎◌, inl, inr, ℕ, zero, suc, ◌+◌, ◌<◌, ◌≤◌, Bool, true, false, ◌==◌, List, [], ◌∷◌, length, replicate, refl, sym, ap, ◌∙◌, subst, arith, eq-eqb, All}
use Rattle.std.proofs.lemmas.List.Elements.{All-nil, All-cons}
use Rattle.std.proofs.lemmas.Bool.{eqb-true}
use Rattle.std.proofs.lemmas.List.{get_or-replicate, length-replicate}
use mathlib.Core.Option.{some, some-injective, some-ne-none}
use lib.ListN.{get_elem?}
use Rattle.atomic_table.specs.Table.{opening}
use Rattle.line_map.specs.Sizes.{Sizes, AreSizes}
use Rattle.op_model.specs.declared.operations.Op.{Op}
use Rattle.op_model.specs.Programs.{ArePrograms, programs_of}
use Rattle.op_model.specs.Run.Runs.{start}
use Rattle.op_model.specs.Parts.Part.{Part, part_at_start, parts_at_start}
use Rattle.node_parts.proofs.Public.{journal-start}
use Rattle.op_model.proofs.Public.{total-zero}
use Rattle.lane_table.specs.Layout.{cell_word, word_count}
use Rattle.lane_table.specs.Setups.{Setup}
use Rattle.lane_table.specs.Rule.{IsTable, NotIn, IsIn, Holds, IsKept, IsPartOf, parts_from}
use Rattle.lane_table.specs.Views.{TableView, SeatsView, AreSeatsOf, NumberedFrom}
use Rattle.lane_table.proofs.Places.{in_table}

ticket-there : (sizes : Sizes) → 0 < word_count sizes
ticket-there sizes = omega arith

-- the parts at the start, of all nodes
abbrev first_parts : Setup → ℕ → Part
first_parts setup = parts_at_start setup.sizes (programs_of setup.programs)

start_table : (setup : Setup) (words : List ℕ) → AreSizes setup.sizes → ArePrograms setup.sizes setup.programs → words ≡ replicate (word_count setup.sizes) 0 → IsTable setup words (first_parts setup)
start_table setup words are programs is = let P : List ℕ → Type 0 = λ w. IsTable setup w (first_parts setup) in subst P (sym is) (record {
  machine = are;
  programs = programs;
  count = length-replicate (word_count setup.sizes) 0;
  about = λ n. record { number = refl; machine = refl; program = refl };
  few = λ n. omega arith;
  counts = λ a b c. record { cleared = omega arith; taken = omega arith; flushed = omega arith; one = omega arith };
  cells = λ a b c src dst. record {
    empty = λ _. get_or-replicate (word_count setup.sizes) (cell_word setup.sizes a b c 0) 0 0 (in_table setup.sizes a b c 0 src dst (omega arith));
    full = λ e. absurd (omega arith);
    sender = λ e. absurd (cc);
    taker = λ e. absurd (cc);
  };
  unused = λ a b c far. record { flushed = refl; sender = refl; taker = refl };
  journal = [];
  ticket = get_or-replicate (word_count setup.sizes) 0 0 0 (ticket-there setup.sizes);
  entries = total-zero setup.sizes.nodes;
  numbered = journal-start setup.sizes.nodes setup.sizes (programs_of setup.programs);
  past = start setup.sizes;
  ran = refl;
  made = refl;
})

not_in_later : (sizes : Sizes) (n m : ℕ) (programs : List (List Op)) → n < m → NotIn n (parts_from sizes m programs)
not_in_later sizes n m [] lt = tt
not_in_later sizes n m (p ∷ programs) lt = ((λ e. absurd (omega arith)), not_in_later sizes n (suc m) programs (omega arith))

holds_start : (setup : Setup) (n : ℕ) (rest : List (List Op)) → n + length rest ≤ setup.sizes.nodes → ((k : ℕ) → programs_of rest k ≡ programs_of setup.programs (n + k))
    → Holds setup.sizes.nodes (first_parts setup) (λ _. 0) 0 (parts_from setup.sizes n rest)
holds_start setup n [] le same = tt
holds_start setup n (p ∷ rest) le same =
    let e : p ≡ programs_of setup.programs n = same 0 ∙ ap (programs_of setup.programs) (let z0 : n + 0 ≡ n = omega arith in z0) in (
      (omega arith, ap (part_at_start setup.sizes n) e, refl, not_in_later setup.sizes n (suc n) rest (omega arith)),
      holds_start setup (suc n) rest (omega arith) (λ k. same (suc k) ∙ ap (programs_of setup.programs) (let s : n + suc k ≡ suc n + k = omega arith in s)),
    )

in_start : (sizes : Sizes) (n m : ℕ) (rest : List (List Op)) → n ≤ m → m < n + length rest → IsIn m (parts_from sizes n rest)
in_start sizes n m [] le lt = absurd (omega arith)
in_start sizes n m (p ∷ rest) le lt = here (n == m) refl (λ a b. in_start sizes (suc n) m rest a b)
  where
    here : (v : Bool) → (n == m) ≡ v → (suc n ≤ m → m < suc n + length rest → IsIn m (parts_from sizes (suc n) rest)) → (n ≡ m) ⊎ IsIn m (parts_from sizes (suc n) rest)
    here true e rec = inl (eqb-true n m e)
    here false e rec = let ne : n ≢ m = (λ is. let f = eq-eqb n m is in absurd (cc)) in inr (rec (omega arith) (omega arith))

pub numbered_start : (sizes : Sizes) (n : ℕ) (rest : List (List Op)) → NumberedFrom n (parts_from sizes n rest)
numbered_start sizes n [] = tt
numbered_start sizes n (p ∷ rest) =
    let P : ℕ → Type 0 = λ k. NumberedFrom k (parts_from sizes (suc n) rest) in
    let e : suc n ≡ n + 1 = omega arith in (refl, subst P e (numbered_start sizes (suc n) rest))

pub length_start : (sizes : Sizes) (n : ℕ) (rest : List (List Op)) → length (parts_from sizes n rest) ≡ length rest
length_start sizes n [] = refl
length_start sizes n (p ∷ rest) = let h = length_start sizes (suc n) rest in omega arith

from_first : (setup : Setup) (k : ℕ) → programs_of setup.programs k ≡ programs_of setup.programs (0 + k)
from_first setup k = ap (programs_of setup.programs) (let s : k ≡ 0 + k = omega arith in s)

pub opens : (setup : Setup) (words : List ℕ) → AreSizes setup.sizes → ArePrograms setup.sizes setup.programs → words ≡ replicate (word_count setup.sizes) 0
    → IsKept {S = Unit {0}} setup (opening {S = Unit {0}} words [] (parts_from setup.sizes 0 setup.programs))
opens setup words are programs is =
    record {
      parts = first_parts setup;
      owner = λ _. 0;
      table = start_table setup words are programs is;
      seats = record { held = held; there = λ n lt. (parts_from setup.sizes 0 setup.programs, refl, in_start setup.sizes 0 n setup.programs (omega arith) (let c = programs.count in omega arith)) };
    }
  where
    held : (id : ℕ) (v : List Part) → get_elem? (parts_from setup.sizes 0 setup.programs ∷ []) id ≡ some v → Holds setup.sizes.nodes (first_parts setup) (λ _. 0) id v
    held zero v e =
        let P : List Part → Type 0 = λ w. Holds setup.sizes.nodes (first_parts setup) (λ _. 0) 0 w in
        subst P (some-injective (parts_from setup.sizes 0 setup.programs) v e) (holds_start setup 0 setup.programs (let c = programs.count in omega arith) (from_first setup))
    held (suc id) v e = absurd (some-ne-none v (sym e))

-- a part of a node of the machine, with that node's program
abbrev IsOwn : Setup → Part → Type 0
IsOwn setup part = (part.number < setup.sizes.nodes) × IsPartOf setup part.number part

all_start : (setup : Setup) (n : ℕ) (rest : List (List Op)) → n + length rest ≤ setup.sizes.nodes → ((k : ℕ) → programs_of rest k ≡ programs_of setup.programs (n + k)) → All (IsOwn setup) (parts_from setup.sizes n rest)
all_start setup n [] le same = All-nil (IsOwn setup)
all_start setup n (p ∷ rest) le same =
    let e : p ≡ programs_of setup.programs n = same 0 ∙ ap (programs_of setup.programs) (let z0 : n + 0 ≡ n = omega arith in z0) in
    All-cons (IsOwn setup) (part_at_start setup.sizes n p) (parts_from setup.sizes (suc n) rest)
    (omega arith, record { number = refl; machine = refl; program = e })
    (all_start setup (suc n) rest (omega arith) (λ k. same (suc k) ∙ ap (programs_of setup.programs) (let s : n + suc k ≡ suc n + k = omega arith in s)))

pub seats_start : (table : TableView) (seats : SeatsView) → ArePrograms table.setup.sizes table.setup.programs → seats.id ≡ table.id → seats.parts ≡ parts_from table.setup.sizes 0 table.setup.programs → AreSeatsOf table seats
seats_start table seats are id is =
    record {
      id = id;
      parts = subst (All (IsOwn table.setup)) (sym is) (all_start table.setup 0 table.setup.programs (let c = are.count in omega arith) (from_first table.setup));
    }
