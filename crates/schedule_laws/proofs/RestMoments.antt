-- A moment at rest: each line is as a line of which nothing is under way, no home has a pending line, and a processor's next operation is
-- begun at all nodes alike.
use Rattle.std.proofs.Common.{◌≡◌, ℕ, ◌<◌, Bool, true, false, cond, nat_le, nat_lt, ◌&&◌, ◌||◌, List, [], ◌∷◌, refl, arith, ap, ◌∙◌, None, count_by}
use Rattle.std.proofs.lemmas.Bool.Decides.{nat_tests}
use Rattle.std.proofs.lemmas.List.Sums.{sum_by-cons}
use Rattle.std.specs.List.{list_any}
use Rattle.std.specs.FinMap as fin
use Rattle.line_map.specs.Sizes.{Sizes, home_of}
use Rattle.op_model.specs.Lines.{is_pending}
use Rattle.op_model.specs.Nodes.{count, listed, only, listings}
use Rattle.op_model.specs.Run.Rest.{IsAtRest}
use Rattle.op_model.specs.Run.Runs.{Past}
use Rattle.op_model.specs.Shares.{Charge, State, Trace, copy_of, pending_lines, room_of}
use Rattle.one_history.specs.Project.{line_words, of_line, project}
use Rattle.one_history.specs.Sound.{answered_of}
use Rattle.rest_laws.proofs.Public.{quiet-header}
use Rattle.schedule_laws.proofs.Known.{IsKnown, IsUsual}
use Rattle.schedule_laws.proofs.Recalls.{header_at}
use Rattle.schedule_laws.proofs.RestLines.{IsRestLine, rest-line}

-- where a test counts none, it finds none, with a further test or without
none-found : {X : Type 0} (p q : X → Bool) (xs : List X) → count_by p xs ≡ 0 → list_any (λ x. p x && q x) xs ≡ false
none-found p q [] e = refl
none-found p q (x ∷ xs) e = go (p x) refl (none-found p q xs)
  where
    go : (c : Bool) → p x ≡ c → (count_by p xs ≡ 0 → list_any (λ y. p y && q y) xs ≡ false) → ((p x && q x) || list_any (λ y. p y && q y) xs) ≡ false
    go true is later = absurd (let s = sum_by-cons (λ y. cond {A = ℕ} (p y) 1 0) x xs in let one : cond {A = ℕ} (p x) 1 0 ≡ 1 = ap (λ c. cond {A = ℕ} c 1 0) is in omega arith)
    go false is later =
        let s = sum_by-cons (λ y. cond {A = ℕ} (p y) 1 0) x xs in
        let rest = later (omega arith) in
        ap (λ c. (c && q x) || list_any (λ y. p y && q y) xs) is ∙ rest

pub not-full : (limit n : ℕ) → n ≡ 0 → 0 < limit → nat_le limit n ≡ false
not-full limit n e some = grind (arith, nat_tests)

module _ (charge : Charge) (trace : Trace) (usual : IsUsual trace) (past : Past) (known : IsKnown charge trace past) (rests : IsAtRest past.state) where
  abbrev sizes : Sizes
  sizes = trace.sizes

  abbrev state : State
  state = past.state

  pub rest-at : (x : ℕ) → IsRestLine (home_of sizes x) (header_at sizes state x) (λ n. copy_of (state.share n) x)
  unfolding project
  rest-at x = rest-line (home_of sizes x) (project sizes state (line_words sizes past.served x) (answered_of sizes past x) x) (known.sound.lines x) (λ a b class. ap (of_line x) (rests.lanes a b class))

  pub idle-at : (x : ℕ) → is_pending (header_at sizes state x) ≡ false
  unfolding project
  idle-at x = quiet-header (home_of sizes x) (project sizes state (line_words sizes past.served x) (answered_of sizes past x) x) (known.sound.lines x) (λ a b class. ap (of_line x) (rests.lanes a b class))

  pub unlisted-at : (x : ℕ) → listed (header_at sizes state x).list (home_of sizes x) ≡ false
  unfolding project
  unlisted-at x = (known.sound.lines x).unlisted

  pub room-free : (n : ℕ) → (room_of charge sizes (state.share n)).full ≡ false
  room-free n = not-full sizes.pending (pending_lines (state.share n)) (rests.idle n) usual.pending

  pub room-calm : (n : ℕ) → (room_of charge sizes (state.share n)).link_pending ≡ false
  room-calm n = none-found (λ e. is_pending e.1) (λ e. nat_lt 1 (count (e.1).list)) (fin.entries (state.share n).headers) (rests.idle n)

  pub free-at : (n : ℕ) → (state.share n).want ≡ None
  free-at n = rests.wants n

pub listed-only : (o : ℕ) → listed (only o) o ≡ true
listed-only o = grind (arith, nat_tests, listings)
