-- A line of which nothing is under way: it is clean, or its home's cache owns it, or another node's does.
use Rattle.std.proofs.Common.{◌≡◌, ◌≢◌, ℕ, Bool, true, false, not, ◌||◌, ◌⊎◌, inl, inr, [], ◌∷◌, refl, arith, ap, sym, ◌∙◌}
use Rattle.op_model.specs.declared.events.Class.{Class}
use Rattle.op_model.specs.declared.events.Class.TheVariants.{Request}
use Rattle.op_model.specs.declared.state.Wait.TheVariants.{Idle}
use Rattle.op_model.specs.Lines.{Copy, Header, is_empty, is_exclusive}
use Rattle.op_model.specs.Nodes.{none, only}
use Rattle.op_model.proofs.Public.{eqb-self}
use Rattle.line_invariant.specs.Line.{Line}
use Rattle.line_invariant.specs.Good.{Answered, Asked, Asking, AskingX, Called, Carrier, Clean, Forwarded, Granted, HandedOn, Hints, HomeOwns, IsGood, IsGoodHeader, Leaving, NotLeaving, Owned, Phase, Resting, SharedOut, WritesBack, answer_part, holds_in, is_write_answer, is_write_back, leaving_part, role_in}
use Rattle.rest_laws.proofs.Public.{app-none, no-answer, quiet-header, silent}

-- a clean line
abbrev pub IsCleanLine : Header → Type 0
IsCleanLine header = (header.wait ≡ Idle) × (header.dirty ≡ false)

-- a line that only its home's cache has
abbrev pub IsHomesLine : Header → Copy → Type 0
IsHomesLine header copy = (header.wait ≡ Idle) × (header.dirty ≡ true) × (header.local ≡ true) × (header.list ≡ none) × (is_exclusive copy ≡ true)

-- a line that only the cache of another node has, who is listed alone
abbrev pub IsOwnersLine : (home owner : ℕ) → Header → Copy → Type 0
IsOwnersLine home owner header copy = (header.wait ≡ Idle) × (header.dirty ≡ true) × (header.local ≡ false) × (header.list ≡ only owner) × (owner ≢ home) × (is_exclusive copy ≡ true)

abbrev pub IsRestLine : ℕ → Header → (ℕ → Copy) → Type 0
IsRestLine home header copies = IsCleanLine header ⊎ IsHomesLine header (copies home) ⊎ ((owner : ℕ) × IsOwnersLine home owner header (copies owner))

module _ (home : ℕ) (line : Line) (good : IsGood home line) (empty : (a b : ℕ) (class : Class) → line.lane a b class ≡ []) where
  -- no node that isn't the home evicts
  not-leaving : (n : ℕ) → n ≢ home → leaving_part (good.status n).leaving ≡ []
  not-leaving n far = (app-none (leaving_part (good.status n).leaving) _ (rw (eqb-self home) at (silent home line good empty n home Request))).0

  no-write-back : (leaving : Leaving) → leaving_part leaving ≡ [] → is_write_back leaving ≡ false
  no-write-back NotLeaving e = refl
  no-write-back (WritesBack words) e = cc
  no-write-back Hints e = refl

  no-write-answer : (carries : Carrier) → ((from : ℕ) → answer_part from carries ≡ []) → is_write_answer carries ≡ false
  no-write-answer Resting e = refl
  no-write-answer Asking e = refl
  no-write-answer AskingX e = refl
  no-write-answer Granted e = refl
  no-write-answer (Forwarded write) e = refl
  no-write-answer (Answered from content) e =
      absurd (let a = e from in let b : answer_part from (Answered from content) ≡ content ∷ [] = rw (eqb-self from) refl in let n : [] ≡ content ∷ [] = sym a ∙ b in cc)

  -- the node that holds the line has an exclusive copy
  exclusive-or : (a b c : Bool) → (a || b || c) ≡ true → b ≡ false → c ≡ false → a ≡ true
  exclusive-or a b c e f g = grind arith

  owner-has : (owner : ℕ) → owner ≢ home → holds_in (role_in home line.words (Owned owner) owner) ≡ holds_in (role_in home line.words good.phase owner) → is_exclusive (line.copy owner) ≡ true
  owner-has owner far same =
      let it = good.nodes owner far in
      let holds : holds_in (role_in home line.words (Owned owner) owner) ≡ true = rw (eqb-self owner) refl in
      exclusive-or (is_exclusive (line.copy owner)) (is_write_answer (good.status owner).carrier) (is_write_back (good.status owner).leaving)
      (it.one_holds ∙ sym same ∙ holds)
      (no-write-answer (good.status owner).carrier (no-answer home line good empty owner))
      (no-write-back (good.status owner).leaving (not-leaving owner far))

  by-phase : (phase : Phase) → good.phase ≡ phase → IsGoodHeader home phase line.words line.header (line.copy home) → IsRestLine home line.header line.copy
  by-phase Clean is header = inl (header.0, header.1)
  by-phase HomeOwns is header =
      inr (inl (header.0, header.1, good.local ∙ ap (λ c. not (is_empty c)) header.3, header.2, ap is_exclusive header.3))
  by-phase (Owned owner) is header =
      inr (inr (owner, (header.0, header.1, good.local ∙ ap (λ c. not (is_empty c)) header.3, header.2, header.4, owner-has owner header.4 (ap (λ p. holds_in (role_in home line.words p owner)) (sym is)))))
  by-phase (Called g) is header = absurd (let q = quiet-header home line good empty in let w = header.0 in grind arith)
  by-phase (Asked true r o f h) is header = absurd (let q = quiet-header home line good empty in let w = header.0 in grind arith)
  by-phase (Asked false r o f h) is header = absurd (let q = quiet-header home line good empty in let w = header.0 in grind arith)
  by-phase (SharedOut r o) is header = absurd (let q = quiet-header home line good empty in let w = header.0 in grind arith)
  by-phase (HandedOn r o h) is header = absurd (let q = quiet-header home line good empty in let w = header.0 in grind arith)

  pub rest-line : IsRestLine home line.header line.copy
  rest-line = by-phase good.phase refl good.header
