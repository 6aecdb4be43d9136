-- Which eviction is done, or why not.
use Rattle.std.proofs.Common.{◌≡◌, ℕ, Bool, true, false, cond, not, ◌&&◌, ◌==◌, Result, Ok, Err, refl, ap, ◌∙◌}
use Rattle.std.proofs.lemmas.Bool.{cond-true, cond-false}
use Rattle.line_map.specs.Sizes.{Sizes, home_of}
use Rattle.op_model.specs.declared.events.Cause.{Cause}
use Rattle.op_model.specs.declared.events.Cause.TheVariants.{NoCopy, WrongKind, LaneGate}
use Rattle.op_model.specs.declared.events.EvictKind.{EvictKind}
use Rattle.op_model.specs.declared.events.EvictKind.TheVariants as way
use Rattle.op_model.specs.Lines.{Copy, Absent, Shared, Exclusive, LineShare, Outcome, is_empty}
use Rattle.op_model.specs.Shares.{Share, copy_of, line_share}
use Rattle.op_model.specs.Events.Node.{NodeOutcome, bind, by_row, departs, evict_line, is_silent, permit}
use Rattle.op_model.specs.Tables.Processor.{evict, fits, leave_home, leave_remote}
use Rattle.op_model.proofs.Public.{fits-copy}
use Rattle.node_share.specs.Parts.{row_at}

pub is-silent : (kind : EvictKind) → is_silent kind ≡ true → kind ≡ way.Silent
is-silent way.Wb e = cc
is-silent way.Hint e = cc
is-silent way.Silent e = refl

abbrev why : Copy → Cause
why copy = elim copy [ Absent ↦ NoCopy | _ ↦ WrongKind ]

none-fits : (b : Bool) (kind : EvictKind) (copy : Copy) → is_empty copy ≡ true → fits b kind copy ≡ false
none-fits b kind Absent e = refl
none-fits b kind (Shared words) e = cc
none-fits b kind (Exclusive words) e = cc

why-none : (copy : Copy) → is_empty copy ≡ true → why copy ≡ NoCopy
why-none Absent e = refl
why-none (Shared words) e = cc
why-none (Exclusive words) e = cc

why-wrong : (copy : Copy) → is_empty copy ≡ false → why copy ≡ WrongKind
why-wrong Absent e = cc
why-wrong (Shared words) e = refl
why-wrong (Exclusive words) e = refl

-- the gate of a lane is open where nothing is sent, and where there is room
pub gate-free : (leaves room : Bool) → leaves ≡ false → (leaves && not room) ≡ false
gate-free leaves room e = ap (λ b. b && not room) e

pub gate-open : (leaves room : Bool) → room ≡ true → (leaves && not room) ≡ false
gate-open true room e = ap not e
gate-open false room e = refl

module _ (sizes : Sizes) (node line : ℕ) (kind : EvictKind) (room : Bool) (share : Share) where
  abbrev home : ℕ
  home = home_of sizes line

  abbrev here : LineShare
  here = line_share sizes share line

  abbrev copy : Copy
  copy = copy_of share line

  abbrev gated : Outcome → Result NodeOutcome Cause
  gated o = cond (departs (node == home) kind && not room) (Err LaneGate) (Ok (by_row sizes node share line o))

  -- what an eviction that is allowed meets
  pub record Allowed : Type 0 where
    pub held : is_empty copy ≡ false
    pub fit : fits (node == home) kind copy ≡ true
    pub gate : (departs (node == home) kind && not room) ≡ false

  pub evict-allowed : Ok tt ≡ permit (evict_line sizes node share line kind room) → Allowed
  unfolding evict
  evict-allowed e = let p = by (fits (node == home) kind copy) (departs (node == home) kind && not room) (cond (node == home) (leave_home copy here) (leave_remote home kind here)) e in record { held = fits-copy (node == home) kind copy p.0; fit = p.0; gate = p.1 }
    where
      by : (f g : Bool) (o : Outcome) → Ok tt ≡ permit (bind (cond f (Ok o) (Err (why copy))) (λ k. cond g (Err LaneGate) (Ok (by_row sizes node share line k)))) → (f ≡ true) × (g ≡ false)
      by true false o e = (refl, refl)
      by true true o e = cc
      by false g o e = cc

  pub evict-none : is_empty copy ≡ true → evict_line sizes node share line kind room ≡ Err NoCopy
  unfolding evict
  evict-none none = ap (λ r. bind r gated) (cond-false (fits (node == home) kind copy) _ _ (none-fits (node == home) kind copy none) ∙ ap (λ c. Err c) (why-none copy none))

  pub evict-wrong : is_empty copy ≡ false → fits (node == home) kind copy ≡ false → evict_line sizes node share line kind room ≡ Err WrongKind
  unfolding evict
  evict-wrong held unfit = ap (λ r. bind r gated) (cond-false (fits (node == home) kind copy) _ _ unfit ∙ ap (λ c. Err c) (why-wrong copy held))

  module _ (fit : fits (node == home) kind copy ≡ true) where
    fitting : evict_line sizes node share line kind room ≡ gated (cond (node == home) (leave_home copy here) (leave_remote home kind here))
    unfolding evict
    fitting = ap (λ r. bind r gated) (cond-true (fits (node == home) kind copy) _ _ fit)

    pub evict-may : (departs (node == home) kind && not room) ≡ false → permit (evict_line sizes node share line kind room) ≡ Ok tt
    evict-may gate = ap permit (fitting ∙ cond-false (departs (node == home) kind && not room) _ _ gate)

    pub evict-shut : departs (node == home) kind ≡ true → room ≡ false → evict_line sizes node share line kind room ≡ Err LaneGate
    evict-shut leaves shut = fitting ∙ cond-true (departs (node == home) kind && not room) _ _ (λ i. leaves i && not (shut i))

    pub evict-home : (node == home) ≡ true → evict_line sizes node share line kind room ≡ Ok (row_at sizes node share line (λ k. leave_home k.copy k))
    evict-home at =
        fitting ∙ cond-false (departs (node == home) kind && not room) _ _ (ap (λ b. departs b kind && not room) at)
        ∙ ap (λ o. Ok (by_row sizes node share line o)) (cond-true (node == home) _ _ at)

    module _ (away : (node == home) ≡ false) where
      pub evict-away : (departs (node == home) kind && not room) ≡ false → evict_line sizes node share line kind room ≡ Ok (row_at sizes node share line (leave_remote home kind))
      evict-away gate = fitting ∙ cond-false (departs (node == home) kind && not room) _ _ gate ∙ ap (λ o. Ok (by_row sizes node share line o)) (cond-false (node == home) _ _ away)
