-- At rest a dirty line that isn't its home's has an owner, a node of the machine with an exclusive copy. A node whose copy doesn't serve its operation isn't the owner.
use Rattle.std.proofs.Common.{◌≡◌, ◌≢◌, ℕ, ◌<◌, inl, inr, true, false, ap, sym, ◌∙◌, subst}
use Rattle.line_map.specs.Sizes.{Sizes, home_of}
use Rattle.op_model.specs.declared.operations.Op.{Op}
use Rattle.op_model.specs.Lines.{Header, is_exclusive, owner}
use Rattle.op_model.specs.Nodes.{listed}
use Rattle.op_model.specs.Run.Rest.{IsAtRest}
use Rattle.op_model.specs.Shares.{State, Trace, copy_of, header_of}
use Rattle.op_model.specs.Tables.Processor.{serves}
use Rattle.line_invariant.proofs.Public.{owner-only}
use Rattle.schedule_laws.proofs.Public.{IsRestLine, IsUsual, listed-only, serves-exclusive}
use Rattle.eager_model.specs.Runs.{Past}
use Rattle.eager_part.proofs.Public.{ranged-run}
use Rattle.eager_schedule.proofs.Moments.{rest-at}
use Rattle.eager_schedule.proofs.Runs.{IsReached}

module _ (trace : Trace) (usual : IsUsual trace) (past : Past) (reached : IsReached trace past) (rests : IsAtRest past.state) (line : ℕ) where
  abbrev sizes : Sizes
  sizes = trace.sizes

  abbrev state : State
  state = past.state

  abbrev home : ℕ
  home = home_of sizes line

  abbrev header : Header
  header = header_of sizes (state.share home) line

  -- a node that owns the line, and isn't p
  pub record IsOwner (p o : ℕ) : Type 0 where
    pub first : owner header ≡ o
    pub far : o ≢ home
    pub other : o ≢ p
    pub inside : o < sizes.nodes
    pub has : is_exclusive (copy_of (state.share o) line) ≡ true

  pub owned : (p : ℕ) (op : Op) → serves op (copy_of (state.share p) line) ≡ false → header.dirty ≡ true → (header.local ≡ true → is_exclusive (copy_of (state.share home) line) ≡ true → ⊥) → (o : ℕ) × IsOwner p o
  owned p op missed dirty away = go (rest-at trace usual past reached rests line)
    where
      go : IsRestLine home header (λ n. copy_of (state.share n) line) → (o : ℕ) × IsOwner p o
      go (inl clean) = absurd (let n : true ≡ false = sym dirty ∙ clean.1 in cc)
      go (inr (inl homes)) = absurd (away homes.2 homes.4)
      go (inr (inr (o, owns))) =
          let other : o ≢ p = (λ same. let yes = serves-exclusive op (copy_of (state.share p) line) (subst (λ n. is_exclusive (copy_of (state.share n) line) ≡ true) same owns.5) in let n : true ≡ false = sym yes ∙ missed in cc) in
          (o, record { first = owner-only header o owns.3; far = owns.4; other = other; inside = ((ranged-run trace usual.ops reached.0 past reached.1).ranged.headers line).lists o (ap (λ l. listed l o) owns.3 ∙ listed-only o); has = owns.5 })
