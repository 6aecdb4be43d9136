-- An act changes the copy of its line alone.
use Rattle.std.proofs.Common.{◌≡◌, ◌≢◌, ℕ, List, refl, sym, ap, None, Ok}
use Rattle.line_map.specs.Sizes.{Sizes, line_of}
use Rattle.op_model.specs.declared.operations.Op.{Op}
use Rattle.op_model.specs.Lines.{Outcome}
use Rattle.op_model.specs.Messages.{msg_line}
use Rattle.op_model.specs.Shares.{Share, copy_in, line_share, put_share}
use Rattle.op_model.specs.Tables.Processor.{hit}
use Rattle.op_model.specs.Events.Node.{EvictLine, HitNext, Input, IssueNext, NodeOutcome, TakeFrom, by_row}
use Rattle.node_share.proofs.Public.{copy-put_other}
use Rattle.eager_model.specs.Node.{local, taking}
use Rattle.eager_part.proofs.Public.{each-act}
use Rattle.eager_home.specs.Aged.{line_named}
use Rattle.eager_home.specs.Ages.{line_next}

-- what is done is a row of the line that is named
pub record IsAtLine (sizes : Sizes) (program : List Op) (share : Share) (input : Input) (out : NodeOutcome) : Type 0 where
  pub line : out.line ≡ line_named sizes program share.place input
  pub others : (k : ℕ) → k ≢ out.line → copy_in out.share.copies k ≡ copy_in share.copies k

module _ (sizes : Sizes) (node : ℕ) (program : List Op) (share : Share) where
  of-row : (input : Input) (line : ℕ) (o : Outcome) → line ≡ line_named sizes program share.place input → IsAtLine sizes program share input (by_row sizes node share line o)
  unfolding put_share
  of-row input line o is = record { line = is; others = λ k other. copy-put_other share.copies line k o.share.copy other }

  pub each-line : (input : Input) (out : NodeOutcome) → local sizes node program share input ≡ Ok out → IsAtLine sizes program share input out
  each-line input out e =
      each-act sizes node program share (IsAtLine sizes program share)
      (record {
        hits = λ op next _ _. of-row HitNext (line_of sizes op.word) (hit op (line_share sizes share (line_of sizes op.word))) (sym (ap (line_next sizes) next));
        begins = λ op next _ _ o _. of-row IssueNext (line_of sizes op.word) o (sym (ap (line_next sizes) next));
        evicts = λ line kind gate o _. of-row (EvictLine line kind gate) line o refl;
        takes = λ src m. of-row (TakeFrom src m None) (msg_line m) (taking sizes node share src m) refl;
      }) input out e
