use Rattle.std.proofs.Common.{ℕ, List, Result, Ok, Err, OnErr, Bor, []}
use Rattle.byte_io.proofs.Joined.{pieces_part}
use Rattle.byte_io.proofs.moves.write_pieces.Goals as goal

on_err : {T E P : Type 0} (r : Result T E) → P → OnErr r P
on_err (Ok x) p = tt
on_err (Err e) p = p

pub returns-in_err-write_all-clause-part : goal.returns-in_err-write_all-clause-part
returns-in_err-write_all-clause-part g c =
    on_err c.from_residual.result (pieces_part (λ (p : Bor (List ℕ)). p.now) c.args.pieces.now c.loop-piece.piece-index (record { ref_ptr = (0, 0); now = [] }) _ _ _ c.loop-piece-test.true c.loop-piece.invariant.went c.in_err-write_all.ensures.part)
