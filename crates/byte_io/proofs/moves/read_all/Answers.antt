use Rattle.std.proofs.Common.{◌++◌, length-append, take, arith, rules}
use Rattle.std.proofs.lemmas.List.{length-take}
use Rattle.byte_io.proofs.Joined.{consumes_more}
use Rattle.byte_io.proofs.moves.read_all.Goals as goal

-- the bytes that there was no memory for are counted too
pub returns-in-Err-extend_from_slice-clause-stop : goal.returns-in-Err-extend_from_slice-clause-stop
returns-in-Err-extend_from_slice-clause-stop g c =
    let bytes = c.loop-piece.bytes.items in
    let piece = take c.in-Ok.count c.read.new.buf in
    record {
      bytes = bytes ++ piece;
      came = consumes_more _ _ _ bytes piece c.loop-piece.invariant.came c.in-Ok.ensures.bytes.0;
      cause = (omega (arith, c.read.auto.buf, length-append bytes piece, length-take c.in-Ok.count c.read.new.buf, length-take c.min-room.result c.loop-piece.piece), search rules);
    }
