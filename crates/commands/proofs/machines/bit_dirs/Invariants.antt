-- So many empty directories are made as the loop has counted.
use Rattle.std.proofs.Common.{◌≡◌, replicate}
use Rattle.bitvec_dir.specs.Bits.{first_bits}
use Rattle.commands.proofs.machines.bit_dirs.Given as goal

abbrev pub invariant-loop : goal.invariant-loop
invariant-loop l = l.dirs.items ≡ replicate l.counter (first_bits l.cfg.lines l.cfg.nodes l.cfg.links)
