use Rattle.std.proofs.Common.{◌≡◌, ◌-◌, min, length, ap, rules}
use Rattle.byte_io.specs.Memory.{Supply}
use Rattle.byte_io.proofs.Joined.{moved}
use Rattle.byte_io.proofs.memory.MemSourceSource.read.Goals as goal

pub returns-clause-bytes : goal.returns-clause-bytes
returns-clause-bytes c =
    let s = c.self.inside in
    let n = c.min-count.result in
    let count : n ≡ min (min (length c.args.buf.now) s.piece) (length s.bytes.items - s.at) = search rules in
    let long : length c.copy_from_slice.new.self ≡ n = search rules in
    rw (← ap (λ (v : Supply). v.left) c.self.view_is) (moved s.bytes.items c.copy_from_slice.new.self c.args.buf.now s.at n s.piece count c.self.invariant.1 long (search rules))
