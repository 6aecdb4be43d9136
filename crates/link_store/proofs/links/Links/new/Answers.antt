-- The first pool is kept as it should be.
use Rattle.std.proofs.Common.{◌<◌, ◌≡◌, ◌^◌, arith, cond, true, false}
use Rattle.std.proofs.lemmas.Bool.Decides.{nat_tests}
use Rattle.std.specs.Prelude.{nat_lt}
use Rattle.link_store.specs.declared.entries.Next.TheVariants.{Link, End}
use Rattle.link_store.specs.Entries.{IsPool, pool_in}
use Rattle.link_store.specs.Pools.{first_pool}
use Rattle.link_store.proofs.First.{first_done}
use Rattle.link_store.proofs.links.Links.new.Goals as goal
use Rattle.link_store.proofs.links.Links.new.Goals.{then-count-gt0, else-count-gt0}

done : (c : goal.Joined-count-gt0) → IsPool c.in-Ok.entries.items c.in-Ok-first_starts.lines.items (record { first = c.if-count-gt0.first; len = c.args.count }) × (pool_in c.in-Ok.entries.items c.in-Ok-first_starts.lines.items (record { first = c.if-count-gt0.first; len = c.args.count }) ≡ first_pool c.args.lines c.args.count)
done c =
    let fits : c.args.count < 2 ^ 32 = omega arith in
    let first : c.if-count-gt0.first ≡ cond (nat_lt 0 c.args.count) (Link 0) End = elim c.if-count-gt0.branch [
      | then-count-gt0 w ↦ let some : nat_lt 0 c.args.count ≡ true = grind (arith, nat_tests, w.if-count-gt0.true) in rw some w.first-is
      | else-count-gt0 w ↦ let none : nat_lt 0 c.args.count ≡ false = grind (arith, nat_tests, w.if-count-gt0.false) in rw none w.first-is
    ] in
    first_done _ _ _ c.args.lines c.args.count c.in-Ok.ensures c.in-Ok-first_starts.ensures first fits

pub invariant_of-result : goal.invariant_of-result
invariant_of-result c = (done c).0

pub returns-clause-value : goal.returns-clause-value
returns-clause-value c = (done c).1

pub returns-clause-partition : goal.returns-clause-partition
returns-clause-partition c = (done c).0.partition
