-- Sizes within their limits are above 0, so that a trace of its machine is a usual one.
use Rattle.std.proofs.Common.{◌≡◌, ℕ, ◌<◌, true, arith}
use Rattle.std.proofs.lemmas.Bool.Decides.{nat_tests}
use Rattle.line_map.specs.Sizes.{AreSizes, in_limits}
use Rattle.line_map.specs.declared.machine.Field.TheVariants as field
use Rattle.op_model.specs.Shares.{Trace}
use Rattle.node_range.specs.Range.{IsOfMachine}
use Rattle.schedule_laws.proofs.Known.{IsUsual}

some-lines : (n : ℕ) → in_limits field.Lines n ≡ true → 0 < n
some-lines n is = grind (arith, nat_tests)

some-words : (n : ℕ) → in_limits field.Words n ≡ true → 0 < n
some-words n is = grind (arith, nat_tests)

some-links : (n : ℕ) → in_limits field.Links n ≡ true → 0 < n
some-links n is = grind (arith, nat_tests)

some-pending : (n : ℕ) → in_limits field.Pending n ≡ true → 0 < n
some-pending n is = grind (arith, nat_tests)

some-evicts : (n : ℕ) → in_limits field.Evicts n ≡ true → 0 < n
some-evicts n is = grind (arith, nat_tests)

pub usual : (trace : Trace) → AreSizes trace.sizes → IsOfMachine trace → IsUsual trace
usual trace sizes ops = record {
  words = some-words trace.sizes.words sizes.words;
  lines = some-lines trace.sizes.lines sizes.lines;
  links = some-links trace.sizes.links sizes.links;
  pending = some-pending trace.sizes.pending sizes.pending;
  evicts = some-evicts trace.sizes.evicts sizes.evicts;
  ops = ops;
}
