-- The same empty directory stands at each node.
use Rattle.std.proofs.Common.{◌≡◌, map, refl, arith, subst, IfOk}
use Rattle.line_map.specs.Sizes.{Sizes, AreSizes}
use Rattle.op_model.specs.Shares.{Charge}
use Rattle.dir_header.specs.HomeSides.{IsFresh}
use Rattle.dir_header.specs.Plain.{plain_directory}
use Rattle.bitvec_dir.specs.Bits.{first_bits}
use Rattle.machine.specs.Driven.{run_made}
use Rattle.machine.specs.Starts.{AreFresh}
use Rattle.commands.specs.Runs.{machine_at_start}
use Rattle.commands.proofs.FreshDirs.{dirs-charge, dirs-fresh}
use Rattle.commands.proofs.machines.bit_machine.Goals as goal

pub machine_over-requires-clause-dirs : goal.machine_over-requires-clause-dirs
machine_over-requires-clause-dirs c =
    let cfg = c.cfg-cfg.result in
    let are : AreSizes cfg = rw c.cfg-cfg.ensures.value c.cfg-cfg.ensures.kept.sizes in
    let fresh : IsFresh cfg (plain_directory (first_bits cfg.lines cfg.nodes cfg.links)) = record { lists = refl; links = refl; bound = omega arith } in
    subst (λ (s : Sizes). AreFresh s (map plain_directory c.in_ok-bit_dirs.field-0.items)) c.cfg-cfg.ensures.value
    (dirs-fresh plain_directory cfg are c.in_ok-bit_dirs.field-0.items (first_bits cfg.lines cfg.nodes cfg.links) c.in_ok-bit_dirs.ensures fresh)

pub returns : goal.returns
returns c =
    let cfg = c.cfg-cfg.result in
    let are : AreSizes cfg = rw c.cfg-cfg.ensures.value c.cfg-cfg.ensures.kept.sizes in
    subst (λ (charge : Charge). IfOk c.machine_over.result (λ made. run_made made ≡ machine_at_start charge c.args.trace.now)) (dirs-charge plain_directory cfg are c.in_ok-bit_dirs.field-0.items (first_bits cfg.lines cfg.nodes cfg.links) c.in_ok-bit_dirs.ensures)
    c.machine_over.ensures
