-- The same empty directory stands at each node.
use Rattle.std.proofs.Common.{◌≡◌, map, refl, subst, IfOk}
use Rattle.line_map.specs.Sizes.{Sizes, AreSizes}
use Rattle.line_map.proofs.Public.{few-nodes}
use Rattle.op_model.specs.Shares.{Charge}
use Rattle.dir_header.specs.HomeSides.{IsFresh}
use Rattle.sharer_dir.specs.Linked.{linked_directory, first_linked}
use Rattle.machine.specs.Driven.{run_made}
use Rattle.machine.specs.Starts.{AreFresh}
use Rattle.commands.specs.Runs.{machine_at_start}
use Rattle.commands.proofs.FreshDirs.{dirs-charge, dirs-fresh}
use Rattle.commands.proofs.machines.linked_machine.Goals as goal

pub machine_over-requires-clause-dirs : goal.machine_over-requires-clause-dirs
machine_over-requires-clause-dirs g c =
    let cfg = c.cfg-cfg.result in
    let are : AreSizes cfg = rw c.cfg-cfg.ensures.value c.cfg-cfg.ensures.kept.sizes in
    let fresh : IsFresh cfg (linked_directory (first_linked cfg.lines cfg.links)) = record { lists = refl; links = refl; bound = few-nodes cfg are } in
    subst (λ (s : Sizes). AreFresh s (map linked_directory c.in_ok-linked_dirs.field-0.items)) c.cfg-cfg.ensures.value
    (dirs-fresh linked_directory cfg are c.in_ok-linked_dirs.field-0.items (first_linked cfg.lines cfg.links) c.in_ok-linked_dirs.ensures fresh)

pub returns : goal.returns
returns g c =
    let cfg = c.cfg-cfg.result in
    let are : AreSizes cfg = rw c.cfg-cfg.ensures.value c.cfg-cfg.ensures.kept.sizes in
    subst (λ (charge : Charge). IfOk c.machine_over.result (λ made. run_made made ≡ machine_at_start charge c.args.trace.now)) (dirs-charge linked_directory cfg are c.in_ok-linked_dirs.field-0.items (first_linked cfg.lines cfg.links) c.in_ok-linked_dirs.ensures)
    c.machine_over.ensures
