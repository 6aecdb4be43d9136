-- A node at the start keeps what each node keeps.
use Rattle.std.proofs.Common.{◌≡◌, ℕ, ◌<◌, List, None, refl, sym, subst}
use Rattle.std.specs.FinMap as fin
use Rattle.line_map.specs.Sizes.{AreSizes, Sizes}
use Rattle.op_model.specs.declared.operations.Op.{Op}
use Rattle.op_model.specs.Run.Runs.{start_share}
use Rattle.op_model.specs.Shares.{Charge}
use Rattle.op_model.specs.Programs.{IsProgramOf}
use Rattle.message_range.proofs.Public.{own-first, share-first}
use Rattle.cpu_cache.specs.Caches.{CacheView}
use Rattle.cpu_cache.specs.Processors.{ProcView}
use Rattle.dir_header.specs.HomeSides.{HomeView}
use Rattle.magic_node.specs.Nodes.{IsMagicNode}

pub made : {D : Type 0} (cfg : Sizes) (node : ℕ) (program : List Op) (charge : Charge) (dir : D) (proc : ProcView) (cache : CacheView) (home : HomeView D) → AreSizes cfg → node < cfg.nodes → IsProgramOf cfg node program →
    proc ≡ record { program = program; place = 0; want = None } → cache ≡ record { sizes = cfg; copies = fin.empty } → home ≡ record { sizes = cfg; node = node; charge = charge; dir = dir; headers = (start_share cfg node).headers } → IsMagicNode node proc cache home
made cfg node program charge dir proc cache home sizes below are proc-is cache-is home-is =
    subst (λ p. IsMagicNode node p cache home) (sym proc-is)
    (subst (λ c. IsMagicNode node (record { program = program; place = 0; want = None }) c home) (sym cache-is)
    (subst (λ h. IsMagicNode node (record { program = program; place = 0; want = None }) (record { sizes = cfg; copies = fin.empty }) h) (sym home-is)
    (record { same = refl; node = refl; numbered = below; program = are; own = own-first charge cfg node program; sizes = sizes; fits = share-first cfg node })))
