-- A node at the start keeps what each node keeps.
use Rattle.std.proofs.Common.{◌≡◌, ℕ, ◌<◌, List, None, replicate, refl, sym, subst}
use Rattle.std.proofs.lemmas.List.{length-replicate}
use Rattle.std.specs.FinMap as fin
use Rattle.line_map.specs.Sizes.{AreSizes, Sizes}
use Rattle.op_model.specs.declared.operations.Op.{Op}
use Rattle.op_model.specs.Run.Runs.{start_share}
use Rattle.op_model.specs.Shares.{Unlinked}
use Rattle.op_model.specs.Programs.{IsProgramOf}
use Rattle.message_range.proofs.Public.{share-first}
use Rattle.eager_part.proofs.Public.{eager_first}
use Rattle.cpu_cache.specs.Caches.{CacheView}
use Rattle.cpu_cache.specs.Processors.{ProcView}
use Rattle.dir_header.specs.HomeSides.{HomeView}
use Rattle.eager_home.specs.Ages.{AgeLists}
use Rattle.eager_home.specs.Views.{IsAgedNode}

pub made : {D : Type 0} (cfg : Sizes) (node : ℕ) (program : List Op) (dir : D) (proc : ProcView) (cache : CacheView) (home : HomeView D) (ages : AgeLists) → AreSizes cfg → node < cfg.nodes → IsProgramOf cfg node program →
    proc ≡ record { program = program; place = 0; want = None } → cache ≡ record { sizes = cfg; copies = fin.empty } → home ≡ record { sizes = cfg; node = node; charge = Unlinked; dir = dir; headers = (start_share cfg node).headers } →
    ages ≡ record { copies = replicate cfg.sets 0; memory = replicate cfg.lines 0 } → IsAgedNode node proc cache home ages
made cfg node program dir proc cache home ages sizes below are proc-is cache-is home-is ages-are =
    subst (λ p. IsAgedNode node p cache home ages) (sym proc-is)
    (subst (λ c. IsAgedNode node (record { program = program; place = 0; want = None }) c home ages) (sym cache-is)
    (subst (λ h. IsAgedNode node (record { program = program; place = 0; want = None }) (record { sizes = cfg; copies = fin.empty }) h ages) (sym home-is)
    (subst (λ a. IsAgedNode node (record { program = program; place = 0; want = None }) (record { sizes = cfg; copies = fin.empty }) (record { sizes = cfg; node = node; charge = Unlinked; dir = dir; headers = (start_share cfg node).headers }) a) (sym ages-are)
    (record {
      node = record { same = refl; node = refl; numbered = below; unlinked = refl; program = are; own = eager_first cfg node program; sizes = sizes; fits = share-first cfg node };
      lists = record { copies = length-replicate cfg.sets 0; memory = length-replicate cfg.lines 0 };
    }))))
