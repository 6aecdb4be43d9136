-- One node of the eager core as its callers see it.
use Rattle.std.specs.Prelude.{ℕ, ◌≤◌, List, refl}
use Rattle.std.specs.Coded.{Coded, code_by, coded×, coded_ℕ, coded_list}
use Rattle.line_map.specs.Sizes.{Sizes}
use Rattle.line_map.specs.Codes.{sizes_code}
use Rattle.op_model.specs.declared.operations.Op.{Op}
use Rattle.op_model.specs.Codes.{op_code, share_code}
use Rattle.op_model.specs.Shares.{Share}
use Rattle.eager_model.specs.Node.{NodeAges}
use Rattle.cpu_cache.specs.Caches.{CacheView}
use Rattle.cpu_cache.specs.Processors.{ProcView}
use Rattle.dir_header.specs.HomeSides.{HomeView}
use Rattle.magic_node.specs.Nodes.{node_share}
use Rattle.eager_home.specs.Aged.{AreWithin}
use Rattle.eager_home.specs.Ages.{AgeLists, AreAgeLists, ages_of}
use Rattle.eager_home.specs.Nodes.{IsEagerNode}
use Rattle.eager_home.specs.declared.aging.AgedEffect.{AgedEffect}

-- the machine, the node, its program and its share, with an age for each set of its cache and one for each line of its home
pub record EagerView : Type 0 where
  pub sizes : Sizes
  pub number : ℕ
  pub program : List Op
  pub share : Share
  pub copy_ages : List ℕ
  pub memory_ages : List ℕ

-- the ages of the node's words, line by line
abbrev pub ages_in : EagerView → NodeAges
ages_in node = ages_of node.sizes node.number node.share.copies (record { copies = node.copy_ages; memory = node.memory_ages })

abbrev pub eager_view : {D : Type 0} → ℕ → ProcView → CacheView → HomeView D → AgeLists → EagerView
eager_view number proc cache home ages = record { sizes = home.sizes; number = number; program = proc.program; share = node_share proc cache home; copy_ages = ages.copies; memory_ages = ages.memory }

-- the parts of one node, with as many ages as they have sets and lines
pub record IsAgedNode {D : Type 0} (number : ℕ) (proc : ProcView) (cache : CacheView) (home : HomeView D) (ages : AgeLists) : Type 0 where
  pub node : IsEagerNode number proc cache home
  pub lists : AreAgeLists home.sizes ages

-- how high ages rise by an act, where none of the node, nor of a message taken, is above the bound: none of the node after it is above the top, nor is that of an operation served, and that of the words given isn't above the bound
pub record RiseWithin (bound top : ℕ) (after : NodeAges) (did : AgedEffect) : Type 0 where
  pub ages : AreWithin top after
  pub given : did.given ≤ bound
  pub served : did.served ≤ top

-- how a node is stored, so that it is a value
abbrev pub eager_code : Coded EagerView
eager_code =
    code_by (Sizes × (ℕ × (List Op × (Share × (List ℕ × List ℕ))))) (coded× sizes_code (coded× coded_ℕ (coded× (coded_list op_code) (coded× share_code (coded× (coded_list coded_ℕ) (coded_list coded_ℕ))))))
    (λ n. (n.sizes, (n.number, (n.program, (n.share, (n.copy_ages, n.memory_ages))))))
    (λ p. record { sizes = p.0; number = p.1.0; program = p.1.1.0; share = p.1.1.1.0; copy_ages = p.1.1.1.1.0; memory_ages = p.1.1.1.1.1 }) (λ _. refl)
