-- One node without its directory, as the tables see it, and what it does with an input.
use Rattle.std.specs.Prelude.{ℕ, List, Result}
use Rattle.line_map.specs.Sizes.{Sizes}
use Rattle.op_model.specs.declared.events.Cause.{Cause}
use Rattle.op_model.specs.declared.operations.Op.{Op}
use Rattle.op_model.specs.Shares.{Charge, Share}
use Rattle.op_model.specs.Events.Node.{Input, NodeOutcome, local}
use Rattle.op_model.specs.Run.Runs.{start_share}
use Rattle.cpu_cache.specs.Caches.{CacheView}
use Rattle.cpu_cache.specs.Processors.{ProcView}
use Rattle.dir_header.specs.HomeSides.{HomeView}
use Rattle.magic_node.specs.Nodes.{MagicView}

-- a node: its machine, its number, its program, whether its lists cost links, and its share
pub record Face : Type 0 where
  pub sizes : Sizes
  pub number : ℕ
  pub program : List Op
  pub charge : Charge
  pub share : Share

abbrev pub face_of : {D : Type 0} → MagicView D → Face
face_of node = record { sizes = node.sizes; number = node.number; program = node.program; charge = node.charge; share = node.share }

abbrev pub dir_of : {D : Type 0} → MagicView D → D
dir_of node = node.dir

-- a node that has done nothing
abbrev pub start_face : Sizes → ℕ → List Op → Charge → Face
start_face sizes node program charge = record { sizes = sizes; number = node; program = program; charge = charge; share = start_share sizes node }

-- what the node does with an input, or why not
abbrev pub outcome_at : Face → Input → Result NodeOutcome Cause
outcome_at face input = local face.charge face.sizes face.number face.program face.share input

-- what is read of a node
abbrev pub proc_of : Face → ProcView
proc_of face = record { program = face.program; place = face.share.place; want = face.share.want }

abbrev pub cache_of : Face → CacheView
cache_of face = record { sizes = face.sizes; copies = face.share.copies }

abbrev pub home_side : {D : Type 0} → Face → D → HomeView D
home_side face dir = record { sizes = face.sizes; node = face.number; charge = face.charge; dir = dir; headers = face.share.headers }
