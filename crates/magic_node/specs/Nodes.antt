-- One node by itself: its number, its program, and its share of the state, with its directory as the directory's own contracts see it.
use Rattle.std.specs.Prelude.{◌≡◌, ℕ, ◌<◌, Bool, true, false, List, All}
use Rattle.line_map.specs.Sizes.{Sizes, AreSizes, all_lines, home_of}
use Rattle.op_model.specs.declared.messages.Msg.{Msg}
use Rattle.op_model.specs.declared.operations.Op.{Op}
use Rattle.op_model.specs.Messages.{Content, Get, GetX, Wb, Rpl, InvAck, ShWb, FAck, Nakc}
use Rattle.op_model.specs.OwnPart.{IsOwnPart}
use Rattle.op_model.specs.Shares.{Charge, Share}
use Rattle.op_model.specs.Events.Node.{Input, HitNext, IssueNext, EvictLine, ReclaimLine}
use Rattle.op_model.specs.Programs.{IsProgramOf}
use Rattle.cpu_cache.specs.Caches.{CacheView}
use Rattle.cpu_cache.specs.Processors.{ProcView}
use Rattle.dir_header.specs.HomeSides.{HomeView}
use Rattle.msg_words.specs.SendList.{SendList}
use Rattle.message_range.specs.Fitting.{IsShareOf}
use Rattle.node_share.specs.Parts.{share_of, sent}
use Rattle.magic_node.specs.declared.acts.LocalEvent.{LocalEvent}
use Rattle.magic_node.specs.declared.acts.LocalEvent.TheVariants.{Hit, Issue, Evict, Reclaim}

-- the machine, the node, its program, whether lists cost links, its share, and its directory
pub record MagicView (D : Type 0) : Type 0 where
  pub sizes : Sizes
  pub number : ℕ
  pub program : List Op
  pub charge : Charge
  pub share : Share
  pub dir : D

abbrev pub node_share : {D : Type 0} → ProcView → CacheView → HomeView D → Share
node_share proc cache home = share_of proc cache.copies home.headers

abbrev pub magic_view : {D : Type 0} → ℕ → ProcView → CacheView → HomeView D → MagicView D
magic_view number proc cache home = record { sizes = home.sizes; number = number; program = proc.program; charge = home.charge; share = node_share proc cache home; dir = home.dir }

-- the parts of one node: of one machine, its program its own, and its share as each node's and of this machine
pub record IsMagicNode {D : Type 0} (number : ℕ) (proc : ProcView) (cache : CacheView) (home : HomeView D) : Type 0 where
  pub same : cache.sizes ≡ home.sizes
  pub node : home.node ≡ number
  pub numbered : number < home.sizes.nodes
  pub program : IsProgramOf home.sizes number proc.program
  pub own : IsOwnPart home.charge home.sizes number proc.program (node_share proc cache home)
  pub sizes : AreSizes home.sizes
  pub fits : IsShareOf home.sizes (node_share proc cache home)

-- the act of a node that an event is. For an eviction, whether the lane to the line's home has room
abbrev pub input_of : LocalEvent → Bool → Input
input_of Hit room = HitNext
input_of Issue room = IssueNext
input_of (Evict line kind) room = EvictLine line kind room
input_of (Reclaim line) room = ReclaimLine line

-- an evicted line is one of the machine, and a reclaimed line is of this home
abbrev pub FitsEvent : Sizes → ℕ → LocalEvent → Type 0
FitsEvent sizes node (Evict line kind) = line < all_lines sizes
FitsEvent sizes node (Reclaim line) = home_of sizes line ≡ node
FitsEvent sizes node _ = Unit {0}

-- each message that was put at the end of a list is so
pub record HasSent (IsSo : ℕ × Msg → Type 0) (out out' : SendList) : Type 0 where
  pub sends : List (ℕ × Msg)
  pub are : out' ≡ sent out sends
  pub each : All IsSo sends

-- whether a message is one that only the home of its line takes
abbrev pub is_for_home : Content → Bool
is_for_home Get = true
is_for_home GetX = true
is_for_home (Wb words) = true
is_for_home Rpl = true
is_for_home InvAck = true
is_for_home (ShWb words) = true
is_for_home FAck = true
is_for_home Nakc = true
is_for_home _ = false
