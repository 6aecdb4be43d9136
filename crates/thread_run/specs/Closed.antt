-- A box when the roles have ended and its program is done.
use Rattle.std.specs.Prelude.{◌≡◌, ℕ, ◌%◌, List, length}
use Rattle.line_map.specs.Sizes.{home_of}
use Rattle.op_model.specs.declared.events.Numbered.{Numbered}
use Rattle.op_model.specs.Shares.{header_of}
use Rattle.dir_header.specs.Sharers.{list_at}
use Rattle.sharer_dir.specs.Linked.{IsLinkedDir, linked_directory}
use Rattle.lane_table.specs.Views.{TableView, SeatView}
use Rattle.node_box.specs.Boxes.{LinkedNode, BoxView, IsBox}

-- the node has completed its program
abbrev pub IsDone : LinkedNode → Type 0
IsDone node = node.share.place ≡ length node.program

-- Each list of the node's directory stands for a set, and each link is free or in the list of one line; and that set is the one of the
-- line's header
pub record IsSoundNode (node : LinkedNode) : Type 0 where
  pub links : IsLinkedDir node.dir
  pub lists : (line : ℕ) → home_of node.sizes line ≡ node.number → (header_of node.sizes node.share line).list ≡ list_at (linked_directory node.dir) (line % node.sizes.lines)

-- a box of this table whose node is sound and has completed its program
pub record IsClosed (table : TableView) (box : BoxView) : Type 0 where
  pub kept : IsBox table box
  pub done : IsDone box.node
  pub sound : IsSoundNode box.node

abbrev pub box_node : BoxView → LinkedNode
box_node box = box.node

abbrev pub box_entries : BoxView → List Numbered
box_entries box = box.log.entries

abbrev pub box_seat : BoxView → SeatView
box_seat box = box.seat
