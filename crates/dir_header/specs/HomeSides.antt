-- The home's part of a node as contracts see it, in the words of the state: headers of its lines, and its directory.
use Rattle.std.specs.Prelude.{◌≡◌, ℕ, ◌-◌, ◌<◌, ◌≤◌, ◌%◌, ◌↔◌, Bool, true, ◌&&◌, if◌then◌else◌, length, replicate, is_some}
use Rattle.std.specs.FinMap as fin
use Rattle.line_map.specs.Sizes.{Sizes, home_of}
use Rattle.op_model.specs.Nodes.{Nodes, listed, unlist, count, none}
use Rattle.op_model.specs.declared.state.Wait.{Wait}
use Rattle.op_model.specs.Lines.{Header, Room}
use Rattle.op_model.specs.Shares.{Headers, header_in, pending_among, links_among, room_among}
use Rattle.op_model.specs.Events.Node.{fits_among}
use Rattle.op_model.specs.Tables.Remote.{is_invalidate}
use Rattle.dir_header.specs.Sharers.{Directory, Charge, Linked, IsDirectory, list_at, held_in}
pub use Rattle.dir_header.specs.declared.header.Header.{Header as Fields}

-- the machine, the node, whether lists cost links, the directory as its own contracts see it, and the headers of the node's lines
pub record HomeView (D : Type 0) : Type 0 where
  pub sizes : Sizes
  pub node : ℕ
  pub charge : Charge
  pub dir : D
  pub headers : Headers

-- the header of a line
abbrev pub header_at : {D : Type 0} → HomeView D → ℕ → Header
header_at home line = header_in home.sizes home.headers line

-- the fields of a header that aren't kept in the directory or in memory
abbrev pub fields : Header → Fields
fields header = record { local = header.local; dirty = header.dirty; wait = header.wait; acks = header.acks }

-- the room that a home has
abbrev pub room_in : {D : Type 0} → HomeView D → Room
room_in home = room_among home.charge home.sizes home.headers

-- how many lines are pending
abbrev pub pending_in : {D : Type 0} → HomeView D → ℕ
pending_in home = pending_among home.headers

-- whether a line holds a link and isn't pending
abbrev pub is_victim : {D : Type 0} → HomeView D → ℕ → Bool
is_victim home line = fits_among home.charge home.sizes home.node home.headers line

-- a home with another header of a line
abbrev pub with_header : {D : Type 0} → HomeView D → ℕ → Header → HomeView D
with_header home line header = record home { headers = fin.insert home.headers line header }

-- a home whose directory is then this one, with another list of a line
abbrev pub relisted : {D : Type 0} → HomeView D → D → ℕ → Nodes → HomeView D
relisted home dir line list = record home { dir = dir; headers = fin.insert home.headers line (record (header_at home line) { list = list }) }

-- a header that has lost a node of its list. Where its acknowledgement is due, that is due no more
abbrev pub unlisted : Header → ℕ → Header
unlisted header node =
    record header { list = unlist header.list node; acks = (if is_invalidate header.wait && listed header.list node then header.acks - 1 else header.acks) }

-- a header that begins to wait
abbrev pub made_pending : Header → Wait → Header
made_pending header wait = record header { wait = wait; acks = (if is_invalidate wait then count header.list else 0) }

-- What each home keeps: a header for each of its lines and for none else, with the list that the directory has and as many words
-- as a line; acknowledgements are due of each listed node; few enough lines are pending; links held are those that the directory says
pub record IsHome {D : Type 0} (dir : Directory) (home : HomeView D) : Type 0 where
  pub numbered : home.node < home.sizes.nodes
  pub charge : dir.charge ≡ home.charge
  pub links : dir.links ≡ home.sizes.links
  pub bound : home.sizes.nodes ≤ dir.nodes
  pub lines : length dir.lists ≡ home.sizes.lines
  pub dir_kept : IsDirectory dir
  pub own : (line : ℕ) → is_some (fin.get home.headers line) ≡ true ↔ home_of home.sizes line ≡ home.node
  pub lists : (line : ℕ) → home_of home.sizes line ≡ home.node → (header_at home line).list ≡ list_at dir (line % home.sizes.lines)
  pub below : (line q : ℕ) → home_of home.sizes line ≡ home.node → listed (header_at home line).list q ≡ true → q < home.sizes.nodes
  pub acks : (line : ℕ) → home_of home.sizes line ≡ home.node → is_invalidate (header_at home line).wait ≡ true → (header_at home line).acks ≡ count (header_at home line).list
  pub width : (line : ℕ) → home_of home.sizes line ≡ home.node → length (header_at home line).memory ≡ home.sizes.words
  pub few : pending_in home ≤ home.sizes.pending
  pub held : home.charge ≡ Linked → links_among home.headers ≡ held_in dir

-- a directory for a home of this machine, in which every list is empty
pub record IsFresh (sizes : Sizes) (dir : Directory) : Type 0 where
  pub lists : dir.lists ≡ replicate sizes.lines none
  pub links : dir.links ≡ sizes.links
  pub bound : sizes.nodes ≤ dir.nodes
