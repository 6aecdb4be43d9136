-- One node of the eager core by itself, without ages.
use Rattle.std.specs.Prelude.{◌≡◌, ℕ, ◌<◌, Bool, true, false, List}
use Rattle.line_map.specs.Sizes.{Sizes, AreSizes, home_of}
use Rattle.op_model.specs.declared.messages.Msg.{Msg}
use Rattle.op_model.specs.declared.operations.Op.{Op}
use Rattle.op_model.specs.Lines.{LineShare, Outcome, Room}
use Rattle.op_model.specs.Messages.{Content, Get, GetX, Wb, Rpl, InvAck, msg_content, msg_line}
use Rattle.op_model.specs.MessageWords.{words_behind}
use Rattle.op_model.specs.Programs.{IsProgramOf}
use Rattle.op_model.specs.Shares.{Share, Unlinked}
use Rattle.message_range.specs.Fitting.{IsShareOf}
use Rattle.eager_model.specs.Rows.{row_of}
use Rattle.eager_part.specs.Part.{IsEagerPart}
use Rattle.cpu_cache.specs.Caches.{CacheView}
use Rattle.cpu_cache.specs.Effects.{effect_of}
use Rattle.cpu_cache.specs.Processors.{ProcView}
use Rattle.cpu_cache.specs.declared.effects.Effect.{Effect}
use Rattle.dir_header.specs.HomeSides.{HomeView}
use Rattle.msg_words.specs.SendList.{SendList}
use Rattle.node_share.specs.Parts.{row_at, DoesRow}
use Rattle.magic_node.specs.Nodes.{node_share}

-- the parts of one node: of one machine, its lists cost no links, its program its own, and its share as each eager node's and of this machine
pub record IsEagerNode {D : Type 0} (number : ℕ) (proc : ProcView) (cache : CacheView) (home : HomeView D) : Type 0 where
  pub same : cache.sizes ≡ home.sizes
  pub node : home.node ≡ number
  pub numbered : number < home.sizes.nodes
  pub unlinked : home.charge ≡ Unlinked
  pub program : IsProgramOf home.sizes number proc.program
  pub own : IsEagerPart home.sizes number proc.program (node_share proc cache home)
  pub sizes : AreSizes home.sizes
  pub fits : IsShareOf home.sizes (node_share proc cache home)

-- the row that a message from this sender meets
abbrev pub row_met : Sizes → ℕ → ℕ → Room → Msg → LineShare → Outcome
row_met sizes number src room m = row_of number (home_of sizes (msg_line m)) src room (msg_content m)

-- the row that a message meets is done
abbrev pub DoesMessage : Sizes → ℕ → ℕ → Room → Msg → Share → Share → SendList → SendList → Type 0
DoesMessage sizes number src room m old new out out' = DoesRow sizes number old new out out' (msg_line m) (row_met sizes number src room m)

-- what is told of operations by the row that a message meets
abbrev pub told_of : Sizes → ℕ → ℕ → Room → Msg → List Op → Share → Effect
told_of sizes number src room m program share = effect_of number program share.place (words_behind (msg_content m)) (row_at sizes number share (msg_line m) (row_met sizes number src room m))

-- whether a message asks a home for a line, acknowledges a call, or gives a copy back
abbrev pub is_for_list : Content → Bool
is_for_list Get = true
is_for_list GetX = true
is_for_list InvAck = true
is_for_list (Wb words) = true
is_for_list Rpl = true
is_for_list _ = false
