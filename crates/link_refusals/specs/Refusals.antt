-- A refusal for want of a link, and a pending line that holds a link.
use Rattle.std.specs.Prelude.{◌≡◌, ℕ, ◌<◌, Bool, true}
use Rattle.std.specs.List.{list_any}
use Rattle.line_map.specs.Sizes.{Sizes, home_of}
use Rattle.op_model.specs.Nodes.{count}
use Rattle.op_model.specs.declared.messages.NakCause.TheVariants.{NoLink}
use Rattle.op_model.specs.Messages.{msg_content}
use Rattle.op_model.specs.Lines.{is_pending}
use Rattle.op_model.specs.Shares.{State, header_of}
use Rattle.op_model.specs.Events.Node.{NodeOutcome}
use Rattle.op_model.specs.Run.Counts.{is_nak}

-- what a node does refuses a request for want of a link
abbrev pub refuses_link : NodeOutcome → Bool
refuses_link out = list_any (λ send. is_nak NoLink (msg_content send.1)) out.sends

-- a pending line of this home lists several nodes, and so holds a link
pub record IsLinkPending (sizes : Sizes) (state : State) (home : ℕ) : Type 0 where
  pub line : ℕ
  pub of_home : home_of sizes line ≡ home
  pub pending : is_pending (header_of sizes (state.share home) line) ≡ true
  pub several : 1 < count (header_of sizes (state.share home) line).list
