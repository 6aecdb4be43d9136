-- Runs in which nothing turns on links.
use Rattle.std.specs.Prelude.{◌≡◌, Bool, false, not, ◌&&◌, ◌||◌, List, Option, Some}
use Rattle.std.specs.List.{All, list_any}
use Rattle.line_map.specs.Sizes.{Sizes}
use Rattle.op_model.specs.declared.events.Event.{Event}
use Rattle.op_model.specs.declared.events.Event.TheVariants.{Take}
use Rattle.op_model.specs.declared.messages.Msg.{Msg}
use Rattle.op_model.specs.declared.messages.NakCause.TheVariants.{Budget, NoLink}
use Rattle.op_model.specs.Messages.{msg_line, msg_content}
use Rattle.op_model.specs.Lines.{is_pending}
use Rattle.op_model.specs.Shares.{Trace, program, Charge, Linked, State, header_of, room_of}
use Rattle.op_model.specs.Tables.Refusals.{wants_link}
use Rattle.op_model.specs.Events.Node.{NodeOutcome, meets_row}
use Rattle.op_model.specs.Run.Runs.{Past, start, run}
use Rattle.op_model.specs.Run.Counts.{Moment, moments, is_nak, is_reclaim, taken_by}

-- a Get of a line that isn't pending, which needs a link where none is free: rows H2, H3 and H4
abbrev pub finds_no_link : Sizes → State → Event → Option Msg → Bool
finds_no_link sizes state (Take src dst class victim) (Some m) =
    let share = state.share dst in
    let header = header_of sizes share (msg_line m) in
    meets_row sizes dst share src m && (not (is_pending header) && wants_link (room_of Linked sizes share) src (msg_content m) header)
finds_no_link sizes state _ _ = false

-- what a node does refuses a request as NoLink, as H2 and H4 do, or as Budget, as H3 does
abbrev pub refuses_for_room : NodeOutcome → Bool
refuses_for_room out = list_any (λ send. is_nak NoLink (msg_content send.1) || is_nak Budget (msg_content send.1)) out.sends

-- an event that turns on links: one by row H2, H3 or H4, or a Reclaim
abbrev pub turns_on_links : Sizes → State → Event → Bool
turns_on_links sizes state event = is_reclaim event || finds_no_link sizes state event (taken_by state event)

-- the events of a trace from the start, each with the state before it and what it does
abbrev pub trace_moments : Charge → Trace → List Event → List Moment
trace_moments charge trace events = moments charge trace.sizes (program trace) (start trace.sizes).state events

-- none of these turns on links
abbrev pub AreLinkless : Sizes → List Moment → Type 0
AreLinkless sizes these = All (λ moment. turns_on_links sizes moment.before moment.event ≡ false) these

-- the events run over lists that cost links, and none of them turns on links
pub record IsLinkless (trace : Trace) (events : List Event) (past : Past) : Type 0 where
  pub ran : run Linked trace events ≡ Some past
  pub free : AreLinkless trace.sizes (trace_moments Linked trace events)
