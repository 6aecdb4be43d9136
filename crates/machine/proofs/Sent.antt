-- What an event sends fits the machine: its node's share does, and so does the message that it takes.
use Rattle.std.proofs.Common.{◌≡◌, ℕ, ◌<◌, List, subst, arith, Some, Ok}
use Rattle.std.specs.List.{All}
use Rattle.std.proofs.lemmas.List.Elements.{All-head}
use Rattle.std.proofs.lemmas.Bool.Decides.{nat_tests}
use Rattle.line_map.specs.Sizes.{AreSizes}
use Rattle.op_model.specs.declared.events.Event.{Event}
use Rattle.op_model.specs.Events.Node.{Input, HitNext, IssueNext, EvictLine, TakeFrom, ReclaimLine}
use Rattle.op_model.specs.Events.Step.{Done, effect}
use Rattle.op_model.specs.MessageWords.{IsMsgOf}
use Rattle.op_model.specs.Run.Runs.{Past, run}
use Rattle.op_model.specs.Shares.{Charge, Trace, program}
use Rattle.node_range.specs.Range.{IsOfMachine, IsRanged}
use Rattle.node_range.proofs.Public.{ranged-run}
use Rattle.own_part.proofs.Public.{own_run}
use Rattle.message_range.specs.Fitting.{IsInputOf, IsInputForOther, IsMsgForOther, IsSentOf}
use Rattle.message_range.proofs.Public.{IsActed, IsDone, IsGiven, done-by, every-act, filled}
use Rattle.message_range.proofs.Public.{messages_for_others, messages_of_machine, program-of, share-fits}

module _ (charge : Charge) (trace : Trace) (all : IsOfMachine trace) (are : AreSizes trace.sizes) (events : List Event) (past : Past) (ran : run charge trace events ≡ Some past) (event : Event) (d : Done)
    (does : effect charge trace.sizes (program trace) past.state event ≡ Ok d) (at : d.node < trace.sizes.nodes) where
  done : IsDone charge trace past.state d
  done = done-by charge trace past.state event d does

  positive : 0 < trace.sizes.words
  positive = let n = are.words in grind (arith, nat_tests)

  ranged : IsRanged trace.sizes past.state
  ranged = ranged-run charge trace all events past positive ran

  taken : (input : Input) → IsGiven trace.sizes past.state d.node input → IsInputOf trace.sizes input × IsInputForOther d.node input
  taken HitNext given = (tt, tt)
  taken IssueNext given = (tt, tt)
  taken (EvictLine line kind room) given = (tt, tt)
  taken (TakeFrom src m victim) given =
      let of = subst (All (IsMsgOf trace.sizes)) given.2 (messages_of_machine charge trace events past are ran src d.node given.0 all) in
      let asks = subst (All (IsMsgForOther d.node)) given.2 (messages_for_others charge trace events past are ran src d.node given.0 all) in
      (((filled charge trace all past.state ranged d.node src given.0 m given.1 given.2).0, All-head (IsMsgOf trace.sizes) m given.1 of), All-head (IsMsgForOther d.node) m given.1 asks)
  taken (ReclaimLine line) given = (tt, tt)

  acted : IsActed trace.sizes d.node (IsInputForOther d.node done.input) d.out
  acted =
      every-act charge trace.sizes d.node (program trace d.node) (past.state.share d.node) done.input d.out are at (program-of trace all d.node) (own_run charge trace events past d.node ran) (share-fits charge trace events past d.node all are ran)
      (taken done.input done.given).0 done.does

  pub sent-in : All (IsSentOf trace.sizes) d.out.sends
  sent-in = acted.sent
