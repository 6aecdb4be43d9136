-- The node is as the state of the run has it.
use Rattle.std.proofs.Common.{◌≡◌, ◌∙◌, None, Some, ap, refl, sym}
use Rattle.line_map.specs.Sizes.{Sizes, home_of, line_of}
use Rattle.op_model.specs.declared.events.Event.TheVariants.{Evict, Issue}
use Rattle.op_model.specs.Lines.{state_of}
use Rattle.op_model.specs.Shares.{copy_in}
use Rattle.cpu_cache.specs.Caches.{CacheView}
use Rattle.machine.proofs.Public.{copy-is}
use Rattle.eager_machine.proofs.ProcessorEvents.{evicts, hits, makes-room}
use Rattle.eager_machine.proofs.serial.processor_event.Goals as goal

pub returns-then-is_ok-clause-value : goal.returns-then-is_ok-clause-value
returns-then-is_ok-clause-value c = λ past ran.
    hits c.args.m.now past.state c.args.op c.node-node.result.now (c.node-node.ensures.node past ran) c.can_do.result c.can_do.ensures (sym c.is_ok.ensures.value ∙ c.if-is_ok.true)

pub returns-in-Some-clause-value : goal.returns-in-Some-clause-value
returns-in-Some-clause-value c = λ past ran.
    let m = c.args.m.now in
    let node = c.node-node.result.now in
    let is = c.node-node.ensures.node past ran in
    let cfg = c.cfg-cfg.ensures.value in
    let line = c.line_of.ensures.value ∙ ap (line_of c.cfg-cfg.result) c.addr_of.ensures ∙ ap (λ (s : Sizes). line_of s c.args.op.word) cfg in
    let home = c.home_of.ensures.value ∙ ap (λ (s : Sizes). home_of s c.in-Some.other) cfg in
    let copy = ap state_of (copy-is m.sizes node.share c.in-Some.other) ∙ sym (c.look.ensures.value ∙ ap (λ (v : CacheView). state_of (copy_in v.copies c.in-Some.other)) c.cache.ensures) in
    makes-room m past.state c.args.op node is c.can_do.result c.can_do.ensures (sym c.is_ok.ensures.value ∙ c.if-is_ok.false) c.line_of.result (Some c.in-Some.other) (Evict c.args.op.node c.in-Some.other c.eviction_kind.result) line c.in-Some.ensures.value
    (evicts m past.state c.args.op node is c.can_do.result c.can_do.ensures c.in-Some.other c.home_of.result c.look.result c.eviction_kind.result home copy c.eviction_kind.ensures)

pub returns-in-None-clause-value : goal.returns-in-None-clause-value
returns-in-None-clause-value c = λ past ran.
    let m = c.args.m.now in
    let line = c.line_of.ensures.value ∙ ap (line_of c.cfg-cfg.result) c.addr_of.ensures ∙ ap (λ (s : Sizes). line_of s c.args.op.word) c.cfg-cfg.ensures.value in
    makes-room m past.state c.args.op c.node-node.result.now (c.node-node.ensures.node past ran) c.can_do.result c.can_do.ensures (sym c.is_ok.ensures.value ∙ c.if-is_ok.false) c.line_of.result None (Issue c.args.op.node) line c.in-None.ensures.value refl
