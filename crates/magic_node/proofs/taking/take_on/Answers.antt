-- A message's act: its row, and behind a Get that asks for it, a line is called in.
use Rattle.std.proofs.Common.{◌≡◌, ◌+◌, ℕ, true, Some, None, Ok, refl, sym, ap, ◌∙◌, subst}
use Rattle.std.proofs.lemmas.Result.{err_from_is_err_and}
use Rattle.line_map.specs.Sizes.{home_of}
use Rattle.op_model.specs.Messages.{msg_line, msg_content}
use Rattle.op_model.specs.MessageWords.{words_behind}
use Rattle.op_model.specs.Shares.{Share, header_of, line_share, room_of, header_in}
use Rattle.op_model.specs.Events.Node.{TakeFrom, asks_victim, fits_victim, local, permit}
use Rattle.op_model.specs.Tables.Processor.{call_in, reclaim}
use Rattle.op_model.proofs.Public.{refused-for}
use Rattle.dir_header.specs.HomeSides.{header_at, room_in}
use Rattle.node_share.specs.Parts.{AreHeaders, DoesRow, HasRoom}
use Rattle.node_share.specs.Effects.{Acts}
use Rattle.node_share.proofs.Public.{home-headers, on-ok}
use Rattle.magic_node.specs.Nodes.{node_share}
use Rattle.magic_node.proofs.Taken.{takes, allowed-none, allowed-victim, fits-here, takes-victim, room-left, headers-stay, calls-victim, is-done}
use Rattle.magic_node.proofs.taking.take_on.Goals as goal

pub returns-in_err-can_take_on-clause-refused : goal.returns-in_err-can_take_on-clause-refused
returns-in_err-can_take_on-clause-refused g c =
    let home = c.args.home.now in
    let share = node_share c.args.proc.now c.args.cache.now home in
    let p = err_from_is_err_and c.from_residual.result c.from_residual.ensures.1 in
    rw (p.1, p.2) (refused-for (local home.charge home.sizes c.args.number c.args.proc.now.program share (TakeFrom c.args.src c.args.msg.now c.args.victim)) c.in_err-can_take_on.field-0.0 c.in_err-can_take_on.ensures)

pub begin-requires-clause-line : goal.begin-requires-clause-line
begin-requires-clause-line g c =
    let home = c.args.home.now in
    let share = node_share c.args.proc.now c.args.cache.now home in
    let may = allowed-victim home.charge home.sizes c.args.number c.args.proc.now.program c.args.proc.now.place (words_behind (msg_content c.args.msg.now)) share c.args.src c.args.msg.now c.in-Some.line (c.in_ok-can_take_on.ensures ∙ ap (λ v. permit (local home.charge home.sizes c.args.number c.args.proc.now.program share (TakeFrom c.args.src c.args.msg.now v))) c.in-Some.is) in
    ap (λ h. home_of h.sizes c.in-Some.line) c.handle-effect.ensures.home ∙ fits-here home.charge home.sizes c.args.number share c.in-Some.line may.1 ∙ sym (ap (λ h. h.node) c.handle-effect.ensures.home ∙ c.requires.node.node)

pub begin-requires-clause-room : goal.begin-requires-clause-room
begin-requires-clause-room g c =
    let home = c.args.home.now in
    let share = node_share c.args.proc.now c.args.cache.now home in
    let may = allowed-victim home.charge home.sizes c.args.number c.args.proc.now.program c.args.proc.now.place (words_behind (msg_content c.args.msg.now)) share c.args.src c.args.msg.now c.in-Some.line (c.in_ok-can_take_on.ensures ∙ ap (λ v. permit (local home.charge home.sizes c.args.number c.args.proc.now.program share (TakeFrom c.args.src c.args.msg.now v))) c.in-Some.is) in
    subst (λ n. HasRoom c.handle-effect.new.out n) (sym (ap (λ h. h.sizes.nodes) c.handle-effect.ensures.home))
    (room-left home.charge home.sizes c.args.number c.args.proc.now.program c.args.proc.now.place (words_behind (msg_content c.args.msg.now)) share c.args.src c.args.msg.now may.0
    (node_share c.handle-effect.new.proc c.handle-effect.new.cache c.handle-effect.new.home) c.args.out.now c.handle-effect.new.out home.sizes.nodes c.handle-effect.ensures.row c.requires.space)

pub returns-in_default-clause-done : goal.returns-in_default-clause-done
unfolding header_in
returns-in_default-clause-done g c =
    let home = c.args.home.now in
    let share = node_share c.args.proc.now c.args.cache.now home in
    let new = node_share c.handle-effect.new.proc c.handle-effect.new.cache c.handle-effect.new.home in
    subst (λ v. Acts c.args.number c.args.proc.now.program c.args.proc.now.place (words_behind (msg_content c.args.msg.now)) (local home.charge home.sizes c.args.number c.args.proc.now.program share (TakeFrom c.args.src c.args.msg.now v)) new c.args.out.now c.handle-effect.new.out c.handle-effect.result) (sym c.in_default.is)
    (takes home.charge home.sizes c.args.number c.args.proc.now.program c.args.proc.now.place (words_behind (msg_content c.args.msg.now)) share c.args.src c.args.msg.now
    new c.args.out.now c.handle-effect.new.out c.handle-effect.result c.requires.met (allowed-none home.charge home.sizes c.args.number c.args.proc.now.program c.args.proc.now.place (words_behind (msg_content c.args.msg.now)) share c.args.src c.args.msg.now (c.in_ok-can_take_on.ensures ∙ ap (λ v. permit (local home.charge home.sizes c.args.number c.args.proc.now.program share (TakeFrom c.args.src c.args.msg.now v))) c.in_default.is)) c.handle-effect.ensures.row c.handle-effect.ensures.effect)

pub returns-clause-done : goal.returns-clause-done
unfolding header_in
returns-clause-done g c =
    let home = c.args.home.now in
    let share = node_share c.args.proc.now c.args.cache.now home in
    let mid = node_share c.handle-effect.new.proc c.handle-effect.new.cache c.handle-effect.new.home in
    let mid_home = c.handle-effect.new.home in
    let new = node_share c.handle-effect.new.proc c.handle-effect.new.cache c.begin.new.home in
    let program = c.args.proc.now.program in
    let place = c.args.proc.now.place in
    let brought = words_behind (msg_content c.args.msg.now) in
    let m = c.args.msg.now in
    let line = c.in-Some.line in
    let may = allowed-victim home.charge home.sizes c.args.number c.args.proc.now.program c.args.proc.now.place (words_behind (msg_content c.args.msg.now)) share c.args.src c.args.msg.now c.in-Some.line (c.in_ok-can_take_on.ensures ∙ ap (λ v. permit (local home.charge home.sizes c.args.number c.args.proc.now.program share (TakeFrom c.args.src c.args.msg.now v))) c.in-Some.is) in
    let asked : asks_victim home.charge home.sizes c.args.number share c.args.src m ≡ true = may.0 in
    let fit : fits_victim home.charge home.sizes c.args.number share line ≡ true = may.1 in
    let stay = headers-stay home.charge home.sizes c.args.number program place brought share c.args.src m asked mid c.args.out.now c.handle-effect.new.out c.handle-effect.ensures.row (subst (λ k. AreHeaders home.sizes k home.headers) c.requires.node.node (home-headers (g.D.Sharers.directory home.dir) home c.cfg-seen.ensures.kept)) in
    let allowed = calls-victim home.charge home.sizes c.args.number program place brought share c.args.src m asked line mid fit stay in
    let can = is-done c.begin.result (room_in mid_home) (header_at mid_home line) (line_share mid_home.sizes mid line) refl
    (subst (λ z. reclaim (room_of mid_home.charge z mid) (line_share z mid line) ≡ Ok (call_in (line_share z mid line))) (sym (ap (λ h. h.sizes) c.handle-effect.ensures.home))
    (subst (λ k. reclaim (room_of k home.sizes mid) (line_share home.sizes mid line) ≡ Ok (call_in (line_share home.sizes mid line))) (sym (ap (λ h. h.charge) c.handle-effect.ensures.home)) allowed))
    c.begin.ensures.allowed in
    let called = on-ok c.begin.result can c.begin.ensures.done c.handle-effect.new.proc c.handle-effect.new.cache.copies c.cfg-kept.ensures.kept.held in
    let calls : DoesRow home.sizes c.args.number mid new c.handle-effect.new.out c.begin.new.out line call_in =
    subst (λ k. DoesRow home.sizes k mid new c.handle-effect.new.out c.begin.new.out line call_in) (ap (λ h. h.node) c.handle-effect.ensures.home ∙ c.requires.node.node)
    (subst (λ z. DoesRow z mid_home.node mid new c.handle-effect.new.out c.begin.new.out line call_in) (ap (λ h. h.sizes) c.handle-effect.ensures.home) called) in
    subst (λ v. Acts c.args.number program place brought (local home.charge home.sizes c.args.number program share (TakeFrom c.args.src m v)) new c.args.out.now c.begin.new.out c.handle-effect.result) (sym c.in-Some.is)
    (takes-victim home.charge home.sizes c.args.number program place brought share c.args.src m
    line mid new c.args.out.now c.handle-effect.new.out c.begin.new.out c.handle-effect.result c.requires.met asked fit c.handle-effect.ensures.row c.handle-effect.ensures.effect calls)
