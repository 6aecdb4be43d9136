-- The first row that holds is done.
use Rattle.std.proofs.Common.{◌≡◌, true, false, cond, [], refl, sym, ap, ◌∙◌}
use Rattle.op_model.specs.declared.messages.NakCause.TheVariants.{Pending, Budget}
use Rattle.op_model.specs.Lines.{is_idle, words_of}
use Rattle.op_model.specs.Shares.{copy_of, header_of, header_in, copy_in}
use Rattle.op_model.specs.Tables.Home.{on_get as get_row, lacks_link, refuse, share_home_copy, share_memory, forward_get}
use Rattle.dir_header.specs.HomeSides.{header_at, room_in}
use Rattle.home_get.specs.declared.get.GetOut.TheVariants.{Put, Forwarded, Nak}
use Rattle.node_share.specs.Parts.{share_of}
use Rattle.node_share.proofs.Public.{picks, tells-for, tells-none}
use Rattle.home_get.proofs.Picks.{for_link, for_link-quiet, get-pending, get-lacks, get-copy, get-owner, get-memory, wants-pending, wants-linked, answer-is}
use Rattle.home_get.proofs.get.on_get.Goals as goal

pub returns-then-not-is_idle-clause-row : goal.returns-then-not-is_idle-clause-row
returns-then-not-is_idle-clause-row g c =
    let home = c.args.home.now in
    let room = room_in home in
    let h = header_at home c.args.line in
    let waits : is_idle h.wait ≡ false = ap (λ k. is_idle k.wait) (sym c.header-header.ensures) ∙ sym c.is_idle.ensures ∙ c.if-not-is_idle.true in
    picks home c.args.cache.now.copies (λ proc. share_of proc c.args.cache.now.copies home.headers) c.args.out.now c.refuse.new.out c.args.line (get_row room c.args.src) (refuse c.args.src Pending)
    (λ share is. get-pending room c.args.src share (ap (λ k. is_idle k.wait) is ∙ waits)) c.refuse.ensures

pub returns-then-not-is_idle-clause-answer : goal.returns-then-not-is_idle-clause-answer
returns-then-not-is_idle-clause-answer g c =
    let home = c.args.home.now in
    let room = room_in home in
    let h = header_at home c.args.line in
    let waits : is_idle h.wait ≡ false = ap (λ k. is_idle k.wait) (sym c.header-header.ensures) ∙ sym c.is_idle.ensures ∙ c.if-not-is_idle.true in
    λ proc. answer-is home c.args.cache.now.copies c.args.src c.args.line proc (refuse c.args.src Pending) (Nak Pending) (λ share is. get-pending room c.args.src share (ap (λ k. is_idle k.wait) is ∙ waits)) (λ share. refl) (wants-pending room c.args.src h waits)

pub returns-then-not-is_idle-clause-effect : goal.returns-then-not-is_idle-clause-effect
returns-then-not-is_idle-clause-effect g c =
    let home = c.args.home.now in
    let room = room_in home in
    let h = header_at home c.args.line in
    let waits : is_idle h.wait ≡ false = ap (λ k. is_idle k.wait) (sym c.header-header.ensures) ∙ sym c.is_idle.ensures ∙ c.if-not-is_idle.true in
    λ proc. c.no_effect.ensures ∙ tells-none home c.args.cache.now.copies c.args.line [] (get_row room c.args.src) (refuse c.args.src Pending) (λ share is. get-pending room c.args.src share (ap (λ k. is_idle k.wait) is ∙ waits)) proc refl refl

pub returns-then-lacks_link-clause-effect : goal.returns-then-lacks_link-clause-effect
returns-then-lacks_link-clause-effect g c =
    let home = c.args.home.now in
    let room = room_in home in
    let h = header_at home c.args.line in
    let idle : is_idle h.wait ≡ true = ap (λ k. is_idle k.wait) (sym c.header-header.ensures) ∙ sym c.is_idle.ensures ∙ c.if-not-is_idle.false in
    let lacks : lacks_link room c.args.src h ≡ true = sym c.lacks_link.ensures ∙ c.if-lacks_link.true in
    λ proc. c.no_effect-then-lacks_link.ensures ∙ tells-none home c.args.cache.now.copies c.args.line [] (get_row room c.args.src) (for_link room c.args.src) (λ share is. get-lacks room c.args.src share (ap (λ k. is_idle k.wait) is ∙ idle) (ap (lacks_link room c.args.src) is ∙ lacks)) proc (for_link-quiet room c.args.src _).0 (for_link-quiet room c.args.src _).1

pub returns-then-header-2-clause-row : goal.returns-then-header-2-clause-row
returns-then-header-2-clause-row g c =
    let home = c.args.home.now in
    let room = room_in home in
    let h = header_at home c.args.line in
    let idle : is_idle h.wait ≡ true = ap (λ k. is_idle k.wait) (sym c.header-header.ensures) ∙ sym c.is_idle.ensures ∙ c.if-not-is_idle.false in
    let lacks : lacks_link room c.args.src h ≡ false = sym c.lacks_link.ensures ∙ c.if-lacks_link.false in
    let dirty : h.dirty ≡ true = ap (λ k. k.dirty) (sym c.header-header.ensures) ∙ c.if-header.true in
    let local : h.local ≡ true = ap (λ k. k.local) (sym c.header-header.ensures) ∙ c.if-header-2.true in
    picks home c.args.cache.now.copies (λ proc. share_of proc c.share_home_copy.new.cache.copies c.share_home_copy.new.home.headers) c.args.out.now c.share_home_copy.new.out c.args.line (get_row room c.args.src) (share_home_copy c.args.src)
    (λ share is. get-copy room c.args.src share (ap (λ k. is_idle k.wait) is ∙ idle) (ap (lacks_link room c.args.src) is ∙ lacks) (ap (λ k. k.dirty) is ∙ dirty) (ap (λ k. k.local) is ∙ local)) c.share_home_copy.ensures.row

pub returns-then-header-2-clause-answer : goal.returns-then-header-2-clause-answer
returns-then-header-2-clause-answer g c =
    let home = c.args.home.now in
    let room = room_in home in
    let h = header_at home c.args.line in
    let idle : is_idle h.wait ≡ true = ap (λ k. is_idle k.wait) (sym c.header-header.ensures) ∙ sym c.is_idle.ensures ∙ c.if-not-is_idle.false in
    let lacks : lacks_link room c.args.src h ≡ false = sym c.lacks_link.ensures ∙ c.if-lacks_link.false in
    let dirty : h.dirty ≡ true = ap (λ k. k.dirty) (sym c.header-header.ensures) ∙ c.if-header.true in
    let local : h.local ≡ true = ap (λ k. k.local) (sym c.header-header.ensures) ∙ c.if-header-2.true in
    λ proc. answer-is home c.args.cache.now.copies c.args.src c.args.line proc (share_home_copy c.args.src) (Put) (λ share is. get-copy room c.args.src share (ap (λ k. is_idle k.wait) is ∙ idle) (ap (lacks_link room c.args.src) is ∙ lacks) (ap (λ k. k.dirty) is ∙ dirty) (ap (λ k. k.local) is ∙ local)) (λ share. refl) (wants-linked room c.args.src h lacks)

pub returns-then-header-2-clause-effect : goal.returns-then-header-2-clause-effect
unfolding copy_of
returns-then-header-2-clause-effect g c =
    let home = c.args.home.now in
    let room = room_in home in
    let h = header_at home c.args.line in
    let idle : is_idle h.wait ≡ true = ap (λ k. is_idle k.wait) (sym c.header-header.ensures) ∙ sym c.is_idle.ensures ∙ c.if-not-is_idle.false in
    let lacks : lacks_link room c.args.src h ≡ false = sym c.lacks_link.ensures ∙ c.if-lacks_link.false in
    let dirty : h.dirty ≡ true = ap (λ k. k.dirty) (sym c.header-header.ensures) ∙ c.if-header.true in
    let local : h.local ≡ true = ap (λ k. k.local) (sym c.header-header.ensures) ∙ c.if-header-2.true in
    λ proc. c.share_home_copy.ensures.effect ∙ tells-for home c.args.cache.now.copies c.args.line [] (get_row room c.args.src) (share_home_copy c.args.src) (λ share is. get-copy room c.args.src share (ap (λ k. is_idle k.wait) is ∙ idle) (ap (lacks_link room c.args.src) is ∙ lacks) (ap (λ k. k.dirty) is ∙ dirty) (ap (λ k. k.local) is ∙ local)) proc c.args.src (words_of (copy_in c.args.cache.now.copies c.args.line)) refl refl

pub returns-then-forward-clause-row : goal.returns-then-forward-clause-row
returns-then-forward-clause-row g c =
    let home = c.args.home.now in
    let room = room_in home in
    let h = header_at home c.args.line in
    let idle : is_idle h.wait ≡ true = ap (λ k. is_idle k.wait) (sym c.header-header.ensures) ∙ sym c.is_idle.ensures ∙ c.if-not-is_idle.false in
    let lacks : lacks_link room c.args.src h ≡ false = sym c.lacks_link.ensures ∙ c.if-lacks_link.false in
    let dirty : h.dirty ≡ true = ap (λ k. k.dirty) (sym c.header-header.ensures) ∙ c.if-header.true in
    let local : h.local ≡ false = ap (λ k. k.local) (sym c.header-header.ensures) ∙ c.if-header-2.false in
    let full : room.full ≡ false = sym c.forward.ensures.full ∙ ap (λ b. cond b false true) c.if-forward.true in
    picks home c.args.cache.now.copies (λ proc. share_of proc c.args.cache.now.copies c.forward.new.home.headers) c.args.out.now c.forward.new.out c.args.line (get_row room c.args.src) (λ share. cond room.full (refuse c.args.src Budget share) (forward_get c.args.src share))
    (λ share is. get-owner room c.args.src share (ap (λ k. is_idle k.wait) is ∙ idle) (ap (lacks_link room c.args.src) is ∙ lacks) (ap (λ k. k.dirty) is ∙ dirty) (ap (λ k. k.local) is ∙ local)) c.forward.ensures.row

pub returns-then-forward-clause-answer : goal.returns-then-forward-clause-answer
returns-then-forward-clause-answer g c =
    let home = c.args.home.now in
    let room = room_in home in
    let h = header_at home c.args.line in
    let idle : is_idle h.wait ≡ true = ap (λ k. is_idle k.wait) (sym c.header-header.ensures) ∙ sym c.is_idle.ensures ∙ c.if-not-is_idle.false in
    let lacks : lacks_link room c.args.src h ≡ false = sym c.lacks_link.ensures ∙ c.if-lacks_link.false in
    let dirty : h.dirty ≡ true = ap (λ k. k.dirty) (sym c.header-header.ensures) ∙ c.if-header.true in
    let local : h.local ≡ false = ap (λ k. k.local) (sym c.header-header.ensures) ∙ c.if-header-2.false in
    let full : room.full ≡ false = sym c.forward.ensures.full ∙ ap (λ b. cond b false true) c.if-forward.true in
    λ proc. answer-is home c.args.cache.now.copies c.args.src c.args.line proc (forward_get c.args.src) (Forwarded) (λ share is. get-owner room c.args.src share (ap (λ k. is_idle k.wait) is ∙ idle) (ap (lacks_link room c.args.src) is ∙ lacks) (ap (λ k. k.dirty) is ∙ dirty) (ap (λ k. k.local) is ∙ local) ∙ ap (λ b. cond b (refuse c.args.src Budget share) (forward_get c.args.src share)) full) (λ share. refl) (wants-linked room c.args.src h lacks)

pub returns-then-forward-clause-effect : goal.returns-then-forward-clause-effect
returns-then-forward-clause-effect g c =
    let home = c.args.home.now in
    let room = room_in home in
    let h = header_at home c.args.line in
    let idle : is_idle h.wait ≡ true = ap (λ k. is_idle k.wait) (sym c.header-header.ensures) ∙ sym c.is_idle.ensures ∙ c.if-not-is_idle.false in
    let lacks : lacks_link room c.args.src h ≡ false = sym c.lacks_link.ensures ∙ c.if-lacks_link.false in
    let dirty : h.dirty ≡ true = ap (λ k. k.dirty) (sym c.header-header.ensures) ∙ c.if-header.true in
    let local : h.local ≡ false = ap (λ k. k.local) (sym c.header-header.ensures) ∙ c.if-header-2.false in
    let full : room.full ≡ false = sym c.forward.ensures.full ∙ ap (λ b. cond b false true) c.if-forward.true in
    λ proc. c.no_effect-then-forward.ensures ∙ tells-none home c.args.cache.now.copies c.args.line [] (get_row room c.args.src) (forward_get c.args.src) (λ share is. get-owner room c.args.src share (ap (λ k. is_idle k.wait) is ∙ idle) (ap (lacks_link room c.args.src) is ∙ lacks) (ap (λ k. k.dirty) is ∙ dirty) (ap (λ k. k.local) is ∙ local) ∙ ap (λ b. cond b (refuse c.args.src Budget share) (forward_get c.args.src share)) full) proc refl refl

pub returns-then-header-clause-row : goal.returns-then-header-clause-row
returns-then-header-clause-row g c =
    let home = c.args.home.now in
    let room = room_in home in
    let h = header_at home c.args.line in
    let idle : is_idle h.wait ≡ true = ap (λ k. is_idle k.wait) (sym c.header-header.ensures) ∙ sym c.is_idle.ensures ∙ c.if-not-is_idle.false in
    let lacks : lacks_link room c.args.src h ≡ false = sym c.lacks_link.ensures ∙ c.if-lacks_link.false in
    let dirty : h.dirty ≡ true = ap (λ k. k.dirty) (sym c.header-header.ensures) ∙ c.if-header.true in
    let local : h.local ≡ false = ap (λ k. k.local) (sym c.header-header.ensures) ∙ c.if-header-2.false in
    let full : room.full ≡ true = sym c.forward.ensures.full ∙ ap (λ b. cond b false true) c.if-forward.false in
    picks home c.args.cache.now.copies (λ proc. share_of proc c.args.cache.now.copies c.forward.new.home.headers) c.args.out.now c.forward.new.out c.args.line (get_row room c.args.src) (λ share. cond room.full (refuse c.args.src Budget share) (forward_get c.args.src share))
    (λ share is. get-owner room c.args.src share (ap (λ k. is_idle k.wait) is ∙ idle) (ap (lacks_link room c.args.src) is ∙ lacks) (ap (λ k. k.dirty) is ∙ dirty) (ap (λ k. k.local) is ∙ local)) c.forward.ensures.row

pub returns-then-header-clause-answer : goal.returns-then-header-clause-answer
returns-then-header-clause-answer g c =
    let home = c.args.home.now in
    let room = room_in home in
    let h = header_at home c.args.line in
    let idle : is_idle h.wait ≡ true = ap (λ k. is_idle k.wait) (sym c.header-header.ensures) ∙ sym c.is_idle.ensures ∙ c.if-not-is_idle.false in
    let lacks : lacks_link room c.args.src h ≡ false = sym c.lacks_link.ensures ∙ c.if-lacks_link.false in
    let dirty : h.dirty ≡ true = ap (λ k. k.dirty) (sym c.header-header.ensures) ∙ c.if-header.true in
    let local : h.local ≡ false = ap (λ k. k.local) (sym c.header-header.ensures) ∙ c.if-header-2.false in
    let full : room.full ≡ true = sym c.forward.ensures.full ∙ ap (λ b. cond b false true) c.if-forward.false in
    λ proc. answer-is home c.args.cache.now.copies c.args.src c.args.line proc (refuse c.args.src Budget) (Nak Budget) (λ share is. get-owner room c.args.src share (ap (λ k. is_idle k.wait) is ∙ idle) (ap (lacks_link room c.args.src) is ∙ lacks) (ap (λ k. k.dirty) is ∙ dirty) (ap (λ k. k.local) is ∙ local) ∙ ap (λ b. cond b (refuse c.args.src Budget share) (forward_get c.args.src share)) full) (λ share. refl) (wants-linked room c.args.src h lacks)

pub returns-then-header-clause-effect : goal.returns-then-header-clause-effect
returns-then-header-clause-effect g c =
    let home = c.args.home.now in
    let room = room_in home in
    let h = header_at home c.args.line in
    let idle : is_idle h.wait ≡ true = ap (λ k. is_idle k.wait) (sym c.header-header.ensures) ∙ sym c.is_idle.ensures ∙ c.if-not-is_idle.false in
    let lacks : lacks_link room c.args.src h ≡ false = sym c.lacks_link.ensures ∙ c.if-lacks_link.false in
    let dirty : h.dirty ≡ true = ap (λ k. k.dirty) (sym c.header-header.ensures) ∙ c.if-header.true in
    let local : h.local ≡ false = ap (λ k. k.local) (sym c.header-header.ensures) ∙ c.if-header-2.false in
    let full : room.full ≡ true = sym c.forward.ensures.full ∙ ap (λ b. cond b false true) c.if-forward.false in
    λ proc. c.no_effect-then-header.ensures ∙ tells-none home c.args.cache.now.copies c.args.line [] (get_row room c.args.src) (refuse c.args.src Budget) (λ share is. get-owner room c.args.src share (ap (λ k. is_idle k.wait) is ∙ idle) (ap (lacks_link room c.args.src) is ∙ lacks) (ap (λ k. k.dirty) is ∙ dirty) (ap (λ k. k.local) is ∙ local) ∙ ap (λ b. cond b (refuse c.args.src Budget share) (forward_get c.args.src share)) full) proc refl refl

pub returns-clause-row : goal.returns-clause-row
returns-clause-row g c =
    let home = c.args.home.now in
    let room = room_in home in
    let h = header_at home c.args.line in
    let idle : is_idle h.wait ≡ true = ap (λ k. is_idle k.wait) (sym c.header-header.ensures) ∙ sym c.is_idle.ensures ∙ c.if-not-is_idle.false in
    let lacks : lacks_link room c.args.src h ≡ false = sym c.lacks_link.ensures ∙ c.if-lacks_link.false in
    let dirty : h.dirty ≡ false = ap (λ k. k.dirty) (sym c.header-header.ensures) ∙ c.if-header.false in
    picks home c.args.cache.now.copies (λ proc. share_of proc c.args.cache.now.copies c.share_memory.new.home.headers) c.args.out.now c.share_memory.new.out c.args.line (get_row room c.args.src) (share_memory c.args.src)
    (λ share is. get-memory room c.args.src share (ap (λ k. is_idle k.wait) is ∙ idle) (ap (lacks_link room c.args.src) is ∙ lacks) (ap (λ k. k.dirty) is ∙ dirty)) c.share_memory.ensures.row

pub returns-clause-answer : goal.returns-clause-answer
returns-clause-answer g c =
    let home = c.args.home.now in
    let room = room_in home in
    let h = header_at home c.args.line in
    let idle : is_idle h.wait ≡ true = ap (λ k. is_idle k.wait) (sym c.header-header.ensures) ∙ sym c.is_idle.ensures ∙ c.if-not-is_idle.false in
    let lacks : lacks_link room c.args.src h ≡ false = sym c.lacks_link.ensures ∙ c.if-lacks_link.false in
    let dirty : h.dirty ≡ false = ap (λ k. k.dirty) (sym c.header-header.ensures) ∙ c.if-header.false in
    λ proc. answer-is home c.args.cache.now.copies c.args.src c.args.line proc (share_memory c.args.src) (Put) (λ share is. get-memory room c.args.src share (ap (λ k. is_idle k.wait) is ∙ idle) (ap (lacks_link room c.args.src) is ∙ lacks) (ap (λ k. k.dirty) is ∙ dirty)) (λ share. refl) (wants-linked room c.args.src h lacks)

pub returns-clause-effect : goal.returns-clause-effect
unfolding header_in
returns-clause-effect g c =
    let home = c.args.home.now in
    let room = room_in home in
    let h = header_at home c.args.line in
    let idle : is_idle h.wait ≡ true = ap (λ k. is_idle k.wait) (sym c.header-header.ensures) ∙ sym c.is_idle.ensures ∙ c.if-not-is_idle.false in
    let lacks : lacks_link room c.args.src h ≡ false = sym c.lacks_link.ensures ∙ c.if-lacks_link.false in
    let dirty : h.dirty ≡ false = ap (λ k. k.dirty) (sym c.header-header.ensures) ∙ c.if-header.false in
    λ proc. c.share_memory.ensures.effect ∙ tells-for home c.args.cache.now.copies c.args.line [] (get_row room c.args.src) (share_memory c.args.src) (λ share is. get-memory room c.args.src share (ap (λ k. is_idle k.wait) is ∙ idle) (ap (lacks_link room c.args.src) is ∙ lacks) (ap (λ k. k.dirty) is ∙ dirty)) proc c.args.src h.memory refl refl
