-- What the machine keeps says nothing of the room of its journal.
use Rattle.std.proofs.Common.{◌≡◌, ℕ, List, [], ap, sym, subst, ◌∙◌}
use Rattle.line_map.specs.Sizes.{Sizes}
use Rattle.lane_queues.specs.LaneStates.{LaneState}
use Rattle.msg_words.specs.SendList.{SendList}
use Rattle.machine.specs.declared.journal.Journal.{Journal}
use Rattle.machine.specs.Kept.{no_sends, IsKept}
use Rattle.machine.specs.Faces.{Face}
use Rattle.machine.specs.Journals.{IsSameJournal, IsKeptWith}

pub kept-same : (sizes : Sizes) (faces : List Face) (lanes : LaneState) (old new : Journal) (out : SendList) → IsSameJournal old new → IsKeptWith sizes faces lanes old out → IsKeptWith sizes faces lanes new out
kept-same sizes faces lanes old new out same kept =
    subst (λ es. IsKept sizes faces lanes es new.served.items new.counts new.left out) (sym same.events)
    (subst (λ es. IsKept sizes faces lanes old.events.items es new.counts new.left out) (sym same.served)
    (subst (λ ns. IsKept sizes faces lanes old.events.items old.served.items ns new.left out) (sym same.counts)
    (subst (λ n. IsKept sizes faces lanes old.events.items old.served.items old.counts n out) (sym same.left) kept)))

pub cleared : (sizes : Sizes) (before after last : SendList) → before ≡ no_sends sizes → after.room ≡ before.room → last ≡ record after { list = [] } → last ≡ no_sends sizes
cleared sizes before after last none room is = is ∙ ap (λ r. record { list = []; room = r }) (room ∙ ap (λ (o : SendList). o.room) none)
