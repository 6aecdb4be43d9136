-- A turn leaves one event more in the log, or none.
use Rattle.std.proofs.Common.{⊎_elim, ◌≡◌, ℕ, ◌*◌, Bool, true, [], ◌∷◌, ◌++◌, refl, ap, ◌∙◌}
use Rattle.step_journal.specs.Logs.{LogList}
use Rattle.magic_node.specs.declared.acts.LocalEvent.{LocalEvent}
use Rattle.magic_node.specs.declared.acts.LocalEvent.TheVariants as own
use Rattle.op_model.specs.declared.events.Event.TheVariants.{Take}
use Rattle.line_map.specs.Sizes.{home_of}
use Rattle.node_box.specs.declared.turns.Turn.{Turn}
use Rattle.node_box.specs.declared.turns.Turn.TheVariants.{Did, Idle, Waiting, Held, NoSpace, Ended, Memory}
use Rattle.node_box.specs.declared.turns.HeldCause.TheVariants.{Pending, Budget}
use Rattle.node_box.specs.Boxes.{BoxView}
use Rattle.node_box.specs.Events.{Acts, event_of}
use Rattle.node_box.specs.Lanes.{OnlyLooks, AreEmpty}
use Rattle.node_box.specs.Turns.{TakesOne, Reclaims, Controls, IsIdle}
use Rattle.node_box.specs.Processing.{Counts, MakesWay, Processes}
use Rattle.node_box.specs.Logging.{IsOneMore, IsLogged}

looked_log : (old new : BoxView) → OnlyLooks old new → new.log.entries ≡ old.log.entries
looked_log old new h = ap (λ (x : BoxView). x.log.entries) h.box

acts_more : (old mid new : BoxView) (event : LocalEvent) (room : Bool) (ticket : ℕ) → mid.log.entries ≡ old.log.entries → Acts mid new event room ticket → IsOneMore old new ticket
acts_more old mid new event room ticket same h =
    record { event = event_of mid.seat.part.number event; log = h.log ∙ ap (λ l. l ++ record { ticket = ticket; event = event_of mid.seat.part.number event } ∷ []) same }

takes_more : (old mid new : BoxView) (link ticket : ℕ) → mid.log.entries ≡ old.log.entries → TakesOne mid new link ticket → IsOneMore old new ticket
takes_more old mid new link ticket same h =
    let found : h.found.log.entries ≡ old.log.entries = looked_log h.before h.found h.only ∙ (looked_log mid h.before h.looks ∙ same) in
    let event = Take h.src h.found.seat.part.number h.class h.victim in
    record { event = event; log = h.takes.log ∙ ap (λ l. l ++ record { ticket = ticket; event = event } ∷ []) found }

counted_log : (old new : BoxView) (home : ℕ) (room : Bool) → Counts old new home room → new.log.entries ≡ old.log.entries
counted_log old new home room counts =
    ⊎_elim (λ mine. ap (λ (x : BoxView). x.log.entries) mine.2) (λ far. ⊎_elim (λ same. ap (λ (x : BoxView). x.log.entries) same.0) (λ seen. ap (λ (x : BoxView). x.log.entries) seen.3) far.2) counts

way_more : (old new : BoxView) (ticket : ℕ) → MakesWay (Did ticket) old new → IsOneMore old new ticket
way_more old new ticket h =
    acts_more old h.leaves.counted new (own.Evict h.line h.leaves.kind) h.leaves.room ticket (counted_log old h.leaves.counted (home_of old.node.sizes h.line) h.leaves.room h.leaves.counts) h.leaves.acts

pub processed_log : (turn : Turn) (old new : BoxView) → Processes turn old new → IsLogged turn old new
processed_log (Did ticket) old new h =
    ⊎_elim (acts_more old old new own.Hit true ticket refl) (λ rest. ⊎_elim (way_more old new ticket) (acts_more old old new own.Issue true ticket refl) rest) h
processed_log Idle old new h = absurd h
processed_log Waiting old new h = ap (λ (x : BoxView). x.log.entries) h.1
processed_log (Held Pending) old new h = ap (λ (x : BoxView). x.log.entries) h.1
processed_log (Held Budget) old new h = ap (λ (x : BoxView). x.log.entries) h.1
processed_log NoSpace old new h = ⊎_elim (λ same. ap (λ (x : BoxView). x.log.entries) same.0) (λ seen. ap (λ (x : BoxView). x.log.entries) seen.3) h.leaves.lane
processed_log Ended old new h = ap (λ (x : BoxView). x.log.entries) h.1
processed_log Memory old new h = absurd h

pub controlled_log : (nodes : ℕ) (old new : BoxView) (link ticket : ℕ) → Controls nodes old new link ticket → IsLogged (Did ticket) old new
controlled_log nodes old new link ticket h =
    let flushed : h.flushed.log.entries ≡ old.log.entries = ap (λ (l : LogList). l.entries) h.flushes.same.log in
    ⊎_elim (takes_more old h.flushed new link ticket flushed)
    (λ (e : (empty : BoxView) × AreEmpty h.flushed empty 0 (nodes * 2) × Reclaims empty new link ticket).
    acts_more old e.0 new (own.Reclaim e.2.line) true ticket (looked_log h.flushed e.0 e.1.only ∙ flushed) e.2.acts) h.does

pub idle_log : (nodes : ℕ) (old new : BoxView) (link : ℕ) → IsIdle nodes old new link → IsLogged Idle old new
idle_log nodes old new link h = looked_log h.flushed new h.empty.only ∙ ap (λ (l : LogList). l.entries) h.flushes.same.log

-- the same, with the room that the turn has reserved before
pub relog : (turn : Turn) (seen old new : BoxView) (log : LogList) → seen ≡ old → log.entries ≡ seen.log.entries → IsLogged turn (record seen { log = log }) new → IsLogged turn old new
relog turn seen old new log view same h = go turn h
  where
    was : log.entries ≡ old.log.entries
    was = same ∙ ap (λ (x : BoxView). x.log.entries) view

    go : (turn : Turn) → IsLogged turn (record seen { log = log }) new → IsLogged turn old new
    go (Did ticket) h = record { event = h.event; log = h.log ∙ ap (λ l. l ++ record { ticket = ticket; event = h.event } ∷ []) was }
    go Idle h = h ∙ was
    go Waiting h = h ∙ was
    go (Held cause) h = h ∙ was
    go NoSpace h = h ∙ was
    go Ended h = h ∙ was
    go Memory h = h ∙ was
