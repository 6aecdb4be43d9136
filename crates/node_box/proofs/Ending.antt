-- A turn of a controller, with the room that it has reserved before.
use Rattle.std.proofs.Common.{◌≡◌, ℕ, subst, refl}
use Rattle.step_journal.specs.Logs.{LogList}
use Rattle.lane_table.specs.Views.{TableView}
use Rattle.node_box.specs.declared.turns.Turn.TheVariants.{Did, Idle}
use Rattle.node_box.specs.Boxes.{BoxView}
use Rattle.node_box.specs.Turns.{Controls, IsIdle, IsReserved, IsControllerTurn, AreServed, AreFoundEmpty}
use Rattle.node_box.proofs.Searching.{controls_served, idle_served, idle_empty}

pub did_turn : (table named : TableView) (seen old new : BoxView) (log : LogList) (link ticket : ℕ) → table ≡ named → seen ≡ old → log.entries ≡ seen.log.entries
    → Controls table.setup.sizes.nodes (record seen { log = log }) new link ticket → IsControllerTurn named.setup.sizes.nodes (Did ticket) old new link
did_turn table named seen old new log link ticket is view same h =
    let mid : BoxView = record seen { log = log } in
    let nodes = table.setup.sizes.nodes in
    let reserved : IsReserved seen mid = record { entries = same; box = refl } in
    let served : AreServed nodes seen new = controls_served nodes mid new link ticket h in
    let here : IsControllerTurn nodes (Did ticket) seen new link = (mid, reserved, h, served) in
    subst (λ (t : TableView). IsControllerTurn t.setup.sizes.nodes (Did ticket) old new link) is (subst (λ (x : BoxView). IsControllerTurn nodes (Did ticket) x new link) view here)

pub idle_turn : (table named : TableView) (seen old new : BoxView) (log : LogList) (link : ℕ) → table ≡ named → seen ≡ old → log.entries ≡ seen.log.entries
    → IsIdle table.setup.sizes.nodes (record seen { log = log }) new link → IsControllerTurn named.setup.sizes.nodes Idle old new link
idle_turn table named seen old new log link is view same h =
    let mid : BoxView = record seen { log = log } in
    let nodes = table.setup.sizes.nodes in
    let reserved : IsReserved seen mid = record { entries = same; box = refl } in
    let served : AreServed nodes seen new = idle_served nodes mid new link h in
    let empty : AreFoundEmpty nodes seen new = idle_empty nodes mid new link h in
    let here : IsControllerTurn nodes Idle seen new link = (mid, reserved, h, served, empty) in
    subst (λ (t : TableView). IsControllerTurn t.setup.sizes.nodes Idle old new link) is (subst (λ (x : BoxView). IsControllerTurn nodes Idle x new link) view here)
