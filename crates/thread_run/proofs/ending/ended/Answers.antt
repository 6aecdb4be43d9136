-- The table's rule at the end speaks of the boxes' parts.
use Rattle.std.proofs.Common.{◌≡◌, ◌∙◌, ap, sym, subst, length, List}
use Rattle.std.specs.Prelude.{map, All}
use Rattle.std.proofs.lemmas.List.{length-map}
use Rattle.step_journal.specs.Logs.{LogList, AreNumbered, entries_of}
use Rattle.one_journal.specs.SameLogs.{IsMerged}
use Rattle.lane_table.specs.Setups.{Setup}
use Rattle.lane_table.specs.Views.{TableView, SeatView, seat_part}
use Rattle.lane_table.specs.Ends.{IsEnded}
use Rattle.thread_run.specs.Closed.{box_seat}
use Rattle.thread_run.proofs.Numbering.{merged_numbered}
use Rattle.thread_run.proofs.Ended.{parts_in, seats_of_table, merged_at_end, ran_at_end}
use Rattle.thread_run.proofs.ending.ended.Goals as goal

pub finish-tickets-requires-clause-count : goal.finish-tickets-requires-clause-count
finish-tickets-requires-clause-count g c =
    ap length c.in-Ok.ensures.seats ∙ (length-map c.args.boxes.items box_seat ∙ (c.requires.places ∙ sym (ap (λ (t : TableView). t.setup.sizes.nodes) c.requires.table)))

pub finish-tickets-requires-clause-seats : goal.finish-tickets-requires-clause-seats
finish-tickets-requires-clause-seats g c =
    subst (λ (t : TableView). All (λ (seat : SeatView). seat.id ≡ t.id) c.in-Ok.pieces.seats.items) (sym c.requires.table)
    (subst (All (λ (seat : SeatView). seat.id ≡ g.K.Named.table.id)) (sym c.in-Ok.ensures.seats) (seats_of_table g.K.Named.table c.args.boxes.items c.in-Ok.ensures.closed))

pub merge-requires : goal.merge-requires
merge-requires g c =
    let table : TableView = g.K.Named.table in
    let tickets = c.finish-tickets.result in
    let told : IsEnded table.setup (map seat_part c.in-Ok.pieces.seats.items) tickets =
    subst (λ (s : Setup). IsEnded s (map seat_part c.in-Ok.pieces.seats.items) tickets) (ap (λ (t : TableView). t.setup) c.requires.table) c.finish-tickets.ensures in
    let end : IsEnded table.setup (parts_in c.args.boxes.items) tickets = subst (λ (seats : List SeatView). IsEnded table.setup (map seat_part seats) tickets) c.in-Ok.ensures.seats told in
    let merged = merged_at_end table c.args.boxes.items c.in-Ok.pieces.logs.items tickets end c.in-Ok.ensures.closed c.in-Ok.ensures.logs in
    subst AreNumbered (sym c.as_slice.ensures.value) (merged_numbered c.in-Ok.pieces.logs.items end.table.journal merged)

pub returns : goal.returns
returns g c =
    let table : TableView = g.K.Named.table in
    let tickets = c.finish-tickets.result in
    let told : IsEnded table.setup (map seat_part c.in-Ok.pieces.seats.items) tickets =
    subst (λ (s : Setup). IsEnded s (map seat_part c.in-Ok.pieces.seats.items) tickets) (ap (λ (t : TableView). t.setup) c.requires.table) c.finish-tickets.ensures in
    let end : IsEnded table.setup (parts_in c.args.boxes.items) tickets = subst (λ (seats : List SeatView). IsEnded table.setup (map seat_part seats) tickets) c.in-Ok.ensures.seats told in
    let merged : IsMerged (entries_of c.in-Ok.pieces.logs.items) c.in_ok-journal.journal.items =
    subst (λ (logs : List LogList). IsMerged (entries_of logs) c.in_ok-journal.journal.items) c.as_slice.ensures.value c.in_ok-journal.ensures in
    ran_at_end table c.args.boxes.items c.in_ok-journal.journal.items c.in-Ok.pieces.nodes.items c.in-Ok.pieces.logs.items tickets end c.requires.places c.in-Ok.ensures.closed c.in-Ok.ensures.nodes c.in-Ok.ensures.logs merged
