-- What the rule of the table says of the boxes at the end.
use Rattle.std.proofs.Common.{◌≡◌, ℕ, zero, suc, ◌<◌, Bool, true, false, cond, nat_lt, ◌==◌, ◌%◌, List, [], ◌∷◌, length, refl, sym, ap, ◌∙◌, subst, arith, Some, None, Option}
use Rattle.std.specs.Prelude.{All, map, sum_by, count_by, slice_get}
use Rattle.std.proofs.lemmas.Bool.Decides.{nat_tests}
use Rattle.std.proofs.lemmas.List.{length-map}
use Rattle.std.proofs.lemmas.List.Elements.{All-nil, All-cons, All-head, All-tail, All-map, All-weaker}
use Rattle.std.proofs.lemmas.List.Sums.{sum_by-cons}
use Rattle.std.proofs.lemmas.Option.{same_Some}
use Rattle.line_map.specs.Sizes.{Sizes, home_of}
use Rattle.op_model.specs.declared.events.Event.{Event}
use Rattle.op_model.specs.Shares.{Share, State, header_of}
use Rattle.op_model.specs.Programs.{programs_of}
use Rattle.op_model.specs.Parts.Part.{Part}
use Rattle.op_model.specs.Parts.Journal.{drawn, Agrees}
use Rattle.op_model.specs.Parts.Composition.{compose}
use Rattle.dir_header.specs.Sharers.{list_at}
use Rattle.sharer_dir.specs.Linked.{LinkedView, linked_directory}
use Rattle.one_journal.specs.SameLogs.{IsMerged}
use Rattle.one_journal.proofs.Public.{only_is}
use Rattle.step_journal.specs.Logs.{LogList, entries_of}
use Rattle.lane_table.specs.Setups.{run_in}
use Rattle.lane_table.specs.Views.{TableView, SeatView, seat_part}
use Rattle.lane_table.specs.Ends.{IsEnded}
use Rattle.node_box.specs.Boxes.{LinkedNode, BoxView, IsOwnLog}
use Rattle.thread_run.specs.Closed.{IsDone, IsClosed, box_node, box_entries, box_seat}
use Rattle.thread_run.specs.Ran.{IsNodeIn, IsRan}

-- the parts of boxes
abbrev pub parts_in : List BoxView → List Part
parts_in boxes = map seat_part (map box_seat boxes)

-- a part of the machine, as the rule has it
abbrev IsPart : ℕ → (ℕ → Part) → Part → Type 0
IsPart nodes each part = (part.number < nodes) × (part ≡ each part.number)

-- the header of a line has the list that the directory has
abbrev AreLists : Sizes → ℕ → Share → LinkedView → Type 0
AreLists sizes number share dir = (line : ℕ) → home_of sizes line ≡ number → (header_of sizes share line).list ≡ list_at (linked_directory dir) (line % sizes.lines)

-- how many of these parts have a number
abbrev times : ℕ → List Part → ℕ
times number parts = count_by (λ (part : Part). part.number == number) parts

module _ (table : TableView) (each : ℕ → Part) where
  in_run : (box : BoxView) → IsClosed table box → IsPart table.setup.sizes.nodes each box.seat.part → IsNodeIn table.setup (compose each) box.node
  in_run box closed is =
      let part : Part = box.seat.part in
      let dir : LinkedView = box.node.dir in
      let of = closed.kept.seat.part in
      let same : part.share ≡ (each part.number).share = ap (λ (p : Part). p.share) is.1 in
      let sound : AreLists part.sizes part.number part.share dir = subst (λ (node : LinkedNode). AreLists node.sizes node.number node.share dir) closed.kept.node closed.sound.lists in
      let lists : AreLists table.setup.sizes part.number (each part.number).share dir =
      subst (λ (x : Share). AreLists table.setup.sizes part.number x dir) same (subst (λ (z : Sizes). AreLists z part.number part.share dir) of.machine sound) in
      subst (IsNodeIn table.setup (compose each)) (sym closed.kept.node)
      (record { number = is.0; machine = of.machine; program = of.program; charge = refl; share = same; links = closed.sound.links; lists = lists })

  all_in_run : (boxes : List BoxView) → All (IsClosed table) boxes → All (IsPart table.setup.sizes.nodes each) (parts_in boxes) → All (IsNodeIn table.setup (compose each)) (map box_node boxes)
  all_in_run [] closed parts = All-nil (IsNodeIn table.setup (compose each))
  all_in_run (box ∷ boxes) closed parts =
      All-cons (IsNodeIn table.setup (compose each)) box.node (map box_node boxes)
      (in_run box (All-head (IsClosed table) box boxes closed) (All-head (IsPart table.setup.sizes.nodes each) box.seat.part (parts_in boxes) parts))
      (all_in_run boxes (All-tail (IsClosed table) box boxes closed) (All-tail (IsPart table.setup.sizes.nodes each) box.seat.part (parts_in boxes) parts))

  -- a node's place in its program at the end
  done_in_run : (number : ℕ) (box : BoxView) → IsClosed table box → IsPart table.setup.sizes.nodes each box.seat.part → box.seat.part.number ≡ number → (each number).share.place ≡ length (programs_of table.setup.programs number)
  done_in_run number box closed is same =
      let done : box.seat.part.share.place ≡ length box.seat.part.program = subst IsDone closed.kept.node closed.done in
      let here : (each box.seat.part.number).share.place ≡ length (programs_of table.setup.programs box.seat.part.number) =
      sym (ap (λ (p : Part). p.share.place) is.1) ∙ (done ∙ ap length closed.kept.seat.part.program) in
      subst (λ n. (each n).share.place ≡ length (programs_of table.setup.programs n)) same here

  all_done : (number : ℕ) (boxes : List BoxView) → All (IsClosed table) boxes → All (IsPart table.setup.sizes.nodes each) (parts_in boxes) → 0 < times number (parts_in boxes) → (each number).share.place ≡ length (programs_of table.setup.programs number)
  all_done number [] closed parts some = absurd (omega arith)
  all_done number (box ∷ boxes) closed parts some =
      go (box.seat.part.number == number) refl (λ more. all_done number boxes (All-tail (IsClosed table) box boxes closed) (All-tail (IsPart table.setup.sizes.nodes each) box.seat.part (parts_in boxes) parts) more)
    where
      go : (b : Bool) → (box.seat.part.number == number) ≡ b → (0 < times number (parts_in boxes) → (each number).share.place ≡ length (programs_of table.setup.programs number)) → (each number).share.place ≡ length (programs_of table.setup.programs number)
      go true is rest =
          done_in_run number box (All-head (IsClosed table) box boxes closed) (All-head (IsPart table.setup.sizes.nodes each) box.seat.part (parts_in boxes) parts) (grind (arith, nat_tests))
      go false is rest =
          let cons = sum_by-cons (λ (part : Part). cond {A = ℕ} (part.number == number) 1 0) box.seat.part (parts_in boxes) in
          let none : cond {A = ℕ} (box.seat.part.number == number) 1 0 ≡ 0 = ap (λ b. cond {A = ℕ} b 1 0) is in
          rest (omega arith)

  -- a number is that of as many nodes as parts
  as_often : (number : ℕ) (boxes : List BoxView) → All (IsClosed table) boxes → count_by (λ (node : LinkedNode). node.number == number) (map box_node boxes) ≡ times number (parts_in boxes)
  as_often number [] closed = refl
  as_often number (box ∷ boxes) closed =
      let one = sum_by-cons (λ (node : LinkedNode). cond {A = ℕ} (node.number == number) 1 0) box.node (map box_node boxes) in
      let other = sum_by-cons (λ (part : Part). cond {A = ℕ} (part.number == number) 1 0) box.seat.part (parts_in boxes) in
      let rest = as_often number boxes (All-tail (IsClosed table) box boxes closed) in
      let same : box.node.number ≡ box.seat.part.number = ap (λ (node : LinkedNode). node.number) (All-head (IsClosed table) box boxes closed).kept.node in
      let here : cond {A = ℕ} (box.node.number == number) 1 0 ≡ cond {A = ℕ} (box.seat.part.number == number) 1 0 = ap (λ n. cond {A = ℕ} (n == number) 1 0) same in
      omega arith

  -- the logs' entries with a ticket are those of the parts
  same_drawn : (ticket : ℕ) (boxes : List BoxView) → All (IsClosed table) boxes → sum_by (drawn ticket) (map box_entries boxes) ≡ sum_by (λ (part : Part). drawn ticket part.log) (parts_in boxes)
  same_drawn ticket [] closed = refl
  same_drawn ticket (box ∷ boxes) closed =
      let one = sum_by-cons (drawn ticket) (box_entries box) (map box_entries boxes) in
      let other = sum_by-cons (λ (part : Part). drawn ticket part.log) box.seat.part (parts_in boxes) in
      let rest = same_drawn ticket boxes (All-tail (IsClosed table) box boxes closed) in
      let here = ap (drawn ticket) (All-head (IsClosed table) box boxes closed).kept.log in
      omega arith

  all_agree : (journal : List Event) (boxes : List BoxView) → All (IsClosed table) boxes → All (IsPart table.setup.sizes.nodes each) (parts_in boxes) → ((node : ℕ) → node < table.setup.sizes.nodes → Agrees journal (each node).log) → All (Agrees journal) (map box_entries boxes)
  all_agree journal [] closed parts agrees = All-nil (Agrees journal)
  all_agree journal (box ∷ boxes) closed parts agrees =
      let is = All-head (IsPart table.setup.sizes.nodes each) box.seat.part (parts_in boxes) parts in
      let log : (each box.seat.part.number).log ≡ box_entries box = sym ((All-head (IsClosed table) box boxes closed).kept.log ∙ ap (λ (p : Part). p.log) is.1) in
      All-cons (Agrees journal) (box_entries box) (map box_entries boxes) (subst (Agrees journal) log (agrees box.seat.part.number is.0))
      (all_agree journal boxes (All-tail (IsClosed table) box boxes closed) (All-tail (IsPart table.setup.sizes.nodes each) box.seat.part (parts_in boxes) parts) agrees)

-- the seats of boxes are all of their table
pub seats_of_table : (table : TableView) (boxes : List BoxView) → All (IsClosed table) boxes → All (λ (seat : SeatView). seat.id ≡ table.id) (map box_seat boxes)
seats_of_table table boxes closed =
    All-map (λ (seat : SeatView). seat.id ≡ table.id) box_seat boxes (All-weaker (IsClosed table) (λ (box : BoxView). box.seat.id ≡ table.id) (λ box is. is.kept.seat.id) boxes closed)

-- the log at a place is that of the node there
own_at : (table : TableView) (boxes : List BoxView) (logs : List LogList) → All (IsClosed table) boxes → entries_of logs ≡ map box_entries boxes → (place : ℕ) (node : LinkedNode) (log : LogList) → slice_get (map box_node boxes) place ≡ Some node → slice_get logs place ≡ Some log
    → IsOwnLog table.setup.sizes node.number log.entries
own_at table [] logs closed same place node log at at_log = absurd (let n : ◌≡◌ {A = Option LinkedNode} None (Some node) = at in cc)
own_at table (box ∷ boxes) [] closed same place node log at at_log = absurd (let n : ◌≡◌ {A = Option LogList} None (Some log) = at_log in cc)
own_at table (box ∷ boxes) (first ∷ logs) closed same zero node log at at_log =
    let here = All-head (IsClosed table) box boxes closed in
    let one : ◌≡◌ {A = Option LinkedNode} (Some box.node) (Some node) = at in
    let is = same_Some box.node node one in
    let other : ◌≡◌ {A = Option LogList} (Some first) (Some log) = at_log in
    let is_log = same_Some first log other in
    let all : first.entries ∷ entries_of logs ≡ box.log.entries ∷ map box_entries boxes = same in
    let entries : first.entries ≡ box.log.entries = cc in
    let number : box.seat.part.number ≡ node.number = sym (ap (λ (n : LinkedNode). n.number) here.kept.node) ∙ ap (λ (n : LinkedNode). n.number) is in
    let written : box.log.entries ≡ log.entries = sym entries ∙ ap (λ (l : LogList). l.entries) is_log in
    subst (λ l. IsOwnLog table.setup.sizes node.number l) written (subst (λ n. IsOwnLog table.setup.sizes n box.log.entries) number
    (subst (λ (z : Sizes). IsOwnLog z box.seat.part.number box.log.entries) here.kept.seat.part.machine here.kept.own))
own_at table (box ∷ boxes) (first ∷ logs) closed same (suc place) node log at at_log =
    let all : first.entries ∷ entries_of logs ≡ box.log.entries ∷ map box_entries boxes = same in
    let rest : entries_of logs ≡ map box_entries boxes = cc in
    own_at table boxes logs (All-tail (IsClosed table) box boxes closed) rest place node log at at_log

-- the logs of closed boxes are merged into the journal that the rule has
pub merged_at_end : (table : TableView) (boxes : List BoxView) (logs : List LogList) (tickets : ℕ) (end : IsEnded table.setup (parts_in boxes) tickets) → All (IsClosed table) boxes → entries_of logs ≡ map box_entries boxes → IsMerged (entries_of logs) end.table.journal
merged_at_end table boxes logs tickets end closed same =
    subst (λ l. IsMerged l end.table.journal) (sym same)
    (record {
      once = λ t. same_drawn table end.each t boxes closed ∙ (end.once t ∙ ap (λ n. cond {A = ℕ} (nat_lt t n) 1 0) end.count);
      agrees = all_agree table end.each end.table.journal boxes closed end.nodes end.table.numbered.agrees;
    })

pub ran_at_end : (table : TableView) (boxes : List BoxView) (journal : List Event) (nodes : List LinkedNode) (logs : List LogList) (tickets : ℕ) → IsEnded table.setup (parts_in boxes) tickets → length boxes ≡ table.setup.sizes.nodes → All (IsClosed table) boxes
    → nodes ≡ map box_node boxes → entries_of logs ≡ map box_entries boxes → IsMerged (entries_of logs) journal → IsRan table.setup journal nodes logs
ran_at_end table boxes journal nodes logs tickets end count closed same_nodes same_logs merged =
    let one : journal ≡ end.table.journal = only_is (entries_of logs) journal end.table.journal merged (merged_at_end table boxes logs tickets end closed same_logs) in
    let state : end.table.past.state ≡ compose end.each = end.table.made in
    subst (λ ns. IsRan table.setup journal ns logs) (sym same_nodes)
    (record {
      node_places = length-map boxes box_node ∙ count;
      log_places = sym (length-map logs (λ (log : LogList). log.entries)) ∙ (ap length same_logs ∙ (length-map boxes box_entries ∙ count));
      once = λ n lt. as_often table end.each n boxes closed ∙ end.every n lt;
      own_logs = own_at table boxes logs closed same_logs;
      merged = merged;
      past = end.table.past;
      ran = ap (run_in table.setup) one ∙ end.table.ran;
      ends = subst (λ (s : State). All (IsNodeIn table.setup s) (map box_node boxes)) (sym state) (all_in_run table end.each boxes closed end.nodes);
      done = λ n lt. ap (λ (s : State). (s.share n).place) state ∙ all_done table end.each n boxes closed end.nodes (let e = end.every n lt in omega arith);
    })
