-- How a part and a setup are stored, so that each can be part of a value.
use Rattle.std.specs.Prelude.{ℕ, Bool, List, refl}
use Rattle.std.specs.Coded.{Coded, code_by, coded×, coded_ℕ, coded_bool, coded_list}
use Rattle.atomic_table.specs.Seated.{TableId, table_id_coded}
use Rattle.line_map.specs.Sizes.{Sizes}
use Rattle.line_map.specs.Codes.{sizes_code}
use Rattle.op_model.specs.contracts.messages.Msg as msg_type
use Rattle.op_model.specs.contracts.events.Class as class_type
use Rattle.op_model.specs.contracts.events.Numbered as numbered_type
use Rattle.op_model.specs.declared.operations.Op.{Op}
use Rattle.op_model.specs.declared.messages.Msg.{Msg}
use Rattle.op_model.specs.declared.events.Numbered.{Numbered}
use Rattle.op_model.specs.Operations.{Words}
use Rattle.op_model.specs.Shares.{Share}
use Rattle.op_model.specs.Codes.{op_code, share_code}
use Rattle.op_model.specs.Parts.Part.{ByLane, Note, Part}
use Rattle.lane_table.specs.Setups.{Setup}
use Rattle.lane_table.specs.Views.{TableView, SeatView, SeatsView}

abbrev pub note_code : Coded Note
note_code =
    code_by (ℕ × (ℕ × (Words × Bool))) (coded× coded_ℕ (coded× coded_ℕ (coded× (coded_list coded_ℕ) coded_bool)))
    (λ n. (n.loads, (n.word, (n.body, n.stands)))) (λ p. record { loads = p.0; word = p.1.0; body = p.1.1.0; stands = p.1.1.1 }) (λ _. refl)

abbrev pub by_lane_code : {A : Type 0} → Coded A → Coded (ByLane A)
by_lane_code code = coded_list (coded× (coded× coded_ℕ class_type.the_row.coded) code)

abbrev pub program_code : Coded (List Op)
program_code = coded_list op_code

abbrev pub part_code : Coded Part
part_code =
    code_by (ℕ × (Sizes × (List Op × (Share × (List (ℕ × Msg) × (ByLane ℕ × (ByLane ℕ × (ByLane ℕ × (ByLane Note × (ByLane Note × List Numbered))))))))))
    (coded× coded_ℕ (coded× sizes_code (coded× program_code (coded× share_code (coded× (coded_list (coded× coded_ℕ msg_type.the_row.coded))
    (coded× (by_lane_code coded_ℕ) (coded× (by_lane_code coded_ℕ) (coded× (by_lane_code coded_ℕ) (coded× (by_lane_code note_code) (coded× (by_lane_code note_code) (coded_list numbered_type.the_row.coded)))))))))))
    (λ p. (p.number, (p.sizes, (p.program, (p.share, (p.sent, (p.flushed, (p.taken, (p.cleared, (p.out_notes, (p.in_notes, p.log)))))))))))
    (λ p. record {
      number = p.0;
      sizes = p.1.0;
      program = p.1.1.0;
      share = p.1.1.1.0;
      sent = p.1.1.1.1.0;
      flushed = p.1.1.1.1.1.0;
      taken = p.1.1.1.1.1.1.0;
      cleared = p.1.1.1.1.1.1.1.0;
      out_notes = p.1.1.1.1.1.1.1.1.0;
      in_notes = p.1.1.1.1.1.1.1.1.1.0;
      log = p.1.1.1.1.1.1.1.1.1.1;
    }) (λ _. refl)

abbrev pub parts_code : Coded (List Part)
parts_code = coded_list part_code

abbrev pub setup_code : Coded Setup
setup_code = code_by (Sizes × List (List Op)) (coded× sizes_code (coded_list program_code)) (λ s. (s.sizes, s.programs)) (λ p. record { sizes = p.0; programs = p.1 }) (λ _. refl)

abbrev pub table_code : Coded TableView
table_code = code_by (TableId × Setup) (coded× table_id_coded setup_code) (λ t. (t.id, t.setup)) (λ p. record { id = p.0; setup = p.1 }) (λ _. refl)

abbrev pub seat_code : Coded SeatView
seat_code = code_by (TableId × Part) (coded× table_id_coded part_code) (λ s. (s.id, s.part)) (λ p. record { id = p.0; part = p.1 }) (λ _. refl)

abbrev pub seats_code : Coded SeatsView
seats_code = code_by (TableId × List Part) (coded× table_id_coded parts_code) (λ s. (s.id, s.parts)) (λ p. record { id = p.0; parts = p.1 }) (λ _. refl)
