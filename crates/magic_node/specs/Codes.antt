-- How a node is stored, so that it is a value.
use Rattle.std.specs.Prelude.{◌≡◌, ℕ, List, refl}
use Rattle.std.specs.Coded.{Coded, code_by, coded×, coded_ℕ, coded_list}
use Rattle.line_map.specs.Sizes.{Sizes}
use Rattle.line_map.specs.Codes.{sizes_code}
use Rattle.op_model.specs.declared.operations.Op.{Op}
use Rattle.op_model.specs.Shares.{Charge, Share}
use Rattle.op_model.specs.Codes.{op_code, share_code, charge_code}
use Rattle.magic_node.specs.Nodes.{MagicView}

abbrev pub magic_code : {D : Type 0} → Coded D → Coded (MagicView D)
magic_code {D} dir =
    code_by (Sizes × (ℕ × (List Op × (Charge × (Share × D))))) (coded× sizes_code (coded× coded_ℕ (coded× (coded_list op_code) (coded× charge_code (coded× share_code dir)))))
    (λ n. (n.sizes, (n.number, (n.program, (n.charge, (n.share, n.dir))))))
    (λ p. record { sizes = p.0; number = p.1.0; program = p.1.1.0; charge = p.1.1.1.0; share = p.1.1.1.1.0; dir = p.1.1.1.1.1 }) (λ _. refl)
