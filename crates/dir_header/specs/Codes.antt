-- How the parts of a home and of a directory are stored, so that each is a value.
use Rattle.std.specs.Prelude.{ℕ, List, refl}
use Rattle.std.specs.FinMap as fin
use Rattle.std.specs.Coded.{Coded, code_by, coded×, coded_ℕ, coded_list}
use Rattle.line_map.specs.Sizes.{Sizes}
use Rattle.line_map.specs.Codes.{sizes_code}
use Rattle.op_model.specs.Nodes.{Nodes}
pub use Rattle.op_model.specs.Codes.{nodes_code}
use Rattle.op_model.specs.Codes.{header_code, charge_code}
use Rattle.op_model.specs.Shares.{Headers}
use Rattle.dir_header.specs.Plain.{PlainView}
use Rattle.dir_header.specs.Standings.{HoldersView}
use Rattle.dir_header.specs.Sharers.{Charge}
use Rattle.dir_header.specs.HomeSides.{HomeView}

abbrev pub plain_code : Coded PlainView
plain_code =
    code_by (List Nodes × (ℕ × ℕ)) (coded× (coded_list nodes_code) (coded× coded_ℕ coded_ℕ))
    (λ d. (d.lists, (d.links, d.nodes))) (λ p. record { lists = p.0; links = p.1.0; nodes = p.1.1 }) (λ _. refl)

abbrev pub listed_code : Coded (List ℕ)
listed_code = coded_list coded_ℕ

abbrev pub holders_code : Coded HoldersView
holders_code = code_by (Nodes × ℕ) (coded× nodes_code coded_ℕ) (λ h. (h.victims, h.pending)) (λ p. record { victims = p.0; pending = p.1 }) (λ _. refl)

abbrev pub home_code : {D : Type 0} → Coded D → Coded (HomeView D)
home_code {D} dir =
    code_by (Sizes × (ℕ × (Charge × (D × Headers)))) (coded× sizes_code (coded× coded_ℕ (coded× charge_code (coded× dir (fin.code coded_ℕ header_code)))))
    (λ h. (h.sizes, (h.node, (h.charge, (h.dir, h.headers)))))
    (λ p. record { sizes = p.0; node = p.1.0; charge = p.1.1.0; dir = p.1.1.1.0; headers = p.1.1.1.1 }) (λ _. refl)
