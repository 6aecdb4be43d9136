-- How the sizes of a machine are stored, so that they can be part of a value.
use Rattle.std.specs.Prelude.{ℕ, refl}
use Rattle.std.specs.Coded.{Coded, code_by, coded×, coded_ℕ}
use Rattle.line_map.specs.Sizes.{Sizes}

abbrev pub sizes_code : Coded Sizes
sizes_code =
    code_by (ℕ × (ℕ × (ℕ × (ℕ × (ℕ × (ℕ × ℕ)))))) (coded× coded_ℕ (coded× coded_ℕ (coded× coded_ℕ (coded× coded_ℕ (coded× coded_ℕ (coded× coded_ℕ coded_ℕ))))))
    (λ s. (s.nodes, (s.lines, (s.words, (s.links, (s.sets, (s.pending, s.evicts)))))))
    (λ p. record { nodes = p.0; lines = p.1.0; words = p.1.1.0; links = p.1.1.1.0; sets = p.1.1.1.1.0; pending = p.1.1.1.1.1.0; evicts = p.1.1.1.1.1.1 }) (λ _. refl)
