-- How a pool of links is stored, so that it can be part of a value.
use Rattle.std.specs.Prelude.{◌≡◌, ℕ, List, refl}
use Rattle.std.specs.Coded.{Coded, code_by, coded×, coded_ℕ, coded_list}
use Rattle.link_store.specs.Pools.{Chain, Pool}

abbrev pub pool_code : Coded Pool
pool_code =
    code_by (List Chain × (List ℕ × ℕ)) (coded× (coded_list (coded_list (coded× coded_ℕ coded_ℕ))) (coded× (coded_list coded_ℕ) coded_ℕ))
    (λ p. (p.chains, (p.free, p.count))) (λ p. record { chains = p.0; free = p.1.0; count = p.1.1 }) (λ _. refl)
