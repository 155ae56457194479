-- Plain caches as plain data, which a larger value can contain.
use Rattle.std.specs.Prelude.{List, ℕ, ℤ, refl}
use Rattle.std.specs.Coded.{Coded, code_by, coded×, coded_ℕ, coded_ℤ, coded_list}
use Rattle.std.specs.FinMap as finite
use Rattle.ig_types.specs.Registered.{Registered}
use Rattle.ig_types.specs.Coded.{coded_name, coded_registered}
use Rattle.ig_caches.specs.contracts.call.Pair as pair
use Rattle.ig_caches.specs.Rows.{Rows}
use Rattle.ig_caches.specs.PlainCaches.{Cache, PlainCaches}

-- a cache as its identifier, name and rows
abbrev pub coded_cache : Coded Cache
coded_cache =
    code_by (ℤ × (List ℕ × Rows)) (coded× coded_ℤ (coded× coded_name (finite.code (coded_list coded_ℕ) pair.the_row.coded)))
    (λ c. (c.id, (c.name, c.rows))) (λ p. record { id = p.0; name = p.1.0; rows = p.1.1 }) (λ _. refl)

-- plain caches as the list of the caches, what is registered of types, and the count
abbrev pub coded_caches : Coded PlainCaches
coded_caches =
    code_by (List Cache × (Registered × ℤ)) (coded× (coded_list coded_cache) (coded× coded_registered coded_ℤ))
    (λ c. (c.caches, (c.registry, c.minor))) (λ p. record { caches = p.0; registry = p.1.0; minor = p.1.1 }) (λ _. refl)
