use Rattle.std.proofs.Common.{◌≡◌, ℤ, List, Some, false, is_some, option_map, map, w32, to_z, of_z, refl, ap, sym, ◌∙◌}
use Rattle.std.proofs.lemmas.Int.{to_z-of_z}
use Rattle.std.specs.Option.{option_map_or}
use Rattle.std.specs.Ordering.{int_eq}
use Rattle.std.specs.Map.{set_value}
use Rattle.ig_caches.specs.declared.caches.Cache.{Cache as Kept}
use Rattle.ig_caches.specs.PlainCaches.{Cache, PlainCaches, cache_of, caches_with_rows}
use Rattle.ig_caches.specs.CachesView.{cache_entry, plain_caches}
use Rattle.ig_caches.proofs.CacheLemmas.{kept_at, not_kept, cache_found, rows_written, none_written}
use Rattle.ig_caches.proofs.caches.Caches.swap_rows.Goals as goal

pub returns-in-Some-clause-taken : goal.returns-in-Some-clause-taken
returns-in-Some-clause-taken c =
    let entries : List (ℤ × Kept) = c.args.self.now.caches.entries in
    let kept : Kept = c.in-Some.standing.now in
    let id : to_z w32 (of_z w32 c.args.cache) ≡ c.args.cache = to_z-of_z w32 c.args.cache c.ranges.cache in
    let stands : kept_at c.args.cache entries ≡ Some kept = sym (c.in-Some.ensures.value ∙ ap (λ i. kept_at i entries) id) in
    let found : cache_of (map cache_entry entries) c.args.cache ≡ Some (cache_entry (c.args.cache, kept)) =
    cache_found entries c.args.cache ∙ ap (option_map (λ (k : Kept). cache_entry (c.args.cache, k))) stands in
    c.swap.ensures.y_after ∙ sym (ap (λ o. option_map_or (λ (cache : Cache). cache.rows) o c.args.rows.now) found)

pub returns-in-Some-clause-given : goal.returns-in-Some-clause-given
returns-in-Some-clause-given c =
    let old : PlainCaches = plain_caches c.args.self.now in
    let entries : List (ℤ × Kept) = c.args.self.now.caches.entries in
    let kept : Kept = c.in-Some.standing.now in
    let written : Kept = record { name = kept.name; rows = c.swap.new.x } in
    let id : to_z w32 (of_z w32 c.args.cache) ≡ c.args.cache = to_z-of_z w32 c.args.cache c.ranges.cache in
    let stands : kept_at c.args.cache entries ≡ Some kept = sym (c.in-Some.ensures.value ∙ ap (λ i. kept_at i entries) id) in
    let left : map cache_entry (c.get_mut.follows.lender written).entries ≡ caches_with_rows old.caches c.args.cache c.args.rows.now =
    ap (map cache_entry) ((c.get_mut.follows.holds written).0 ∙ ap (λ i. set_value (int_eq i) entries written) id)
    ∙ rows_written entries c.args.cache kept written c.args.rows.now stands refl c.swap.ensures.x_after in
    λ i. record { caches = left i; registry = old.registry; minor = old.minor }

pub returns-in_default-clause-taken : goal.returns-in_default-clause-taken
returns-in_default-clause-taken c =
    let entries : List (ℤ × Kept) = c.args.self.now.caches.entries in
    let id : to_z w32 (of_z w32 c.args.cache) ≡ c.args.cache = to_z-of_z w32 c.args.cache c.ranges.cache in
    let none : false ≡ is_some (kept_at c.args.cache entries) = ap is_some c.in_default.ensures.value ∙ ap (λ i. is_some (kept_at i entries)) id in
    sym (ap (λ o. option_map_or (λ (cache : Cache). cache.rows) o c.args.rows.now) (not_kept entries c.args.cache none))

pub returns-in_default-clause-given : goal.returns-in_default-clause-given
returns-in_default-clause-given c =
    let old : PlainCaches = plain_caches c.args.self.now in
    let entries : List (ℤ × Kept) = c.args.self.now.caches.entries in
    let id : to_z w32 (of_z w32 c.args.cache) ≡ c.args.cache = to_z-of_z w32 c.args.cache c.ranges.cache in
    let none : false ≡ is_some (kept_at c.args.cache entries) = ap is_some c.in_default.ensures.value ∙ ap (λ i. is_some (kept_at i entries)) id in
    let same : map cache_entry (c.get_mut.follows.lender-at-none).entries ≡ caches_with_rows old.caches c.args.cache c.args.rows.now =
    ap (λ m. map cache_entry m.entries) c.get_mut.follows.holds-at-none ∙ sym (none_written old.caches c.args.cache c.args.rows.now (not_kept entries c.args.cache none)) in
    λ i. record { caches = same i; registry = old.registry; minor = old.minor }
