use Rattle.std.proofs.Common.{◌≡◌, ℤ, List, Some, false, is_some, option_map, map, w32, to_z, of_z, refl, ap, sym, ◌∙◌, rules}
use Rattle.std.proofs.lemmas.Int.{to_z-of_z}
use Rattle.std.specs.Ordering.{int_eq}
use Rattle.std.specs.Map.{set_value}
use Rattle.ig_caches.specs.declared.caches.Cache.{Cache as Kept}
use Rattle.ig_caches.specs.declared.answer.Outcome.TheVariants.{Refused}
use Rattle.ig_caches.specs.declared.answer.Why.TheVariants.{NoCache}
use Rattle.ig_caches.specs.Rows.{Rows}
use Rattle.ig_caches.specs.Effect.{effect}
use Rattle.ig_caches.specs.PlainCaches.{PlainCaches, cache_of, caches_with_rows}
use Rattle.ig_caches.specs.CachesView.{cache_entry, plain_caches}
use Rattle.ig_caches.proofs.CacheLemmas.{kept_at, not_kept, cache_found, rows_written, with_own, runs, on_rows_of, on_no_rows}
use Rattle.ig_caches.proofs.caches.Caches.run_on_rows.Goals as goal

pub returns-in_default-clause-runs : goal.returns-in_default-clause-runs
returns-in_default-clause-runs c =
    let old : PlainCaches = plain_caches c.args.self.now in
    let entries : List (ℤ × Kept) = c.args.self.now.caches.entries in
    let id : to_z w32 (of_z w32 c.args.id) ≡ c.args.id = to_z-of_z w32 c.args.id c.ranges.id in
    let minor : to_z w32 (of_z w32 c.args.self.now.minor) ≡ c.args.self.now.minor = search rules in
    let none : false ≡ is_some (kept_at c.args.id entries) = ap is_some c.in_default.ensures.value ∙ ap (λ i. is_some (kept_at i entries)) id in
    let new : PlainCaches = record { caches = map cache_entry (c.get_mut.follows.lender-at-none).entries; registry = old.registry; minor = old.minor } in
    let same : new ≡ old = λ i. record { caches = map cache_entry ((c.get_mut.follows.holds-at-none) i).entries; registry = old.registry; minor = old.minor } in
    runs c.args.call old new _ (Refused NoCache)
    (on_no_rows old (effect c.args.call) c.args.id c.requires.on_rows (not_kept entries c.args.id none) ∙ ap (λ (n : PlainCaches). (Refused NoCache, n)) (sym same)) minor refl

pub returns-in-Ok-clause-runs : goal.returns-in-Ok-clause-runs
returns-in-Ok-clause-runs c =
    let old : PlainCaches = plain_caches c.args.self.now in
    let entries : List (ℤ × Kept) = c.args.self.now.caches.entries in
    let kept : Kept = c.in-Some.cache.now in
    let written : Kept = record { name = kept.name; rows = c.run.new.self } in
    let id : to_z w32 (of_z w32 c.args.id) ≡ c.args.id = to_z-of_z w32 c.args.id c.ranges.id in
    let minor : to_z w32 (of_z w32 c.args.self.now.minor) ≡ c.args.self.now.minor = search rules in
    let stands : kept_at c.args.id entries ≡ Some kept = sym (c.in-Some.ensures.value ∙ ap (λ i. kept_at i entries) id) in
    let found : cache_of old.caches c.args.id ≡ Some (cache_entry (c.args.id, kept)) = cache_found entries c.args.id ∙ ap (option_map (λ (k : Kept). cache_entry (c.args.id, k))) stands in
    let left : map cache_entry (c.get_mut.follows.lender written).entries ≡ caches_with_rows old.caches c.args.id c.run.new.self =
    ap (map cache_entry) ((c.get_mut.follows.holds written).0 ∙ ap (λ i. set_value (int_eq i) entries written) id) ∙ rows_written entries c.args.id kept written c.run.new.self stands refl refl in
    let new : PlainCaches = record { caches = map cache_entry (c.get_mut.follows.lender written).entries; registry = old.registry; minor = old.minor } in
    let same : new ≡ record old { caches = caches_with_rows old.caches c.args.id c.run.new.self } = λ i. record { caches = left i; registry = old.registry; minor = old.minor } in
    runs c.args.call old new _ c.in-Ok.outcome
    (on_rows_of old (effect c.args.call) c.args.id (cache_entry (c.args.id, kept)) c.in-Ok.outcome c.run.new.self c.requires.on_rows found c.in-Ok.ensures.runs
    ∙ ap (λ (n : PlainCaches). (c.in-Ok.outcome, n)) (sym same)) minor refl

pub returns-in-Err-clause-runs : goal.returns-in-Err-clause-runs
returns-in-Err-clause-runs c =
    let old : PlainCaches = plain_caches c.args.self.now in
    let entries : List (ℤ × Kept) = c.args.self.now.caches.entries in
    let kept : Kept = c.in-Some.cache.now in
    let written : Kept = record { name = kept.name; rows = c.run.new.self } in
    let id : to_z w32 (of_z w32 c.args.id) ≡ c.args.id = to_z-of_z w32 c.args.id c.ranges.id in
    let stands : kept_at c.args.id entries ≡ Some kept = sym (c.in-Some.ensures.value ∙ ap (λ i. kept_at i entries) id) in
    let found : cache_of old.caches c.args.id ≡ Some (cache_entry (c.args.id, kept)) = cache_found entries c.args.id ∙ ap (option_map (λ (k : Kept). cache_entry (c.args.id, k))) stands in
    let left : map cache_entry (c.get_mut.follows.lender written).entries ≡ old.caches =
    ap (map cache_entry) ((c.get_mut.follows.holds written).0 ∙ ap (λ i. set_value (int_eq i) entries written) id) ∙ rows_written entries c.args.id kept written c.run.new.self stands refl refl
    ∙ ap (λ (rows : Rows). caches_with_rows old.caches c.args.id rows) c.in-Err.ensures.runs.1 ∙ with_own old.caches c.args.id (cache_entry (c.args.id, kept)) found in
    (c.in-Err.ensures.runs.0, λ i. record { caches = left i; registry = old.registry; minor = old.minor })
