use Rattle.std.proofs.Common.{◌≡◌, w32, to_z, of_z, Some, None, false, true, is_some, map, ap, sym, ◌∙◌, rules}
use Rattle.std.proofs.lemmas.Int.{to_z-of_z}
use Rattle.std.specs.Ordering.{int_eq}
use Rattle.std.specs.Map.{remove_entry}
use Rattle.ig_caches.specs.PlainCaches.{PlainCaches, Cache, cache_of, caches_without}
use Rattle.ig_caches.specs.CachesView.{cache_entry, plain_caches}
use Rattle.ig_caches.specs.Effect.{next_count}
use Rattle.ig_caches.specs.declared.call.Call.TheVariants.{Destroy}
use Rattle.ig_caches.specs.declared.answer.Outcome.TheVariants.{Done, Refused}
use Rattle.ig_caches.specs.declared.answer.Why.TheVariants as why
use Rattle.ig_caches.proofs.CacheLemmas.{kept_at, not_kept, is_kept, cache_removed, runs, destroy_none, destroy_found, change_refused, change_done}
use Rattle.ig_caches.proofs.caches.Caches.destroy.Goals as goal

pub returns-then-not-contains_key-clause-runs : goal.returns-then-not-contains_key-clause-runs
returns-then-not-contains_key-clause-runs c =
    let old : PlainCaches = plain_caches c.args.self.now in
    let id : to_z w32 (of_z w32 c.args.cache) ≡ c.args.cache = to_z-of_z w32 c.args.cache c.ranges.cache in
    let none : false ≡ is_some (kept_at c.args.cache c.args.self.now.caches.entries) = c.if-not-contains_key.ensures ∙ ap (λ i. is_some (kept_at i c.args.self.now.caches.entries)) id in
    runs (Destroy c.args.cache) old old c.answer.result (Refused why.NoCache) (destroy_none old c.args.cache (not_kept c.args.self.now.caches.entries c.args.cache none)) c.answer.ensures.minor c.answer.ensures.outcome

pub returns-in_default-clause-runs : goal.returns-in_default-clause-runs
returns-in_default-clause-runs c =
    let old : PlainCaches = plain_caches c.args.self.now in
    let id : to_z w32 (of_z w32 c.args.cache) ≡ c.args.cache = to_z-of_z w32 c.args.cache c.ranges.cache in
    let minor : to_z w32 (of_z w32 c.args.self.now.minor) ≡ c.args.self.now.minor = search rules in
    let there : true ≡ is_some (kept_at c.args.cache c.args.self.now.caches.entries) = c.if-not-contains_key.ensures ∙ ap (λ i. is_some (kept_at i c.args.self.now.caches.entries)) id in
    let found : (cache : Cache) × (cache_of old.caches c.args.cache ≡ Some cache) = is_kept c.args.self.now.caches.entries c.args.cache there in
    let spent : next_count old.minor ≡ None = sym (c.in_default.ensures ∙ ap next_count minor) in
    runs (Destroy c.args.cache) old old c.answer-in_default.result (Refused why.TooManyChanges)
    (destroy_found old c.args.cache found.0 found.1 ∙ change_refused old (caches_without old.caches c.args.cache) spent) c.answer-in_default.ensures.minor c.answer-in_default.ensures.outcome

pub returns-clause-runs : goal.returns-clause-runs
returns-clause-runs c =
    let old : PlainCaches = plain_caches c.args.self.now in
    let id : to_z w32 (of_z w32 c.args.cache) ≡ c.args.cache = to_z-of_z w32 c.args.cache c.ranges.cache in
    let minor : to_z w32 (of_z w32 c.args.self.now.minor) ≡ c.args.self.now.minor = search rules in
    let next : to_z w32 (of_z w32 c.in-Some.minor) ≡ c.in-Some.minor = search rules in
    let there : true ≡ is_some (kept_at c.args.cache c.args.self.now.caches.entries) = c.if-not-contains_key.ensures ∙ ap (λ i. is_some (kept_at i c.args.self.now.caches.entries)) id in
    let found : (cache : Cache) × (cache_of old.caches c.args.cache ≡ Some cache) = is_kept c.args.self.now.caches.entries c.args.cache there in
    let counted : next_count old.minor ≡ Some c.in-Some.minor = sym (c.in-Some.ensures ∙ ap next_count minor) in
    let removed : map cache_entry c.shift_remove.new.self.entries ≡ caches_without old.caches c.args.cache =
    ap (map cache_entry) (c.shift_remove.ensures.entries ∙ ap (λ i. remove_entry (int_eq i) c.args.self.now.caches.entries) id) ∙ cache_removed c.args.self.now.caches.entries c.args.cache in
    let new : PlainCaches = record { caches = map cache_entry c.shift_remove.new.self.entries; registry = old.registry; minor = to_z w32 (of_z w32 c.in-Some.minor) } in
    let whole : ◌≡◌ {A = PlainCaches} (record { caches = caches_without old.caches c.args.cache; registry = old.registry; minor = c.in-Some.minor }) new =
    λ i. record { caches = (sym removed) i; registry = old.registry; minor = (sym next) i } in
    runs (Destroy c.args.cache) old new c.answer-2.result Done
    (destroy_found old c.args.cache found.0 found.1 ∙ change_done old (caches_without old.caches c.args.cache) c.in-Some.minor counted ∙ ap (λ (n : PlainCaches). (Done, n)) whole)
    c.answer-2.ensures.minor c.answer-2.ensures.outcome
