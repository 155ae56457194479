use Rattle.std.proofs.Common.{◌≡◌, ℤ, w32, to_z, of_z, Some, false, cond, option_map, is_some, List, ap, sym, ◌∙◌, rules}
use Rattle.std.specs.Int.{cast_signed}
use Rattle.ig_base.specs.Hashes.{Java, units}
use Rattle.ig_types.specs.Join.{same_name}
use Rattle.ig_caches.specs.PlainCaches.{PlainCaches, id_of, cache_of}
use Rattle.ig_caches.specs.CachesView.{cache_entry, plain_caches}
use Rattle.ig_caches.specs.declared.caches.Cache.{Cache as Kept}
use Rattle.ig_caches.specs.declared.call.Call.TheVariants.{GetOrCreate}
use Rattle.ig_caches.specs.declared.answer.Outcome.TheVariants as outcome
use Rattle.ig_caches.specs.declared.answer.Why.TheVariants as why
use Rattle.ig_caches.proofs.CacheLemmas.{kept_at, not_kept, cache_found, runs, get_or_create_stands, get_or_create_free}
use Rattle.ig_caches.proofs.caches.Caches.get_or_create.Goals as goal

pub returns-in-Some : goal.returns-in-Some
returns-in-Some c =
    let old : PlainCaches = plain_caches c.args.self.now in
    let entries : List (ℤ × Kept) = c.args.self.now.caches.entries in
    let kept : Kept = c.in-Some.cache.now in
    let same : to_z w32 (of_z w32 c.text_hash-id.result) ≡ c.text_hash-id.result = search rules in
    let id : to_z w32 (of_z w32 c.text_hash-id.result) ≡ id_of c.args.name = same ∙ c.text_hash-id.ensures ∙ ap (λ t. cast_signed w32 (Java (units t))) c.as_str.ensures in
    let stands : kept_at (id_of c.args.name) entries ≡ Some kept = sym (c.in-Some.ensures.value ∙ ap (λ i. kept_at i entries) id) in
    let found : cache_of old.caches (id_of c.args.name) ≡ Some (cache_entry (id_of c.args.name, kept)) =
    cache_found entries (id_of c.args.name) ∙ ap (option_map (λ (k : Kept). cache_entry (id_of c.args.name, k))) stands in
    runs (GetOrCreate c.args.name) old old c.answer.result (cond (same_name kept.name c.args.name) outcome.Done (outcome.Refused why.CacheExists))
    (get_or_create_stands old c.args.name (cache_entry (id_of c.args.name, kept)) found) c.answer.ensures.minor
    (c.answer.ensures.outcome ∙ c.outcome_of_standing.ensures ∙ ap (λ b. cond b outcome.Done (outcome.Refused why.CacheExists)) c.is_named-same.ensures)

pub add-requires-clause-absent : goal.add-requires-clause-absent
add-requires-clause-absent c = not_kept c.args.self.now.caches.entries (to_z w32 (of_z w32 c.text_hash-id.result)) (ap is_some c.in_default.ensures.value)

pub returns-in-Ok : goal.returns-in-Ok
returns-in-Ok c =
    let old : PlainCaches = plain_caches c.args.self.now in
    let same : to_z w32 (of_z w32 c.text_hash-id.result) ≡ c.text_hash-id.result = search rules in
    let id : to_z w32 (of_z w32 c.text_hash-id.result) ≡ id_of c.args.name = same ∙ c.text_hash-id.ensures ∙ ap (λ t. cast_signed w32 (Java (units t))) c.as_str.ensures in
    let none : false ≡ is_some (kept_at (id_of c.args.name) c.args.self.now.caches.entries) = ap is_some c.in_default.ensures.value ∙ ap (λ i. is_some (kept_at i c.args.self.now.caches.entries)) id in
    runs (GetOrCreate c.args.name) old (plain_caches c.add.new.self) c.answer-in-Ok.result c.in-Ok.outcome
    (get_or_create_free old c.args.name (not_kept c.args.self.now.caches.entries (id_of c.args.name) none) ∙ sym c.in-Ok.ensures.ok) c.answer-in-Ok.ensures.minor c.answer-in-Ok.ensures.outcome
