use Rattle.std.proofs.Common.{◌≡◌, ◌++◌, [], ◌∷◌, ℤ, List, w32, to_z, of_z, Some, false, true, is_some, map, ap, sym, ◌∙◌, refl, rules}
use Rattle.std.specs.Int.{cast_signed}
use Rattle.std.specs.Ordering.{int_eq}
use Rattle.indexmap.specs.IndexMap.{insert_entry}
use Rattle.ig_base.specs.Hashes.{Java, units}
use Rattle.ig_caches.specs.PlainCaches.{PlainCaches, Cache, id_of, fresh_cache, cache_of}
use Rattle.ig_caches.specs.CachesView.{cache_entry, plain_caches}
use Rattle.ig_caches.specs.declared.caches.Cache.{Cache as Kept}
use Rattle.ig_caches.proofs.CacheLemmas.{kept_at, not_kept, is_kept, absent_kept, caches_length, cache_added}
use Rattle.ig_caches.proofs.caches.Caches.add_name.Goals as goal

pub returns-then-contains_key-clause-fault : goal.returns-then-contains_key-clause-fault
returns-then-contains_key-clause-fault c =
    let same : to_z w32 (of_z w32 c.text_hash-id.result) ≡ c.text_hash-id.result = search rules in
    let id : to_z w32 (of_z w32 c.text_hash-id.result) ≡ id_of c.args.name = same ∙ c.text_hash-id.ensures ∙ ap (λ t. cast_signed w32 (Java (units t))) c.as_str.ensures in
    let there : true ≡ is_some (kept_at (id_of c.args.name) c.args.self.now.caches.entries) = c.if-contains_key.ensures ∙ ap (λ i. is_some (kept_at i c.args.self.now.caches.entries)) id in
    let found : (cache : Cache) × (cache_of (plain_caches c.args.self.now).caches (id_of c.args.name) ≡ Some cache) = is_kept c.args.self.now.caches.entries (id_of c.args.name) there in
    (c.len-at.ensures.len ∙ sym (caches_length c.args.self.now.caches.entries), found.0, found.1)

pub returns-in-Ok-clause-ok : goal.returns-in-Ok-clause-ok
returns-in-Ok-clause-ok c =
    let old : PlainCaches = plain_caches c.args.self.now in
    let entries : List (ℤ × Kept) = c.args.self.now.caches.entries in
    let kept : Kept = record { name = c.args.name; rows = c.new-rows.result } in
    let same : to_z w32 (of_z w32 c.text_hash-id.result) ≡ c.text_hash-id.result = search rules in
    let id : to_z w32 (of_z w32 c.text_hash-id.result) ≡ id_of c.args.name = same ∙ c.text_hash-id.ensures ∙ ap (λ t. cast_signed w32 (Java (units t))) c.as_str.ensures in
    let none : false ≡ is_some (kept_at (id_of c.args.name) entries) = c.if-contains_key.ensures ∙ ap (λ i. is_some (kept_at i entries)) id in
    let added : map cache_entry c.insert.new.self.entries ≡ old.caches ++ fresh_cache c.args.name ∷ [] =
    ap (map cache_entry) (c.in-Ok.ensures.entries ∙ ap (λ i. insert_entry int_eq entries i kept) id)
    ∙ cache_added entries (id_of c.args.name) kept c.args.name (absent_kept entries (id_of c.args.name) (not_kept entries (id_of c.args.name) none)) refl refl c.new-rows.ensures in
    λ i. record { caches = added i; registry = old.registry; minor = old.minor }

pub returns-in-Ok-clause-free : goal.returns-in-Ok-clause-free
returns-in-Ok-clause-free c =
    let same : to_z w32 (of_z w32 c.text_hash-id.result) ≡ c.text_hash-id.result = search rules in
    let id : to_z w32 (of_z w32 c.text_hash-id.result) ≡ id_of c.args.name = same ∙ c.text_hash-id.ensures ∙ ap (λ t. cast_signed w32 (Java (units t))) c.as_str.ensures in
    let none : false ≡ is_some (kept_at (id_of c.args.name) c.args.self.now.caches.entries) = c.if-contains_key.ensures ∙ ap (λ i. is_some (kept_at i c.args.self.now.caches.entries)) id in
    not_kept c.args.self.now.caches.entries (id_of c.args.name) none
