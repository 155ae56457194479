use Rattle.std.proofs.Common.{◌≡◌, w32, to_z, of_z, Some, false, true, is_some, ap, sym, ◌∙◌, rules}
use Rattle.std.specs.Int.{cast_signed}
use Rattle.ig_base.specs.Hashes.{Java, units}
use Rattle.ig_caches.specs.PlainCaches.{PlainCaches, Cache, id_of, cache_of}
use Rattle.ig_caches.specs.CachesView.{plain_caches}
use Rattle.ig_caches.specs.declared.call.Call.TheVariants.{Create}
use Rattle.ig_caches.specs.declared.answer.Outcome.TheVariants as outcome
use Rattle.ig_caches.specs.declared.answer.Why.TheVariants as why
use Rattle.ig_caches.proofs.CacheLemmas.{kept_at, not_kept, is_kept, runs, create_taken, create_free}
use Rattle.ig_caches.proofs.caches.Caches.create.Goals as goal

pub returns-then-contains_key : goal.returns-then-contains_key
returns-then-contains_key c =
    let old : PlainCaches = plain_caches c.args.self.now in
    let same : to_z w32 (of_z w32 c.text_hash-id.result) ≡ c.text_hash-id.result = search rules in
    let id : to_z w32 (of_z w32 c.text_hash-id.result) ≡ id_of c.args.name = same ∙ c.text_hash-id.ensures ∙ ap (λ t. cast_signed w32 (Java (units t))) c.as_str.ensures in
    let there : true ≡ is_some (kept_at (id_of c.args.name) c.args.self.now.caches.entries) = c.if-contains_key.ensures ∙ ap (λ i. is_some (kept_at i c.args.self.now.caches.entries)) id in
    let found : (cache : Cache) × (cache_of old.caches (id_of c.args.name) ≡ Some cache) = is_kept c.args.self.now.caches.entries (id_of c.args.name) there in
    runs (Create c.args.name) old old c.answer.result (outcome.Refused why.CacheExists) (create_taken old c.args.name found.0 found.1) c.answer.ensures.minor c.answer.ensures.outcome

pub add-requires-clause-absent : goal.add-requires-clause-absent
add-requires-clause-absent c = not_kept c.args.self.now.caches.entries (to_z w32 (of_z w32 c.text_hash-id.result)) c.if-contains_key.ensures

pub returns-in-Ok : goal.returns-in-Ok
returns-in-Ok c =
    let old : PlainCaches = plain_caches c.args.self.now in
    let same : to_z w32 (of_z w32 c.text_hash-id.result) ≡ c.text_hash-id.result = search rules in
    let id : to_z w32 (of_z w32 c.text_hash-id.result) ≡ id_of c.args.name = same ∙ c.text_hash-id.ensures ∙ ap (λ t. cast_signed w32 (Java (units t))) c.as_str.ensures in
    let none : false ≡ is_some (kept_at (id_of c.args.name) c.args.self.now.caches.entries) = c.if-contains_key.ensures ∙ ap (λ i. is_some (kept_at i c.args.self.now.caches.entries)) id in
    runs (Create c.args.name) old (plain_caches c.add.new.self) c.answer-in-Ok.result c.in-Ok.outcome
    (create_free old c.args.name (not_kept c.args.self.now.caches.entries (id_of c.args.name) none) ∙ sym c.in-Ok.ensures.ok) c.answer-in-Ok.ensures.minor c.answer-in-Ok.ensures.outcome
