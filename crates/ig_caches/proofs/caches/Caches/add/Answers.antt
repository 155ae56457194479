use Rattle.std.proofs.Common.{◌≡◌, ◌<◌, ◌++◌, [], ◌∷◌, w32, to_z, of_z, Some, map, length, ap, sym, ◌∙◌, refl, rules, arith}
use Rattle.std.proofs.lemmas.Int.{to_z-of_z}
use Rattle.std.specs.Ordering.{int_eq}
use Rattle.indexmap.specs.IndexMap.{insert_entry}
use Rattle.ig_caches.specs.PlainCaches.{PlainCaches, fresh_cache}
use Rattle.ig_caches.specs.CachesView.{cache_entry, plain_caches}
use Rattle.ig_caches.specs.Effect.{next_count}
use Rattle.ig_caches.specs.declared.caches.Cache.{Cache as Kept}
use Rattle.ig_caches.specs.declared.answer.Outcome.TheVariants as outcome
use Rattle.ig_caches.proofs.CacheLemmas.{change_done, create_room, caches_length, absent_kept, cache_added}
use Rattle.ig_caches.proofs.caches.Caches.add.Goals as goal

pub returns-in-Ok-clause-ok : goal.returns-in-Ok-clause-ok
returns-in-Ok-clause-ok c =
    let old : PlainCaches = plain_caches c.args.self.now in
    let id : to_z w32 (of_z w32 c.args.id) ≡ c.args.id = to_z-of_z w32 c.args.id c.ranges.id in
    let minor : to_z w32 (of_z w32 c.args.self.now.minor) ≡ c.args.self.now.minor = search rules in
    let next : to_z w32 (of_z w32 c.in-Some.minor) ≡ c.in-Some.minor = search rules in
    let counted : next_count old.minor ≡ Some c.in-Some.minor = sym (c.in-Some.ensures ∙ ap next_count minor) in
    let less : length old.caches < 1024 = omega (arith, caches_length c.args.self.now.caches.entries, c.len.ensures.len, c.if-len-ge-MAX_CACHES.false) in
    let kept : Kept = record { name = c.args.name; rows = c.new.result } in
    let entries : c.insert.new.self.entries ≡ insert_entry int_eq c.args.self.now.caches.entries c.args.id kept =
    c.in-Ok.ensures.entries ∙ ap (λ i. insert_entry int_eq c.args.self.now.caches.entries i kept) id in
    let added : map cache_entry c.insert.new.self.entries ≡ old.caches ++ fresh_cache c.args.name ∷ [] =
    ap (map cache_entry) entries
    ∙ cache_added c.args.self.now.caches.entries c.args.id kept c.args.name (absent_kept c.args.self.now.caches.entries c.args.id c.requires.absent) c.requires.its_id refl c.new.ensures in
    let new : PlainCaches = record { caches = map cache_entry c.insert.new.self.entries; registry = old.registry; minor = to_z w32 (of_z w32 c.in-Some.minor) } in
    let whole : ◌≡◌ {A = PlainCaches} (record { caches = old.caches ++ fresh_cache c.args.name ∷ []; registry = old.registry; minor = c.in-Some.minor }) new =
    λ i. record { caches = (sym added) i; registry = old.registry; minor = (sym next) i } in
    sym (create_room old c.args.name less ∙ change_done old (old.caches ++ fresh_cache c.args.name ∷ []) c.in-Some.minor counted ∙ ap (λ (n : PlainCaches). (outcome.Done, n)) whole)
