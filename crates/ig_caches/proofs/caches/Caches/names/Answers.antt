use Rattle.std.proofs.Common.{map, ap, ◌∙◌, refl}
use Rattle.ig_caches.specs.PlainCaches.{PlainCaches, Cache}
use Rattle.ig_caches.specs.CachesView.{plain_caches}
use Rattle.ig_caches.specs.declared.call.Call.TheVariants.{Names}
use Rattle.ig_caches.specs.declared.answer.Outcome.TheVariants as outcome
use Rattle.ig_caches.proofs.CacheLemmas.{runs, names_kept}
use Rattle.ig_caches.proofs.caches.Caches.names.Goals as goal

pub returns-in-Ok : goal.returns-in-Ok
returns-in-Ok c =
    let old : PlainCaches = plain_caches c.args.self.now in
    runs Names old old c.answer.result (outcome.Names (map (λ (cache : Cache). cache.name) old.caches)) refl c.answer.ensures.minor
    (c.answer.ensures.outcome ∙ ap outcome.Names (c.new.ensures ∙ c.in-Ok.ensures ∙ names_kept c.args.self.now.caches.entries))
