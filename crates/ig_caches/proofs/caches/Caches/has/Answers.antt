use Rattle.std.proofs.Common.{◌≡◌, w32, to_z, of_z, is_some, ap, sym, ◌∙◌}
use Rattle.std.proofs.lemmas.Int.{to_z-of_z}
use Rattle.ig_caches.proofs.CacheLemmas.{kept_at, any_kept}
use Rattle.ig_caches.proofs.caches.Caches.has.Goals as goal

pub returns : goal.returns
returns c =
    let id : to_z w32 (of_z w32 c.args.id) ≡ c.args.id = to_z-of_z w32 c.args.id c.ranges.id in
    c.contains_key.ensures ∙ ap (λ i. is_some (kept_at i c.args.self.now.caches.entries)) id ∙ sym (any_kept c.args.self.now.caches.entries c.args.id)
