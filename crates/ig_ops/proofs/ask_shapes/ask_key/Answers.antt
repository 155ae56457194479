use Rattle.std.proofs.Common.{◌≡◌, ℤ, w32, to_z, of_z, sym, ap, ◌∙◌, rules}
use Rattle.std.proofs.Math.Bool.{or-false}
use Rattle.ig_ops.specs.Requests.{key_ask}
use Rattle.ig_ops.proofs.AskedLemmas.{read_served, run_is}
use Rattle.ig_ops.proofs.ask_shapes.ask_key.Goals as goal

pub returns : goal.returns
returns g c f makes =
    let cache : ℤ = c.in_ok-cache.cache in
    let same : to_z w32 (of_z w32 cache) ≡ cache = search rules in
    let key = c.in_ok-cache.key in
    let made : c.call.result ≡ f cache key = makes (to_z w32 (of_z w32 cache), key) c.call.result c.call.ensures ∙ ap (λ (z : ℤ). f z key) same in
    read_served (key_ask f) c.args.body.now ((cache, c.in_ok-cache.field-0-0-1), key) c.run_unless.result c.in_ok-cache.ensures
    (run_is c.run_unless.result c.call.result (f cache key) c.is_null-null.result _ c.run_unless.ensures made (c.is_null-null.ensures ∙ sym (or-false _)))
