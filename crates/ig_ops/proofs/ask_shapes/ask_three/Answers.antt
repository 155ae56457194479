use Rattle.std.proofs.Common.{◌≡◌, ℤ, w32, to_z, of_z, ap, ◌∙◌, rules}
use Rattle.ig_ops.specs.Requests.{three_ask}
use Rattle.ig_ops.proofs.AskedLemmas.{read_served, run_is}
use Rattle.ig_ops.proofs.ask_shapes.ask_three.Goals as goal

pub returns : goal.returns
returns g c f makes =
    let cache : ℤ = c.in_ok-cache.cache in
    let same : to_z w32 (of_z w32 cache) ≡ cache = search rules in
    let key = c.in_ok-cache.key in
    let wanted = c.in_ok-cache.wanted in
    let value = c.in_ok-cache.value in
    let made : c.call.result ≡ f cache key wanted value = makes (to_z w32 (of_z w32 cache), key, wanted, value) c.call.result c.call.ensures ∙ ap (λ (z : ℤ). f z key wanted value) same in
    read_served (three_ask f) c.args.body.now ((cache, c.in_ok-cache.field-0-0-1), (key, (wanted, value))) c.run_unless.result c.in_ok-cache.ensures
    (run_is c.run_unless.result c.call.result (f cache key wanted value) c.is_null_among_three-null.result _ c.run_unless.ensures made c.is_null_among_three-null.ensures)
