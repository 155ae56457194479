use Rattle.std.proofs.Common.{◌≡◌, ℤ, w32, to_z, of_z, ap, ◌∙◌, rules}
use Rattle.ig_ops.specs.Requests.{two_ask}
use Rattle.ig_ops.proofs.AskedLemmas.{read_served, run_is}
use Rattle.ig_ops.proofs.ask_shapes.ask_two.Goals as goal

pub returns : goal.returns
returns g c f makes =
    let cache : ℤ = c.in_ok-cache.cache in
    let same : to_z w32 (of_z w32 cache) ≡ cache = search rules in
    let key = c.in_ok-cache.key in
    let value = c.in_ok-cache.value in
    let made : c.call.result ≡ f cache key value = makes (to_z w32 (of_z w32 cache), key, value) c.call.result c.call.ensures ∙ ap (λ (z : ℤ). f z key value) same in
    read_served (two_ask f) c.args.body.now ((cache, c.in_ok-cache.field-0-0-1), (key, value)) c.run_unless.result c.in_ok-cache.ensures
    (run_is c.run_unless.result c.call.result (f cache key value) c.is_null_among_two-null.result _ c.run_unless.ensures made c.is_null_among_two-null.ensures)
