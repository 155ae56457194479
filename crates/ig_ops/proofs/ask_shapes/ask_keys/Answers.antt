use Rattle.std.proofs.Common.{◌≡◌, ℤ, w32, to_z, of_z, List, ap, ◌∙◌, rules}
use Rattle.std.specs.List.{list_any}
use Rattle.ig_value.specs.declared.Value.{Value}
use Rattle.ig_fields.specs.ReadingFields.{is_null}
use Rattle.ig_ops.specs.Requests.{keys_ask}
use Rattle.ig_ops.proofs.AskedLemmas.{read_served, run_is}
use Rattle.ig_ops.proofs.ask_shapes.ask_keys.Goals as goal

pub returns : goal.returns
returns g c f makes =
    let cache : ℤ = c.in_ok-cache.cache in
    let same : to_z w32 (of_z w32 cache) ≡ cache = search rules in
    let keys = c.in_ok-cache.keys in
    let made : c.call.result ≡ f cache keys = makes (to_z w32 (of_z w32 cache), keys) c.call.result c.call.ensures ∙ ap (λ (z : ℤ). f z keys) same in
    let null : c.any_null-null.result ≡ list_any is_null keys = c.any_null-null.ensures ∙ ap (λ (l : List Value). list_any is_null l) c.as_slice.ensures in
    read_served (keys_ask f) c.args.body.now ((cache, c.in_ok-cache.field-0-0-1), keys) c.run_unless.result c.in_ok-cache.ensures
    (run_is c.run_unless.result c.call.result (f cache keys) c.any_null-null.result (list_any is_null keys) c.run_unless.ensures made null)
