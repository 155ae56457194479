use Rattle.std.proofs.Common.{◌≡◌, ℤ, rules}
use Rattle.std.specs.Prelude.{is_some}
use Rattle.ig_caches.specs.declared.request.Request.TheVariants.{Scan}
use Rattle.ig_fields.specs.AsksRightly.{served}
use Rattle.ig_ops.specs.Requests.{scan_ask, scan_refused}
use Rattle.ig_ops.proofs.AskedLemmas.{read_served}
use Rattle.ig_ops.proofs.ask_shapes.ask_scan.Goals as goal

pub returns : goal.returns
returns c =
    let cache : ℤ = c.in_ok-cache.cache in
    let page : ℤ = c.in_ok-cache.page in
    let partition : ℤ = c.in_ok-cache.partition in
    let filter = c.in_ok-cache.filter in
    let asks : c.scan_unless.result ≡ served (Scan cache page) (scan_refused (is_some filter) page partition) = search rules in
    read_served scan_ask c.args.body.now ((cache, c.in_ok-cache.field-0-0-1), (filter, (page, (partition, c.in_ok-cache.field-0-1-1-1-1)))) c.scan_unless.result c.in_ok-cache.ensures asks
