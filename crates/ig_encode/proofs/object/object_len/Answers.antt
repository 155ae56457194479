use Rattle.std.proofs.Common.{◌≡◌, ◌*◌, length, ap, arith}
use Rattle.std.specs.List.{flat_map}
use Rattle.ig_value.specs.Canon.{Canon}
use Rattle.ig_encode.specs.Spans.{least_footer}
use Rattle.ig_encode.specs.declared.span.Extent.{Extent}
use Rattle.ig_encode.proofs.ExtentLemmas.{footer_counted, length_low, some_is}
use Rattle.ig_encode.proofs.object.object_len.Goals as goal

pub returns : goal.returns
returns c =
    let low : c.args.extent.now.length.low ≡ length (flat_map Canon c.args.fields.now) = length_low (length (flat_map Canon c.args.fields.now)) c.args.extent.now.length (ap (λ (e : Extent). e.length) c.requires) (omega arith) in
    let footer : length c.args.fields.now * c.entry_len.result ≡ length (least_footer c.args.shape.now c.args.fields.now) =
    footer_counted c.args.shape.now c.args.fields.now c.args.extent.now c.entry_len.result c.requires c.entry_len.ensures in
    some_is c.checked_add-2.result _ _ _ c.checked_add-2.ensures (omega (arith, footer, low, c.in_ok-footer.ensures, c.in_ok-parts.ensures))
