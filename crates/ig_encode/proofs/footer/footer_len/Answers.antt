use Rattle.std.proofs.Common.{◌≡◌, ◌*◌, length, sym, ap, ◌∙◌}
use Rattle.ig_value.specs.Objects.{last_of}
use Rattle.ig_encode.specs.declared.span.Offset.{Offset}
use Rattle.ig_encode.specs.declared.span.OffsetWidth.{OffsetWidth}
use Rattle.ig_encode.specs.Spans.{least_width, field_offsets, entry_size}
use Rattle.ig_encode.proofs.ExtentLemmas.{footer_size, some_is}
use Rattle.ig_encode.proofs.footer.footer_len.Goals as goal

pub returns : goal.returns
returns c =
    let fields = c.args.fields.now in
    let least = least_width (last_of (field_offsets fields)) in
    let width : c.last_offset-last.result.width ≡ least = ap (λ (o : Offset). o.width) c.last_offset-last.ensures in
    some_is c.checked_mul.result _ _ _ c.checked_mul.ensures
    (ap (λ n. length fields * n) c.entry_len-entry.ensures ∙ ap (λ (w : OffsetWidth). length fields * entry_size w c.args.shape.now) width ∙ sym (footer_size least c.args.shape.now fields))
