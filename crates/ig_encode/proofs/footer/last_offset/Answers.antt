use Rattle.std.proofs.Common.{◌≡◌, ◌+◌, ◌-◌, length, ap, ◌∙◌, arith}
use Rattle.ig_value.specs.Canon.{Canon}
use Rattle.ig_value.specs.Objects.{last_of}
use Rattle.ig_encode.specs.declared.measure.Measure.{Measure}
use Rattle.ig_encode.specs.MeasureOutput.{measure_after, count_after, no_length}
use Rattle.ig_encode.specs.Spans.{field_offsets, offset_of}
use Rattle.ig_encode.proofs.ExtentLemmas.{last_alone, low_of}
use Rattle.ig_encode.proofs.footer.last_offset.Goals as goal

pub returns : goal.returns
returns c =
    let fields = c.args.fields.now in
    let x = c.index-fields-count.result in
    let one : length fields - 1 + 1 ≡ length fields = omega (arith, c.if-count-eq0.false) in
    let last = last_alone fields (length fields - 1) x one c.index-fields-count.is in
    let len : c.measure_value.new.out.length ≡ count_after no_length (length (Canon x)) =
    ap (λ (m : Measure). m.length) (c.measure_value.ensures ∙ ap (λ (m : Measure). measure_after m (Canon x)) c.counting-measure.ensures) in
    let low : c.measure_value.new.out.length.low ≡ length (Canon x) = low_of c.measure_value.new.out.length (length (Canon x)) len (omega (arith, last.1, c.requires, c.ranges.end.fits)) in
    let offset : c.args.end - c.measure_value.new.out.length.low ≡ last_of (field_offsets fields) = omega (arith, low, last.0, last.1, c.requires) in
    c.offset_at-2.ensures ∙ ap offset_of offset
