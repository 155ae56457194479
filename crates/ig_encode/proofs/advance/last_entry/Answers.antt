use Rattle.std.proofs.Common.{◌≡◌, ◌<◌, ◌≤◌, length, ap, ◌∙◌, arith}
use Rattle.ig_value.specs.Objects.{last_of}
use Rattle.ig_value.specs.Canon.{Canon}
use Rattle.ig_encode.specs.declared.span.Offset.{Offset}
use Rattle.ig_encode.specs.Spans.{least_width, field_offsets, entry_size}
use Rattle.ig_encode.proofs.MarkLemmas.{get_within, step_more, entry_reached}
use Rattle.ig_encode.proofs.advance.last_entry.Goals as goal

pub loop-step-preserved : goal.loop-step-preserved
loop-step-preserved c =
    let fields = c.args.fields.now in
    let i = c.loop-step.step.index in
    let lt : i < length fields = omega (arith, c.loop-step-test.true, c.items_before-last.ensures.within) in
    let le : c.args.end ≤ c.args.offset = omega (arith, c.loop-step.invariant.reached) in
    let entry : c.entry_len.result ≡ entry_size (least_width (last_of (field_offsets fields))) c.args.shape.now =
    c.entry_len.ensures ∙ ap (λ (o : Offset). entry_size o.width c.args.shape.now) c.last_offset-width.ensures in
    record {
      field = step_more Canon 24 fields c.args.offset c.loop-step.step c.index-fields-step.result c.in-Some.next c.loop-step.invariant.field (get_within fields i c.index-fields-step.result lt c.index-fields-step.is) c.in-Some.ensures.0 c.in-Some.ensures.1;
      reached = entry_reached c.args.shape.now fields c.args.end c.args.offset i c.items_before-last.result c.entry_len.result entry le c.loop-step-test.true c.items_before-last.ensures.within c.items_before-last.ensures.before;
    }
