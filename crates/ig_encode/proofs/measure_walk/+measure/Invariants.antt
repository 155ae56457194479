use Rattle.std.proofs.Common.{◌≡◌, ◌+◌, ◌*◌, take, map}
use Rattle.std.specs.List.{flat_map}
use Rattle.ig_value.specs.Canon.{Canon}
use Rattle.ig_value.specs.Limits.{Depth, greatest, pair_depth}
use Rattle.ig_encode.specs.ListBytes.{pair_bytes}
use Rattle.ig_value.specs.Objects.{last_of}
use Rattle.ig_encode.specs.MeasureOutput.{measure_after, counting_start, hashing_start}
use Rattle.ig_encode.specs.Spans.{offset_of, field_offsets, span_of}
use Rattle.ig_encode.proofs.measure_walk.+measure.Given as goal

abbrev pub invariant-measure_values-loop-value : goal.invariant-measure_values-loop-value
invariant-measure_values-loop-value l = l.out ≡ measure_after l.initial.out (flat_map Canon (take l.value-index l.values))

abbrev pub invariant-measure_pairs-loop-key : goal.invariant-measure_pairs-loop-key
invariant-measure_pairs-loop-key l = l.out ≡ measure_after l.initial.out (flat_map pair_bytes (take l.key-index l.pairs))

abbrev pub invariant-measure_span-loop-index : goal.invariant-measure_span-loop-index
invariant-measure_span-loop-index l = l.span ≡ span_of hashing_start l.shape (take l.index l.fields)

abbrev pub invariant-measure_extent-loop-field : goal.invariant-measure_extent-loop-field
invariant-measure_extent-loop-field l = record {
  counted : l.measure ≡ measure_after counting_start (flat_map Canon (take l.field-index l.fields));
  last : l.last ≡ offset_of (last_of (field_offsets (take l.field-index l.fields)));
}

abbrev pub decreases-measure_value : goal.decreases-measure_value
decreases-measure_value l = 4 * Depth l.value.now

abbrev pub decreases-measure_values : goal.decreases-measure_values
decreases-measure_values l = 4 * greatest (map Depth l.values.now) + 2

abbrev pub decreases-measure_pairs : goal.decreases-measure_pairs
decreases-measure_pairs l = 4 * greatest (map pair_depth l.pairs.now) + 2

abbrev pub decreases-measure_object : goal.decreases-measure_object
decreases-measure_object l = 4 * greatest (map Depth l.object.now.fields) + 3

abbrev pub decreases-measure_extent : goal.decreases-measure_extent
decreases-measure_extent l = 4 * greatest (map Depth l.fields.now) + 2

abbrev pub decreases-measure_span : goal.decreases-measure_span
decreases-measure_span l = 4 * greatest (map Depth l.fields.now) + 1

abbrev pub decreases-measure_item : goal.decreases-measure_item
decreases-measure_item l = 4 * Depth l.value.now + 1
