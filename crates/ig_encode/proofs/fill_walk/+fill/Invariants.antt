use Rattle.std.proofs.Common.{◌≡◌, ◌+◌, ◌*◌, take, map}
use Rattle.std.specs.List.{flat_map}
use Rattle.ig_value.specs.Canon.{Canon}
use Rattle.ig_value.specs.Limits.{Depth, greatest, pair_depth}
use Rattle.ig_encode.specs.ListBytes.{pair_bytes}
use Rattle.ig_encode.specs.Spans.{type_of, field_footer}
use Rattle.ig_encode.specs.WindowOutput.{window_after}
use Rattle.ig_encode.proofs.ExtentLemmas.{fresh_window}
use Rattle.ig_encode.proofs.fill_walk.+fill.Given as goal

abbrev pub invariant-fill_values-loop-value : goal.invariant-fill_values-loop-value
invariant-fill_values-loop-value l = (l.out, l.into) ≡ window_after l.initial.out l.initial.into (flat_map Canon (take l.value-index l.values))

abbrev pub invariant-fill_pairs-loop-key : goal.invariant-fill_pairs-loop-key
invariant-fill_pairs-loop-key l = (l.out, l.into) ≡ window_after l.initial.out l.initial.into (flat_map pair_bytes (take l.key-index l.pairs))

abbrev pub invariant-write_fields-loop-index : goal.invariant-write_fields-loop-index
invariant-write_fields-loop-index l = record {
  fields : (l.written, l.room) ≡ window_after fresh_window l.initial.room (flat_map Canon (take l.index l.fields));
  footer : (l.entries, l.footer) ≡ window_after fresh_window l.initial.footer (field_footer (type_of l.width) l.shape (take l.index l.fields));
}

abbrev pub decreases-fill_value : goal.decreases-fill_value
decreases-fill_value l = 4 * Depth l.value.now

abbrev pub decreases-fill_values : goal.decreases-fill_values
decreases-fill_values l = 4 * greatest (map Depth l.values.now) + 1

abbrev pub decreases-fill_pairs : goal.decreases-fill_pairs
decreases-fill_pairs l = 4 * greatest (map pair_depth l.pairs.now) + 1

abbrev pub decreases-fill_object : goal.decreases-fill_object
decreases-fill_object l = 4 * greatest (map Depth l.object.now.fields) + 3

abbrev pub decreases-write_object : goal.decreases-write_object
decreases-write_object l = 4 * greatest (map Depth l.fields.now) + 2

abbrev pub decreases-write_fields : goal.decreases-write_fields
decreases-write_fields l = 4 * greatest (map Depth l.fields.now) + 1
