use Rattle.std.proofs.Common.{◌≡◌, ◌+◌, ◌*◌, ◌≤◌, ◌∷◌, [], ◌++◌, length, suc}
use Rattle.std.specs.List.{flat_map}
use Rattle.ig_value.specs.Canon.{Canon}
use Rattle.ig_value.specs.Objects.{last_of, offsets_of}
use Rattle.ig_value.specs.Reading.{value_at, many_at, both_at, laid_at}
use Rattle.ig_decode.specs.Exactness.{KeepsExact}
use Rattle.ig_decode.specs.FooterForms.{offsets_type, key_bytes, entry_bytes, footer_offsets, last_offset}
use Rattle.ig_decode.proofs.FieldsLemmas.{with_fields, fields_left}
use Rattle.ig_decode.proofs.LoopLemmas.{with_front}
use Rattle.ig_decode.proofs.value.+value.Given as goal

abbrev pub invariant-values_of-each : goal.invariant-values_of-each
invariant-values_of-each l = record {
  reads : with_front l.values.items (many_at (value_at l.levels) l.left.items l.rest) ≡ many_at (value_at l.levels) l.fn.count.items l.bytes;
  exact : KeepsExact l.initial.exact l.exact l.bytes (flat_map Canon l.values.items) l.rest;
}

abbrev pub decreases-values_of-each : goal.decreases-values_of-each
decreases-values_of-each l = l.left.items

abbrev pub invariant-pairs_of-each : goal.invariant-pairs_of-each
invariant-pairs_of-each l = record {
  reads : with_front l.pairs.items (many_at (both_at (value_at l.levels) (value_at l.levels)) l.left.items l.rest) ≡ many_at (both_at (value_at l.levels) (value_at l.levels)) l.fn.count.items l.bytes;
  exact : KeepsExact l.initial.exact l.exact l.bytes (flat_map (λ p. Canon p.0 ++ Canon p.1) l.pairs.items) l.rest;
}

abbrev pub decreases-pairs_of-each : goal.decreases-pairs_of-each
decreases-pairs_of-each l = l.left.items

abbrev pub invariant-fields_of-each : goal.invariant-fields_of-each
invariant-fields_of-each l = record {
  reads : with_fields l.values.items (fields_left (value_at l.levels) (offsets_type l.form) (key_bytes l.form) l.fields l.footer l.left.items l.entries l.rest)
      ≡ laid_at (value_at l.levels) (entry_bytes l.form) (24 + length l.fields + key_bytes l.form) (24 + length l.fields) (footer_offsets l.form l.footer) l.fields;
  last : last_of (l.last ∷ offsets_of (offsets_type l.form) (key_bytes l.form) l.left.items l.entries) ≡ last_offset l.form l.footer;
  exact : KeepsExact l.initial.exact l.exact l.fields (flat_map Canon l.values.items) l.rest;
  there : l.left.items * entry_bytes l.form ≤ length l.entries;
  within : length l.entries ≤ length l.footer;
}

abbrev pub decreases-fields_of-each : goal.decreases-fields_of-each
decreases-fields_of-each l = l.left.items

abbrev pub decreases-value_of : goal.decreases-value_of
decreases-value_of l = 4 * l.levels

abbrev pub decreases-content_of : goal.decreases-content_of
decreases-content_of l = 4 * l.levels + 3

abbrev pub decreases-objects_of : goal.decreases-objects_of
decreases-objects_of l = 4 * l.levels + 2

abbrev pub decreases-enums_of : goal.decreases-enums_of
decreases-enums_of l = 4 * l.levels + 2

abbrev pub decreases-collection_of : goal.decreases-collection_of
decreases-collection_of l = 4 * l.levels + 2

abbrev pub decreases-map_of : goal.decreases-map_of
decreases-map_of l = 4 * l.levels + 2

abbrev pub decreases-values_of : goal.decreases-values_of
decreases-values_of l = 4 * l.levels + 1

abbrev pub decreases-pairs_of : goal.decreases-pairs_of
decreases-pairs_of l = 4 * l.levels + 1

abbrev pub decreases-object_of : goal.decreases-object_of
decreases-object_of l = 4 * l.levels + 2

abbrev pub decreases-fields_of : goal.decreases-fields_of
decreases-fields_of l = 4 * l.levels + 1
