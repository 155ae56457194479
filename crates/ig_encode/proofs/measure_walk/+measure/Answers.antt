use Rattle.std.proofs.Common.{List, ◌∷◌, length, map, take, refl, sym, ap, ◌∙◌, arith}
use Rattle.std.specs.List.{flat_map}
use Rattle.ig_value.specs.declared.value.Value.TheVariants as value
use Rattle.ig_value.specs.Canon.{Canon}
use Rattle.ig_value.specs.Limits.{Depth, greatest, pair_depth}
use Rattle.ig_value.proofs.DepthLemmas.{greatest_item, Depth_objects, Depth_collection, Depth_enums, Depth_map, Depth_object}
use Rattle.ig_encode.specs.ListBytes.{pair_bytes}
use Rattle.ig_value.specs.Objects.{object_bytes}
use Rattle.ig_value.specs.declared.value.Value.{Value}
use Rattle.ig_encode.specs.declared.measure.Measure.{Measure}
use Rattle.ig_encode.specs.Spans.{offset_of, span_of}
use Rattle.ig_encode.specs.MeasureOutput.{measure_after, counting_start, hashing_start}
use Rattle.ig_encode.proofs.CanonLemmas.{Canon_objects, Canon_enums, Canon_collection, Canon_map, Canon_object, typed_head, kinded_head}
use Rattle.ig_encode.proofs.MeasureLemmas.{measure_none, measured_both, measured_more}
use Rattle.ig_encode.proofs.SpanLemmas.{span_more, span_none, measure_two, fresh_hashing}
use Rattle.ig_encode.proofs.ExtentLemmas.{last_next}
use Rattle.ig_encode.proofs.measure_walk.+measure.Goals as goal

pub measure_value-returns-in-Objects : goal.measure_value-returns-in-Objects
measure_value-returns-in-Objects t c =
    let xs = c.as_slice-items.result.now in
    measured_both c.args.out.now c.put_typed.new.out c.measure_values.new.out _ c.put_typed.new.into (typed_head 23 c.in-Objects.type_id (length xs)) (flat_map Canon xs) c.put_typed.ensures c.measure_values.ensures
    ∙ ap (measure_after c.args.out.now) (sym (Canon_objects c.args.value.now c.in-Objects.type_id xs (c.in-Objects.is ∙ ap (value.Objects c.in-Objects.type_id) (sym c.as_slice-items.ensures))))

pub measure_value-returns-in-Collection : goal.measure_value-returns-in-Collection
measure_value-returns-in-Collection t c =
    let xs = c.as_slice-items-in-Collection.result.now in
    measured_both c.args.out.now c.put_kinded.new.out c.measure_values-in-Collection.new.out _ c.put_kinded.new.into (kinded_head 24 c.in-Collection.kind (length xs)) (flat_map Canon xs) c.put_kinded.ensures c.measure_values-in-Collection.ensures
    ∙ ap (measure_after c.args.out.now) (sym (Canon_collection c.args.value.now c.in-Collection.kind xs (c.in-Collection.is ∙ ap (value.Collection c.in-Collection.kind) (sym c.as_slice-items-in-Collection.ensures))))

pub measure_value-returns-in-Map : goal.measure_value-returns-in-Map
measure_value-returns-in-Map t c =
    let ps = c.as_slice-pairs.result.now in
    measured_both c.args.out.now c.put_kinded-in-Map.new.out c.measure_pairs.new.out _ c.put_kinded-in-Map.new.into (kinded_head 25 c.in-Map.kind (length ps)) (flat_map pair_bytes ps) c.put_kinded-in-Map.ensures c.measure_pairs.ensures
    ∙ ap (measure_after c.args.out.now) (sym (Canon_map c.args.value.now c.in-Map.kind ps (c.in-Map.is ∙ ap (value.Map c.in-Map.kind) (sym c.as_slice-pairs.ensures))))

pub measure_value-returns-in-Enums : goal.measure_value-returns-in-Enums
measure_value-returns-in-Enums t c =
    let xs = c.as_slice-items-in-Enums.result.now in
    measured_both c.args.out.now c.put_typed-in-Enums.new.out c.measure_values-in-Enums.new.out _ c.put_typed-in-Enums.new.into (typed_head 29 c.in-Enums.type_id (length xs)) (flat_map Canon xs) c.put_typed-in-Enums.ensures c.measure_values-in-Enums.ensures
    ∙ ap (measure_after c.args.out.now) (sym (Canon_enums c.args.value.now c.in-Enums.type_id xs (c.in-Enums.is ∙ ap (value.Enums c.in-Enums.type_id) (sym c.as_slice-items-in-Enums.ensures))))

pub measure_value-returns-in-Object : goal.measure_value-returns-in-Object
measure_value-returns-in-Object t c =
    let o = c.get.result.now in
    c.measure_object.ensures ∙ ap (measure_after c.args.out.now) (sym (Canon_object c.args.value.now o (c.in-Object.is ∙ ap value.Object (sym c.get.ensures))))

pub measure_object-returns-in-None : goal.measure_object-returns-in-None
measure_object-returns-in-None t c =
    let o = c.args.object.now in
    c.count_object.ensures o.bits o.type_id ∙ ap (λ (xs : List Value). measure_after c.args.out.now (103 ∷ object_bytes o.bits o.type_id o.shape (map Canon xs))) c.as_slice-fields.ensures

pub measure_object-put_measured-requires : goal.measure_object-put_measured-requires
measure_object-put_measured-requires t c =
    let o = c.args.object.now in
    c.measure_span-span.ensures ∙ ap (span_of hashing_start o.shape) c.as_slice-fields.ensures ∙ ap (λ (m : Measure). span_of m o.shape o.fields) (sym (fresh_hashing c.args.out.now _ c.in-Some.is))

pub measure_extent-loop-field-init : goal.measure_extent-loop-field-init
measure_extent-loop-field-init t c = record { counted = c.counting-measure.ensures ∙ measure_none counting_start; last = refl }

pub measure_extent-loop-field-preserved : goal.measure_extent-loop-field-preserved
measure_extent-loop-field-preserved t c = record {
  counted = measured_more Canon counting_start c.args.fields.now c.loop-field.field-index c.field-item.result c.loop-field.measure c.measure_item.new.out c.loop-field-test.true c.field-item.is c.loop-field.invariant.counted c.measure_item.ensures;
  last = c.offset_after-last.ensures (length (flat_map Canon (take c.loop-field.field-index c.args.fields.now))) (ap (λ (m : Measure). m.length) c.loop-field.invariant.counted)
      ∙ ap offset_of (sym (last_next c.args.fields.now c.loop-field.field-index c.field-item.result c.loop-field-test.true));
}

pub measure_values-loop-value-init : goal.measure_values-loop-value-init
measure_values-loop-value-init t c = measure_none c.args.out.now

pub measure_pairs-loop-key-init : goal.measure_pairs-loop-key-init
measure_pairs-loop-key-init t c = measure_none c.args.out.now

pub measure_values-loop-value-preserved : goal.measure_values-loop-value-preserved
measure_values-loop-value-preserved t c =
    measured_more Canon c.args.out.now c.args.values.now c.loop-value.value-index c.value-item.result c.loop-value.out c.measure_item.new.out c.loop-value-test.true c.value-item.is c.loop-value.invariant c.measure_item.ensures

pub measure_pairs-loop-key-preserved : goal.measure_pairs-loop-key-preserved
measure_pairs-loop-key-preserved t c =
    measured_more pair_bytes c.args.out.now c.args.pairs.now c.loop-key.key-index c.loop-key-item.result c.loop-key.out c.measure_item-in-loop-key.new.out c.loop-key-test.true c.loop-key-item.is c.loop-key.invariant
    (c.measure_item-in-loop-key.ensures ∙ ap (λ m. measure_after m (Canon c.loop-key-item.result.1)) c.measure_item.ensures ∙ sym (measure_two c.loop-key.out (Canon c.loop-key-item.result.0) (Canon c.loop-key-item.result.1)))

pub measure_span-loop-index-init : goal.measure_span-loop-index-init
measure_span-loop-index-init t c = span_none hashing_start c.args.shape.now c.hashing.result c.hashing-2.result c.hashing-3.result c.hashing-4.result c.hashing.ensures c.hashing-2.ensures c.hashing-3.ensures c.hashing-4.ensures

pub measure_span-loop-index-preserved : goal.measure_span-loop-index-preserved
measure_span-loop-index-preserved t c =
    span_more hashing_start c.args.shape.now c.args.fields.now c.loop-index.index c.index-fields-index.result c.loop-index.span c.note_entry.new.span c.measure_value.new.out c.loop-index-test.true c.index-fields-index.is refl c.loop-index.invariant
    c.note_entry.ensures c.measure_value.ensures

pub measure_value-measure_values-requires : goal.measure_value-measure_values-requires
measure_value-measure_values-requires t c =
    let d = Depth_objects c.args.value.now c.in-Objects.type_id c.in-Objects.items c.in-Objects.is in
    let same = ap (λ (l : List Value). greatest (map Depth l)) c.as_slice-items.ensures in
    (omega (arith, same), tt)

pub measure_value-measure_values-requires-in-Collection : goal.measure_value-measure_values-requires-in-Collection
measure_value-measure_values-requires-in-Collection t c =
    let d = Depth_collection c.args.value.now c.in-Collection.kind c.in-Collection.items c.in-Collection.is in
    let same = ap (λ (l : List Value). greatest (map Depth l)) c.as_slice-items-in-Collection.ensures in
    (omega (arith, same), tt)

pub measure_value-measure_values-requires-in-Enums : goal.measure_value-measure_values-requires-in-Enums
measure_value-measure_values-requires-in-Enums t c =
    let d = Depth_enums c.args.value.now c.in-Enums.type_id c.in-Enums.items c.in-Enums.is in
    let same = ap (λ (l : List Value). greatest (map Depth l)) c.as_slice-items-in-Enums.ensures in
    (omega (arith, same), tt)

pub measure_value-measure_pairs-requires : goal.measure_value-measure_pairs-requires
measure_value-measure_pairs-requires t c =
    let d = Depth_map c.args.value.now c.in-Map.kind c.in-Map.pairs c.in-Map.is in
    let same = ap (λ (l : List (Value × Value)). greatest (map pair_depth l)) c.as_slice-pairs.ensures in
    (omega (arith, same), tt)

pub measure_value-measure_object-requires : goal.measure_value-measure_object-requires
measure_value-measure_object-requires t c =
    let d = Depth_object c.args.value.now c.get.result.now (c.in-Object.is ∙ ap value.Object (sym c.get.ensures)) in
    (omega arith, tt)

pub measure_object-measure_extent-extent-requires : goal.measure_object-measure_extent-extent-requires
measure_object-measure_extent-extent-requires t c =
    let same = ap (λ (l : List Value). greatest (map Depth l)) c.as_slice-fields.ensures in
    (omega (arith, same), tt)

pub measure_object-measure_span-span-requires : goal.measure_object-measure_span-span-requires
measure_object-measure_span-span-requires t c =
    let same = ap (λ (l : List Value). greatest (map Depth l)) c.as_slice-fields.ensures in
    (omega (arith, same), tt)

pub measure_values-measure_item-requires : goal.measure_values-measure_item-requires
measure_values-measure_item-requires t c =
    (omega (arith, greatest_item Depth c.args.values.now c.loop-value.value-index c.value-item.result c.loop-value-test.true, ap Depth c.value-item.is), tt)

pub measure_extent-measure_item-requires : goal.measure_extent-measure_item-requires
measure_extent-measure_item-requires t c =
    (omega (arith, greatest_item Depth c.args.fields.now c.loop-field.field-index c.field-item.result c.loop-field-test.true, ap Depth c.field-item.is), tt)

pub measure_span-measure_value-requires : goal.measure_span-measure_value-requires
measure_span-measure_value-requires t c =
    (omega (arith, greatest_item Depth c.args.fields.now c.loop-index.index c.index-fields-index.result c.loop-index-test.true, ap Depth c.index-fields-index.is), tt)

pub measure_pairs-measure_item-requires : goal.measure_pairs-measure_item-requires
measure_pairs-measure_item-requires t c =
    (omega (arith, greatest_item pair_depth c.args.pairs.now c.loop-key.key-index c.loop-key-item.result c.loop-key-test.true, ap pair_depth c.loop-key-item.is), tt)

pub measure_pairs-measure_item-requires-in-loop-key : goal.measure_pairs-measure_item-requires-in-loop-key
measure_pairs-measure_item-requires-in-loop-key t c =
    (omega (arith, greatest_item pair_depth c.args.pairs.now c.loop-key.key-index c.loop-key-item.result c.loop-key-test.true, ap pair_depth c.loop-key-item.is), tt)
