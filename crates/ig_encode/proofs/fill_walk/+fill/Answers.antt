use Rattle.std.proofs.Common.{◌≡◌, ℕ, ◌+◌, ◌%◌, ◌^◌, List, ◌∷◌, length, map, take, refl, sym, ap, ◌∙◌, arith}
use Rattle.std.specs.List.{flat_map}
use Rattle.ig_value.specs.declared.value.Value.{Value}
use Rattle.ig_value.specs.declared.value.Value.TheVariants as value
use Rattle.ig_value.specs.Canon.{Canon}
use Rattle.ig_value.specs.Limits.{Depth, greatest, pair_depth}
use Rattle.ig_value.proofs.DepthLemmas.{greatest_item, Depth_objects, Depth_collection, Depth_enums, Depth_map, Depth_object}
use Rattle.ig_encode.specs.ListBytes.{pair_bytes}
use Rattle.ig_encode.specs.WindowOutput.{window_after, filled_empty, filled_longer}
use Rattle.ig_encode.proofs.CanonLemmas.{Canon_objects, Canon_enums, Canon_collection, Canon_map, Canon_object, typed_head, kinded_head}
use Rattle.ig_encode.proofs.OutputLemmas.{two, each_full, each_more}
use Rattle.ig_base.specs.Headers.{header_bytes}
use Rattle.ig_value.specs.Objects.{object_bytes}
use Rattle.ig_encode.specs.declared.window.Window.{Window}
use Rattle.ig_encode.specs.declared.span.Extent.{Extent}
use Rattle.ig_encode.specs.Spans.{type_of, offset_of, entry_bytes, canonical_header, field_footer}
use Rattle.ig_encode.proofs.SpanLemmas.{object_put, footer_next, next_offset}
use Rattle.ig_encode.proofs.ExtentLemmas.{fresh_window, filled_length, object_size, object_written, front_length}
use Rattle.ig_encode.proofs.fill_walk.+fill.Goals.{fill_object-in-Some+else-count+in_default-place, fill_object-in_default}
use Rattle.ig_encode.proofs.fill_walk.+fill.Goals as goal

pub fill_value-returns-in-Objects : goal.fill_value-returns-in-Objects
fill_value-returns-in-Objects t c =
    let xs = c.as_slice-items.result.now in
    two window_after filled_longer c.args.out.now c.args.into.now (typed_head 23 c.in-Objects.type_id (length xs)) (flat_map Canon xs) (c.put_typed.new.out, c.put_typed.new.into) (c.fill_values.new.out, c.fill_values.new.into) c.put_typed.ensures c.fill_values.ensures
    ∙ ap (window_after c.args.out.now c.args.into.now) (sym (Canon_objects c.args.value.now c.in-Objects.type_id xs (c.in-Objects.is ∙ ap (value.Objects c.in-Objects.type_id) (sym c.as_slice-items.ensures))))

pub fill_value-returns-in-Collection : goal.fill_value-returns-in-Collection
fill_value-returns-in-Collection t c =
    let xs = c.as_slice-items-in-Collection.result.now in
    two window_after filled_longer c.args.out.now c.args.into.now (kinded_head 24 c.in-Collection.kind (length xs)) (flat_map Canon xs) (c.put_kinded.new.out, c.put_kinded.new.into) (c.fill_values-in-Collection.new.out, c.fill_values-in-Collection.new.into)
    c.put_kinded.ensures c.fill_values-in-Collection.ensures
    ∙ ap (window_after c.args.out.now c.args.into.now) (sym (Canon_collection c.args.value.now c.in-Collection.kind xs (c.in-Collection.is ∙ ap (value.Collection c.in-Collection.kind) (sym c.as_slice-items-in-Collection.ensures))))

pub fill_value-returns-in-Map : goal.fill_value-returns-in-Map
fill_value-returns-in-Map t c =
    let ps = c.as_slice-pairs.result.now in
    two window_after filled_longer c.args.out.now c.args.into.now (kinded_head 25 c.in-Map.kind (length ps)) (flat_map pair_bytes ps) (c.put_kinded-in-Map.new.out, c.put_kinded-in-Map.new.into) (c.fill_pairs.new.out, c.fill_pairs.new.into) c.put_kinded-in-Map.ensures c.fill_pairs.ensures
    ∙ ap (window_after c.args.out.now c.args.into.now) (sym (Canon_map c.args.value.now c.in-Map.kind ps (c.in-Map.is ∙ ap (value.Map c.in-Map.kind) (sym c.as_slice-pairs.ensures))))

pub fill_value-returns-in-Enums : goal.fill_value-returns-in-Enums
fill_value-returns-in-Enums t c =
    let xs = c.as_slice-items-in-Enums.result.now in
    two window_after filled_longer c.args.out.now c.args.into.now (typed_head 29 c.in-Enums.type_id (length xs)) (flat_map Canon xs) (c.put_typed-in-Enums.new.out, c.put_typed-in-Enums.new.into) (c.fill_values-in-Enums.new.out, c.fill_values-in-Enums.new.into)
    c.put_typed-in-Enums.ensures c.fill_values-in-Enums.ensures
    ∙ ap (window_after c.args.out.now c.args.into.now) (sym (Canon_enums c.args.value.now c.in-Enums.type_id xs (c.in-Enums.is ∙ ap (value.Enums c.in-Enums.type_id) (sym c.as_slice-items-in-Enums.ensures))))

pub fill_value-returns-in-Object : goal.fill_value-returns-in-Object
fill_value-returns-in-Object t c =
    let o = c.get.result.now in
    c.fill_object.ensures ∙ ap (window_after c.args.out.now c.args.into.now) (sym (Canon_object c.args.value.now o (c.in-Object.is ∙ ap value.Object (sym c.get.ensures))))

pub fill_values-returns-then-is_full : goal.fill_values-returns-then-is_full
fill_values-returns-then-is_full t c =
    each_full window_after filled_longer Canon c.args.out.now c.args.into.now c.args.values.now c.loop-value.value-index (c.loop-value.out, c.loop-value.into) c.loop-value.invariant (c.is_full.ensures c.if-is_full.true)

pub fill_pairs-returns-then-is_full : goal.fill_pairs-returns-then-is_full
fill_pairs-returns-then-is_full t c =
    each_full window_after filled_longer pair_bytes c.args.out.now c.args.into.now c.args.pairs.now c.loop-key.key-index (c.loop-key.out, c.loop-key.into) c.loop-key.invariant (c.is_full.ensures c.if-is_full.true)

pub fill_values-loop-value-init : goal.fill_values-loop-value-init
fill_values-loop-value-init t c = sym (filled_empty c.args.out.now c.args.into.now)

pub fill_values-loop-value-preserved : goal.fill_values-loop-value-preserved
fill_values-loop-value-preserved t c =
    each_more window_after filled_longer Canon c.args.out.now c.args.into.now c.args.values.now c.loop-value.value-index c.value-item.result (c.loop-value.out, c.loop-value.into) (c.fill_value.new.out, c.fill_value.new.into)
    c.loop-value-test.true c.value-item.is c.loop-value.invariant c.fill_value.ensures

pub fill_pairs-loop-key-init : goal.fill_pairs-loop-key-init
fill_pairs-loop-key-init t c = sym (filled_empty c.args.out.now c.args.into.now)

pub fill_pairs-loop-key-preserved : goal.fill_pairs-loop-key-preserved
fill_pairs-loop-key-preserved t c =
    each_more window_after filled_longer pair_bytes c.args.out.now c.args.into.now c.args.pairs.now c.loop-key.key-index c.loop-key-item.result (c.loop-key.out, c.loop-key.into) (c.fill_value-in-loop-key.new.out, c.fill_value-in-loop-key.new.into)
    c.loop-key-test.true c.loop-key-item.is c.loop-key.invariant
    (two window_after filled_longer c.loop-key.out c.loop-key.into (Canon c.loop-key-item.result.0) (Canon c.loop-key-item.result.1) (c.fill_value.new.out, c.fill_value.new.into) (c.fill_value-in-loop-key.new.out, c.fill_value-in-loop-key.new.into) c.fill_value.ensures c.fill_value-in-loop-key.ensures)

pub fill_value-fill_values-requires : goal.fill_value-fill_values-requires
fill_value-fill_values-requires t c =
    let d = Depth_objects c.args.value.now c.in-Objects.type_id c.in-Objects.items c.in-Objects.is in
    let same = ap (λ (l : List Value). greatest (map Depth l)) c.as_slice-items.ensures in
    (omega (arith, same), tt)

pub fill_value-fill_values-requires-in-Collection : goal.fill_value-fill_values-requires-in-Collection
fill_value-fill_values-requires-in-Collection t c =
    let d = Depth_collection c.args.value.now c.in-Collection.kind c.in-Collection.items c.in-Collection.is in
    let same = ap (λ (l : List Value). greatest (map Depth l)) c.as_slice-items-in-Collection.ensures in
    (omega (arith, same), tt)

pub fill_value-fill_values-requires-in-Enums : goal.fill_value-fill_values-requires-in-Enums
fill_value-fill_values-requires-in-Enums t c =
    let d = Depth_enums c.args.value.now c.in-Enums.type_id c.in-Enums.items c.in-Enums.is in
    let same = ap (λ (l : List Value). greatest (map Depth l)) c.as_slice-items-in-Enums.ensures in
    (omega (arith, same), tt)

pub fill_value-fill_pairs-requires : goal.fill_value-fill_pairs-requires
fill_value-fill_pairs-requires t c =
    let d = Depth_map c.args.value.now c.in-Map.kind c.in-Map.pairs c.in-Map.is in
    let same = ap (λ (l : List (Value × Value)). greatest (map pair_depth l)) c.as_slice-pairs.ensures in
    (omega (arith, same), tt)

pub fill_value-fill_object-requires : goal.fill_value-fill_object-requires
fill_value-fill_object-requires t c =
    let d = Depth_object c.args.value.now c.get.result.now (c.in-Object.is ∙ ap value.Object (sym c.get.ensures)) in
    (omega arith, tt)

pub fill_object-fill_values-requires : goal.fill_object-fill_values-requires
fill_object-fill_values-requires t c =
    let same = ap (λ (l : List Value). greatest (map Depth l)) c.as_slice-fields.ensures in
    (omega (arith, same), tt)

pub fill_values-fill_value-requires : goal.fill_values-fill_value-requires
fill_values-fill_value-requires t c =
    (omega (arith, greatest_item Depth c.args.values.now c.loop-value.value-index c.value-item.result c.loop-value-test.true, ap Depth c.value-item.is), tt)

pub fill_pairs-fill_value-requires : goal.fill_pairs-fill_value-requires
fill_pairs-fill_value-requires t c =
    (omega (arith, greatest_item pair_depth c.args.pairs.now c.loop-key.key-index c.loop-key-item.result c.loop-key-test.true, ap pair_depth c.loop-key-item.is), tt)

pub fill_pairs-fill_value-requires-in-loop-key : goal.fill_pairs-fill_value-requires-in-loop-key
fill_pairs-fill_value-requires-in-loop-key t c =
    (omega (arith, greatest_item pair_depth c.args.pairs.now c.loop-key.key-index c.loop-key-item.result c.loop-key-test.true, ap pair_depth c.loop-key-item.is), tt)

pub write_fields-fill_value-requires : goal.write_fields-fill_value-requires
write_fields-fill_value-requires t c =
    (omega (arith, greatest_item Depth c.args.fields.now c.loop-index.index c.index-fields-index.result c.loop-index-test.true, ap Depth c.index-fields-index.is), tt)

pub fill_object-returns-then-count : goal.fill_object-returns-then-count
fill_object-returns-then-count t c =
    let o = c.args.object.now in
    let xs = c.as_slice-fields.result.now in
    sym (c.if-count.ensures.counted refl c.args.into.now (103 ∷ object_bytes o.bits o.type_id o.shape (map Canon xs)) (object_size o.bits o.type_id o.shape xs ∙ sym c.in-Some.ensures))
    ∙ ap (λ (ys : List Value). window_after c.args.out.now c.args.into.now (103 ∷ object_bytes o.bits o.type_id o.shape (map Canon ys))) c.as_slice-fields.ensures

pub fill_object-returns : goal.fill_object-returns
fill_object-returns t c =
    let o = c.args.object.now in
    let xs = c.as_slice-fields.result.now in
    let out : c.match-object_len.out ≡ c.args.out.now = elim c.match-object_len.branch [ fill_object-in-Some+else-count+in_default-place w ↦ w.out-is ∙ w.in_default-place.ensures.none refl ∙ w.if-count.ensures.unchanged refl | fill_object-in_default w ↦ w.out-is ] in
    object_put window_after filled_longer o.bits o.type_id o.shape xs c.measure_extent-extent.result.last.width c.args.out.now c.args.into.now (c.put_head.new.out, c.put_head.new.into) (c.fill_values.new.out, c.fill_values.new.into) (c.put_footer.new.out, c.put_footer.new.into)
    (ap (λ (e : Extent). e.last.width) c.measure_extent-extent.ensures) (c.put_head.ensures ∙ ap (λ (w : Window). window_after w c.args.into.now (103 ∷ header_bytes (canonical_header o.bits o.type_id o.shape (map Canon xs)))) out) c.fill_values.ensures c.put_footer.ensures
    ∙ ap (λ (ys : List Value). window_after c.args.out.now c.args.into.now (103 ∷ object_bytes o.bits o.type_id o.shape (map Canon ys))) c.as_slice-fields.ensures

pub write_object-returns : goal.write_object-returns
write_object-returns t c =
    let o = c.args.object.now in
    let xs = c.args.fields.now in
    object_written o.bits o.type_id o.shape xs c.write_head.new.head c.write_fields.new.room c.write_fields.new.footer
    (c.write_head.ensures ∙ ap (λ (ys : List Value). 103 ∷ header_bytes (canonical_header o.bits o.type_id o.shape (map Canon ys))) (sym c.requires.fields)) c.write_fields.ensures.fields
    (c.write_fields.ensures.footer ∙ ap (λ (e : Extent). field_footer (type_of e.last.width) o.shape xs) c.requires.extent)

pub write_fields-loop-index-preserved : goal.write_fields-loop-index-preserved
write_fields-loop-index-preserved t c =
    let xs = take c.loop-index.index c.args.fields.now in
    let filled : c.loop-index.written.filled ≡ length (flat_map Canon xs) =
    ap (λ (w : Window × List ℕ). w.0.filled) c.loop-index.invariant.fields ∙ filled_length c.args.room.now (flat_map Canon xs) (omega (arith, c.requires.room, front_length Canon c.args.fields.now c.loop-index.index)) in
    record {
      fields = each_more window_after filled_longer Canon fresh_window c.args.room.now c.args.fields.now c.loop-index.index c.index-fields-index.result (c.loop-index.written, c.loop-index.room) (c.fill_value.new.out, c.fill_value.new.into)
          c.loop-index-test.true c.index-fields-index.is c.loop-index.invariant.fields c.fill_value.ensures;
      footer = footer_next window_after filled_longer c.args.width c.args.shape.now fresh_window c.args.footer.now c.args.fields.now c.loop-index.index c.index-fields-index.result (offset_of (next_offset xs)) (c.loop-index.entries, c.loop-index.footer) (c.put_entry.new.out, c.put_entry.new.into)
          c.loop-index-test.true c.index-fields-index.is c.loop-index.invariant.footer refl
          (c.put_entry.ensures ∙ ap (λ (n : ℕ). window_after c.loop-index.entries c.loop-index.footer (entry_bytes (type_of c.args.width) c.args.shape.now c.loop-index.index ((24 + n) % 2 ^ 32))) filled);
    }
