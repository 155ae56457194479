use Rattle.std.proofs.Common.{List, drop, sym, ap, ◌∙◌}
use Rattle.std.specs.List.{flat_map}
use Rattle.ig_value.specs.declared.value.Value.{Value}
use Rattle.ig_value.specs.declared.value.Value.TheVariants as value
use Rattle.ig_value.specs.Canon.{Canon}
use Rattle.ig_encode.specs.Marks.{paired_values}
use Rattle.ig_encode.specs.Spans.{least_footer}
use Rattle.ig_encode.specs.WindowOutput.{window_after, filled_longer}
use Rattle.ig_encode.proofs.OutputLemmas.{two}
use Rattle.ig_encode.proofs.MarkLemmas.{inner_objects, inner_enums, inner_collection, inner_map, after_index, rest_all, object_after}
use Rattle.ig_encode.proofs.resume.fill_after.Goals as goal

pub returns-in-Objects : goal.returns-in-Objects
returns-in-Objects c =
    c.fill_values.ensures ∙ ap (λ (l : List Value). window_after c.args.out.now c.args.into.now (flat_map Canon l)) (rest_all c.as_slice.result.now c.args.index) ∙ ap (window_after c.args.out.now c.args.into.now) (after_index c.args.value.now c.as_slice.result.now c.args.index (inner_objects c.args.value.now c.in-Objects.type_id c.as_slice.result.now (c.in-Objects.is ∙ ap (value.Objects c.in-Objects.type_id) (sym c.as_slice.ensures))))

pub returns-in-Collection : goal.returns-in-Collection
returns-in-Collection c =
    c.fill_values-in-Collection.ensures ∙ ap (λ (l : List Value). window_after c.args.out.now c.args.into.now (flat_map Canon l)) (rest_all c.as_slice-in-Collection.result.now c.args.index) ∙ ap (window_after c.args.out.now c.args.into.now) (after_index c.args.value.now c.as_slice-in-Collection.result.now c.args.index (inner_collection c.args.value.now c.in-Collection.kind c.as_slice-in-Collection.result.now (c.in-Collection.is ∙ ap (value.Collection c.in-Collection.kind) (sym c.as_slice-in-Collection.ensures))))

pub returns-in-Enums : goal.returns-in-Enums
returns-in-Enums c =
    c.fill_values-in-Enums.ensures ∙ ap (λ (l : List Value). window_after c.args.out.now c.args.into.now (flat_map Canon l)) (rest_all c.as_slice-in-Enums.result.now c.args.index) ∙ ap (window_after c.args.out.now c.args.into.now) (after_index c.args.value.now c.as_slice-in-Enums.result.now c.args.index (inner_enums c.args.value.now c.in-Enums.type_id c.as_slice-in-Enums.result.now (c.in-Enums.is ∙ ap (value.Enums c.in-Enums.type_id) (sym c.as_slice-in-Enums.ensures))))

pub returns-in-Map : goal.returns-in-Map
returns-in-Map c =
    c.fill_from_pair.ensures ∙ ap (window_after c.args.out.now c.args.into.now) (after_index c.args.value.now (paired_values c.as_slice-in-Map.result.now) c.args.index (inner_map c.args.value.now c.in-Map.kind c.as_slice-in-Map.result.now (c.in-Map.is ∙ ap (value.Map c.in-Map.kind) (sym c.as_slice-in-Map.ensures))))

pub returns-in-Object : goal.returns-in-Object
returns-in-Object c =
    let o = c.get-object.result.now in
    let xs = c.as_slice-fields.result.now in
    two window_after filled_longer c.args.out.now c.args.into.now (flat_map Canon (drop c.args.index xs)) (least_footer o.shape xs) (c.fill_values-in-Object.new.out, c.fill_values-in-Object.new.into) (c.put_least_footer.new.out, c.put_least_footer.new.into)
    (c.fill_values-in-Object.ensures ∙ ap (λ (l : List Value). window_after c.args.out.now c.args.into.now (flat_map Canon l)) (rest_all xs c.args.index)) c.put_least_footer.ensures
    ∙ ap (window_after c.args.out.now c.args.into.now) (object_after c.args.value.now o xs c.args.index c.as_slice-fields.ensures (c.in-Object.is ∙ ap value.Object (sym c.get-object.ensures)))
