use Rattle.std.proofs.Common.{◌≡◌, List, Some, None, slice_get, MatchOption, sym, ap, subst, ◌∙◌}
use Rattle.ig_value.specs.declared.value.Value.{Value}
use Rattle.ig_value.specs.declared.value.Value.TheVariants as value
use Rattle.ig_encode.specs.Marks.{paired_values}
use Rattle.ig_encode.proofs.MarkLemmas.{inner_objects, inner_enums, inner_collection, inner_map, inner_object}
use Rattle.ig_encode.proofs.resume.child_at.Goals as goal

pub returns-in-Objects-clause-child : goal.returns-in-Objects-clause-child
returns-in-Objects-clause-child c =
    subst (λ (l : List Value). MatchOption c.item_at.result (slice_get l c.args.index ≡ None) (λ child. slice_get l c.args.index ≡ Some child.now)) (c.as_slice.ensures ∙ sym (inner_objects c.args.value.now c.in-Objects.type_id c.in-Objects.items c.in-Objects.is).0) c.item_at.ensures.child

pub returns-in-Collection-clause-child : goal.returns-in-Collection-clause-child
returns-in-Collection-clause-child c =
    subst (λ (l : List Value). MatchOption c.item_at-in-Collection.result (slice_get l c.args.index ≡ None) (λ child. slice_get l c.args.index ≡ Some child.now)) (c.as_slice-in-Collection.ensures ∙ sym (inner_collection c.args.value.now c.in-Collection.kind c.in-Collection.items c.in-Collection.is).0) c.item_at-in-Collection.ensures.child

pub returns-in-Enums-clause-child : goal.returns-in-Enums-clause-child
returns-in-Enums-clause-child c =
    subst (λ (l : List Value). MatchOption c.item_at-in-Enums.result (slice_get l c.args.index ≡ None) (λ child. slice_get l c.args.index ≡ Some child.now)) (c.as_slice-in-Enums.ensures ∙ sym (inner_enums c.args.value.now c.in-Enums.type_id c.in-Enums.items c.in-Enums.is).0) c.item_at-in-Enums.ensures.child

pub returns-in-Map-clause-child : goal.returns-in-Map-clause-child
returns-in-Map-clause-child c =
    subst (λ (l : List Value). MatchOption c.child_of_pairs.result (slice_get l c.args.index ≡ None) (λ child. slice_get l c.args.index ≡ Some child.now)) (ap paired_values c.as_slice-in-Map.ensures ∙ sym (inner_map c.args.value.now c.in-Map.kind c.in-Map.pairs c.in-Map.is).0) c.child_of_pairs.ensures.child

pub returns-in-Object-clause-child : goal.returns-in-Object-clause-child
returns-in-Object-clause-child c =
    subst (λ (l : List Value). MatchOption c.item_at-in-Object.result (slice_get l c.args.index ≡ None) (λ child. slice_get l c.args.index ≡ Some child.now)) (c.as_slice-in-Object.ensures ∙ sym (inner_object c.args.value.now c.get.result.now (c.in-Object.is ∙ ap value.Object (sym c.get.ensures))).0) c.item_at-in-Object.ensures.child
