use Rattle.std.proofs.Common.{sym, ap, ◌∙◌}
use Rattle.ig_value.specs.declared.value.Value.TheVariants as value
use Rattle.ig_encode.proofs.MarkLemmas.{inner_objects, inner_enums, inner_collection, inner_map, tailless_length, object_length, sum_is}
use Rattle.ig_encode.proofs.advance.end_after.Goals as goal

pub returns-in-Objects : goal.returns-in-Objects
returns-in-Objects c =
    (tailless_length c.args.value.now c.args.before c.requires.before (inner_objects c.args.value.now c.in-Objects.type_id c.in-Objects.items c.in-Objects.is).1, c.requires.reached)

pub returns-in-Collection : goal.returns-in-Collection
returns-in-Collection c =
    (tailless_length c.args.value.now c.args.before c.requires.before (inner_collection c.args.value.now c.in-Collection.kind c.in-Collection.items c.in-Collection.is).1, c.requires.reached)

pub returns-in-Enums : goal.returns-in-Enums
returns-in-Enums c =
    (tailless_length c.args.value.now c.args.before c.requires.before (inner_enums c.args.value.now c.in-Enums.type_id c.in-Enums.items c.in-Enums.is).1, c.requires.reached)

pub returns-in-Map : goal.returns-in-Map
returns-in-Map c =
    (tailless_length c.args.value.now c.args.before c.requires.before (inner_map c.args.value.now c.in-Map.kind c.in-Map.pairs c.in-Map.is).1, c.requires.reached)

pub returns-in_ok-footer-in-Object : goal.returns-in_ok-footer-in-Object
returns-in_ok-footer-in-Object c =
    let is = c.in-Object.is ∙ ap value.Object (sym c.get-object.ensures) in
    sum_is c.sum_within.result _ _ c.args.bound c.sum_within.ensures
    (object_length c.args.value.now c.get-object.result.now c.as_slice.result.now c.args.before c.in_ok-footer-in-Object.footer c.as_slice.ensures is c.requires.before c.in_ok-footer-in-Object.ensures)
