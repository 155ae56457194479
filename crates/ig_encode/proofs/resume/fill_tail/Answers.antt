use Rattle.std.proofs.Common.{sym, ap, ◌∙◌}
use Rattle.ig_encode.specs.WindowOutput.{window_after, filled_empty}
use Rattle.ig_encode.proofs.MarkLemmas.{inner_objects, inner_enums, inner_collection, inner_map, tail_first}
use Rattle.ig_encode.proofs.resume.fill_tail.Goals as goal

pub returns-in-Objects : goal.returns-in-Objects
returns-in-Objects c =
    sym (ap (window_after c.args.out.now c.args.into.now) (inner_objects c.args.value.now c.in-Objects.type_id c.in-Objects.items c.in-Objects.is).1 ∙ filled_empty c.args.out.now c.args.into.now)

pub returns-in-Collection : goal.returns-in-Collection
returns-in-Collection c =
    sym (ap (window_after c.args.out.now c.args.into.now) (inner_collection c.args.value.now c.in-Collection.kind c.in-Collection.items c.in-Collection.is).1 ∙ filled_empty c.args.out.now c.args.into.now)

pub returns-in-Enums : goal.returns-in-Enums
returns-in-Enums c =
    sym (ap (window_after c.args.out.now c.args.into.now) (inner_enums c.args.value.now c.in-Enums.type_id c.in-Enums.items c.in-Enums.is).1 ∙ filled_empty c.args.out.now c.args.into.now)

pub returns-in-Map : goal.returns-in-Map
returns-in-Map c =
    sym (ap (window_after c.args.out.now c.args.into.now) (inner_map c.args.value.now c.in-Map.kind c.in-Map.pairs c.in-Map.is).1 ∙ filled_empty c.args.out.now c.args.into.now)

pub fill_items-requires : goal.fill_items-requires
fill_items-requires c =
    tail_first c.args.value.now c.args.end c.args.out.now.skip c.args.path.now (record { index = 0; before = 0 }) c.in-len1-up.len_at_least c.requires.end c.requires.path
