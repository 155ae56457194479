use Rattle.std.proofs.Common.{rules, Some, Ok, Err, sym, ap, ◌∙◌}
use Rattle.std.proofs.lemmas.Fn.{always_returns_same}
use Rattle.std.specs.Ordering.{nat_cmp}
use Rattle.std.specs.Cmp.Lexicographic.{slice_cmp}
use Rattle.ig_types.specs.declared.meta.FieldMeta.{FieldMeta}
use Rattle.ig_types.proofs.SearchLemmas.{searched_field}
use Rattle.ig_types.proofs.affinity.field_named.Goals as goal

pub returns-in-Ok : goal.returns-in-Ok
returns-in-Ok c =
    ap Some c.index-fields-at.is ∙ sym (searched_field c.args.fields.now c.args.name.now c.requires (Ok c.in-Ok.at) c.in-Ok.ensures.bound (c.in-Ok.ensures.position (λ (f : FieldMeta). slice_cmp nat_cmp f.name c.args.name.now) (always_returns_same _ _ _ (λ a r f' k. search rules))) c.index-fields-at.result)

pub returns-in-Err : goal.returns-in-Err
returns-in-Err c =
    sym (searched_field c.args.fields.now c.args.name.now c.requires (Err c.in-Err.field-0) c.in-Err.ensures.bound (c.in-Err.ensures.position (λ (f : FieldMeta). slice_cmp nat_cmp f.name c.args.name.now) (always_returns_same _ _ _ (λ a r f' k. search rules))))
