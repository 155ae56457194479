-- The order of the fields, literals and schemas of a description.
use Rattle.std.specs.Prelude.{◌≡◌, false, []}
use Rattle.std.specs.Ordering.{nat_cmp, int_cmp}
use Rattle.std.specs.Cmp.Lexicographic.{slice_cmp}
use Rattle.std.specs.List.Sorted.{IsStrictlySortedBy}
use Rattle.std.specs.declared.cmp.Ordering.{Ordering}
use Rattle.ig_types.specs.declared.meta.FieldMeta.{FieldMeta}
use Rattle.ig_types.specs.declared.meta.Literal.{Literal}
use Rattle.ig_types.specs.declared.meta.SchemaMeta.{SchemaMeta}
use Rattle.ig_types.specs.declared.meta.TypeMeta.{TypeMeta}

-- fields are ordered by the UTF-8 bytes of their names
abbrev pub by_field : FieldMeta → FieldMeta → Ordering
by_field x y = slice_cmp nat_cmp x.name y.name

-- literals are ordered by the UTF-8 bytes of their names
abbrev pub by_literal : Literal → Literal → Ordering
by_literal x y = slice_cmp nat_cmp x.name y.name

-- schemas are ordered by their signed identifiers
abbrev pub by_schema : SchemaMeta → SchemaMeta → Ordering
by_schema x y = int_cmp x.id y.id

-- fields, literals and schemas are strictly ascending, and only an enum has literals
pub record IsInOrder (m : TypeMeta) : Type 0 where
  pub fields : IsStrictlySortedBy by_field m.fields
  pub literals : IsStrictlySortedBy by_literal m.literals
  pub schemas : IsStrictlySortedBy by_schema m.schemas
  pub no_literals : m.is_enum ≡ false → m.literals ≡ []
