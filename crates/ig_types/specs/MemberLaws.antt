-- The laws that the trait `Member` requires of fields, literals and schemas: the order of the keys is total,
-- and the test of equality is exact. They stand here since an `impl` can cite only `specs/`.
use Rattle.std.specs.Prelude.{◌≡◌, Decides, Bool, refl}
use Rattle.std.specs.Cmp.{IsTotalOrder, int_cmp_total}
use Rattle.std.proofs.Common.{ap}
use Rattle.std.proofs.lemmas.Bool.Decides.{Decides-eqb, Decides-int_eq, Decides-and}
use Rattle.std.proofs.lemmas.Slice.Eq.{slice_eq-Decides}
use Rattle.std.proofs.lemmas.Cmp.{on_total, nat_list_cmp_total}
use Rattle.ig_types.specs.declared.meta.FieldMeta.{FieldMeta}
use Rattle.ig_types.specs.declared.meta.Literal.{Literal}
use Rattle.ig_types.specs.declared.meta.SchemaMeta.{SchemaMeta}
use Rattle.ig_types.specs.IsInOrder.{by_field, by_literal, by_schema}
use Rattle.ig_types.specs.Join.{same_field, same_literal, same_schema}

-- the order of fields is total
pub by_field_total : IsTotalOrder by_field
by_field_total = on_total (λ x. x.name) nat_list_cmp_total

-- the order of literals is total
pub by_literal_total : IsTotalOrder by_literal
by_literal_total = on_total (λ x. x.name) nat_list_cmp_total

-- the order of schemas is total
pub by_schema_total : IsTotalOrder by_schema
by_schema_total = on_total (λ x. x.id) int_cmp_total

-- a test of P is a test of every fact that is equivalent to P
decides_equivalent : {P Q : Type 0} (r : Bool) → (P → Q) → (Q → P) → Decides r P → Decides r Q
decides_equivalent r there back decides = (λ is. there (decides.0 is), λ q. decides.1 (back q))

-- the test of two fields holds exactly where they are equal
pub same_field_exact : (x y : FieldMeta) → Decides (same_field x y) (x ≡ y)
same_field_exact x y =
    decides_equivalent _ (λ e i. record { name = e.0.0 i; kind = e.0.1 i; id = e.1 i })
    (λ e. ((ap (λ z. z.name) e, ap (λ z. z.kind) e), ap (λ z. z.id) e))
    (Decides-and _ _
    (Decides-and _ _ (slice_eq-Decides Decides-eqb x.name y.name _ refl) (Decides-int_eq x.kind y.kind))
    (Decides-int_eq x.id y.id))

-- the test of two literals holds exactly where they are equal
pub same_literal_exact : (x y : Literal) → Decides (same_literal x y) (x ≡ y)
same_literal_exact x y =
    decides_equivalent _ (λ e i. record { name = e.0 i; ordinal = e.1 i })
    (λ e. (ap (λ z. z.name) e, ap (λ z. z.ordinal) e))
    (Decides-and _ _ (slice_eq-Decides Decides-eqb x.name y.name _ refl) (Decides-int_eq x.ordinal y.ordinal))

-- the test of two schemas holds exactly where they are equal
pub same_schema_exact : (x y : SchemaMeta) → Decides (same_schema x y) (x ≡ y)
same_schema_exact x y =
    decides_equivalent _ (λ e i. record { id = e.0 i; ids = e.1 i })
    (λ e. (ap (λ z. z.id) e, ap (λ z. z.ids) e))
    (Decides-and _ _ (Decides-int_eq x.id y.id) (slice_eq-Decides Decides-int_eq x.ids y.ids _ refl))
