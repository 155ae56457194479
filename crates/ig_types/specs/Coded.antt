-- A description and the value of a registry as plain data, which a larger value can contain.
use Rattle.std.specs.Prelude.{Bool, List, ℕ, ℤ, Option, refl}
use Rattle.std.specs.Coded.{Coded, code_by, coded×, coded_ℕ, coded_ℤ, coded_bool, coded_list, coded_option}
use Rattle.std.specs.FinMap as map
use Rattle.ig_types.specs.declared.meta.FieldMeta.{FieldMeta}
use Rattle.ig_types.specs.declared.meta.Literal.{Literal}
use Rattle.ig_types.specs.declared.meta.SchemaMeta.{SchemaMeta}
use Rattle.ig_types.specs.declared.meta.TypeMeta.{TypeMeta}
use Rattle.ig_types.specs.Registered.{Registered}

-- a name is coded as the list of its bytes
abbrev pub coded_name : Coded (List ℕ)
coded_name = coded_list coded_ℕ

-- a field as its name, kind and identifier
abbrev pub coded_field : Coded FieldMeta
coded_field =
    code_by (List ℕ × (ℤ × ℤ)) (coded× coded_name (coded× coded_ℤ coded_ℤ)) (λ f. (f.name, (f.kind, f.id)))
    (λ p. record { name = p.0; kind = p.1.0; id = p.1.1 }) (λ _. refl)

-- a literal as its name and ordinal
abbrev pub coded_literal : Coded Literal
coded_literal =
    code_by (List ℕ × ℤ) (coded× coded_name coded_ℤ) (λ l. (l.name, l.ordinal))
    (λ p. record { name = p.0; ordinal = p.1 }) (λ _. refl)

-- a schema as its identifier and its list of fields
abbrev pub coded_schema : Coded SchemaMeta
coded_schema =
    code_by (ℤ × List ℤ) (coded× coded_ℤ (coded_list coded_ℤ)) (λ s. (s.id, s.ids))
    (λ p. record { id = p.0; ids = p.1 }) (λ _. refl)

-- a description as its identifier, name, affinity key, enum flag, fields, literals and schemas
abbrev pub coded_type : Coded TypeMeta
coded_type =
    code_by (ℤ × (List ℕ × (Option (List ℕ) × (Bool × (List FieldMeta × (List Literal × List SchemaMeta))))))
    (coded× coded_ℤ (coded× coded_name (coded× (coded_option coded_name) (coded× coded_bool
    (coded× (coded_list coded_field) (coded× (coded_list coded_literal) (coded_list coded_schema)))))))
    (λ t. (t.type_id, (t.name, (t.affinity, (t.is_enum, (t.fields, (t.literals, t.schemas)))))))
    (λ p. record {
      type_id = p.0;
      name = p.1.0;
      affinity = p.1.1.0;
      is_enum = p.1.1.1.0;
      fields = p.1.1.1.1.0;
      literals = p.1.1.1.1.1.0;
      schemas = p.1.1.1.1.1.1;
    })
    (λ _. refl)

-- the value of a registry as its two maps
abbrev pub coded_registered : Coded Registered
coded_registered =
    code_by _ (coded× (map.code coded_ℤ coded_type) (map.code (coded× coded_ℕ coded_ℤ) coded_name))
    (λ r. (r.types, r.names)) (λ p. record { types = p.0; names = p.1 }) (λ _. refl)
