-- The results of the requests on the names of caches and on descriptions of types.
use Rattle.std.proofs.Common.{inl, inr}
use Rattle.std.specs.Prelude.{ℕ, List, Option, None, Some}
use Rattle.ig_value.specs.Part.{truth}
use Rattle.ig_wire.specs.declared.Operation.{Operation}
use Rattle.ig_wire.specs.declared.Operation.TheVariants as operation
use Rattle.ig_types.specs.declared.TypeMeta.{TypeMeta}
use Rattle.ig_caches.specs.declared.Outcome.TheVariants as outcome
use Rattle.ig_caches.specs.declared.Shown.{Shown}
use Rattle.ig_caches.specs.declared.Shown.TheVariants.{Out}
use Rattle.ig_fields.specs.Format.{Format, nothing, string, scalar, choice, listed, Fields}
use Rattle.ig_fields.specs.Ask.{ResultForm, Filled, filled_bytes}
use Rattle.ig_meta.specs.TypeFields.{type_format, type_of_fields, fields_of_type}

-- ---- reading

-- byte 0, or byte 1 and a description
abbrev pub found_format : Format
found_format = choice nothing type_format

abbrev pub found_type : Fields found_format → Option TypeMeta
found_type (inl x) = None
found_type (inr x) = Some (type_of_fields x)

-- a result without fields
abbrev pub done_form : ResultForm Shown
done_form = record { format = nothing; shown = λ x. Out outcome.Done }

-- the fields of the result of each operation, and what they show
abbrev pub result_of : Operation → Option (ResultForm Shown)
result_of operation.CacheNames = Some (record { format = listed string; shown = λ x. Out (outcome.Names x) })
result_of operation.Create = Some done_form
result_of operation.GetOrCreate = Some done_form
result_of operation.Destroy = Some done_form
result_of operation.GetTypeName = Some (record { format = string; shown = λ x. Out (outcome.Name x) })
result_of operation.RegisterTypeName = Some (record { format = scalar truth; shown = λ x. Out (outcome.Yes x) })
result_of operation.GetType = Some (record { format = found_format; shown = λ x. Out (outcome.Meta (found_type x)) })
result_of operation.PutType = Some done_form
result_of _ = None

-- ---- writing

-- what a result of one of these operations shows
abbrev pub IsMetaShown : Shown → Type 0
IsMetaShown (Out outcome.Done) = Unit {0}
IsMetaShown (Out (outcome.Names names)) = Unit {0}
IsMetaShown (Out (outcome.Name name)) = Unit {0}
IsMetaShown (Out (outcome.Yes answer)) = Unit {0}
IsMetaShown (Out (outcome.Meta found)) = Unit {0}
IsMetaShown _ = ⊥

abbrev pub found_fields : Option TypeMeta → Fields found_format
found_fields None = inl tt
found_fields (Some t) = inr (fields_of_type t)

-- the fields of the result; results of other operations aren't written here
abbrev pub filled_of : Shown → Filled
filled_of (Out (outcome.Names names)) = record { format = listed string; fields = names }
filled_of (Out (outcome.Name name)) = record { format = string; fields = name }
filled_of (Out (outcome.Yes answer)) = record { format = scalar truth; fields = answer }
filled_of (Out (outcome.Meta found)) = record { format = found_format; fields = found_fields found }
filled_of _ = record { format = nothing; fields = tt }

-- the bytes of the result
abbrev pub shown_bytes : Shown → List ℕ
shown_bytes shown = filled_bytes (filled_of shown)
