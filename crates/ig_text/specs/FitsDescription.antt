-- The limits of descriptions of types.
use Rattle.std.specs.Prelude.{◌≡◌, true}
use Rattle.ig_value.specs.Limits.{IsLimitedText, IfThere}
use Rattle.ig_value.specs.Part.{i32}
use Rattle.ig_value.specs.Spells.{IsInRange}
use Rattle.ig_types.specs.declared.meta.FieldMeta.{FieldMeta}
use Rattle.ig_types.specs.declared.meta.Literal.{Literal}
use Rattle.ig_types.specs.declared.meta.SchemaMeta.{SchemaMeta}
use Rattle.ig_types.specs.declared.meta.TypeMeta.{TypeMeta}
use Rattle.ig_text.specs.TextLaws.{AreItems}
use Rattle.ig_text.specs.DescriptionText.{is_in_order}

abbrev pub FitsField : FieldMeta → Type 0
FitsField f = IsLimitedText f.name × (IsInRange i32 f.kind × IsInRange i32 f.id)

abbrev pub FitsLiteral : Literal → Type 0
FitsLiteral l = IsLimitedText l.name × IsInRange i32 l.ordinal

abbrev pub FitsSchema : SchemaMeta → Type 0
FitsSchema s = IsInRange i32 s.id × AreItems (IsInRange i32) s.ids

pub record FitsDescription (m : TypeMeta) : Type 0 where
  pub type : IsInRange i32 m.type_id
  pub name : IsLimitedText m.name
  pub affinity : IfThere IsLimitedText m.affinity
  pub fields : AreItems FitsField m.fields
  pub literals : AreItems FitsLiteral m.literals
  pub schemas : AreItems FitsSchema m.schemas
  pub ordered : is_in_order m ≡ true
