-- The limits of values: at most 32 levels, at most 2^31 - 1 bytes or items in each text and list,
-- numbers in the range of their types, texts of UTF-8.
use Rattle.std.specs.Prelude.{◌≡◌, ◌≢◌, pos, ℕ, zero, suc, ◌+◌, ◌<◌, ◌^◌, max, List, [], ◌∷◌, length, sum_by, Option, None, Some}
use Rattle.std.specs.List.{AllByRecursion, flat_map}
use Rattle.std.specs.Str.{IsUtf8}
use Rattle.ig_base.specs.Numbers.{AreBytes}
use Rattle.ig_base.specs.declared.NodeId.{NodeId}
use Rattle.ig_value.specs.declared.value.Dec.{Dec}
use Rattle.ig_value.specs.declared.value.Stamp.{Stamp}
use Rattle.ig_value.specs.declared.value.Value.{Value, out-Value}
use Rattle.ig_value.specs.declared.value.Value.TheOpen.{Value-F}
use Rattle.ig_value.specs.declared.value.Value.TheFolds.{fold-Value}
use Rattle.ig_value.specs.declared.object.Record.{Record}
use Rattle.ig_value.specs.declared.object.Shape.{Shape}
use Rattle.ig_value.specs.declared.object.Shape.TheVariants.{Named, Compact}
use Rattle.ig_value.specs.Objects.{kept_flags}
use Rattle.ig_value.specs.Part.{i32, i64, u16, u64, Part, nothing, scalar, text, octets, uuid, stamp, decimal, value, object, both, counted, optional, Content}
use Rattle.ig_value.specs.Table.{content, parts}
use Rattle.ig_value.specs.Spells.{IsInRange}

-- bytes that an Int32 counts
abbrev pub AreCountable : List ℕ → Type 0
AreCountable bytes = AreBytes bytes × (length bytes < 2 ^ 31)

-- a text of UTF-8 that an Int32 counts
abbrev pub IsLimitedText : List ℕ → Type 0
IsLimitedText x = AreCountable x × IsUtf8 x

abbrev pub IsLimitedUuid : NodeId → Type 0
IsLimitedUuid x = IsInRange u64 x.most × IsInRange u64 x.least

abbrev pub IsLimitedStamp : Stamp → Type 0
IsLimitedStamp x = IsInRange i64 x.millis × IsInRange i32 x.nanos

abbrev pub IsLimitedDecimal : Dec → Type 0
IsLimitedDecimal x = IsInRange i32 x.scale × AreCountable x.bytes

abbrev pub IfThere : {A : Type 0} → (A → Type 0) → Option A → Type 0
IfThere P None = Unit {0}
IfThere P (Some x) = P x

-- the shape keeps to the limits and is that of n fields
abbrev pub IsLimitedShape : ℕ → Shape → Type 0
IsLimitedShape n (Named ids) = AllByRecursion (IsInRange i32) ids × (length ids ≡ n)
IsLimitedShape n (Compact schema) = IsInRange i32 schema × (0 < n)

-- the object keeps to the limits but for its fields: flag 1 and flags from 64 up alone, a type, and
-- a shape that is that of its fields
pub record IsLimitedHead {X : Type 0} (o : Record X) : Type 0 where
  pub bits : IsInRange u16 o.bits
  pub kept : kept_flags o.bits ≡ o.bits
  pub type : IsInRange i32 o.type_id
  pub registered : o.type_id ≢ pos 0
  pub shape : IsLimitedShape (length o.fields) o.shape

-- the object keeps to the limits, where `inner` says so of a field
pub record IsLimitedObject {X : Type 0} (inner : X → Type 0) (o : Record X) : Type 0 where
  pub head : IsLimitedHead o
  pub few : length o.fields < 2 ^ 31
  pub fields : AllByRecursion inner o.fields

-- the part keeps to the limits, where `inner` says so of a value inside
abbrev pub FitsPart : {X : Type 0} → (X → Type 0) → (p : Part) → Content X p → Type 0
FitsPart inner nothing x = Unit {0}
FitsPart inner (scalar k) x = IsInRange k x
FitsPart inner text x = IsLimitedText x
FitsPart inner octets x = AreCountable x
FitsPart inner uuid x = IsLimitedUuid x
FitsPart inner stamp x = IsLimitedStamp x
FitsPart inner decimal x = IsLimitedDecimal x
FitsPart inner value x = inner x
FitsPart inner object x = IsLimitedObject inner x
FitsPart inner (both p q) x = FitsPart inner p x.0 × FitsPart inner q x.1
FitsPart inner (counted p q) x = (length x.1 < 2 ^ 31) × (FitsPart inner p x.0 × AllByRecursion (FitsPart inner q) x.1)
FitsPart inner (optional c p) x = IfThere (FitsPart inner p) x

-- the value keeps to the limits and is at most this many levels deep
abbrev pub FitsTo : ℕ → Value → Type 0
FitsTo zero v = ⊥
FitsTo (suc levels) v = let p = parts (out-Value v) in FitsPart (FitsTo levels) (content p.0) p.1

-- the value keeps to the limits
unfoldable pub Fits : Value → Type 0
Fits = FitsTo 32

-- ---- depth

-- the values directly inside a value
abbrev pub children : {X : Type 0} → Value-F X → List X
children (Value-F.Objects type xs) = xs
children (Value-F.Collection kind xs) = xs
children (Value-F.Map kind ps) = flat_map (λ p. p.0 ∷ p.1 ∷ []) ps
children (Value-F.Enums type xs) = xs
children (Value-F.Object o) = o.fields
children _ = []

-- the greatest of the numbers, or 0 without any
abbrev pub greatest : List ℕ → ℕ
greatest [] = 0
greatest (n ∷ ns) = max n (greatest ns)

-- the depth of a value: 1, or one more than the greatest depth of a value inside
unfoldable pub Depth : Value → ℕ
Depth = fold-Value ℕ (λ x. suc (greatest (children x)))

-- the greater depth of two values
abbrev pub pair_depth : Value × Value → ℕ
pair_depth p = max (Depth p.0) (Depth p.1)

-- ---- nodes

-- the numbers of a shape
abbrev pub shape_nodes : Shape → ℕ
shape_nodes (Named ids) = length ids
shape_nodes (Compact schema) = 1

-- The number of nodes of a part: those of each value inside, and one for each number, each byte of
-- a text and each item of a list.
abbrev pub part_nodes : {X : Type 0} → (X → ℕ) → (p : Part) → Content X p → ℕ
part_nodes inner nothing x = 0
part_nodes inner (scalar k) x = 1
part_nodes inner text x = length x
part_nodes inner octets x = length x
part_nodes inner uuid x = 1
part_nodes inner stamp x = 1
part_nodes inner decimal x = length x.bytes
part_nodes inner value x = inner x
part_nodes inner object x = 2 + shape_nodes x.shape + sum_by inner x.fields
part_nodes inner (both p q) x = part_nodes inner p x.0 + part_nodes inner q x.1
part_nodes inner (counted p q) x = part_nodes inner p x.0 + sum_by (part_nodes inner q) x.1
part_nodes inner (optional c p) None = 1
part_nodes inner (optional c p) (Some x) = suc (part_nodes inner p x)

-- the number of nodes of a value: itself, and the nodes of its content
unfoldable pub Nodes : Value → ℕ
Nodes = fold-Value ℕ (λ x. suc (part_nodes (λ n. n) (content (parts x).0) (parts x).1))
