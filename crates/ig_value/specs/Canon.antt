-- The canonical form of a value: the one encoding that is written.
use Rattle.std.specs.Prelude.{ℕ, pos, List, [], ◌∷◌, ◌++◌, length, map, Option, None, Some, ◌<◌, ◌^◌}
use Rattle.std.specs.Int.{w32}
use Rattle.std.specs.List.{flat_map}
use Rattle.ig_base.specs.Numbers.{LE}
use Rattle.ig_value.specs.declared.code.Code.TheVariants as code
use Rattle.ig_value.specs.declared.value.Dec.{Dec}
use Rattle.ig_value.specs.declared.value.Stamp.{Stamp}
use Rattle.ig_value.specs.declared.value.Value.{Value}
use Rattle.ig_base.specs.declared.NodeId.{NodeId}
use Rattle.ig_value.specs.declared.value.Value.TheOpen.{Value-F}
use Rattle.ig_value.specs.declared.value.Value.TheFolds.{fold-Value}
use Rattle.ig_value.specs.Part.{Part, nothing, scalar, i32, i64, u64, text, octets, uuid, stamp, decimal, value, object, both, counted, optional, Content}
use Rattle.ig_value.specs.Objects.{object_bytes}
use Rattle.ig_value.specs.Table.{byte_of, content, parts}
use Rattle.ig_value.specs.Spells.{scalar_bytes}

-- an Int32 count, and the bytes
abbrev pub counted_bytes : List ℕ → List ℕ
counted_bytes bytes = LE w32 (pos (length bytes)) ++ bytes

-- the code of null, or this code and the content's bytes
abbrev pub optional_bytes : {A : Type 0} → ℕ → (A → List ℕ) → Option A → List ℕ
optional_bytes byte bytes None = byte_of code.Null ∷ []
optional_bytes byte bytes (Some x) = byte ∷ bytes x

abbrev pub uuid_bytes : NodeId → List ℕ
uuid_bytes x = scalar_bytes u64 x.most ++ scalar_bytes u64 x.least

abbrev pub stamp_bytes : Stamp → List ℕ
stamp_bytes x = scalar_bytes i64 x.millis ++ scalar_bytes i32 x.nanos

abbrev pub decimal_bytes : Dec → List ℕ
decimal_bytes x = scalar_bytes i32 x.scale ++ counted_bytes x.bytes

-- the bytes of a part, where `inner` gives those of a value inside
abbrev pub part_bytes : {X : Type 0} → (X → List ℕ) → (p : Part) → Content X p → List ℕ
part_bytes inner nothing x = []
part_bytes inner (scalar k) x = scalar_bytes k x
part_bytes inner text x = counted_bytes x
part_bytes inner octets x = counted_bytes x
part_bytes inner uuid x = uuid_bytes x
part_bytes inner stamp x = stamp_bytes x
part_bytes inner decimal x = decimal_bytes x
part_bytes inner value x = inner x
part_bytes inner object x = object_bytes x.bits x.type_id x.shape (map inner x.fields)
part_bytes inner (both p q) x = part_bytes inner p x.0 ++ part_bytes inner q x.1
part_bytes inner (counted p q) x = LE w32 (pos (length x.1)) ++ (part_bytes inner p x.0 ++ flat_map (part_bytes inner q) x.1)
part_bytes inner (optional c p) x = optional_bytes (byte_of c) (part_bytes inner p) x

-- the bytes of a value, where `inner` gives those of a value inside: the code, and the content
abbrev pub layer_bytes : {X : Type 0} → (X → List ℕ) → Value-F X → List ℕ
layer_bytes inner x = byte_of (parts x).0 ∷ part_bytes inner (content (parts x).0) (parts x).1

-- the canonical form of a value
unfoldable pub Canon : Value → List ℕ
Canon = fold-Value (List ℕ) (layer_bytes (λ bytes. bytes))

-- an Int32 counts the bytes of its canonical form: at most 2^31 - 1
abbrev pub IsSendable : Value → Type 0
IsSendable v = length (Canon v) < 2 ^ 31
