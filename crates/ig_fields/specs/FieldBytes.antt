-- The bytes of fields: the one spelling that is written.
use Rattle.std.proofs.Common.{inl, inr}
use Rattle.std.specs.Prelude.{◌≢◌, ℕ, ◌<◌, ◌^◌, IsTrue, pos, List, [], ◌∷◌, ◌++◌, length, Option, None, Some, ◌⊎◌}
use Rattle.std.specs.Int.{w32}
use Rattle.std.specs.List.{AllByRecursion, IsDistinct, flat_map}
use Rattle.ig_base.specs.Numbers.{LE}
use Rattle.ig_value.specs.declared.Code.TheVariants as code
use Rattle.ig_value.specs.declared.Value.{Value}
use Rattle.ig_value.specs.declared.Value.TheVariants.{Null}
use Rattle.ig_value.specs.Part.{i32}
use Rattle.ig_value.specs.Table.{byte_of}
use Rattle.ig_value.specs.Spells.{IsInRange, scalar_bytes}
use Rattle.ig_value.specs.Canon.{Canon, IsSendable, uuid_bytes}
use Rattle.ig_value.specs.Limits.{Fits}
use Rattle.ig_wire.specs.Fields as wire
use Rattle.ig_fields.specs.Format.{Key, name, identifier, KeyValue, is_same_key, Format, nothing, byte, string, nullable_string, node, value, scalar, within, both, choice, unless_null, listed, distinct, Fields}
use Rattle.ig_fields.specs.SpellsFields.{is_within, keys_of}

-- an Int32 count, and the bytes of each item
abbrev pub listed_bytes : {A : Type 0} → (A → List ℕ) → List A → List ℕ
listed_bytes bytes xs = LE w32 (pos (length xs)) ++ flat_map bytes xs

abbrev pub both_bytes : {A B : Type 0} → (A → List ℕ) → (B → List ℕ) → A × B → List ℕ
both_bytes first second x = first x.0 ++ second x.1

abbrev pub choice_bytes : {A B : Type 0} → (A → List ℕ) → (B → List ℕ) → A ⊎ B → List ℕ
choice_bytes first second (inl x) = 0 ∷ first x
choice_bytes first second (inr y) = 1 ∷ second y

abbrev pub unless_null_bytes : {A : Type 0} → (A → List ℕ) → Option (Value × A) → List ℕ
unless_null_bytes bytes None = byte_of code.Null ∷ []
unless_null_bytes bytes (Some x) = Canon x.0 ++ bytes x.1

abbrev pub key_bytes : (k : Key) → KeyValue k → List ℕ
key_bytes name x = wire.string x
key_bytes identifier x = scalar_bytes i32 x

-- the bytes of fields
abbrev pub fields_bytes : (f : Format) → Fields f → List ℕ
fields_bytes nothing x = []
fields_bytes byte x = x ∷ []
fields_bytes string x = wire.string x
fields_bytes nullable_string x = wire.nullable_string x
fields_bytes node x = byte_of code.Uuid ∷ uuid_bytes x
fields_bytes value x = Canon x
fields_bytes (scalar k) x = scalar_bytes k x
fields_bytes (within n) x = scalar_bytes i32 x
fields_bytes (both f g) x = both_bytes (fields_bytes f) (fields_bytes g) x
fields_bytes (choice f g) x = choice_bytes (fields_bytes f) (fields_bytes g) x
fields_bytes (unless_null f) x = unless_null_bytes (fields_bytes f) x
fields_bytes (listed f) x = listed_bytes (fields_bytes f) x
fields_bytes (distinct k f) x = listed_bytes (both_bytes (key_bytes k) (fields_bytes f)) x

-- ---- what can be written

-- a value that keeps to the limits, and of which an Int32 counts the bytes
abbrev pub IsWritable : Value → Type 0
IsWritable v = Fits v × IsSendable v

abbrev pub FitsKey : (k : Key) → KeyValue k → Type 0
FitsKey name x = wire.IsText x
FitsKey identifier x = IsInRange i32 x

abbrev pub FitsBoth : {A B : Type 0} → (A → Type 0) → (B → Type 0) → A × B → Type 0
FitsBoth P Q x = P x.0 × Q x.1

abbrev pub FitsChoice : {A B : Type 0} → (A → Type 0) → (B → Type 0) → A ⊎ B → Type 0
FitsChoice P Q (inl x) = P x
FitsChoice P Q (inr y) = Q y

abbrev pub FitsUnlessNull : {A : Type 0} → (A → Type 0) → Option (Value × A) → Type 0
FitsUnlessNull P None = Unit {0}
FitsUnlessNull P (Some x) = (x.0 ≢ Null) × IsWritable x.0 × P x.1

abbrev pub FitsListed : {A : Type 0} → (A → Type 0) → List A → Type 0
FitsListed P xs = (length xs < 2 ^ 31) × AllByRecursion P xs

-- the fields keep to the limits: their bytes spell them
abbrev pub FitsFields : (f : Format) → Fields f → Type 0
FitsFields nothing x = Unit {0}
FitsFields byte x = x < 256
FitsFields string x = wire.IsText x
FitsFields nullable_string x = wire.IsNullableText x
FitsFields node x = wire.IsNode x
FitsFields value x = IsWritable x
FitsFields (scalar k) x = IsInRange k x
FitsFields (within n) x = IsInRange i32 x × IsTrue (is_within n x)
FitsFields (both f g) x = FitsBoth (FitsFields f) (FitsFields g) x
FitsFields (choice f g) x = FitsChoice (FitsFields f) (FitsFields g) x
FitsFields (unless_null f) x = FitsUnlessNull (FitsFields f) x
FitsFields (listed f) xs = FitsListed (FitsFields f) xs
FitsFields (distinct k f) xs = FitsListed (FitsBoth (FitsKey k) (FitsFields f)) xs × IsDistinct (is_same_key k) (keys_of xs)
