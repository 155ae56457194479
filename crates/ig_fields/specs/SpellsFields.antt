-- Which bytes spell which fields, as a relation between whole lists and what the fields hold.
use Rattle.std.proofs.Common.{inl, inr}
use Rattle.std.specs.Prelude.{◌≡◌, ◌≢◌, ℕ, ◌<◌, ◌^◌, ℤ, pos, negsuc, Bool, false, nat_le, IsTrue, ◌⊎◌, List, [], ◌∷◌, ◌++◌, length, map, Option, None, Some}
use Rattle.std.specs.Int.{w32}
use Rattle.std.specs.List.{IsDistinct}
use Rattle.ig_base.specs.Numbers.{LE}
use Rattle.ig_value.specs.declared.Value.{Value}
use Rattle.ig_value.specs.declared.Value.TheVariants.{Null}
use Rattle.ig_value.specs.Part.{i32}
use Rattle.ig_value.specs.Spells.{IsScalar, IsBoth, IsEach, Spells}
use Rattle.ig_wire.specs.Fields.{IsString, IsNullableString, IsNodeObject}
use Rattle.ig_fields.specs.Format.{Key, name, identifier, KeyValue, is_same_key, Format, nothing, byte, string, nullable_string, node, value, scalar, within, both, choice, unless_null, listed, distinct, Fields}

-- one byte
abbrev pub IsByte : List ℕ → ℕ → Type 0
IsByte s b = (b < 256) × (s ≡ b ∷ [])

-- an encoding by P of what passes the test
abbrev pub IsTested : {A : Type 0} → (List ℕ → A → Type 0) → (A → Bool) → List ℕ → A → Type 0
IsTested P test s x = P s x × IsTrue (test x)

-- tests whether a number is from 0 to n
abbrev pub is_within : ℕ → ℤ → Bool
is_within n (pos k) = nat_le k n
is_within n (negsuc k) = false

-- a byte, and an encoding by P
pub record IsHeaded {A : Type 0} (head : ℕ) (P : List ℕ → A → Type 0) (s : List ℕ) (x : A) : Type 0 where
  pub suffix : List ℕ
  pub whole : s ≡ head ∷ suffix
  pub after : P suffix x

-- byte 0 and an encoding by P, or byte 1 and one by Q
abbrev pub IsChoice : {A B : Type 0} → (List ℕ → A → Type 0) → (List ℕ → B → Type 0) → List ℕ → A ⊎ B → Type 0
IsChoice P Q s (inl x) = IsHeaded 0 P s x
IsChoice P Q s (inr y) = IsHeaded 1 Q s y

-- null, or another value and an encoding by P
abbrev pub IsUnlessNull : {A : Type 0} → (List ℕ → A → Type 0) → List ℕ → Option (Value × A) → Type 0
IsUnlessNull P s None = Spells s Null
IsUnlessNull P s (Some x) = (x.0 ≢ Null) × IsBoth Spells P s x

-- an Int32 count, and an encoding by P of each of as many items
pub record IsListed {A : Type 0} (P : List ℕ → A → Type 0) (s : List ℕ) (xs : List A) : Type 0 where
  pub suffix : List ℕ
  pub few : length xs < 2 ^ 31
  pub whole : s ≡ LE w32 (pos (length xs)) ++ suffix
  pub each : IsEach P suffix xs

-- the keys of items
abbrev pub keys_of : {A B : Type 0} → List (A × B) → List A
keys_of xs = map (λ x. x.0) xs

-- the bytes spell a key
abbrev pub SpellsKey : (k : Key) → List ℕ → KeyValue k → Type 0
SpellsKey name s x = IsString s x
SpellsKey identifier s x = IsScalar i32 s x

-- the bytes spell the fields
abbrev pub SpellsFields : (f : Format) → List ℕ → Fields f → Type 0
SpellsFields nothing s x = s ≡ []
SpellsFields byte s x = IsByte s x
SpellsFields string s x = IsString s x
SpellsFields nullable_string s x = IsNullableString s x
SpellsFields node s x = IsNodeObject s x
SpellsFields value s x = Spells s x
SpellsFields (scalar k) s x = IsScalar k s x
SpellsFields (within n) s x = IsTested (IsScalar i32) (is_within n) s x
SpellsFields (both f g) s x = IsBoth (SpellsFields f) (SpellsFields g) s x
SpellsFields (choice f g) s x = IsChoice (SpellsFields f) (SpellsFields g) s x
SpellsFields (unless_null f) s x = IsUnlessNull (SpellsFields f) s x
SpellsFields (listed f) s xs = IsListed (SpellsFields f) s xs
SpellsFields (distinct k f) s xs = IsListed (IsBoth (SpellsKey k) (SpellsFields f)) s xs × IsDistinct (is_same_key k) (keys_of xs)
