-- Which bytes encode which value, as a relation between whole lists and trees.
use Rattle.std.specs.Prelude.{◌≡◌, ℕ, zero, suc, ◌<◌, ◌^◌, pos, true, false, List, [], ◌∷◌, ◌++◌, length, Option, None, Some, FitsSigned}
use Rattle.std.specs.Int.{w8, w16, w32, w64}
use Rattle.std.specs.Str.{IsUtf8}
use Rattle.ig_base.specs.Numbers.{LE, AreBytes}
use Rattle.ig_value.specs.declared.code.Code.{Code}
use Rattle.ig_value.specs.declared.code.Code.TheVariants as code
use Rattle.ig_value.specs.declared.value.Value.{Value, out-Value}
use Rattle.ig_value.specs.Part.{Scalar, i8, i16, i32, i64, u16, u32, u64, truth, ScalarValue, Part, nothing, scalar, text, octets, uuid, stamp, decimal, value, object, both, counted, optional, Content}
use Rattle.ig_value.specs.Objects.{IsObject}
use Rattle.ig_value.specs.Table.{byte_of, content, parts}

-- ---- one part

-- the bytes of a scalar
abbrev pub scalar_bytes : (k : Scalar) → ScalarValue k → List ℕ
scalar_bytes i8 n = LE w8 n
scalar_bytes i16 n = LE w16 n
scalar_bytes i32 n = LE w32 n
scalar_bytes i64 n = LE w64 n
scalar_bytes u16 n = LE w16 (pos n)
scalar_bytes u32 n = LE w32 (pos n)
scalar_bytes u64 n = LE w64 (pos n)
scalar_bytes truth false = 0 ∷ []
scalar_bytes truth true = 1 ∷ []

-- the scalar is in its type's range
abbrev pub IsInRange : (k : Scalar) → ScalarValue k → Type 0
IsInRange i8 n = FitsSigned w8 n
IsInRange i16 n = FitsSigned w16 n
IsInRange i32 n = FitsSigned w32 n
IsInRange i64 n = FitsSigned w64 n
IsInRange u16 n = n < 2 ^ 16
IsInRange u32 n = n < 2 ^ 32
IsInRange u64 n = n < 2 ^ 64
IsInRange truth b = Unit {0}

abbrev pub IsScalar : (k : Scalar) → List ℕ → ScalarValue k → Type 0
IsScalar k s x = IsInRange k x × (s ≡ scalar_bytes k x)

-- n bytes, as they are
abbrev pub IsRun : ℕ → List ℕ → List ℕ → Type 0
IsRun n s bytes = (s ≡ bytes) × AreBytes bytes × (length bytes ≡ n)

-- n bytes of UTF-8
abbrev pub IsTextRun : ℕ → List ℕ → List ℕ → Type 0
IsTextRun n s bytes = IsRun n s bytes × IsUtf8 bytes

-- ---- several parts

-- an encoding by P, followed by one by Q
pub record IsBoth {A B : Type 0} (P : List ℕ → A → Type 0) (Q : List ℕ → B → Type 0) (s : List ℕ) (x : A × B) : Type 0 where
  pub prefix : List ℕ
  pub suffix : List ℕ
  pub whole : s ≡ prefix ++ suffix
  pub first : P prefix x.0
  pub second : Q suffix x.1

-- an Int32 count, and what follows it according to the count
pub record IsCounted {A : Type 0} (P : ℕ → List ℕ → A → Type 0) (s : List ℕ) (x : A) : Type 0 where
  pub count : ℕ
  pub suffix : List ℕ
  pub small : count < 2 ^ 31
  pub whole : s ≡ LE w32 (pos count) ++ suffix
  pub after : P count suffix x

-- an encoding by P of each item, in order
abbrev pub IsEach : {A : Type 0} → (List ℕ → A → Type 0) → List ℕ → List A → Type 0
IsEach P s [] = s ≡ []
IsEach P s (x ∷ xs) = IsBoth P (λ suffix _. IsEach P suffix xs) s (x, xs)

-- the same of n items
abbrev pub IsMany : {A : Type 0} → (List ℕ → A → Type 0) → ℕ → List ℕ → List A → Type 0
IsMany P n s xs = IsEach P s xs × (length xs ≡ n)

-- a code, and its content
pub record IsCoded {A : Type 0} (c : Code) (P : List ℕ → A → Type 0) (s : List ℕ) (x : A) : Type 0 where
  pub suffix : List ℕ
  pub whole : s ≡ byte_of c ∷ suffix
  pub after : P suffix x

-- the code of null, or this code and its content
abbrev pub IsOptional : {A : Type 0} → Code → (List ℕ → A → Type 0) → List ℕ → Option A → Type 0
IsOptional c P s None = s ≡ byte_of code.Null ∷ []
IsOptional c P s (Some x) = IsCoded c P s x

-- ---- values

-- the bytes encode the part, where `inner` says which bytes encode a value inside
abbrev pub SpellsPart : {X : Type 0} → (List ℕ → X → Type 0) → (p : Part) → List ℕ → Content X p → Type 0
SpellsPart inner nothing s x = s ≡ []
SpellsPart inner (scalar k) s x = IsScalar k s x
SpellsPart inner text s x = IsCounted IsTextRun s x
SpellsPart inner octets s x = IsCounted IsRun s x
SpellsPart inner uuid s x = IsBoth (IsScalar u64) (IsScalar u64) s (x.most, x.least)
SpellsPart inner stamp s x = IsBoth (IsScalar i64) (IsScalar i32) s (x.millis, x.nanos)
SpellsPart inner decimal s x = IsBoth (IsScalar i32) (IsCounted IsRun) s (x.scale, x.bytes)
SpellsPart inner value s x = inner s x
SpellsPart inner object s x = IsObject inner (byte_of code.Object ∷ s) x
SpellsPart inner (both p q) s x = IsBoth (SpellsPart inner p) (SpellsPart inner q) s x
SpellsPart inner (counted p q) s x = IsCounted (λ n. IsBoth (SpellsPart inner p) (IsMany (SpellsPart inner q) n)) s x
SpellsPart inner (optional c p) s x = IsOptional c (SpellsPart inner p) s x

-- the bytes encode the value, which is at most this many levels deep
abbrev pub SpellsTo : ℕ → List ℕ → Value → Type 0
SpellsTo zero s v = ⊥
SpellsTo (suc levels) s v = let p = parts (out-Value v) in IsCoded p.0 (SpellsPart (SpellsTo levels) (content p.0)) s p.1

-- the bytes encode the value
unfoldable pub Spells : List ℕ → Value → Type 0
Spells = SpellsTo 32
