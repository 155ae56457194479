-- Where bytes stop being a value, and why: everything before is whole and right, and the next item
-- is wrong.
use Rattle.std.specs.Prelude.{◌≡◌, ◌≢◌, ℕ, zero, suc, ◌+◌, ◌<◌, ◌≤◌, ◌^◌, ◌⊎◌, negsuc, pos, List, ◌∷◌, ◌++◌, length, take, FitsSigned}
use Rattle.std.specs.Int.{w32}
use Rattle.std.specs.Str.{IsUtf8}
use Rattle.ig_base.specs.Numbers.{LE}
use Rattle.ig_value.specs.declared.cause.Cause.{Cause}
use Rattle.ig_value.specs.declared.cause.Cause.TheVariants as cause
use Rattle.ig_value.specs.declared.code.Code.{Code}
use Rattle.ig_value.specs.declared.code.Code.TheVariants as code
use Rattle.ig_value.specs.Part.{Scalar, i8, i16, i32, i64, u16, u32, u64, truth, Part, nothing, scalar, text, octets, uuid, stamp, decimal, value, object, both, counted, optional}
use Rattle.ig_value.specs.Objects.{StopsObject}
use Rattle.ig_value.specs.Table.{byte_of, content}
use Rattle.ig_value.specs.Spells.{IsScalar, SpellsPart, SpellsTo}

-- ---- one part: its first wrong item is at the offset `at`, and it is wrong because of `why`

-- fewer than n bytes are left for an item of n bytes
pub record IsTruncated (n : ℕ) (s : List ℕ) (at : ℕ) (why : Cause) : Type 0 where
  pub short : length s < n
  pub here : at ≡ 0
  pub cause : why ≡ cause.Short

-- a truth value whose byte is neither 0 nor 1
pub record IsNoTruth (s : List ℕ) (at : ℕ) (why : Cause) : Type 0 where
  pub byte : ℕ
  pub rest : List ℕ
  pub whole : s ≡ byte ∷ rest
  pub wrong : 2 ≤ byte
  pub here : at ≡ 0
  pub cause : why ≡ cause.Bool byte

abbrev pub scalar_len : Scalar → ℕ
scalar_len i8 = 1
scalar_len i16 = 2
scalar_len i32 = 4
scalar_len i64 = 8
scalar_len u16 = 2
scalar_len u32 = 4
scalar_len u64 = 8
scalar_len truth = 1

abbrev pub StopsScalar : Scalar → List ℕ → ℕ → Cause → Type 0
StopsScalar truth s at why = IsTruncated 1 s at why ⊎ IsNoTruth s at why
StopsScalar k s at why = IsTruncated (scalar_len k) s at why

-- fewer than n bytes are left for a run of n bytes
abbrev pub StopsRun : ℕ → List ℕ → ℕ → Cause → Type 0
StopsRun n s at why = IsTruncated n s at why

-- n bytes that aren't UTF-8
pub record IsNoText (n : ℕ) (s : List ℕ) (at : ℕ) (why : Cause) : Type 0 where
  pub whole : n ≤ length s
  pub wrong : ¬ IsUtf8 (take n s)
  pub here : at ≡ 0
  pub cause : why ≡ cause.Utf8

abbrev pub StopsTextRun : ℕ → List ℕ → ℕ → Cause → Type 0
StopsTextRun n s at why = StopsRun n s at why ⊎ IsNoText n s at why

-- ---- several parts

-- a prefix is right, and the rest stops: at its offset plus the prefix's length
pub record StopsAfter {A : Type 0} (P : List ℕ → A → Type 0) (Wrong : List ℕ → ℕ → Cause → Type 0) (s : List ℕ) (at : ℕ) (why : Cause) : Type 0 where
  pub first : A
  pub prefix : List ℕ
  pub suffix : List ℕ
  pub further : ℕ
  pub whole : s ≡ prefix ++ suffix
  pub right : P prefix first
  pub wrong : Wrong suffix further why
  pub there : at ≡ length prefix + further

-- the first part stops, or it is right and the second stops
abbrev pub StopsBoth : {A : Type 0} → (List ℕ → A → Type 0) → (List ℕ → ℕ → Cause → Type 0) → (List ℕ → ℕ → Cause → Type 0) → List ℕ → ℕ → Cause → Type 0
StopsBoth P WrongP WrongQ s at why = WrongP s at why ⊎ StopsAfter P WrongQ s at why

-- one of n parts stops, and those before it are right
abbrev pub StopsMany : {A : Type 0} → (List ℕ → A → Type 0) → (List ℕ → ℕ → Cause → Type 0) → ℕ → List ℕ → ℕ → Cause → Type 0
StopsMany P Wrong zero s at why = ⊥
StopsMany P Wrong (suc n) s at why = StopsBoth P Wrong (StopsMany P Wrong n) s at why

-- a negative Int32 count
pub record IsNegative (s : List ℕ) (at : ℕ) (why : Cause) : Type 0 where
  pub below : ℕ
  pub rest : List ℕ
  pub fits : FitsSigned w32 (negsuc below)
  pub whole : s ≡ LE w32 (negsuc below) ++ rest
  pub here : at ≡ 0
  pub cause : why ≡ cause.Count (negsuc below)

-- the count is right, and what follows it stops
pub record StopsCounting (Wrong : ℕ → List ℕ → ℕ → Cause → Type 0) (s : List ℕ) (at : ℕ) (why : Cause) : Type 0 where
  pub count : ℕ
  pub suffix : List ℕ
  pub further : ℕ
  pub small : count < 2 ^ 31
  pub whole : s ≡ LE w32 (pos count) ++ suffix
  pub wrong : Wrong count suffix further why
  pub there : at ≡ 4 + further

abbrev pub StopsCounted : (ℕ → List ℕ → ℕ → Cause → Type 0) → List ℕ → ℕ → Cause → Type 0
StopsCounted Wrong s at why = IsTruncated 4 s at why ⊎ IsNegative s at why ⊎ StopsCounting Wrong s at why

-- the code is right, and what follows it stops
pub record StopsCoded (code : Code) (Wrong : List ℕ → ℕ → Cause → Type 0) (s : List ℕ) (at : ℕ) (why : Cause) : Type 0 where
  pub suffix : List ℕ
  pub further : ℕ
  pub whole : s ≡ byte_of code ∷ suffix
  pub wrong : Wrong suffix further why
  pub there : at ≡ suc further

-- a code byte that is neither null's nor the wanted one
pub record IsOtherCode (wanted : Code) (s : List ℕ) (at : ℕ) (why : Cause) : Type 0 where
  pub byte : ℕ
  pub rest : List ℕ
  pub whole : s ≡ byte ∷ rest
  pub no_null : byte ≢ byte_of code.Null
  pub other : byte ≢ byte_of wanted
  pub here : at ≡ 0
  pub cause : why ≡ cause.Code byte

abbrev pub StopsOptional : Code → (List ℕ → ℕ → Cause → Type 0) → List ℕ → ℕ → Cause → Type 0
StopsOptional code Wrong s at why = IsTruncated 1 s at why ⊎ IsOtherCode code s at why ⊎ StopsCoded code Wrong s at why

-- ---- values

-- the part stops, where `inner` says which bytes encode a value inside, and `wrong` where they stop
-- being one; where an object stops is said of its code too, by `StopsObject`
abbrev pub StopsPart : {X : Type 0} → (List ℕ → X → Type 0) → (List ℕ → ℕ → Cause → Type 0) → Part → List ℕ → ℕ → Cause → Type 0
StopsPart inner wrong nothing s at why = ⊥
StopsPart inner wrong (scalar k) s at why = StopsScalar k s at why
StopsPart inner wrong text s at why = StopsCounted StopsTextRun s at why
StopsPart inner wrong octets s at why = StopsCounted StopsRun s at why
StopsPart inner wrong uuid s at why = StopsBoth (IsScalar u64) (StopsScalar u64) (StopsScalar u64) s at why
StopsPart inner wrong stamp s at why = StopsBoth (IsScalar i64) (StopsScalar i64) (StopsScalar i32) s at why
StopsPart inner wrong decimal s at why = StopsBoth (IsScalar i32) (StopsScalar i32) (StopsCounted StopsRun) s at why
StopsPart inner wrong value s at why = wrong s at why
StopsPart inner wrong object s at why = ⊥
StopsPart inner wrong (both p q) s at why = StopsBoth (SpellsPart inner p) (StopsPart inner wrong p) (StopsPart inner wrong q) s at why
StopsPart inner wrong (counted p q) s at why =
    StopsCounted (λ n. StopsBoth (SpellsPart inner p) (StopsPart inner wrong p) (StopsMany (SpellsPart inner q) (StopsPart inner wrong q) n)) s at why
StopsPart inner wrong (optional code p) s at why = StopsOptional code (StopsPart inner wrong p) s at why

-- a byte that is no code
pub record IsUnknown (s : List ℕ) (at : ℕ) (why : Cause) : Type 0 where
  pub byte : ℕ
  pub rest : List ℕ
  pub whole : s ≡ byte ∷ rest
  pub unknown : (code : Code) → byte ≢ byte_of code
  pub here : at ≡ 0
  pub cause : why ≡ cause.Code byte

-- the code is right, and its content stops
pub record StopsInside (Wrong : Code → List ℕ → ℕ → Cause → Type 0) (s : List ℕ) (at : ℕ) (why : Cause) : Type 0 where
  pub code : Code
  pub inside : StopsCoded code (Wrong code) s at why

-- a code byte of a value that would be too deep
pub record IsTooDeep (s : List ℕ) (at : ℕ) (why : Cause) : Type 0 where
  pub byte : ℕ
  pub rest : List ℕ
  pub whole : s ≡ byte ∷ rest
  pub here : at ≡ 0
  pub cause : why ≡ cause.Depth

-- the bytes stop being a value that is at most this many levels deep
abbrev pub StopsTo : ℕ → List ℕ → ℕ → Cause → Type 0
StopsTo zero s at why = IsTruncated 1 s at why ⊎ IsTooDeep s at why
StopsTo (suc levels) s at why =
    IsTruncated 1 s at why ⊎ IsUnknown s at why ⊎ StopsInside (λ code. StopsPart (SpellsTo levels) (StopsTo levels) (content code)) s at why
    ⊎ StopsObject (SpellsTo levels) (StopsTo levels) s at why

-- the bytes stop being a value
unfoldable pub Stops : List ℕ → ℕ → Cause → Type 0
Stops = StopsTo 32
