-- The fields of messages: which bytes spell them, where bytes stop being them, and reading them from
-- left to right.
use Rattle.std.specs.Prelude.{◌≡◌, ◌≢◌, ℕ, suc, ◌+◌, ◌-◌, ◌<◌, ◌^◌, ◌⊎◌, ℤ, List, [], ◌∷◌, ◌++◌, length, drop, Option, None, Some, Result, Ok, Err, ◌==◌, if◌then◌else◌, FitsSigned}
use Rattle.std.specs.Int.{Width, byte_len}
use Rattle.std.specs.Str.{IsUtf8}
use Rattle.ig_base.specs.Numbers.{LE, number_at, AreBytes}
use Rattle.ig_base.specs.declared.NodeId.{NodeId}
use Rattle.ig_value.specs.declared.Cause.{Cause}
use Rattle.ig_value.specs.declared.Code.{Code}
use Rattle.ig_value.specs.declared.Code.TheVariants as code
use Rattle.ig_value.specs.Table.{byte_of}
use Rattle.ig_value.specs.Part.{u64}
use Rattle.ig_value.specs.Spells.{IsScalar}
use Rattle.ig_value.specs.Stops.{StopsScalar, StopsBoth, StopsTextRun, StopsCounted, StopsCoded, StopsOptional}
use Rattle.ig_value.specs.Canon.{counted_bytes, optional_bytes, uuid_bytes}
use Rattle.ig_value.specs.Reading.{Read, counted_at, text_run_at, optional_at, uuid_at}
use Rattle.ig_decode.specs.TextAnswers.{text_reading}

-- ---- spelling

-- a String: the data object of code 9, which is its count of bytes and its UTF-8
abbrev pub string : List ℕ → List ℕ
string text = byte_of code.Str ∷ counted_bytes text

-- a String, or the data object of code 101
abbrev pub nullable_string : Option (List ℕ) → List ℕ
nullable_string text = optional_bytes (byte_of code.Str) counted_bytes text

-- what a String can hold
pub record IsText (text : List ℕ) : Type 0 where
  pub utf8 : IsUtf8 text
  pub bytes : AreBytes text
  pub small : length text < 2 ^ 31

abbrev pub IsNullableText : Option (List ℕ) → Type 0
IsNullableText None = Unit {0}
IsNullableText (Some text) = IsText text

-- the identifier of a node
abbrev pub IsNode : NodeId → Type 0
IsNode node = (node.most < 2 ^ 64) × (node.least < 2 ^ 64)

-- the bytes are a signed number
abbrev pub IsNumber : Width → List ℕ → ℤ → Type 0
IsNumber w s n = FitsSigned w n × (s ≡ LE w n)

-- the bytes are a String
abbrev pub IsString : List ℕ → List ℕ → Type 0
IsString s text = IsText text × (s ≡ string text)

-- the bytes are a String or a null
abbrev pub IsNullableString : List ℕ → Option (List ℕ) → Type 0
IsNullableString s text = IsNullableText text × (s ≡ nullable_string text)

-- the bytes are the data object of a UUID
abbrev pub IsNodeObject : List ℕ → NodeId → Type 0
IsNodeObject s node = IsNode node × (s ≡ byte_of code.Uuid ∷ uuid_bytes node)

-- ---- where bytes stop being a field: at the offset where its first wrong item begins

-- fewer than n bytes are left for a number of n bytes
pub record IsShort (n : ℕ) (s : List ℕ) (at : ℕ) : Type 0 where
  pub short : length s < n
  pub here : at ≡ 0

-- the first byte is none of those that may stand there, or there is none
pub record IsOtherByte (Right : ℕ → Type 0) (s : List ℕ) (at : ℕ) : Type 0 where
  pub byte : ℕ
  pub rest : List ℕ
  pub whole : s ≡ byte ∷ rest
  pub other : ¬ Right byte
  pub here : at ≡ 0

abbrev pub StopsByte : (ℕ → Type 0) → List ℕ → ℕ → Type 0
StopsByte Right s at = IsShort 1 s at ⊎ IsOtherByte Right s at

-- as data objects stop: another code, or a count or a text that isn't whole or not right
abbrev pub StopsObject : Code → (List ℕ → ℕ → Cause → Type 0) → List ℕ → ℕ → Type 0
StopsObject c Wrong s at =
    IsShort 1 s at ⊎ IsOtherByte (λ b. b ≡ byte_of c) s at
    ⊎ ((why : Cause) × StopsCoded c Wrong s at why)

abbrev pub StopsString : List ℕ → ℕ → Type 0
StopsString = StopsObject code.Str (StopsCounted StopsTextRun)

abbrev pub StopsNode : List ℕ → ℕ → Type 0
StopsNode = StopsObject code.Uuid (StopsBoth (IsScalar u64) (StopsScalar u64) (StopsScalar u64))

abbrev pub StopsNullableString : List ℕ → ℕ → Type 0
StopsNullableString s at = (why : Cause) × StopsOptional code.Str (StopsCounted StopsTextRun) s at why

-- bytes where nothing may follow
pub record IsLeftOver (s : List ℕ) (at : ℕ) : Type 0 where
  pub some : s ≢ []
  pub here : at ≡ 0

-- a prefix is right, and what follows it stops: at its offset plus the prefix's length
pub record StopsAfter {A : Type 0} (P : List ℕ → A → Type 0) (Wrong : A → List ℕ → ℕ → Type 0)
    (s : List ℕ) (at : ℕ) : Type 0 where
  pub first : A
  pub prefix : List ℕ
  pub suffix : List ℕ
  pub further : ℕ
  pub whole : s ≡ prefix ++ suffix
  pub right : P prefix first
  pub wrong : Wrong first suffix further
  pub there : at ≡ length prefix + further

-- the first part stops, or it is right and the next stops
abbrev pub StopsThen : {A : Type 0} → (List ℕ → A → Type 0) → (List ℕ → ℕ → Type 0)
    → (A → List ℕ → ℕ → Type 0) → List ℕ → ℕ → Type 0
StopsThen P WrongFirst WrongNext s at = WrongFirst s at ⊎ StopsAfter P WrongNext s at

-- ---- reading

-- what was read and the bytes after it, or how many bytes are left where the first wrong item begins
abbrev pub Field : Type 0 → Type 0
Field A = Result (A × List ℕ) ℕ

infixl 10 ◌>>=◌
abbrev pub ◌>>=◌ : {A B : Type 0} → Result A ℕ → (A → Result B ℕ) → Result B ℕ
(Ok x) >>= f = f x
(Err left) >>= f = Err left

-- a reading without the cause of its fault
abbrev pub placed : {A : Type 0} → Read A → Field A
placed (Ok x) = Ok x
placed (Err fault) = Err fault.0

abbrev pub number_field : ℕ → List ℕ → Option ℤ → Field ℤ
number_field n s None = Err (length s)
number_field n s (Some z) = Ok (z, drop n s)

-- a signed number
abbrev pub number_of : Width → List ℕ → Field ℤ
number_of w s = number_field (byte_len w) s (number_at w s 0)

abbrev pub string_of : List ℕ → Field (List ℕ)
string_of s = placed (text_reading s)

abbrev pub nullable_string_of : List ℕ → Field (Option (List ℕ))
nullable_string_of s = placed (optional_at (byte_of code.Str) (counted_at text_run_at) s)

-- a data object of this code, whose content `content_of` reads
abbrev pub object_of : {A : Type 0} → Code → (List ℕ → Read A) → List ℕ → Field A
object_of c content_of [] = Err 0
object_of c content_of (b ∷ rest) =
    if b == byte_of c then placed (content_of rest) else Err (suc (length rest))

-- the identifier of a node: a data object of code 10
abbrev pub node_of : List ℕ → Field NodeId
node_of s = object_of code.Uuid uuid_at s

-- the bytes after what was read
abbrev pub end_of : {A : Type 0} → Field A → Result (List ℕ) ℕ
end_of r = r >>= λ x. Ok x.1

-- what was read where no bytes follow, else how many bytes are left where the first wrong item begins
abbrev pub whole : {A : Type 0} → Field A → Result A ℕ
whole (Ok (x, [])) = Ok x
whole (Ok (x, (byte ∷ bytes))) = Err (suc (length bytes))
whole (Err left) = Err left

-- the offset, from the frame's first length byte on, at which `left` bytes of the body are left
abbrev pub frame_place : List ℕ → ℕ → ℕ
frame_place body left = 4 + (length body - left)

-- the same reading, with a fault told by its offset from the frame's first length byte on
abbrev pub in_frame : {A : Type 0} → List ℕ → Result A ℕ → Result A ℕ
in_frame body (Ok x) = Ok x
in_frame body (Err left) = Err (frame_place body left)
