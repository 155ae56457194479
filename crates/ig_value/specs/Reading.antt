-- Reading from left to right, as a function: a value and the bytes after it, or the number of bytes
-- that are left where the first wrong item begins, and why it is wrong.
use Rattle.std.specs.Prelude.{ℕ, zero, suc, ◌+◌, ◌-◌, pos, negsuc, ℤ, Bool, true, false, List, [], ◌∷◌, length, take, drop, slice_index, Option, None, Some, Result, Ok, Err, nat_lt, ◌==◌, if◌then◌else◌}
use Rattle.std.specs.Int.{w8, w16, w32, w64, cast_signed, from_le_bytes}
use Rattle.std.specs.Str.{is_utf8}
use Rattle.ig_value.specs.declared.cause.Cause.{Cause}
use Rattle.ig_value.specs.declared.cause.Cause.TheVariants as cause
use Rattle.ig_value.specs.declared.code.Code.{Code}
use Rattle.ig_value.specs.declared.code.Code.TheVariants as code
use Rattle.ig_value.specs.declared.value.Dec.{Dec}
use Rattle.ig_value.specs.declared.value.Stamp.{Stamp}
use Rattle.ig_value.specs.declared.value.Value.{Value}
use Rattle.ig_base.specs.declared.NodeId.{NodeId}
use Rattle.ig_value.specs.Part.{Scalar, i8, i16, i32, i64, u16, u32, u64, truth, ScalarValue, Part, nothing, scalar, text, octets, uuid, stamp, decimal, value, object, both, counted, optional, Content}
use Rattle.ig_value.specs.Table.{byte_of, content, value_with, code_at}
use Rattle.ig_value.specs.Stops.{scalar_len}
use Rattle.ig_base.specs.declared.header.Header.{Header}
use Rattle.ig_base.specs.Headers.{header_of}
use Rattle.ig_value.specs.declared.object.Record.{Record}
use Rattle.ig_value.specs.declared.object.Shape.TheVariants.{Named}
use Rattle.ig_value.specs.Objects.{kept_flags, size_of, entry_len, object_offsets, object_shape, fields_of, first_offset, refusal}

-- the number of bytes that are left at the first wrong item, and the cause
abbrev pub Fault : Type 0
Fault = ℕ × Cause

-- what was read and the bytes after it, or the first fault
abbrev pub Read : Type 0 → Type 0
Read A = Result (A × List ℕ) Fault

infixl 10 ◌>>=◌
abbrev pub ◌>>=◌ : {A B : Type 0} → Result A Fault → (A → Result B Fault) → Result B Fault
(Ok x) >>= f = f x
(Err e) >>= f = Err e

-- the same reading, with what was read turned by f
abbrev pub mapped_read : {A B : Type 0} → (A → B) → Read A → Read B
mapped_read f r = r >>= λ x. Ok (f x.0, x.1)

abbrev pub nothing_at : List ℕ → Read (Unit {0})
nothing_at s = Ok (tt, s)

-- ---- scalars

abbrev pub truth_of : ℕ → Result Bool Cause
truth_of b = if b == 0 then Ok false else if b == 1 then Ok true else Err (cause.Bool b)

-- the scalar that these bytes encode, which are as many as it has
abbrev pub scalar_of : (k : Scalar) → List ℕ → Result (ScalarValue k) Cause
scalar_of i8 s = Ok (cast_signed w8 (from_le_bytes w8 s))
scalar_of i16 s = Ok (cast_signed w16 (from_le_bytes w16 s))
scalar_of i32 s = Ok (cast_signed w32 (from_le_bytes w32 s))
scalar_of i64 s = Ok (cast_signed w64 (from_le_bytes w64 s))
scalar_of u16 s = Ok (from_le_bytes w16 s)
scalar_of u32 s = Ok (from_le_bytes w32 s)
scalar_of u64 s = Ok (from_le_bytes w64 s)
scalar_of truth s = truth_of (slice_index s 0)

-- the reading of an item with these bytes after it, or the fault at the item, where `left` bytes
-- are left
abbrev pub item_read : {A : Type 0} → ℕ → List ℕ → Result A Cause → Read A
item_read left rest (Ok x) = Ok (x, rest)
item_read left rest (Err c) = Err (left, c)

-- an item of n bytes, which `of` decodes
abbrev pub item_at : {A : Type 0} → ℕ → (List ℕ → Result A Cause) → List ℕ → Read A
item_at n of s = if nat_lt (length s) n then Err (length s, cause.Short) else item_read (length s) (drop n s) (of (take n s))

abbrev pub scalar_at : (k : Scalar) → List ℕ → Read (ScalarValue k)
scalar_at k s = item_at (scalar_len k) (scalar_of k) s

-- ---- counted bytes

abbrev pub count_of : ℕ → ℤ × List ℕ → Read ℕ
count_of left ((pos n), rest) = Ok (n, rest)
count_of left ((negsuc n), rest) = Err (left, cause.Count (negsuc n))

abbrev pub count_at : List ℕ → Read ℕ
count_at s = scalar_at i32 s >>= count_of (length s)

abbrev pub counted_at : {A : Type 0} → (ℕ → List ℕ → Read A) → List ℕ → Read A
counted_at of s = count_at s >>= λ n. of n.0 n.1

abbrev pub run_of : List ℕ → Result (List ℕ) Cause
run_of s = Ok s

abbrev pub text_of : List ℕ → Result (List ℕ) Cause
text_of s = if is_utf8 s then Ok s else Err cause.Utf8

abbrev pub run_at : ℕ → List ℕ → Read (List ℕ)
run_at n s = item_at n run_of s

abbrev pub text_run_at : ℕ → List ℕ → Read (List ℕ)
text_run_at n s = item_at n text_of s

-- ---- several parts

abbrev pub both_at : {A B : Type 0} → (List ℕ → Read A) → (List ℕ → Read B) → List ℕ → Read (A × B)
both_at first second s = do
  x ← first s
  y ← second x.1
  Ok ((x.0, y.0), y.1)

abbrev pub many_at : {A : Type 0} → (List ℕ → Read A) → ℕ → List ℕ → Read (List A)
many_at one zero s = Ok ([], s)
many_at one (suc n) s = do
  x ← one s
  xs ← many_at one n x.1
  Ok (x.0 ∷ xs.0, xs.1)

abbrev pub optional_at : {A : Type 0} → ℕ → (List ℕ → Read A) → List ℕ → Read (Option A)
optional_at byte one [] = Err (0, cause.Short)
optional_at byte one (b ∷ rest) =
    if b == byte_of code.Null then Ok (None, rest) else if b == byte then mapped_read Some (one rest) else Err (suc (length rest), cause.Code b)

abbrev pub uuid_at : List ℕ → Read NodeId
uuid_at s = mapped_read (λ x. record { most = x.0; least = x.1 }) (both_at (scalar_at u64) (scalar_at u64) s)

abbrev pub stamp_at : List ℕ → Read Stamp
stamp_at s = mapped_read (λ x. record { millis = x.0; nanos = x.1 }) (both_at (scalar_at i64) (scalar_at i32) s)

abbrev pub decimal_at : List ℕ → Read Dec
decimal_at s = mapped_read (λ x. record { scale = x.0; bytes = x.1 }) (both_at (scalar_at i32) (counted_at run_at) s)

-- ---- objects

-- a fault told by the bytes left before this end, told by its place instead; or the other way round
abbrev pub turned : {A : Type 0} → ℕ → Result A Fault → Result A Fault
turned end (Ok x) = Ok x
turned end (Err f) = Err (end - f.0, f.1)

-- Fields that end at this place, where `at_offset` is the place of the first offset, and `distance`
-- that from one to the next. A fault has its place.
abbrev pub laid_at : {X : Type 0} → (List ℕ → Read X) → ℕ → ℕ → ℕ → List ℕ → List ℕ → Result (List X) Fault
laid_at inner distance at_offset end [] [] = Ok []
laid_at inner distance at_offset end [] (b ∷ s) = Err (20, cause.Offset)
laid_at inner distance at_offset end (offset ∷ offsets) s = if offset == end - length s then (do
  x ← turned end (inner s)
  xs ← laid_at inner distance (at_offset + distance) end offsets x.1
  Ok (x.0 ∷ xs)) else Err (at_offset, cause.Offset)

-- the object with these fields
abbrev pub object_with : {X : Type 0} → Header → List ℕ → List X → Record X
object_with header s xs = record { bits = kept_flags header.flags; type_id = header.type_id; shape = object_shape header s; fields = xs }

abbrev pub fields_at : {X : Type 0} → (List ℕ → Read X) → Header → List ℕ → Read (Record X)
fields_at inner header s =
    turned (length s) (laid_at inner (entry_len header.flags) (first_offset header) (size_of header.schema_at) (object_offsets header s) (fields_of header s))
    >>= λ xs. Ok (object_with header s xs, drop (size_of header.length) s)

-- the object that is a header alone
abbrev pub alone : {X : Type 0} → Header → Record X
alone header = record { bits = kept_flags header.flags; type_id = header.type_id; shape = Named []; fields = [] }

abbrev pub checked_at : {X : Type 0} → (List ℕ → Read X) → Header → List ℕ → Option Fault → Read (Record X)
checked_at inner header s (Some fault) = turned (length s) (Err fault)
checked_at inner header s None = if nat_lt 24 (size_of header.length) then fields_at inner header s else Ok (alone header, drop 24 s)

abbrev pub headed_at : {X : Type 0} → (List ℕ → Read X) → List ℕ → Option Header → Read (Record X)
headed_at inner s None = Err (length s, cause.Short)
headed_at inner s (Some header) = checked_at inner header s (refusal header s)

-- an object, from its code on
unfoldable pub object_at : {X : Type 0} → (List ℕ → Read X) → List ℕ → Read (Record X)
object_at inner s = headed_at inner s (header_of s)

-- a part, where `inner` reads a value inside
abbrev pub part_at : {X : Type 0} → (List ℕ → Read X) → (p : Part) → List ℕ → Read (Content X p)
part_at inner nothing s = nothing_at s
part_at inner (scalar k) s = scalar_at k s
part_at inner text s = counted_at text_run_at s
part_at inner octets s = counted_at run_at s
part_at inner uuid s = uuid_at s
part_at inner stamp s = stamp_at s
part_at inner decimal s = decimal_at s
part_at inner value s = inner s
part_at inner object s = object_at inner (byte_of code.Object ∷ s)
part_at inner (both p q) s = both_at (part_at inner p) (part_at inner q) s
part_at inner (counted p q) s = counted_at (λ n. both_at (part_at inner p) (many_at (part_at inner q) n)) s
part_at inner (optional c p) s = optional_at (byte_of c) (part_at inner p) s

-- ---- values

-- the content after a code
abbrev pub content_at : (List ℕ → Read Value) → Code → List ℕ → Read Value
content_at inner c s = mapped_read (value_with c) (part_at inner (content c) s)

abbrev pub known_at : (List ℕ → Read Value) → ℕ → List ℕ → Option Code → Read Value
known_at inner b rest None = Err (suc (length rest), cause.Code b)
known_at inner b rest (Some c) = content_at inner c rest

-- a value that is at most this many levels deep
abbrev pub value_at : ℕ → List ℕ → Read Value
value_at levels [] = Err (0, cause.Short)
value_at zero (b ∷ rest) = Err (suc (length rest), cause.Depth)
value_at (suc levels) (b ∷ rest) = known_at (value_at levels) b rest (code_at b)

-- a value
unfoldable pub reading : List ℕ → Read Value
reading = value_at 32
