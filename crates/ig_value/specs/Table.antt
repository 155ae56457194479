-- The table of the codes: the byte of each, the parts of its content, and the value that it begins.
use Rattle.std.specs.Prelude.{ℕ, List, [], ◌∷◌, Option, ◌==◌}
use Rattle.std.specs.List.{find}
use Rattle.ig_value.specs.declared.code.Code.{Code}
use Rattle.ig_value.specs.declared.code.Code.TheVariants as code
use Rattle.ig_value.specs.declared.value.Value.{Value}
use Rattle.ig_value.specs.declared.value.Value.TheVariants as value
use Rattle.ig_value.specs.declared.value.Value.TheOpen.{Value-F}
use Rattle.ig_value.specs.Part.{i8, i16, i32, i64, u16, u32, u64, truth, Part, nothing, scalar, text, octets, uuid, stamp, decimal, value, object, both, counted, optional, array, Content}

-- the byte of a code
abbrev pub byte_of : Code → ℕ
byte_of code.Byte = 1
byte_of code.Short = 2
byte_of code.Int = 3
byte_of code.Long = 4
byte_of code.Float = 5
byte_of code.Double = 6
byte_of code.Char = 7
byte_of code.Bool = 8
byte_of code.Str = 9
byte_of code.Uuid = 10
byte_of code.Date = 11
byte_of code.Bytes = 12
byte_of code.Shorts = 13
byte_of code.Ints = 14
byte_of code.Longs = 15
byte_of code.Floats = 16
byte_of code.Doubles = 17
byte_of code.Chars = 18
byte_of code.Bools = 19
byte_of code.Strs = 20
byte_of code.Uuids = 21
byte_of code.Dates = 22
byte_of code.Objects = 23
byte_of code.Collection = 24
byte_of code.Map = 25
byte_of code.Wrapped = 27
byte_of code.Enum = 28
byte_of code.Enums = 29
byte_of code.Decimal = 30
byte_of code.Decimals = 31
byte_of code.Timestamp = 33
byte_of code.Timestamps = 34
byte_of code.Time = 36
byte_of code.Times = 37
byte_of code.BinaryEnum = 38
byte_of code.Null = 101
byte_of code.Object = 103

-- the content after a code
abbrev pub content : Code → Part
content code.Byte = scalar i8
content code.Short = scalar i16
content code.Int = scalar i32
content code.Long = scalar i64
content code.Float = scalar u32
content code.Double = scalar u64
content code.Char = scalar u16
content code.Bool = scalar truth
content code.Str = text
content code.Uuid = uuid
content code.Date = scalar i64
content code.Bytes = array (scalar i8)
content code.Shorts = array (scalar i16)
content code.Ints = array (scalar i32)
content code.Longs = array (scalar i64)
content code.Floats = array (scalar u32)
content code.Doubles = array (scalar u64)
content code.Chars = array (scalar u16)
content code.Bools = array (scalar truth)
content code.Strs = array (optional code.Str text)
content code.Uuids = array (optional code.Uuid uuid)
content code.Dates = array (optional code.Date (scalar i64))
content code.Objects = both (scalar i32) (array value)
content code.Collection = counted (scalar i8) value
content code.Map = counted (scalar i8) (both value value)
content code.Wrapped = both octets (scalar i32)
content code.Enum = both (scalar i32) (scalar i32)
content code.Enums = both (scalar i32) (array value)
content code.Decimal = decimal
content code.Decimals = array (optional code.Decimal decimal)
content code.Timestamp = stamp
content code.Timestamps = array (optional code.Timestamp stamp)
content code.Time = scalar i64
content code.Times = array (optional code.Time (scalar i64))
content code.BinaryEnum = both (scalar i32) (scalar i32)
content code.Null = nothing
content code.Object = object

-- a value's code, and the content that it holds
abbrev pub parts : {X : Type 0} → Value-F X → (c : Code) × Content X (content c)
parts (Value-F.Byte n) = (code.Byte, n)
parts (Value-F.Short n) = (code.Short, n)
parts (Value-F.Int n) = (code.Int, n)
parts (Value-F.Long n) = (code.Long, n)
parts (Value-F.Float n) = (code.Float, n)
parts (Value-F.Double n) = (code.Double, n)
parts (Value-F.Char n) = (code.Char, n)
parts (Value-F.Bool b) = (code.Bool, b)
parts (Value-F.Str t) = (code.Str, t)
parts (Value-F.Uuid u) = (code.Uuid, u)
parts (Value-F.Date n) = (code.Date, n)
parts (Value-F.Bytes xs) = (code.Bytes, (tt, xs))
parts (Value-F.Shorts xs) = (code.Shorts, (tt, xs))
parts (Value-F.Ints xs) = (code.Ints, (tt, xs))
parts (Value-F.Longs xs) = (code.Longs, (tt, xs))
parts (Value-F.Floats xs) = (code.Floats, (tt, xs))
parts (Value-F.Doubles xs) = (code.Doubles, (tt, xs))
parts (Value-F.Chars xs) = (code.Chars, (tt, xs))
parts (Value-F.Bools xs) = (code.Bools, (tt, xs))
parts (Value-F.Strs xs) = (code.Strs, (tt, xs))
parts (Value-F.Uuids xs) = (code.Uuids, (tt, xs))
parts (Value-F.Dates xs) = (code.Dates, (tt, xs))
parts (Value-F.Objects type xs) = (code.Objects, (type, (tt, xs)))
parts (Value-F.Collection kind xs) = (code.Collection, (kind, xs))
parts (Value-F.Map kind xs) = (code.Map, (kind, xs))
parts (Value-F.Wrapped bytes offset) = (code.Wrapped, (bytes, offset))
parts (Value-F.Enum type ordinal) = (code.Enum, (type, ordinal))
parts (Value-F.Enums type xs) = (code.Enums, (type, (tt, xs)))
parts (Value-F.Decimal d) = (code.Decimal, d)
parts (Value-F.Decimals xs) = (code.Decimals, (tt, xs))
parts (Value-F.Timestamp t) = (code.Timestamp, t)
parts (Value-F.Timestamps xs) = (code.Timestamps, (tt, xs))
parts (Value-F.Time n) = (code.Time, n)
parts (Value-F.Times xs) = (code.Times, (tt, xs))
parts (Value-F.BinaryEnum type ordinal) = (code.BinaryEnum, (type, ordinal))
parts Value-F.Null = (code.Null, tt)
parts (Value-F.Object o) = (code.Object, o)

-- the value with this code and this content
abbrev pub value_with : (c : Code) → Content Value (content c) → Value
value_with code.Byte n = value.Byte n
value_with code.Short n = value.Short n
value_with code.Int n = value.Int n
value_with code.Long n = value.Long n
value_with code.Float n = value.Float n
value_with code.Double n = value.Double n
value_with code.Char n = value.Char n
value_with code.Bool b = value.Bool b
value_with code.Str t = value.Str t
value_with code.Uuid u = value.Uuid u
value_with code.Date n = value.Date n
value_with code.Bytes (tt, xs) = value.Bytes xs
value_with code.Shorts (tt, xs) = value.Shorts xs
value_with code.Ints (tt, xs) = value.Ints xs
value_with code.Longs (tt, xs) = value.Longs xs
value_with code.Floats (tt, xs) = value.Floats xs
value_with code.Doubles (tt, xs) = value.Doubles xs
value_with code.Chars (tt, xs) = value.Chars xs
value_with code.Bools (tt, xs) = value.Bools xs
value_with code.Strs (tt, xs) = value.Strs xs
value_with code.Uuids (tt, xs) = value.Uuids xs
value_with code.Dates (tt, xs) = value.Dates xs
value_with code.Objects (type, (tt, xs)) = value.Objects type xs
value_with code.Collection (kind, xs) = value.Collection kind xs
value_with code.Map (kind, xs) = value.Map kind xs
value_with code.Wrapped (bytes, offset) = value.Wrapped bytes offset
value_with code.Enum (type, ordinal) = value.Enum type ordinal
value_with code.Enums (type, (tt, xs)) = value.Enums type xs
value_with code.Decimal d = value.Decimal d
value_with code.Decimals (tt, xs) = value.Decimals xs
value_with code.Timestamp t = value.Timestamp t
value_with code.Timestamps (tt, xs) = value.Timestamps xs
value_with code.Time n = value.Time n
value_with code.Times (tt, xs) = value.Times xs
value_with code.BinaryEnum (type, ordinal) = value.BinaryEnum type ordinal
value_with code.Null x = value.Null
value_with code.Object o = value.Object o

-- all codes
abbrev pub codes : List Code
codes = code.Byte ∷ code.Short ∷ code.Int ∷ code.Long ∷ code.Float ∷ code.Double ∷ code.Char ∷ code.Bool ∷ code.Str ∷ code.Uuid ∷ code.Date ∷ code.Bytes ∷ code.Shorts ∷ code.Ints ∷ code.Longs ∷ code.Floats ∷ code.Doubles ∷ code.Chars ∷ code.Bools ∷ code.Strs ∷ code.Uuids ∷ code.Dates ∷ code.Objects ∷ code.Collection ∷ code.Map ∷ code.Wrapped ∷ code.Enum ∷ code.Enums ∷ code.Decimal ∷ code.Decimals ∷ code.Timestamp ∷ code.Timestamps ∷ code.Time ∷ code.Times ∷ code.BinaryEnum ∷ code.Null ∷ code.Object ∷ []

-- the code of a byte, if any
abbrev pub code_at : ℕ → Option Code
code_at b = find (λ c. byte_of c == b) codes
