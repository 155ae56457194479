-- The word that each kind of value begins with. No word is a prefix of another.
use Rattle.std.specs.Prelude.{ℕ, List, [], ◌∷◌, ◌++◌, codes, map, Option, ◌==◌, Bool}
use Rattle.std.specs.List.{find, starts_with}
use Rattle.ig_value.specs.declared.code.Code.{Code}
use Rattle.ig_value.specs.declared.code.Code.TheVariants as code
use Rattle.ig_value.specs.declared.object.Shape.{Shape}
use Rattle.ig_value.specs.declared.object.Shape.TheVariants.{Named, Compact}
use Rattle.ig_value.specs.Table.{codes as all_codes}
use Rattle.ig_text.specs.declared.row.Row.{Row}
use Rattle.ig_text.specs.declared.row.Row.TheVariants.{Kind, CompactObject}

abbrev pub word_of_code : Code → List ℕ
word_of_code code.Byte = codes "byte:"
word_of_code code.Short = codes "short:"
word_of_code code.Int = codes "int:"
word_of_code code.Long = codes "long:"
word_of_code code.Float = codes "float:"
word_of_code code.Double = codes "double:"
word_of_code code.Char = codes "char:"
word_of_code code.Bool = codes "bool:"
word_of_code code.Str = codes "str:"
word_of_code code.Uuid = codes "uuid:"
word_of_code code.Date = codes "date:"
word_of_code code.Bytes = codes "bytes["
word_of_code code.Shorts = codes "shorts["
word_of_code code.Ints = codes "ints["
word_of_code code.Longs = codes "longs["
word_of_code code.Floats = codes "floats["
word_of_code code.Doubles = codes "doubles["
word_of_code code.Chars = codes "chars["
word_of_code code.Bools = codes "bools["
word_of_code code.Strs = codes "strs["
word_of_code code.Uuids = codes "uuids["
word_of_code code.Dates = codes "dates["
word_of_code code.Objects = codes "objs:"
word_of_code code.Collection = codes "coll:"
word_of_code code.Map = codes "map:"
word_of_code code.Wrapped = codes "wrap:"
word_of_code code.Enum = codes "enum:"
word_of_code code.Enums = codes "enums:"
word_of_code code.Decimal = codes "dec:"
word_of_code code.Decimals = codes "decs["
word_of_code code.Timestamp = codes "ts:"
word_of_code code.Timestamps = codes "tss["
word_of_code code.Time = codes "time:"
word_of_code code.Times = codes "times["
word_of_code code.BinaryEnum = codes "benum:"
word_of_code code.Null = codes "null"
word_of_code code.Object = codes "obj:"

-- A row is a kind of value; an object with a compact footer has a row of its own.
abbrev pub word : Row → List ℕ
word (Kind c) = word_of_code c
word CompactObject = codes "cobj:"

-- all rows
abbrev pub rows : List Row
rows = CompactObject ∷ map Kind all_codes

-- the row whose word a text begins with
abbrev pub row_at : List ℕ → Option Row
row_at s = find (λ r. starts_with (λ a b. a == b) s (word r)) rows

-- the row of an object of this shape
abbrev pub object_row : Shape → Row
object_row (Named ids) = Kind code.Object
object_row (Compact schema) = CompactObject
