-- The text of a value: one for each value.
use Rattle.std.specs.Prelude.{ℕ, ℤ, List, [], ◌∷◌, ◌++◌, codes, true, Option, None, Some}
use Rattle.std.specs.Fmt.{decimal as decimal_digits}
use Rattle.ig_value.specs.declared.code.Code.{Code}
use Rattle.ig_value.specs.declared.code.Code.TheVariants as code
use Rattle.ig_value.specs.declared.object.Record.{Record}
use Rattle.ig_value.specs.declared.object.Shape.{Shape}
use Rattle.ig_value.specs.declared.object.Shape.TheVariants.{Named, Compact}
use Rattle.ig_value.specs.declared.value.Value.{Value}
use Rattle.ig_value.specs.declared.value.Value.TheOpen.{Value-F}
use Rattle.ig_value.specs.declared.value.Value.TheFolds.{fold-Value}
use Rattle.ig_value.specs.Part.{Part, nothing, scalar, i32, text, octets, uuid, stamp, decimal, value, object, both, counted, optional, Content}
use Rattle.ig_value.specs.Table.{content, parts}
use Rattle.ig_text.specs.declared.row.Row.{Row}
use Rattle.ig_text.specs.declared.row.Row.TheVariants.{Kind, CompactObject}
use Rattle.ig_text.specs.Tokens.{colon, equals, open_bracket, close_bracket, open_brace, close_brace, hex, scalar_text, stamp_text, decimal_text, uuid_text, quoted, items_text}
use Rattle.ig_text.specs.Words.{word, object_row}

-- ---- objects: flags, type, a schema where it stands in place of identifiers, and fields

abbrev pub head_text : ℕ → ℤ → List ℕ
head_text bits type = decimal_digits bits ++ colon ∷ scalar_text i32 type

-- an identifier and a field for each
abbrev pub entries : {X : Type 0} → List ℤ → List X → List (ℤ × X)
entries [] xs = []
entries (id ∷ ids) [] = []
entries (id ∷ ids) (x ∷ xs) = (id, x) ∷ entries ids xs

abbrev pub entry_text : {X : Type 0} → (X → List ℕ) → ℤ × X → List ℕ
entry_text inner e = scalar_text i32 e.0 ++ equals ∷ inner e.1

abbrev pub shape_text : {X : Type 0} → (X → List ℕ) → Shape → List X → List ℕ
shape_text inner (Named ids) xs = open_brace ∷ items_text close_brace (entry_text inner) (entries ids xs)
shape_text inner (Compact schema) xs = colon ∷ (scalar_text i32 schema ++ open_brace ∷ items_text close_brace inner xs)

abbrev pub object_text : {X : Type 0} → (X → List ℕ) → Record X → List ℕ
object_text inner o = head_text o.bits o.type_id ++ shape_text inner o.shape o.fields

-- ---- parts

-- the byte between two parts, by the second: a list opens, a value is what an equals sign gives
abbrev pub mark : Part → ℕ
mark (counted p q) = open_bracket
mark value = equals
mark _ = colon

abbrev pub optional_text : {A : Type 0} → (A → List ℕ) → Option A → List ℕ
optional_text inner None = codes "null"
optional_text inner (Some x) = inner x

-- The text of a part, where `inner` gives that of a value inside. Of two parts, bytes come last. A
-- list without anything before it is opened by the word before it.
abbrev pub part_text : {X : Type 0} → (X → List ℕ) → (p : Part) → Content X p → List ℕ
part_text inner nothing x = []
part_text inner (scalar k) x = scalar_text k x
part_text inner text x = quoted x
part_text inner octets x = hex true x
part_text inner uuid x = uuid_text x
part_text inner stamp x = stamp_text x
part_text inner decimal x = decimal_text x
part_text inner value x = inner x
part_text inner object x = object_text inner x
part_text inner (both octets q) x = part_text inner q x.1 ++ colon ∷ hex true x.0
part_text inner (both p q) x = part_text inner p x.0 ++ mark q ∷ part_text inner q x.1
part_text inner (counted nothing q) x = items_text close_bracket (part_text inner q) x.1
part_text inner (counted p q) x = part_text inner p x.0 ++ open_bracket ∷ items_text close_bracket (part_text inner q) x.1
part_text inner (optional c p) x = optional_text (part_text inner p) x

-- ---- values

-- the row of a code and what it holds
abbrev pub row_of : (X : Type 0) → (c : Code) → Content X (content c) → Row
row_of X code.Object o = object_row o.shape
row_of X c x = Kind c

-- the word of the row, and the text of the content
abbrev pub row_text : {X : Type 0} → (X → List ℕ) → (c : Code) → Content X (content c) → List ℕ
row_text {X} inner c x = word (row_of X c x) ++ part_text inner (content c) x

-- the text of a value, where `inner` gives that of a value inside
abbrev pub layer_text : {X : Type 0} → (X → List ℕ) → Value-F X → List ℕ
layer_text inner x = row_text inner (parts x).0 (parts x).1

-- the text of a value
unfoldable pub TextOf : Value → List ℕ
TextOf = fold-Value (List ℕ) (layer_text (λ t. t))
