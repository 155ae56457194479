-- The arguments of a line: what each holds, its text, and how it is read. Each stands after a space.
use Rattle.std.specs.Prelude.{ℕ, ℤ, pos, zero, suc, Bool, not, List, [], ◌∷◌, ◌++◌, length, take, drop, map, nat_lt, nat_le, int_le, Ok, Err, if◌then◌else◌}
use Rattle.std.specs.Int.{w32, cast_signed, is_in_range}
use Rattle.std.specs.Fmt.{decimal}
use Rattle.std.specs.List.{flat_map, prefix_len}
use Rattle.ig_base.specs.Hashes.{Java, units}
use Rattle.ig_value.specs.declared.value.Value.{Value}
use Rattle.ig_value.specs.Part.{i32, i64}
use Rattle.ig_types.specs.declared.meta.TypeMeta.{TypeMeta}
use Rattle.ig_fields.specs.ReadingFields.{is_null}
use Rattle.ig_caches.specs.declared.call.Pair.{Pair}
use Rattle.ig_text.specs.ReadText.{Read, ◌>>=◌, mapped_read, checked_read, mark_at, begins_with, joined_at, natural_at, scalar_at, quoted_at, text_at}
use Rattle.ig_text.specs.TextOf.{TextOf}
use Rattle.ig_text.specs.Tokens.{equals, quoted, scalar_text}
use Rattle.ig_text.specs.DescriptionText.{description_text, adjacent_at, description_at}

abbrev pub space : ℕ
space = 32

abbrev pub number_sign : ℕ
number_sign = 35

-- `both a b` is a and then b; `listed a` is zero or more of a, up to the end of the line
pub data Argument : Type 0 where
  nothing cache item pair small page cursor type_id name quoted_text description : Argument
  both : Argument → Argument → Argument
  listed : Argument → Argument

-- what an argument holds, where a cache is a C
abbrev pub Held : Type 0 → Argument → Type 0
Held C nothing = Unit {0}
Held C cache = C
Held C item = Value
Held C pair = Pair
Held C small = ℕ
Held C page = ℤ
Held C cursor = ℤ
Held C type_id = ℤ
Held C name = List ℕ
Held C quoted_text = List ℕ
Held C description = TypeMeta
Held C (both a b) = Held C a × Held C b
Held C (listed a) = List (Held C a)

-- ---- caches

-- a cache in a text: its identifier after a number sign, or its name
pub data Mention : Type 0 where
  numbered : ℤ → Mention
  named : List ℕ → Mention

-- the identifier of a cache is the hash of its name
abbrev pub id_of : Mention → ℤ
id_of (numbered id) = id
id_of (named bytes) = cast_signed w32 (Java (units bytes))

abbrev pub numbered_text : ℤ → List ℕ
numbered_text id = number_sign ∷ scalar_text i32 id

abbrev pub cache_text : Mention → List ℕ
cache_text (numbered id) = numbered_text id
cache_text (named bytes) = bytes

-- a byte of a name: 0x21 to 0x7E
abbrev pub is_graphic : ℕ → Bool
is_graphic b = is_in_range 33 126 b

abbrev pub graphic_len : List ℕ → ℕ
graphic_len s = prefix_len is_graphic s

-- a name of n bytes: it has at least one
abbrev pub name_of : ℕ → List ℕ → Read Mention
name_of zero s = Err (length s)
name_of (suc n) s = Ok (named (take (suc n) s), drop (suc n) s)

abbrev pub cache_at : List ℕ → Read Mention
cache_at s =
    if begins_with (number_sign ∷ []) s then mapped_read numbered (scalar_at i32 (drop 1 s)) else name_of (graphic_len s) s

-- ---- the other arguments

abbrev pub pair_text : Pair → List ℕ
pair_text p = TextOf p.key ++ equals ∷ TextOf p.value

-- a value that isn't null
abbrev pub item_at : List ℕ → Read Value
item_at s = checked_read (λ v. not (is_null v)) (length s) (text_at s)

abbrev pub pair_of : Value × Value → Pair
pair_of x = record { key = x.0; value = x.1 }

abbrev pub pair_at : List ℕ → Read Pair
pair_at s = mapped_read pair_of (joined_at item_at equals item_at s)

-- a number up to a limit
abbrev pub up_to_at : ℕ → List ℕ → Read ℕ
up_to_at limit s = checked_read (λ n. nat_le n limit) (length s) (natural_at s)

-- a page has room for a row
abbrev pub page_at : List ℕ → Read ℤ
page_at s = checked_read (λ n. int_le (pos 1) n) (length s) (scalar_at i32 s)

abbrev pub name_at : List ℕ → Read (List ℕ)
name_at s = checked_read (λ bytes. nat_lt 0 (length bytes)) (length s) (quoted_at s)

-- ---- all arguments

-- the text of an argument, where `text` gives that of a cache
abbrev pub argument_text : {C : Type 0} → (C → List ℕ) → (a : Argument) → Held C a → List ℕ
argument_text text nothing x = []
argument_text text cache x = space ∷ text x
argument_text text item x = space ∷ TextOf x
argument_text text pair x = space ∷ pair_text x
argument_text text small x = space ∷ decimal x
argument_text text page x = space ∷ scalar_text i32 x
argument_text text cursor x = space ∷ scalar_text i64 x
argument_text text type_id x = space ∷ scalar_text i32 x
argument_text text name x = space ∷ quoted x
argument_text text quoted_text x = space ∷ quoted x
argument_text text description x = space ∷ description_text x
argument_text text (both a b) x = argument_text text a x.0 ++ argument_text text b x.1
argument_text text (listed a) xs = flat_map (argument_text text a) xs

abbrev pub spaced_at : {A : Type 0} → (List ℕ → Read A) → List ℕ → Read A
spaced_at one s = mark_at space s >>= λ m. one m.1

-- items up to the end, at most as many as there are bytes
abbrev pub to_end_at : {A : Type 0} → (List ℕ → Read A) → ℕ → List ℕ → Read (List A)
to_end_at one n [] = Ok ([], [])
to_end_at one zero (b ∷ s) = Err (suc (length s))
to_end_at one (suc n) (b ∷ s) = do
  x ← one (b ∷ s)
  xs ← to_end_at one n x.1
  Ok (x.0 ∷ xs.0, xs.1)

abbrev pub argument_at : (a : Argument) → List ℕ → Read (Held Mention a)
argument_at nothing s = Ok (tt, s)
argument_at cache s = spaced_at cache_at s
argument_at item s = spaced_at item_at s
argument_at pair s = spaced_at pair_at s
argument_at small s = spaced_at (up_to_at 255) s
argument_at page s = spaced_at page_at s
argument_at cursor s = spaced_at (scalar_at i64) s
argument_at type_id s = spaced_at (scalar_at i32) s
argument_at name s = spaced_at name_at s
argument_at quoted_text s = spaced_at quoted_at s
argument_at description s = spaced_at description_at s
argument_at (both a b) s = adjacent_at (argument_at a) (argument_at b) s
argument_at (listed a) s = to_end_at (argument_at a) (length s) s

-- the same arguments, with each cache by its identifier
abbrev pub by_id : (a : Argument) → Held Mention a → Held ℤ a
by_id cache x = id_of x
by_id (both a b) x = (by_id a x.0, by_id b x.1)
by_id (listed a) xs = map (by_id a) xs
by_id nothing x = x
by_id item x = x
by_id pair x = x
by_id small x = x
by_id page x = x
by_id cursor x = x
by_id type_id x = x
by_id name x = x
by_id quoted_text x = x
by_id description x = x
