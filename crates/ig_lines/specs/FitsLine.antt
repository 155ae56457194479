-- The limits of lines: each number in its range, values that aren't null and keep to theirs, descriptions
-- in order.
use Rattle.std.specs.Prelude.{◌≡◌, ℕ, pos, ◌<◌, ◌≤◌, true, false, List, [], ◌∷◌, length, int_le}
use Rattle.std.specs.List.{AllByRecursion}
use Rattle.ig_value.specs.declared.value.Value.{Value}
use Rattle.ig_value.specs.Limits.{IsLimitedText, Fits}
use Rattle.ig_value.specs.Part.{i32, i64}
use Rattle.ig_value.specs.Spells.{IsInRange}
use Rattle.ig_fields.specs.ReadingFields.{is_null}
use Rattle.ig_text.specs.ReadText.{begins_with}
use Rattle.ig_text.specs.FitsDescription.{FitsDescription}
use Rattle.ig_lines.specs.Arguments.{Argument, nothing, cache, item, pair, small, page, cursor, type_id, name, quoted_text, description, both, listed, Held, Mention, numbered, named, is_graphic, number_sign}

-- a value that isn't null
pub record IsPresent (v : Value) : Type 0 where
  pub fits : Fits v
  pub present : is_null v ≡ false

-- the bytes of a name, which doesn't begin with a number sign
pub record IsName (bytes : List ℕ) : Type 0 where
  pub some : 0 < length bytes
  pub graphic : AllByRecursion (λ b. is_graphic b ≡ true) bytes
  pub no_number : begins_with (number_sign ∷ []) bytes ≡ false

abbrev pub FitsCache : Mention → Type 0
FitsCache (numbered id) = IsInRange i32 id
FitsCache (named bytes) = IsName bytes

-- ---- arguments

abbrev pub FitsArgument : (a : Argument) → Held Mention a → Type 0
FitsArgument nothing x = Unit {0}
FitsArgument cache x = FitsCache x
FitsArgument item x = IsPresent x
FitsArgument pair x = IsPresent x.key × IsPresent x.value
FitsArgument small x = x ≤ 255
FitsArgument page x = IsInRange i32 x × (int_le (pos 1) x ≡ true)
FitsArgument cursor x = IsInRange i64 x
FitsArgument type_id x = IsInRange i32 x
FitsArgument name x = IsLimitedText x × (0 < length x)
FitsArgument quoted_text x = IsLimitedText x
FitsArgument description x = FitsDescription x
FitsArgument (both a b) x = FitsArgument a x.0 × FitsArgument b x.1
FitsArgument (listed a) xs = AllByRecursion (FitsArgument a) xs
