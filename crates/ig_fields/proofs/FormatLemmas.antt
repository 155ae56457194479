-- Fields of every format are read as they are spelled, and stop where reading stops.
use Rattle.std.proofs.Common.{◌≡◌, ℕ, List, [], refl}
use Rattle.ig_value.specs.Part.{i32}
use Rattle.ig_value.specs.Spells.{IsScalar}
use Rattle.ig_value.specs.Stops.{StopsScalar}
use Rattle.ig_value.specs.Reading.{scalar_at}
use Rattle.ig_value.proofs.ScalarLemmas.{scalar_agrees}
use Rattle.ig_wire.proofs.AgreeLemmas.{IsRead, IsMessage, placed_read, same_read, nothing_read, whole_read}
use Rattle.ig_wire.proofs.LeafLemmas.{string_read, nullable_read, node_read}
use Rattle.ig_fields.specs.Format.{Key, name, identifier, is_same_key, Format, nothing, byte, string, nullable_string, node, value, scalar, within, both, choice, unless_null, listed, distinct}
use Rattle.ig_fields.specs.SpellsFields.{is_within, SpellsKey, SpellsFields}
use Rattle.ig_fields.specs.StopsFields.{StopsNumber, StopsKey, StopsFields, StopsMessage}
use Rattle.ig_fields.specs.ReadingFields.{int_field, key_of, fields_of, message_of}
use Rattle.ig_fields.proofs.FieldLemmas.{byte_read, tested_read, both_read, choice_read, value_read, unless_null_read}
use Rattle.ig_fields.proofs.ListedLemmas.{int_read, listed_read, distinct_read}

key_read : (k : Key) → IsRead (SpellsKey k) (StopsKey k) (key_of k)
key_read name = string_read
key_read identifier = int_read

abbrev Nothing : List ℕ → Unit {0} → Type 0
Nothing s x = (s ≡ []) × (x ≡ tt)

pub fields_read : (f : Format) → IsRead (SpellsFields f) (StopsFields f) (fields_of f)
fields_read nothing = same_read Nothing (SpellsFields nothing) (StopsFields nothing) (fields_of nothing) (λ s x h. h.0) (λ s x h. (h, refl)) (nothing_read tt)
fields_read byte = byte_read
fields_read string = string_read
fields_read nullable_string = nullable_read
fields_read node = node_read
fields_read value = value_read
fields_read (scalar k) = placed_read (IsScalar k) (StopsScalar k) (scalar_at k) (scalar_agrees k)
fields_read (within n) = tested_read (IsScalar i32) (StopsNumber i32) int_field (is_within n) int_read
fields_read (both f g) = both_read (SpellsFields f) (StopsFields f) (fields_of f) (SpellsFields g) (StopsFields g) (fields_of g) (fields_read f) (fields_read g)
fields_read (choice f g) = choice_read (SpellsFields f) (StopsFields f) (fields_of f) (SpellsFields g) (StopsFields g) (fields_of g) (fields_read f) (fields_read g)
fields_read (unless_null f) = unless_null_read (SpellsFields f) (StopsFields f) (fields_of f) (fields_read f)
fields_read (listed f) = listed_read (SpellsFields f) (StopsFields f) (fields_of f) (fields_read f)
fields_read (distinct k f) = distinct_read (is_same_key k) (SpellsKey k) (StopsKey k) (key_of k) (SpellsFields f) (StopsFields f) (fields_of f) (key_read k) (fields_read f)

-- the same of a whole message, after which nothing follows
pub message_read : (f : Format) → IsMessage (SpellsFields f) (StopsMessage f) (message_of f)
message_read f = whole_read (SpellsFields f) (StopsFields f) (fields_of f) (fields_read f)
