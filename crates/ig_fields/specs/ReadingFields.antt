-- Reading fields from left to right, as a function: what they hold and the bytes after them, or the
-- number of bytes that are left where the first wrong item begins.
use Rattle.std.proofs.Common.{inl, inr}
use Rattle.std.specs.Prelude.{ℕ, zero, suc, ℤ, pos, negsuc, Bool, true, false, ◌⊎◌, List, [], ◌∷◌, length, Option, None, Some, Result, Ok, Err, ◌==◌, if◌then◌else◌}
use Rattle.ig_value.specs.declared.Value.{Value}
use Rattle.ig_value.specs.declared.Value.TheVariants.{Null}
use Rattle.ig_value.specs.Part.{i32}
use Rattle.ig_value.specs.Reading.{scalar_at, reading}
use Rattle.ig_wire.specs.Fields.{Field, ◌>>=◌, placed, string_of, nullable_string_of, node_of, whole}
use Rattle.ig_fields.specs.Format.{Key, name, identifier, KeyValue, is_same_key, Format, nothing, byte, string, nullable_string, node, value, scalar, within, both, choice, unless_null, listed, distinct, Fields}
use Rattle.ig_fields.specs.SpellsFields.{is_within}
use Rattle.ig_fields.specs.StopsFields.{is_natural, is_new}

-- the same reading, with what was read turned by f
abbrev pub mapped_of : {A B : Type 0} → (A → B) → Field A → Field B
mapped_of f r = r >>= λ x. Ok (f x.0, x.1)

abbrev pub byte_field : List ℕ → Field ℕ
byte_field [] = Err 0
byte_field (b ∷ rest) = Ok (b, rest)

-- what was read from bytes, as many as `left`, if it passes the test
abbrev pub if_passes : {A : Type 0} → ℕ → (A → Bool) → A × List ℕ → Field A
if_passes left test x = if test x.0 then Ok x else Err left

abbrev pub tested_of : {A : Type 0} → (List ℕ → Field A) → (A → Bool) → List ℕ → Field A
tested_of one test s = one s >>= if_passes (length s) test

abbrev pub both_of : {A B : Type 0} → (List ℕ → Field A) → (List ℕ → Field B) → List ℕ → Field (A × B)
both_of first second s = do
  x ← first s
  y ← second x.1
  Ok ((x.0, y.0), y.1)

abbrev pub choice_of : {A B : Type 0} → (List ℕ → Field A) → (List ℕ → Field B) → List ℕ → Field (A ⊎ B)
choice_of first second [] = Err 0
choice_of first second (b ∷ rest) =
    if b == 0 then mapped_of inl (first rest) else if b == 1 then mapped_of inr (second rest) else Err (suc (length rest))

-- tests whether a value is null
abbrev pub is_null : Value → Bool
is_null Null = true
is_null _ = false

-- the item after this value, unless it is null
abbrev pub after_value : {A : Type 0} → (List ℕ → Field A) → Value × List ℕ → Field (Option (Value × A))
after_value one v = if is_null v.0 then Ok (None, v.1) else mapped_of (λ x. Some (v.0, x)) (one v.1)

abbrev pub value_field : List ℕ → Field Value
value_field s = placed (reading s)

abbrev pub unless_null_of : {A : Type 0} → (List ℕ → Field A) → List ℕ → Field (Option (Value × A))
unless_null_of one s = value_field s >>= after_value one

-- ---- lists

-- a signed number of four bytes
abbrev pub int_field : List ℕ → Field ℤ
int_field s = placed (scalar_at i32 s)

-- the natural number that a number is, unless it is negative
abbrev pub natural : ℤ → ℕ
natural (pos n) = n
natural (negsuc n) = 0

abbrev pub count_field : List ℕ → Field ℕ
count_field s = mapped_of natural (tested_of int_field is_natural s)

abbrev pub each_of : {A : Type 0} → (List ℕ → Field A) → ℕ → List ℕ → Field (List A)
each_of one zero s = Ok ([], s)
each_of one (suc n) s = do
  x ← one s
  xs ← each_of one n x.1
  Ok (x.0 ∷ xs.0, xs.1)

abbrev pub listed_of : {A : Type 0} → (List ℕ → Field A) → List ℕ → Field (List A)
listed_of one s = count_field s >>= λ n. each_of one n.0 n.1

abbrev pub each_new_of : {A B : Type 0} → (A → A → Bool) → (List ℕ → Field A) → (List ℕ → Field B) → List A → ℕ → List ℕ → Field (List (A × B))
each_new_of same first second earlier zero s = Ok ([], s)
each_new_of same first second earlier (suc n) s = do
  x ← tested_of first (is_new same earlier) s
  y ← second x.1
  xs ← each_new_of same first second (x.0 ∷ earlier) n y.1
  Ok ((x.0, y.0) ∷ xs.0, xs.1)

abbrev pub distinct_of : {A B : Type 0} → (A → A → Bool) → (List ℕ → Field A) → (List ℕ → Field B) → List ℕ → Field (List (A × B))
distinct_of same first second s = count_field s >>= λ n. each_new_of same first second [] n.0 n.1

abbrev pub key_of : (k : Key) → List ℕ → Field (KeyValue k)
key_of name s = string_of s
key_of identifier s = int_field s

-- ---- formats

-- what fields of the format hold, and the bytes after them
abbrev pub fields_of : (f : Format) → List ℕ → Field (Fields f)
fields_of nothing s = Ok (tt, s)
fields_of byte s = byte_field s
fields_of string s = string_of s
fields_of nullable_string s = nullable_string_of s
fields_of node s = node_of s
fields_of value s = value_field s
fields_of (scalar k) s = placed (scalar_at k s)
fields_of (within n) s = tested_of int_field (is_within n) s
fields_of (both f g) s = both_of (fields_of f) (fields_of g) s
fields_of (choice f g) s = choice_of (fields_of f) (fields_of g) s
fields_of (unless_null f) s = unless_null_of (fields_of f) s
fields_of (listed f) s = listed_of (fields_of f) s
fields_of (distinct k f) s = distinct_of (is_same_key k) (key_of k) (fields_of f) s

-- what all of the bytes hold, as fields of the format
abbrev pub message_of : (f : Format) → List ℕ → Result (Fields f) ℕ
message_of f s = whole (fields_of f s)
