-- Fields that are spelled keep to the limits.
use Rattle.std.proofs.Common.{◌≡◌, ℕ, ◌<◌, ◌^◌, List, [], ◌∷◌, ◌++◌, length, None, Some, ap, arith, inl, inr, length-append}
use Rattle.std.specs.List.{AllByRecursion}
use Rattle.ig_value.specs.declared.Value.{Value}
use Rattle.ig_value.specs.Spells.{IsBoth, IsEach}
use Rattle.ig_value.proofs.LawLemmas.{spelled_values_fit, canon_is_shortest}
use Rattle.ig_fields.specs.Format.{Key, name, identifier, KeyValue, Format, nothing, byte, string, nullable_string, node, value, scalar, within, both, choice, unless_null, listed, distinct, Fields}
use Rattle.ig_fields.specs.SpellsFields.{IsListed, SpellsKey, SpellsFields}
use Rattle.ig_fields.specs.FieldBytes.{IsWritable, FitsKey, FitsBoth, FitsListed, FitsFields}

-- an Int32 counts the bytes
abbrev IsSmall : List ℕ → Type 0
IsSmall s = length s < 2 ^ 31

prefix_small : (s prefix suffix : List ℕ) → s ≡ prefix ++ suffix → IsSmall s → IsSmall prefix
prefix_small s prefix suffix whole small = omega (arith, small, ap length whole, length-append prefix suffix)

suffix_small : (s prefix suffix : List ℕ) → s ≡ prefix ++ suffix → IsSmall s → IsSmall suffix
suffix_small s prefix suffix whole small = omega (arith, small, ap length whole, length-append prefix suffix)

value_fits : (s : List ℕ) (v : Value) → IsSmall s → SpellsFields value s v → IsWritable v
value_fits s v small h = (spelled_values_fit s v h, omega (arith, small, canon_is_shortest s v h))

each_fits : {A : Type 0} (P : List ℕ → A → Type 0) (F : A → Type 0) → ((s : List ℕ) (x : A) → IsSmall s → P s x → F x) → (s : List ℕ) (xs : List A) → IsSmall s → IsEach P s xs → AllByRecursion F xs
each_fits P F one s [] small h = tt
each_fits P F one s (x ∷ xs) small h = (one h.prefix x (prefix_small s h.prefix h.suffix h.whole small) h.first, each_fits P F one h.suffix xs (suffix_small s h.prefix h.suffix h.whole small) h.second)

both_fits : {A B : Type 0} (P : List ℕ → A → Type 0) (F : A → Type 0) (Q : List ℕ → B → Type 0) (G : B → Type 0) → ((s : List ℕ) (x : A) → IsSmall s → P s x → F x) → ((s : List ℕ) (y : B) → IsSmall s → Q s y → G y) →
    (s : List ℕ) (z : A × B) → IsSmall s → IsBoth P Q s z → FitsBoth F G z
both_fits P F Q G p q s z small h = (p h.prefix z.0 (prefix_small s h.prefix h.suffix h.whole small) h.first, q h.suffix z.1 (suffix_small s h.prefix h.suffix h.whole small) h.second)

listed_fits : {A : Type 0} (P : List ℕ → A → Type 0) (F : A → Type 0) → ((s : List ℕ) (x : A) → IsSmall s → P s x → F x) → (s : List ℕ) (xs : List A) → IsSmall s → IsListed P s xs → FitsListed F xs
listed_fits P F one s xs small h = (h.few, each_fits P F one h.suffix xs (suffix_small s _ h.suffix h.whole small) h.each)

key_fits : (k : Key) (s : List ℕ) (x : KeyValue k) → IsSmall s → SpellsKey k s x → FitsKey k x
key_fits name s x small h = h.0
key_fits identifier s x small h = h.0

pub fields_fit : (f : Format) (s : List ℕ) (x : Fields f) → length s < 2 ^ 31 → SpellsFields f s x → FitsFields f x
fields_fit nothing s x small h = tt
fields_fit byte s x small h = h.0
fields_fit string s x small h = h.0
fields_fit nullable_string s x small h = h.0
fields_fit node s x small h = h.0
fields_fit value s x small h = value_fits s x small h
fields_fit (scalar k) s x small h = h.0
fields_fit (within n) s x small h = (h.0.0, h.1)
fields_fit (both f g) s x small h = both_fits (SpellsFields f) (FitsFields f) (SpellsFields g) (FitsFields g) (fields_fit f) (fields_fit g) s x small h
fields_fit (choice f g) s (inl x) small h = fields_fit f h.suffix x (suffix_small s (0 ∷ []) h.suffix h.whole small) h.after
fields_fit (choice f g) s (inr y) small h = fields_fit g h.suffix y (suffix_small s (1 ∷ []) h.suffix h.whole small) h.after
fields_fit (unless_null f) s None small h = tt
fields_fit (unless_null f) s (Some x) small h =
    let b = h.1 in
    (h.0, value_fits b.prefix x.0 (prefix_small s b.prefix b.suffix b.whole small) b.first, fields_fit f b.suffix x.1 (suffix_small s b.prefix b.suffix b.whole small) b.second)
fields_fit (listed f) s xs small h = listed_fits (SpellsFields f) (FitsFields f) (fields_fit f) s xs small h
fields_fit (distinct k f) s xs small h = (
  listed_fits (λ l x. IsBoth (SpellsKey k) (SpellsFields f) l x) (FitsBoth (FitsKey k) (FitsFields f))
      (λ l x little b. both_fits (SpellsKey k) (FitsKey k) (SpellsFields f) (FitsFields f) (key_fits k) (fields_fit f) l x little b) s xs small h.0,
  h.1,
)
