-- The bytes of fields spell them.
use Rattle.std.proofs.Common.{◌≡◌, ℕ, zero, suc, List, [], ◌∷◌, None, Some, Ok, refl, sym, subst, ◌∙◌, append-nil, arith, inl, inr}
use Rattle.std.specs.List.{AllByRecursion, flat_map}
use Rattle.ig_base.specs.Numbers.{AreBytes}
use Rattle.ig_value.specs.declared.Code.TheVariants as code
use Rattle.ig_value.specs.declared.Value.TheVariants.{Null}
use Rattle.ig_value.specs.Table.{byte_of}
use Rattle.ig_value.specs.Spells.{IsBoth, IsEach, Spells}
use Rattle.ig_value.specs.Reading.{reading}
use Rattle.ig_value.proofs.LawLemmas.{canon_spells, read_is_spelled}
use Rattle.ig_fields.specs.Format.{Key, name, identifier, KeyValue, Format, nothing, byte, string, nullable_string, node, value, scalar, within, both, choice, unless_null, listed, distinct, Fields}
use Rattle.ig_fields.specs.SpellsFields.{IsListed, SpellsKey, SpellsFields}
use Rattle.ig_fields.specs.FieldBytes.{both_bytes, listed_bytes, key_bytes, fields_bytes, FitsKey, FitsBoth, FitsListed, FitsFields}

-- the code of null
null_bytes : AreBytes (byte_of code.Null ∷ [])
null_bytes zero = omega arith
null_bytes (suc i) = omega arith

null_read : reading (byte_of code.Null ∷ []) ≡ Ok (Null, [])
unfolding reading
null_read = refl

pub null_spelled : Spells (byte_of code.Null ∷ []) Null
null_spelled =
    let h = read_is_spelled (byte_of code.Null ∷ []) [] Null null_bytes null_read in
    subst (λ (s : List ℕ). Spells s Null) (sym (h.1 ∙ append-nil h.0)) h.2

each_written : {A : Type 0} (P : List ℕ → A → Type 0) (F : A → Type 0) (bytes : A → List ℕ) → ((x : A) → F x → P (bytes x) x) → (xs : List A) → AllByRecursion F xs → IsEach P (flat_map bytes xs) xs
each_written P F bytes one [] h = refl
each_written P F bytes one (x ∷ xs) h = record { prefix = bytes x; suffix = flat_map bytes xs; whole = refl; first = one x h.0; second = each_written P F bytes one xs h.1 }

listed_written : {A : Type 0} (P : List ℕ → A → Type 0) (F : A → Type 0) (bytes : A → List ℕ) → ((x : A) → F x → P (bytes x) x) → (xs : List A) → FitsListed F xs → IsListed P (listed_bytes bytes xs) xs
listed_written P F bytes one xs h = record { suffix = flat_map bytes xs; few = h.0; whole = refl; each = each_written P F bytes one xs h.1 }

key_written : (k : Key) (x : KeyValue k) → FitsKey k x → SpellsKey k (key_bytes k x) x
key_written name x h = (h, refl)
key_written identifier x h = (h, refl)

pub fields_written : (f : Format) (x : Fields f) → FitsFields f x → SpellsFields f (fields_bytes f x) x
fields_written nothing x h = refl
fields_written byte x h = (h, refl)
fields_written string x h = (h, refl)
fields_written nullable_string x h = (h, refl)
fields_written node x h = (h, refl)
fields_written value x h = canon_spells x h.0 h.1
fields_written (scalar k) x h = (h, refl)
fields_written (within n) x h = ((h.0, refl), h.1)
fields_written (both f g) x h = record { prefix = fields_bytes f x.0; suffix = fields_bytes g x.1; whole = refl; first = fields_written f x.0 h.0; second = fields_written g x.1 h.1 }
fields_written (choice f g) (inl x) h = record { suffix = fields_bytes f x; whole = refl; after = fields_written f x h }
fields_written (choice f g) (inr y) h = record { suffix = fields_bytes g y; whole = refl; after = fields_written g y h }
fields_written (unless_null f) None h = null_spelled
fields_written (unless_null f) (Some x) h = (h.0, record { prefix = _; suffix = fields_bytes f x.1; whole = refl; first = canon_spells x.0 h.1.0 h.1.1; second = fields_written f x.1 h.2 })
fields_written (listed f) xs h = listed_written (SpellsFields f) (FitsFields f) (fields_bytes f) (fields_written f) xs h
fields_written (distinct k f) xs h = (
  listed_written (λ s x. IsBoth (SpellsKey k) (SpellsFields f) s x) (FitsBoth (FitsKey k) (FitsFields f)) (both_bytes (key_bytes k) (fields_bytes f))
      (λ x fits. record { prefix = key_bytes k x.0; suffix = fields_bytes f x.1; whole = refl; first = key_written k x.0 fits.0; second = fields_written f x.1 fits.1 }) xs h.0,
  h.1,
)
