-- Where bytes stop being fields: everything before is whole and right, and the next item is wrong.
use Rattle.std.specs.Prelude.{◌≡◌, ◌≢◌, ℕ, zero, suc, ◌<◌, ◌^◌, ◌⊎◌, ℤ, pos, negsuc, Bool, true, false, not, IsFalse, List, [], ◌∷◌, ◌++◌}
use Rattle.std.specs.Int.{w32}
use Rattle.std.specs.List.{list_all}
use Rattle.ig_base.specs.Numbers.{LE}
use Rattle.ig_value.specs.declared.Cause.{Cause}
use Rattle.ig_value.specs.declared.Value.TheVariants.{Null}
use Rattle.ig_value.specs.Part.{Scalar, i32}
use Rattle.ig_value.specs.Spells.{IsScalar, Spells}
use Rattle.ig_value.specs.Stops.{StopsScalar, Stops}
use Rattle.ig_wire.specs.Fields.{IsShort, StopsByte, StopsString, StopsNullableString, StopsNode, StopsThen, IsLeftOver}
use Rattle.ig_fields.specs.Format.{Key, name, identifier, is_same_key, Format, nothing, byte, string, nullable_string, node, value, scalar, within, both, choice, unless_null, listed, distinct}
use Rattle.ig_fields.specs.SpellsFields.{IsTested, is_within, SpellsKey, SpellsFields}

-- a number that isn't whole, or a truth value other than 0 and 1
abbrev pub StopsNumber : Scalar → List ℕ → ℕ → Type 0
StopsNumber k s at = (why : Cause) × StopsScalar k s at why

-- bytes that stop being a value
abbrev pub StopsValue : List ℕ → ℕ → Type 0
StopsValue s at = (why : Cause) × Stops s at why

-- an encoding by P of what doesn't pass the test: it is refused where it begins
pub record IsRefused {A : Type 0} (P : List ℕ → A → Type 0) (test : A → Bool) (s : List ℕ) (at : ℕ) : Type 0 where
  pub item : A
  pub prefix : List ℕ
  pub suffix : List ℕ
  pub whole : s ≡ prefix ++ suffix
  pub right : P prefix item
  pub fails : IsFalse (test item)
  pub here : at ≡ 0

-- it stops, or it is right and doesn't pass the test
abbrev pub StopsTested : {A : Type 0} → (List ℕ → A → Type 0) → (List ℕ → ℕ → Type 0) → (A → Bool) → List ℕ → ℕ → Type 0
StopsTested P Wrong test s at = Wrong s at ⊎ IsRefused P test s at

-- this byte, and what follows it stops
pub record StopsHeaded (head : ℕ) (Wrong : List ℕ → ℕ → Type 0) (s : List ℕ) (at : ℕ) : Type 0 where
  pub suffix : List ℕ
  pub further : ℕ
  pub whole : s ≡ head ∷ suffix
  pub wrong : Wrong suffix further
  pub there : at ≡ suc further

-- a byte other than 0 and 1, or what follows it stops
abbrev pub StopsChoice : (List ℕ → ℕ → Type 0) → (List ℕ → ℕ → Type 0) → List ℕ → ℕ → Type 0
StopsChoice WrongP WrongQ s at = StopsByte (λ b. b < 2) s at ⊎ StopsHeaded 0 WrongP s at ⊎ StopsHeaded 1 WrongQ s at

-- a value stops, or there is one other than null and what follows it stops
abbrev pub StopsUnlessNull : (List ℕ → ℕ → Type 0) → List ℕ → ℕ → Type 0
StopsUnlessNull Wrong s at = StopsThen (λ l v. Spells l v × (v ≢ Null)) StopsValue (λ v. Wrong) s at

-- ---- lists

-- an Int32 count
abbrev pub IsCount : List ℕ → ℕ → Type 0
IsCount s n = (n < 2 ^ 31) × (s ≡ LE w32 (pos n))

-- tests whether a number isn't negative
abbrev pub is_natural : ℤ → Bool
is_natural (pos n) = true
is_natural (negsuc n) = false

-- a count that isn't whole, or a negative one
abbrev pub StopsCount : List ℕ → ℕ → Type 0
StopsCount = StopsTested (IsScalar i32) (StopsNumber i32) is_natural

-- one of n items stops, and those before it are right
abbrev pub StopsEach : {A : Type 0} → (List ℕ → A → Type 0) → (List ℕ → ℕ → Type 0) → ℕ → List ℕ → ℕ → Type 0
StopsEach P Wrong zero s at = ⊥
StopsEach P Wrong (suc n) s at = StopsThen P Wrong (λ x. StopsEach P Wrong n) s at

-- the count stops, or one of the items
abbrev pub StopsListed : {A : Type 0} → (List ℕ → A → Type 0) → (List ℕ → ℕ → Type 0) → List ℕ → ℕ → Type 0
StopsListed P Wrong = StopsThen IsCount StopsCount (λ n. StopsEach P Wrong n)

-- tests whether a key is none of those before it
abbrev pub is_new : {A : Type 0} → (A → A → Bool) → List A → A → Bool
is_new same earlier x = list_all (λ y. not (same y x)) earlier

-- one of n items stops, and those before it, with the earlier keys, are right: its key stops, or it is
-- one of the earlier keys, and so refused where it begins, or what follows its key stops
abbrev pub StopsEachNew : {A B : Type 0} → (A → A → Bool) → (List ℕ → A → Type 0) → (List ℕ → ℕ → Type 0) → (List ℕ → B → Type 0) → (List ℕ → ℕ → Type 0) → List A → ℕ → List ℕ → ℕ → Type 0
StopsEachNew same P WrongP Q WrongQ earlier zero s at = ⊥
StopsEachNew same P WrongP Q WrongQ earlier (suc n) s at =
    StopsThen (IsTested P (is_new same earlier)) (StopsTested P WrongP (is_new same earlier))
    (λ x. StopsThen Q WrongQ (λ y. StopsEachNew same P WrongP Q WrongQ (x ∷ earlier) n)) s at

abbrev pub StopsDistinct : {A B : Type 0} → (A → A → Bool) → (List ℕ → A → Type 0) → (List ℕ → ℕ → Type 0) → (List ℕ → B → Type 0) → (List ℕ → ℕ → Type 0) → List ℕ → ℕ → Type 0
StopsDistinct same P WrongP Q WrongQ = StopsThen IsCount StopsCount (λ n. StopsEachNew same P WrongP Q WrongQ [] n)

abbrev pub StopsKey : Key → List ℕ → ℕ → Type 0
StopsKey name s at = StopsString s at
StopsKey identifier s at = StopsNumber i32 s at

-- ---- formats

-- the bytes stop being fields of the format: at the offset where the first wrong item begins
abbrev pub StopsFields : Format → List ℕ → ℕ → Type 0
StopsFields nothing s at = ⊥
StopsFields byte s at = IsShort 1 s at
StopsFields string s at = StopsString s at
StopsFields nullable_string s at = StopsNullableString s at
StopsFields node s at = StopsNode s at
StopsFields value s at = StopsValue s at
StopsFields (scalar k) s at = StopsNumber k s at
StopsFields (within n) s at = StopsTested (IsScalar i32) (StopsNumber i32) (is_within n) s at
StopsFields (both f g) s at = StopsThen (SpellsFields f) (StopsFields f) (λ x. StopsFields g) s at
StopsFields (choice f g) s at = StopsChoice (StopsFields f) (StopsFields g) s at
StopsFields (unless_null f) s at = StopsUnlessNull (StopsFields f) s at
StopsFields (listed f) s at = StopsListed (SpellsFields f) (StopsFields f) s at
StopsFields (distinct k f) s at = StopsDistinct (is_same_key k) (SpellsKey k) (StopsKey k) (SpellsFields f) (StopsFields f) s at

-- all of the bytes stop being fields of the format: they do so, or bytes follow the fields
abbrev pub StopsMessage : Format → List ℕ → ℕ → Type 0
StopsMessage f = StopsThen (SpellsFields f) (StopsFields f) (λ x. IsLeftOver)
