-- Formats as types: what fields hold as the program has it, and how the reading and the bytes of fields
-- that are put together follow from those of their parts.
use Rattle.std.proofs.Common.{inl, inr, refl, ap, ◌∙◌}
use Rattle.std.specs.Prelude.{◌≡◌, ℕ, zero, suc, pos, Bool, true, false, ◌⊎◌, List, [], ◌∷◌, ◌++◌, length, map, Option, None, Some, Ok, Err, ◌==◌, if◌then◌else◌}
use Rattle.std.specs.Int.{w32}
use Rattle.std.specs.List.{flat_map}
use Rattle.ig_base.specs.Numbers.{LE}
use Rattle.ig_value.specs.declared.Value.{Value}
use Rattle.ig_value.specs.Canon.{Canon}
use Rattle.ig_wire.specs.Fields.{Field, ◌>>=◌}
use Rattle.ig_fields.specs.declared.either.Either.{Either}
use Rattle.ig_fields.specs.declared.either.Either.TheVariants.{First, Second}
use Rattle.ig_fields.specs.ReadingFields.{mapped_of, both_of, choice_of, is_null, value_field, after_value, unless_null_of, count_field, each_of, listed_of}
use Rattle.ig_fields.specs.FieldBytes.{listed_bytes, both_bytes, choice_bytes, unless_null_bytes}

-- what R reads is the view of what P reads
abbrev pub ReadsAs : {A X : Type 0} → (X → A) → (List ℕ → Field A) → (List ℕ → Field X) → Type 0
ReadsAs view R P = (s : List ℕ) → R s ≡ mapped_of view (P s)

-- the bytes of an item are those of its fields
abbrev pub WritesAs : {A X : Type 0} → (A → X) → (A → List ℕ) → (X → List ℕ) → Type 0
WritesAs {A} fields bytes written = (x : A) → bytes x ≡ written (fields x)

-- ---- the same value

abbrev pub same : {A : Type 0} → A → A
same x = x

pub mapped_same : {A : Type 0} (r : Field A) → r ≡ mapped_of same r
mapped_same (Ok x) = refl
mapped_same (Err left) = refl

-- ---- two fields

abbrev pub both_view : {A B X Y : Type 0} → (X → A) → (Y → B) → X × Y → A × B
both_view v w x = (v x.0, w x.1)

module _ {A B X Y : Type 0} (v : X → A) (w : Y → B) (T : List ℕ → Field B) (Q : List ℕ → Field Y) where
  second_as : (x : X) (r : Field Y) → (mapped_of w r >>= λ y. Ok ((v x, y.0), y.1)) ≡ mapped_of (both_view v w) (r >>= λ y. Ok ((x, y.0), y.1))
  second_as x (Ok y) = refl
  second_as x (Err left) = refl

  first_as : ReadsAs w T Q → (r : Field X) → (mapped_of v r >>= λ x. T x.1 >>= λ y. Ok ((x.0, y.0), y.1)) ≡ mapped_of (both_view v w) (r >>= λ x. Q x.1 >>= λ y. Ok ((x.0, y.0), y.1))
  first_as q (Ok x) = rw (q x.1) (second_as x.0 (Q x.1))
  first_as q (Err left) = refl

  pub both_as : (R : List ℕ → Field A) (P : List ℕ → Field X) → ReadsAs v R P → ReadsAs w T Q → ReadsAs (both_view v w) (both_of R T) (both_of P Q)
  both_as R P p q s = rw (p s) (first_as q (P s))

pub both_written : {A B X Y : Type 0} (f : A → X) (g : B → Y) (a : A → List ℕ) (x : X → List ℕ) (b : B → List ℕ) (y : Y → List ℕ) → WritesAs f a x → WritesAs g b y → WritesAs (both_view f g) (both_bytes a b) (both_bytes x y)
both_written f g a x b y p q z = rw (p z.0, q z.1) refl

-- ---- one of two

abbrev pub either_of : {A B : Type 0} → A ⊎ B → Either A B
either_of (inl x) = First x
either_of (inr y) = Second y

abbrev pub side_of : {A B : Type 0} → Either A B → A ⊎ B
side_of (First x) = inl x
side_of (Second y) = inr y

abbrev pub either_view : {A B X Y : Type 0} → (X → A) → (Y → B) → X ⊎ Y → Either A B
either_view v w (inl x) = First (v x)
either_view v w (inr y) = Second (w y)

abbrev pub side_fields : {A B X Y : Type 0} → (A → X) → (B → Y) → Either A B → X ⊎ Y
side_fields f g (First x) = inl (f x)
side_fields f g (Second y) = inr (g y)

module _ {A B X Y : Type 0} (v : X → A) (w : Y → B) where
  abbrev left_of : {C D : Type 0} → C → C ⊎ D
  left_of x = inl x

  abbrev right_of : {C D : Type 0} → D → C ⊎ D
  right_of y = inr y

  left_as : (r : Field X) → mapped_of (either_of {A = A} {B = B}) (mapped_of left_of (mapped_of v r)) ≡ mapped_of (either_view v w) (mapped_of left_of r)
  left_as (Ok x) = refl
  left_as (Err left) = refl

  right_as : (r : Field Y) → mapped_of (either_of {A = A} {B = B}) (mapped_of right_of (mapped_of w r)) ≡ mapped_of (either_view v w) (mapped_of right_of r)
  right_as (Ok y) = refl
  right_as (Err left) = refl

  pub choice_as : (R : List ℕ → Field A) (P : List ℕ → Field X) (T : List ℕ → Field B) (Q : List ℕ → Field Y) → ReadsAs v R P → ReadsAs w T Q → ReadsAs (either_view v w) (λ s. mapped_of either_of (choice_of R T s)) (choice_of P Q)
  choice_as R P T Q p q [] = refl
  choice_as R P T Q p q (b ∷ s) = by_byte (b == 0) (b == 1) where
    by_byte : (zeroes ones : Bool) → mapped_of (either_of {A = A} {B = B}) (if zeroes then mapped_of left_of (R s) else (if ones then mapped_of right_of (T s) else Err (suc (length s))))
        ≡ mapped_of (either_view v w) (if zeroes then mapped_of left_of (P s) else (if ones then mapped_of right_of (Q s) else Err (suc (length s))))
    by_byte true ones = rw (p s) (left_as (P s))
    by_byte false true = rw (q s) (right_as (Q s))
    by_byte false false = refl

pub choice_written : {A B X Y : Type 0} (f : A → X) (g : B → Y) (a : A → List ℕ) (x : X → List ℕ) (b : B → List ℕ) (y : Y → List ℕ) → WritesAs f a x → WritesAs g b y → WritesAs (side_fields f g) (λ z. choice_bytes a b (side_of z)) (choice_bytes x y)
choice_written f g a x b y p q (First z) = ap (λ (l : List ℕ). 0 ∷ l) (p z)
choice_written f g a x b y p q (Second z) = ap (λ (l : List ℕ). 1 ∷ l) (q z)

-- ---- a value, and what follows it unless it is null

abbrev pub unless_view : {A X : Type 0} → (X → A) → Option (Value × X) → Option (Value × A)
unless_view v None = None
unless_view v (Some x) = Some (x.0, v x.1)

module _ {A X : Type 0} (v : X → A) (R : List ℕ → Field A) (P : List ℕ → Field X) where
  beside_as : (value : Value) (r : Field X) → mapped_of (λ x. Some (value, x)) (mapped_of v r) ≡ mapped_of (unless_view v) (mapped_of (λ x. Some (value, x)) r)
  beside_as value (Ok x) = refl
  beside_as value (Err left) = refl

  after_as : ReadsAs v R P → (x : Value × List ℕ) → after_value R x ≡ mapped_of (unless_view v) (after_value P x)
  after_as p x = by_test (is_null x.0) where
    by_test : (null : Bool) → (if null then Ok (None, x.1) else mapped_of (λ y. Some (x.0, y)) (R x.1)) ≡ mapped_of (unless_view v) (if null then Ok (None, x.1) else mapped_of (λ y. Some (x.0, y)) (P x.1))
    by_test true = refl
    by_test false = rw (p x.1) (beside_as x.0 (P x.1))

  pub unless_null_as : ReadsAs v R P → ReadsAs (unless_view v) (unless_null_of R) (unless_null_of P)
  unless_null_as p s = by_value (value_field s) where
    by_value : (r : Field Value) → (r >>= after_value R) ≡ mapped_of (unless_view v) (r >>= after_value P)
    by_value (Ok x) = after_as p x
    by_value (Err left) = refl

pub unless_null_written : {A X : Type 0} (f : A → X) (a : A → List ℕ) (x : X → List ℕ) → WritesAs f a x → WritesAs (unless_view f) (unless_null_bytes a) (unless_null_bytes x)
unless_null_written f a x p None = refl
unless_null_written f a x p (Some z) = ap (λ (l : List ℕ). Canon z.0 ++ l) (p z.1)

-- ---- lists

module _ {A X : Type 0} (v : X → A) (R : List ℕ → Field A) (P : List ℕ → Field X) where
  rest_as : (x : X) (r : Field (List X)) → (mapped_of (map v) r >>= λ xs. Ok (v x ∷ xs.0, xs.1)) ≡ mapped_of (map v) (r >>= λ xs. Ok (x ∷ xs.0, xs.1))
  rest_as x (Ok xs) = refl
  rest_as x (Err left) = refl

  item_as : (n : ℕ) → ReadsAs (map v) (each_of R n) (each_of P n) → (r : Field X) → (mapped_of v r >>= λ x. each_of R n x.1 >>= λ xs. Ok (x.0 ∷ xs.0, xs.1)) ≡ mapped_of (map v) (r >>= λ x. each_of P n x.1 >>= λ xs. Ok (x.0 ∷ xs.0, xs.1))
  item_as n more (Ok x) = rw (more x.1) (rest_as x.0 (each_of P n x.1))
  item_as n more (Err left) = refl

  each_as : ReadsAs v R P → (n : ℕ) → ReadsAs (map v) (each_of R n) (each_of P n)
  each_as p zero s = refl
  each_as p (suc n) s = rw (p s) (item_as n (each_as p n) (P s))

  pub listed_as : ReadsAs v R P → ReadsAs (map v) (listed_of R) (listed_of P)
  listed_as p s = by_count (count_field s) where
    by_count : (r : Field ℕ) → (r >>= λ n. each_of R n.0 n.1) ≡ mapped_of (map v) (r >>= λ n. each_of P n.0 n.1)
    by_count (Ok n) = each_as p n.0 n.1
    by_count (Err left) = refl

module _ {A X : Type 0} (f : A → X) (a : A → List ℕ) (x : X → List ℕ) where
  each_written : WritesAs f a x → (xs : List A) → flat_map a xs ≡ flat_map x (map f xs)
  each_written p [] = refl
  each_written p (z ∷ xs) = rw (p z) (ap (λ (l : List ℕ). x (f z) ++ l) (each_written p xs))

  length_mapped : (xs : List A) → length xs ≡ length (map f xs)
  length_mapped [] = refl
  length_mapped (z ∷ xs) = ap suc (length_mapped xs)

  pub listed_written : WritesAs f a x → WritesAs (map f) (listed_bytes a) (listed_bytes x)
  listed_written p xs = ap (λ (n : ℕ). LE w32 (pos n) ++ flat_map a xs) (length_mapped xs) ∙ ap (λ (l : List ℕ). LE w32 (pos (length (map f xs))) ++ l) (each_written p xs)
