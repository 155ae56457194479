-- Lists of members as the program reads and writes them: these are the reading and the bytes of their
-- formats.
use Rattle.std.proofs.Common.{refl, ap, ◌∙◌}
use Rattle.std.specs.Prelude.{◌≡◌, ℕ, zero, suc, Bool, true, false, List, [], ◌∷◌, ◌++◌, length, map, Ok, Err, if◌then◌else◌}
use Rattle.std.specs.Ordering.{eq_by_cmp}
use Rattle.std.specs.declared.cmp.Ordering.{Ordering}
use Rattle.ig_value.specs.Part.{i32}
use Rattle.ig_value.specs.Spells.{scalar_bytes}
use Rattle.ig_wire.specs.Fields.{Field, ◌>>=◌, string}
use Rattle.ig_types.specs.declared.FieldMeta.{FieldMeta}
use Rattle.ig_types.specs.declared.Literal.{Literal}
use Rattle.ig_types.specs.declared.SchemaMeta.{SchemaMeta}
use Rattle.ig_fields.specs.Format.{Format, Fields, Key, KeyValue, is_same_key, distinct}
use Rattle.ig_fields.specs.StopsFields.{is_new}
use Rattle.ig_fields.specs.ReadingFields.{mapped_of, if_passes, tested_of, count_field, each_new_of, distinct_of, key_of, fields_of}
use Rattle.ig_fields.specs.FieldBytes.{listed_bytes}
use Rattle.ig_fields.specs.Views.{ReadsAs, both_view}
use Rattle.ig_meta.specs.KeyOrder.{in_key_order}

-- ---- items whose keys aren't repeated

module _ {A B X Y : Type 0} (same : A → A → Bool) (other : X → X → Bool) (v : X → A) (w : Y → B) (is : (x y : X) → same (v x) (v y) ≡ other x y) where
  new_as : (earlier : List X) (x : X) → is_new same (map v earlier) (v x) ≡ is_new other earlier x
  new_as [] x = refl
  new_as (y ∷ ys) x = rw (is y x, new_as ys x) refl

  passed_as : (left : ℕ) (earlier : List X) (r : Field X) → (mapped_of v r >>= if_passes left (is_new same (map v earlier))) ≡ mapped_of v (r >>= if_passes left (is_new other earlier))
  passed_as left earlier (Err stop) = refl
  passed_as left earlier (Ok x) = rw (new_as earlier x.0) (by_test (is_new other earlier x.0)) where
    by_test : (b : Bool) → (if b then Ok (v x.0, x.1) else Err left) ≡ mapped_of v (if b then Ok x else Err left)
    by_test true = refl
    by_test false = refl

  module _ (R : List ℕ → Field A) (P : List ℕ → Field X) (T : List ℕ → Field B) (Q : List ℕ → Field Y) where
    abbrev EachAs : ℕ → Type 0
    EachAs n = (earlier : List X) (s : List ℕ) → each_new_of same R T (map v earlier) n s ≡ mapped_of (map (both_view v w)) (each_new_of other P Q earlier n s)

    rest_as : (x : X) (y : Y) (r : Field (List (X × Y))) → (mapped_of (map (both_view v w)) r >>= λ xs. Ok ((v x, w y) ∷ xs.0, xs.1)) ≡ mapped_of (map (both_view v w)) (r >>= λ xs. Ok ((x, y) ∷ xs.0, xs.1))
    rest_as x y (Ok xs) = refl
    rest_as x y (Err left) = refl

    after_key_as : (n : ℕ) → EachAs n → (earlier : List X) (x : X) (r : Field Y)
        → (mapped_of w r >>= λ y. each_new_of same R T (map v (x ∷ earlier)) n y.1 >>= λ xs. Ok ((v x, y.0) ∷ xs.0, xs.1))
        ≡ mapped_of (map (both_view v w)) (r >>= λ y. each_new_of other P Q (x ∷ earlier) n y.1 >>= λ xs. Ok ((x, y.0) ∷ xs.0, xs.1))
    after_key_as n more earlier x (Ok y) = rw (more (x ∷ earlier) y.1) (rest_as x y.0 (each_new_of other P Q (x ∷ earlier) n y.1))
    after_key_as n more earlier x (Err left) = refl

    item_as : (n : ℕ) → EachAs n → ReadsAs w T Q → (earlier : List X) (r : Field X)
        → (mapped_of v r >>= λ x. T x.1 >>= λ y. each_new_of same R T (x.0 ∷ map v earlier) n y.1 >>= λ xs. Ok ((x.0, y.0) ∷ xs.0, xs.1))
        ≡ mapped_of (map (both_view v w)) (r >>= λ x. Q x.1 >>= λ y. each_new_of other P Q (x.0 ∷ earlier) n y.1 >>= λ xs. Ok ((x.0, y.0) ∷ xs.0, xs.1))
    item_as n more q earlier (Ok x) = rw (q x.1) (after_key_as n more earlier x.0 (Q x.1))
    item_as n more q earlier (Err left) = refl

    each_as : ReadsAs v R P → ReadsAs w T Q → (n : ℕ) → EachAs n
    each_as p q zero earlier s = refl
    each_as p q (suc n) earlier s = rw (p s, passed_as (length s) earlier (P s)) (item_as n (each_as p q n) q earlier (tested_of P (is_new other earlier) s))

    distinct_as : ReadsAs v R P → ReadsAs w T Q → ReadsAs (map (both_view v w)) (distinct_of same R T) (distinct_of other P Q)
    distinct_as p q s = by_count (count_field s) where
      by_count : (r : Field ℕ) → (r >>= λ n. each_new_of same R T [] n.0 n.1) ≡ mapped_of (map (both_view v w)) (r >>= λ n. each_new_of other P Q [] n.0 n.1)
      by_count (Ok n) = each_as p q n.0 [] n.1
      by_count (Err left) = refl

-- ---- members in the order of their keys

mapped_twice : {A B C : Type 0} (f : B → C) (g : A → B) (r : Field A) → mapped_of f (mapped_of g r) ≡ mapped_of (λ x. f (g x)) r
mapped_twice f g (Ok x) = refl
mapped_twice f g (Err left) = refl

module _ {K B M : Type 0} (compare : K → K → Ordering) where
  -- the members of keys and what follows each, in the order of the keys
  abbrev pub members_in_order : (K × B → M) → List (K × B) → List M
  members_in_order made xs = map made (in_key_order compare xs)

  abbrev pub members_view : {X Y : Type 0} → (X → K) → (Y → B) → (K × B → M) → List (X × Y) → List M
  members_view v w made xs = members_in_order made (map (both_view v w) xs)

  abbrev pub members_reading : (List ℕ → Field K) → (List ℕ → Field B) → (K × B → M) → List ℕ → Field (List M)
  members_reading R T made s = mapped_of (members_in_order made) (distinct_of (eq_by_cmp compare) R T s)

  pub members_as : (k : Key) (f : Format) (v : KeyValue k → K) (w : Fields f → B) (made : K × B → M) (R : List ℕ → Field K) (T : List ℕ → Field B) → ReadsAs v R (key_of k)
      → ((x y : KeyValue k) → eq_by_cmp compare (v x) (v y) ≡ is_same_key k x y) → ReadsAs w T (fields_of f) → ReadsAs (members_view v w made) (members_reading R T made) (fields_of (distinct k f))
  members_as k f v w made R T p is q s =
      ap (mapped_of (members_in_order made)) (distinct_as (eq_by_cmp compare) (is_same_key k) v w is R (key_of k) T (fields_of f) p q s)
      ∙ mapped_twice (members_in_order made) (map (both_view v w)) (fields_of (distinct k f) s)

-- ---- bytes

abbrev pub field_bytes : FieldMeta → List ℕ
field_bytes f = string f.name ++ (scalar_bytes i32 f.kind ++ scalar_bytes i32 f.id)

abbrev pub literal_bytes : Literal → List ℕ
literal_bytes l = string l.name ++ scalar_bytes i32 l.ordinal

abbrev pub schema_bytes : SchemaMeta → List ℕ
schema_bytes s = scalar_bytes i32 s.id ++ listed_bytes (scalar_bytes i32) s.ids
