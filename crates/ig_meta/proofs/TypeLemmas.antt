-- Descriptions as fields: what is read is in order, a description in order comes back, and what is read
-- fits.
use Rattle.std.proofs.Common.{◌≡◌, ◌<◌, ◌^◌, Bool, true, false, List, [], ◌∷◌, length, map, refl, sym, ap, subst, ◌∙◌, arith, inl, inr}
use Rattle.std.specs.List.{AllByRecursion}
use Rattle.std.specs.List.Sorted.{IsStrictlySortedBy}
use Rattle.std.specs.Map.{keys_of}
use Rattle.std.specs.Ordering.{int_cmp, eq_by_cmp}
use Rattle.std.specs.Cmp.{IsTotalOrder, int_cmp_total}
use Rattle.std.specs.Cmp.Lexicographic.{texts_ties}
use Rattle.std.specs.declared.cmp.Ordering.{Ordering}
use Rattle.std.specs.declared.cmp.Ordering.TheVariants.{Less}
use Rattle.std.proofs.lemmas.Cmp.{nat_list_cmp_total}
use Rattle.std.proofs.lemmas.Map.Keys.{IsDistinct-from_sorted}
use Rattle.ig_value.specs.Part.{i32}
use Rattle.ig_types.specs.declared.FieldMeta.{FieldMeta}
use Rattle.ig_types.specs.declared.Literal.{Literal}
use Rattle.ig_types.specs.declared.SchemaMeta.{SchemaMeta}
use Rattle.ig_types.specs.declared.TypeMeta.{TypeMeta}
use Rattle.ig_types.specs.IsInOrder.{by_field, by_literal, by_schema}
use Rattle.ig_fields.specs.Format.{Format, Key, name, identifier, KeyValue, is_same_key, scalar, both, listed, distinct, Fields}
use Rattle.ig_fields.specs.FieldBytes.{FitsKey, FitsFields}
use Rattle.ig_meta.specs.KeyOrder.{in_key_order}
use Rattle.ig_meta.specs.TypeFields.{enum_format, type_format, name_order, field_of, literal_of, schema_of, field_parts, literal_parts, schema_parts, is_enum_of, literals_of, enum_fields, type_of_fields, fields_of_type}
use Rattle.ig_meta.specs.Laws.{OrderedTypeComesBack, ReadTypeIsInOrder}
use Rattle.ig_meta.proofs.OrderLemmas.{ordered_ascend, ascending_stay, ordered_hold, ordered_longer, distinct_same}

-- ---- members and what they are written with

module _ {K X M : Type 0} (R : K → K → Ordering) (rank : M → M → Ordering) (made : K × X → M) (parts : M → K × X) where
  all_made : ((x y : K × X) → rank (made x) (made y) ≡ R x.0 y.0) → (x : K × X) (xs : List (K × X)) → AllByRecursion (λ k. R x.0 k ≡ Less) (keys_of xs) → AllByRecursion (λ m. rank (made x) m ≡ Less) (map made xs)
  all_made is x [] h = tt
  all_made is x (y ∷ ys) h = (is x y ∙ h.0, all_made is x ys h.1)

  -- members are in order if their keys are
  made_ascend : ((x y : K × X) → rank (made x) (made y) ≡ R x.0 y.0) → (xs : List (K × X)) → IsStrictlySortedBy R (keys_of xs) → IsStrictlySortedBy rank (map made xs)
  unfolding IsStrictlySortedBy
  made_ascend is [] h = tt
  made_ascend is (x ∷ xs) h = (all_made is x xs h.0, made_ascend is xs h.1)

  all_parts : ((m n : M) → rank m n ≡ R (parts m).0 (parts n).0) → (m : M) (ms : List M) → AllByRecursion (λ n. rank m n ≡ Less) ms → AllByRecursion (λ k. R (parts m).0 k ≡ Less) (keys_of (map parts ms))
  all_parts is m [] h = tt
  all_parts is m (n ∷ ns) h = (sym (is m n) ∙ h.0, all_parts is m ns h.1)

  -- and the other way round
  parts_ascend : ((m n : M) → rank m n ≡ R (parts m).0 (parts n).0) → (ms : List M) → IsStrictlySortedBy rank ms → IsStrictlySortedBy R (keys_of (map parts ms))
  unfolding IsStrictlySortedBy
  parts_ascend is [] h = tt
  parts_ascend is (m ∷ ms) h = (all_parts is m ms h.0, parts_ascend is ms h.1)

  made_back : ((m : M) → made (parts m) ≡ m) → (ms : List M) → map made (map parts ms) ≡ ms
  made_back back [] = refl
  made_back back (m ∷ ms) = ap (λ (n : M). n ∷ map made (map parts ms)) (back m) ∙ ap (λ (l : List M). m ∷ l) (made_back back ms)

  parts_back : ((x : K × X) → parts (made x) ≡ x) → (xs : List (K × X)) → map parts (map made xs) ≡ xs
  parts_back back [] = refl
  parts_back back (x ∷ xs) = ap (λ (y : K × X). y ∷ map parts (map made xs)) (back x) ∙ ap (λ (l : List (K × X)). x ∷ l) (parts_back back xs)

  -- members in order come back
  members_back : IsTotalOrder R → ((m n : M) → rank m n ≡ R (parts m).0 (parts n).0) → ((m : M) → made (parts m) ≡ m) → (ms : List M) → IsStrictlySortedBy rank ms → map made (in_key_order R (map parts ms)) ≡ ms
  members_back total is back ms h = ap (map made) (ascending_stay R total (map parts ms) (parts_ascend is ms h)) ∙ made_back back ms

fields_back : (fs : List FieldMeta) → IsStrictlySortedBy by_field fs → map field_of (in_key_order name_order (map field_parts fs)) ≡ fs
fields_back = members_back name_order by_field field_of field_parts nat_list_cmp_total (λ m n. refl) (λ m. refl)

literals_back : (ls : List Literal) → IsStrictlySortedBy by_literal ls → map literal_of (in_key_order name_order (map literal_parts ls)) ≡ ls
literals_back = members_back name_order by_literal literal_of literal_parts nat_list_cmp_total (λ m n. refl) (λ m. refl)

schemas_back : (ss : List SchemaMeta) → IsStrictlySortedBy by_schema ss → map schema_of (in_key_order int_cmp (map schema_parts ss)) ≡ ss
schemas_back = members_back int_cmp by_schema schema_of schema_parts int_cmp_total (λ m n. refl) (λ m. refl)

-- ---- a description in order comes back

flag_back : (is_enum : Bool) (ls : List Literal) → is_enum_of (enum_fields is_enum ls) ≡ is_enum
flag_back false ls = refl
flag_back true ls = refl

enum_back : (is_enum : Bool) (ls : List Literal) → IsStrictlySortedBy by_literal ls → (is_enum ≡ false → ls ≡ []) → literals_of (enum_fields is_enum ls) ≡ ls
enum_back false ls sorted none = sym (none refl)
enum_back true ls sorted none = literals_back ls sorted

abbrev with_members : TypeMeta → Bool → List FieldMeta → List Literal → List SchemaMeta → TypeMeta
with_members t is_enum fields literals schemas = record { type_id = t.type_id; name = t.name; affinity = t.affinity; is_enum = is_enum; fields = fields; literals = literals; schemas = schemas }

pub ordered_back : OrderedTypeComesBack
ordered_back t h =
    let flag : is_enum_of (enum_fields t.is_enum t.literals) ≡ t.is_enum = flag_back t.is_enum t.literals in
    let literals : literals_of (enum_fields t.is_enum t.literals) ≡ t.literals = enum_back t.is_enum t.literals h.literals h.no_literals in
    let fields : map field_of (in_key_order name_order (map field_parts t.fields)) ≡ t.fields = fields_back t.fields h.fields in
    let schemas : map schema_of (in_key_order int_cmp (map schema_parts t.schemas)) ≡ t.schemas = schemas_back t.schemas h.schemas in
    let all : with_members t (is_enum_of (enum_fields t.is_enum t.literals)) (map field_of (in_key_order name_order (map field_parts t.fields))) (literals_of (enum_fields t.is_enum t.literals)) (map schema_of (in_key_order int_cmp (map schema_parts t.schemas))) ≡ t =
    rw (flag, literals, fields, schemas) refl in
    all

-- ---- what is read is in order

literals_ascend : (e : Fields enum_format) → IsStrictlySortedBy by_literal (literals_of e)
unfolding IsStrictlySortedBy
literals_ascend (inl x) = tt
literals_ascend (inr xs) = made_ascend name_order by_literal literal_of literal_parts (λ x y. refl) (in_key_order name_order xs) (ordered_ascend name_order nat_list_cmp_total xs)

no_literals : (e : Fields enum_format) → is_enum_of e ≡ false → literals_of e ≡ []
no_literals (inl x) plain = refl
no_literals (inr xs) plain = absurd cc

pub read_in_order : ReadTypeIsInOrder
read_in_order x = record {
  fields = made_ascend name_order by_field field_of field_parts (λ y z. refl) (in_key_order name_order x.1.0) (ordered_ascend name_order nat_list_cmp_total x.1.0);
  literals = literals_ascend x.1.1.0;
  schemas = made_ascend int_cmp by_schema schema_of schema_parts (λ y z. refl) (in_key_order int_cmp x.1.1.1) (ordered_ascend int_cmp int_cmp_total x.1.1.1);
  no_literals = no_literals x.1.1.0;
}

-- ---- what is read fits

module _ (k : Key) (f : Format) (R : KeyValue k → KeyValue k → Ordering) (total : IsTotalOrder R) (is : (x y : KeyValue k) → eq_by_cmp R x y ≡ is_same_key k x y) where
  ordered_fits : (xs : Fields (distinct k f)) → FitsFields (distinct k f) xs → FitsFields (distinct k f) (in_key_order R xs)
  ordered_fits xs h =
      let fewer = ordered_longer R total xs in
      let few : length (in_key_order R xs) < 2 ^ 31 = omega (arith, h.0.0, fewer) in
      let hold = ordered_hold R total (FitsKey k) (FitsFields f) xs h.0.1 in
      let apart = distinct_same (eq_by_cmp R) (is_same_key k) is (keys_of (in_key_order R xs)) (IsDistinct-from_sorted R (keys_of (in_key_order R xs)) (ordered_ascend R total xs)) in
      ((few, hold), apart)

  -- the same of members
  members_fit : {M : Type 0} (made : KeyValue k × Fields f → M) (parts : M → KeyValue k × Fields f) → ((x : KeyValue k × Fields f) → parts (made x) ≡ x) → (xs : Fields (distinct k f)) → FitsFields (distinct k f) xs
      → FitsFields (distinct k f) (map parts (map made (in_key_order R xs)))
  members_fit made parts back xs h = subst (FitsFields (distinct k f)) (sym (parts_back R (λ m n. Less) made parts back (in_key_order R xs))) (ordered_fits xs h)

enum_fits : (e : Fields enum_format) → FitsFields enum_format e → FitsFields enum_format (enum_fields (is_enum_of e) (literals_of e))
enum_fits (inl x) h = tt
enum_fits (inr xs) h = members_fit name (scalar i32) name_order nat_list_cmp_total (λ x y. sym (texts_ties x y)) literal_of literal_parts (λ x. refl) xs h

pub type_fits : (x : Fields type_format) → FitsFields type_format x → FitsFields type_format (fields_of_type (type_of_fields x))
type_fits x h = (
  h.0,
  (
    members_fit name (both (scalar i32) (scalar i32)) name_order nat_list_cmp_total (λ y z. sym (texts_ties y z)) field_of field_parts (λ y. refl) x.1.0 h.1.0,
    (
      enum_fits x.1.1.0 h.1.1.0,
      members_fit identifier (listed (scalar i32)) int_cmp int_cmp_total (λ y z. refl) schema_of schema_parts (λ y. refl) x.1.1.1 h.1.1.1,
    ),
  ),
)
