-- What a header and a footer say where no check of them fails, and headers at the front of longer
-- lists.
use Rattle.std.proofs.Common.{◌≡◌, ◌≢◌, ℕ, ◌+◌, ◌-◌, ◌%◌, ◌<◌, ◌≤◌, ℤ, pos, negsuc, Bool, true, false, cond, not, ◌&&◌, List, [], ◌∷◌, ◌++◌, length, take, drop, get_or, ltb, Option, Some, None, refl, sym, ap, ◌∙◌, arith, inl, inr, length-append, eq-eqb}
use Rattle.std.specs.List.{AllByRecursion}
use Rattle.std.specs.Ordering.{int_eq}
use Rattle.std.proofs.lemmas.Bool.{cases_lt, both_ways, not-false, ltb-true, ltb-false, eqb-true, lt-ltb, le-ltb, and_parts, and_from, and_left, and_right, not_from_true}
use Rattle.std.proofs.lemmas.Bool.Decides.{Decides-int_eq}
use Rattle.std.proofs.lemmas.List.{drop-append-le, take-append-le, get_or_append_left, length-drop}
use Rattle.ig_base.specs.Headers.{has_flag, header_of}
use Rattle.ig_base.specs.declared.header.Header.{Header}
use Rattle.ig_value.specs.declared.cause.Cause.{Cause}
use Rattle.ig_value.specs.Objects.{Check, first_wrong, checks, size_of, entry_len, schema_of, is_uneven}
use Rattle.ig_value.specs.Reading.{Fault}

-- ---- checks

pass_by : (b : Bool) (f : Fault) (r : Option Fault) → cond b (Some f) r ≡ None → (b ≡ false) × (r ≡ None)
pass_by true f r e = absurd cc
pass_by false f r e = (refl, e)

abbrev Pass : List Check → Type 0
Pass cs = AllByRecursion (λ c. c.holds ≡ false) cs

all_pass : (cs : List Check) → first_wrong cs ≡ None → Pass cs
all_pass [] e = tt
all_pass (c ∷ cs) e = let p = pass_by c.holds (c.at, c.why) (first_wrong cs) e in (p.0, all_pass cs p.1)

none_wrong : (cs : List Check) → Pass cs → first_wrong cs ≡ None
none_wrong [] all = refl
none_wrong (c ∷ cs) all = ap (λ (b : Bool). cond b (Some (c.at, c.why)) (first_wrong cs)) all.0 ∙ none_wrong cs all.1

within_by : (b : Bool) (m : ℕ) (f g : Fault) (r : Option Fault) → f.0 ≤ m → (r ≡ Some g → g.0 ≤ m) → cond b (Some f) r ≡ Some g → g.0 ≤ m
within_by true m f g r le later e = let same : f ≡ g = cc in omega (arith, ap (λ (z : Fault). z.0) same)
within_by false m f g r le later e = later e

wrong_within : (cs : List Check) (m : ℕ) (g : Fault) → AllByRecursion (λ c. c.at ≤ m) cs → first_wrong cs ≡ Some g → g.0 ≤ m
wrong_within [] m g all e = absurd cc
wrong_within (c ∷ cs) m g all e = within_by c.holds m (c.at, c.why) g (first_wrong cs) all.0 (wrong_within cs m g all.1) e

-- a refusal stands inside the header
pub refused_within : (header : Header) (n : ℕ) (ids : List ℤ) (at : ℕ) (why : Cause) → first_wrong (checks header n ids) ≡ Some (at, why) → at ≤ 24
refused_within header n ids at why e =
    wrong_within (checks header n ids) 24 (at, why)
    (omega arith, (omega arith, (omega arith, (omega arith, (omega arith, (omega arith, (omega arith, (omega arith, (omega arith, tt))))))))) e

-- ---- what a right header and footer say

pub record IsFullRight (header : Header) (ids : List ℤ) : Type 0 where
  pub has_schema : has_flag 2 header.flags ≡ true
  pub after : 24 < size_of header.schema_at
  pub before : size_of header.schema_at < size_of header.length
  pub even : (size_of header.length - size_of header.schema_at) % entry_len header.flags ≡ 0
  pub schema : has_flag 32 header.flags ≡ false → header.schema ≡ schema_of ids

pub record IsRight (header : Header) (n : ℕ) (ids : List ℤ) : Type 0 where
  pub version : header.version ≡ 1
  pub no_raw_data : has_flag 4 header.flags ≡ false
  pub one_width : (has_flag 8 header.flags && has_flag 16 header.flags) ≡ false
  pub registered : header.type_id ≢ pos 0
  pub long : 24 ≤ size_of header.length
  pub inside : size_of header.length ≤ n
  pub full : 24 < size_of header.length → IsFullRight header ids

and_rest : (x y : Bool) → x ≡ true → (x && y) ≡ false → y ≡ false
and_rest true y is e = e
and_rest false y is e = absurd cc

int_same : (x y : ℤ) → int_eq x y ≡ true → x ≡ y
int_same x y e = (Decides-int_eq x y).0 e

int_other : (x y : ℤ) → int_eq x y ≡ false → x ≢ y
int_other x y e same = both_ways (int_eq x y) e ((Decides-int_eq x y).1 same)

pub int_same_back : (x y : ℤ) → x ≡ y → int_eq x y ≡ true
int_same_back x y same = (Decides-int_eq x y).1 same

pub int_other_by : (x y : ℤ) (b : Bool) → int_eq x y ≡ b → x ≢ y → int_eq x y ≡ false
int_other_by x y true is other = absurd (other (int_same x y is))
int_other_by x y false is other = is

pub right_from : (header : Header) (n : ℕ) (ids : List ℤ) → first_wrong (checks header n ids) ≡ None → IsRight header n ids
right_from header n ids e =
    let all = all_pass (checks header n ids) e in
    record {
      version = eqb-true header.version 1 (not-false _ all.0);
      no_raw_data = all.1.0;
      one_width = all.1.1.0;
      registered = int_other header.type_id (pos 0) all.1.1.1.0;
      long = ltb-false (size_of header.length) 24 all.1.1.1.1.0;
      inside = ltb-false n (size_of header.length) all.1.1.1.1.1.0;
      full = λ lt.
          let is = lt-ltb 24 (size_of header.length) lt in
          let uneven = not-false _ (and_rest _ (is_uneven header) is all.1.1.1.1.1.1.1.0) in
          let parts = and_parts _ _ uneven in
          let later = and_parts _ _ parts.1 in
          let foot = and_rest _ _ is all.1.1.1.1.1.1.1.1.0 in
          record {
            has_schema = not-false _ (and_rest _ _ is all.1.1.1.1.1.1.0);
            after = ltb-true 24 (size_of header.schema_at) parts.0;
            before = ltb-true (size_of header.schema_at) (size_of header.length) later.0;
            even = eqb-true _ 0 later.1;
            schema = λ named. int_same header.schema (schema_of ids) (not-false _ (and_rest (not (has_flag 32 header.flags)) _ (ap not named) foot));
          };
    }

-- a test that counts only where the object has fields
if_full : (L : ℕ) (b : Bool) → (24 < L → b ≡ false) → (ltb 24 L && b) ≡ false
if_full L b right =
    elim (cases_lt 24 L) [
      | inl lt ↦ and_right (ltb 24 L) b (right lt)
      | inr le ↦ and_left (ltb 24 L) b (le-ltb 24 L le)
    ]

schema_passes : (header : Header) (ids : List ℤ) (compact : Bool) → has_flag 32 header.flags ≡ compact → (has_flag 32 header.flags ≡ false → header.schema ≡ schema_of ids) →
    (not (has_flag 32 header.flags) && not (int_eq header.schema (schema_of ids))) ≡ false
schema_passes header ids true is right = and_left _ _ (ap not is)
schema_passes header ids false is right = and_right _ _ (not_from_true _ (int_same_back header.schema (schema_of ids) (right is)))

even_passes : (header : Header) (ids : List ℤ) → IsFullRight header ids → is_uneven header ≡ false
even_passes header ids r =
    not_from_true _ (and_from _ _ (lt-ltb 24 (size_of header.schema_at) r.after)
    (and_from _ _ (lt-ltb (size_of header.schema_at) (size_of header.length) r.before) (eq-eqb _ 0 r.even)))

pub none_from : (header : Header) (n : ℕ) (ids : List ℤ) → IsRight header n ids → first_wrong (checks header n ids) ≡ None
none_from header n ids r =
    let L = size_of header.length in
    none_wrong (checks header n ids) (
      not_from_true _ (eq-eqb header.version 1 r.version),
      (
        r.no_raw_data,
        (
          r.one_width,
          (
            int_other_by header.type_id (pos 0) (int_eq header.type_id (pos 0)) refl r.registered,
            (
              le-ltb L 24 r.long,
              (
                le-ltb n L r.inside,
                (
                  if_full L _ (λ lt. not_from_true _ (r.full lt).has_schema),
                  (
                    if_full L (is_uneven header) (λ lt. even_passes header ids (r.full lt)),
                    (if_full L _ (λ lt. schema_passes header ids (has_flag 32 header.flags) refl (r.full lt).schema), tt),
                  ),
                ),
              ),
            ),
          ),
        ),
      ),
    )

-- ---- the header of a longer list

pub size_pos : (z : ℤ) → 0 < size_of z → z ≡ pos (size_of z)
size_pos (pos n) lt = refl
size_pos (negsuc n) lt = absurd (omega (arith, lt))

pub slice_prefix : (s t : List ℕ) (at n : ℕ) → at + n ≤ length s → take n (drop at (s ++ t)) ≡ take n (drop at s)
slice_prefix s t at n le =
    ap (take n) (drop-append-le at s t (omega (arith, le))) ∙ take-append-le n (drop at s) t (omega (arith, length-drop at s, le))

pub header_there : (s : List ℕ) (header : Header) → header_of s ≡ Some header → 24 ≤ length s
unfolding header_of
header_there s header e =
    elim (cases_lt (length s) 24) [
      | inl lt ↦ absurd (let no : header_of s ≡ None = rw (lt-ltb (length s) 24 lt) refl in let both = sym no ∙ e in cc)
      | inr le ↦ le
    ]

pub header_prefix : (s t : List ℕ) → 24 ≤ length s → header_of (s ++ t) ≡ header_of s
unfolding header_of
header_prefix s t le =
    let first : get_or (s ++ t) 1 0 ≡ get_or s 1 0 = get_or_append_left s t 0 1 (omega (arith, le)) in
    let at_2 = slice_prefix s t 2 2 (omega (arith, le)) in
    let at_4 = slice_prefix s t 4 4 (omega (arith, le)) in
    let at_8 = slice_prefix s t 8 4 (omega (arith, le)) in
    let at_12 = slice_prefix s t 12 4 (omega (arith, le)) in
    let at_16 = slice_prefix s t 16 4 (omega (arith, le)) in
    let at_20 = slice_prefix s t 20 4 (omega (arith, le)) in
    rw (le-ltb (length (s ++ t)) 24 (omega (arith, le, length-append s t)), le-ltb (length s) 24 le, first, at_2, at_4, at_8, at_12, at_16, at_20) refl
