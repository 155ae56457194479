-- Scalars, and bytes and texts behind their count, are read as they are spelled.
use Rattle.std.proofs.Common.{◌≡◌, ℕ, zero, suc, ◌%◌, ◌<◌, ◌≤◌, ◌^◌, pos, Bool, true, false, List, [], ◌∷◌, length, get_or, take, Result, Ok, Err, refl, sym, ap, subst, ◌∙◌, arith, inl, inr, ◌⊎◌}
use Rattle.std.specs.Prelude.{FitsSigned}
use Rattle.std.specs.Int.{Width, w8, w16, w32, w64, byte_len, cast_signed, cast_unsigned, from_le_bytes, to_le_bytes}
use mir.Val.{bits, Fits}
use Rattle.std.proofs.Math.Nat.{mod-eq_of_lt}
use Rattle.std.proofs.Math.Facts.{sfits_to_z, of_z-to_z, to_z-of_z, Fits-of_z, Fits-of_lt, Fits-lt-pow}
use Rattle.std.proofs.lemmas.Nat.{le_bytes_2, le_bytes_4, le_bytes_8, from_le_bytes-to_le_bytes_2, from_le_bytes-to_le_bytes_4, from_le_bytes-to_le_bytes_8}
use Rattle.std.proofs.lemmas.Bool.{ne_eqb}
use Rattle.ig_base.specs.Numbers.{AreBytes, LE}
use Rattle.ig_value.specs.declared.cause.Cause.{Cause}
use Rattle.ig_value.specs.declared.cause.Cause.TheVariants as cause
use Rattle.ig_value.specs.Part.{Scalar, i8, i16, i32, i64, u16, u32, u64, truth}
use Rattle.ig_value.specs.Spells.{IsScalar, scalar_bytes}
use Rattle.ig_value.specs.Stops.{IsTruncated, StopsScalar, scalar_len}
use Rattle.ig_value.specs.Reading.{scalar_of, scalar_at, truth_of}
use Rattle.ig_value.proofs.AgreesLemmas.{Agrees}
use Rattle.ig_value.proofs.ItemLemmas.{IsItem, item_agrees}

-- a width whose numbers are its bytes
pub record IsWide (w : Width) : Type 0 where
  pub len : (n : ℕ) → length (to_le_bytes w n) ≡ byte_len w
  pub suffix : (s : List ℕ) → length s ≡ byte_len w → AreBytes s → to_le_bytes w (from_le_bytes w s) ≡ s
  pub again : (n : ℕ) → n < 2 ^ bits w → from_le_bytes w (to_le_bytes w n) ≡ n
  pub below : (s : List ℕ) → AreBytes s → from_le_bytes w s < 2 ^ bits w

one_byte : (s : List ℕ) → length s ≡ 1 → AreBytes s → (get_or s 0 0 % 256) ∷ [] ≡ s
one_byte [] len bytes = absurd (omega (arith, len))
one_byte (x ∷ []) len bytes = let lt : x < 256 = bytes 0 in ap (λ (n : ℕ). n ∷ []) (mod-eq_of_lt lt)
one_byte (x ∷ y ∷ s) len bytes = absurd (omega (arith, len))

pub wide8 : IsWide w8
wide8 = record {
  len = λ n. refl;
  suffix = λ s len bytes. one_byte s len bytes;
  again = λ n lt. omega arith;
  below = λ s bytes. omega (arith, bytes 0);
}

pub wide16 : IsWide w16
wide16 = record {
  len = λ n. refl;
  suffix = λ s len bytes. le_bytes_2 s _ len bytes refl;
  again = λ n lt. from_le_bytes-to_le_bytes_2 n lt;
  below = λ s bytes. omega (arith, bytes 0, bytes 1);
}

pub wide32 : IsWide w32
wide32 = record {
  len = λ n. refl;
  suffix = λ s len bytes. le_bytes_4 s _ len bytes refl;
  again = λ n lt. from_le_bytes-to_le_bytes_4 n lt;
  below = λ s bytes. omega (arith, bytes 0, bytes 1, bytes 2, bytes 3);
}

wide64 : IsWide w64
wide64 = record {
  len = λ n. refl;
  suffix = λ s len bytes. le_bytes_8 s _ len bytes refl;
  again = λ n lt. from_le_bytes-to_le_bytes_8 n lt;
  below = λ s bytes. omega (arith, bytes 0, bytes 1, bytes 2, bytes 3, bytes 4, bytes 5, bytes 6, bytes 7);
}

-- ---- scalars

abbrev yes : {A : Type 0} → A → Result A Cause
yes x = Ok x

yes_is : {A : Type 0} (x y : A) → yes x ≡ yes y → x ≡ y
yes_is x y e = cc

-- numbers whose bytes are their type's
pub record IsNumber {A : Type 0} (n : ℕ) (of : List ℕ → A) (bytes : A → List ℕ) (Ranges : A → Type 0) : Type 0 where
  pub len : (x : A) → length (bytes x) ≡ n
  pub right : (s : List ℕ) → length s ≡ n → AreBytes s → Ranges (of s) × (s ≡ bytes (of s))
  pub suffix : (x : A) → Ranges x → of (bytes x) ≡ x

pub signed_number : (w : Width) → IsWide w → IsNumber (byte_len w) (λ s. cast_signed w (from_le_bytes w s)) (LE w) (FitsSigned w)
unfolding LE
signed_number w wide = record {
  len = λ z. wide.len (cast_unsigned w z);
  right = λ s len bytes.
      let fits : Fits w (from_le_bytes w s) = Fits-of_lt (wide.below s bytes) in
      (sfits_to_z fits, sym (wide.suffix s len bytes) ∙ ap (to_le_bytes w) (sym (of_z-to_z fits)));
  suffix = λ z fits. ap (cast_signed w) (wide.again (cast_unsigned w z) (Fits-lt-pow (Fits-of_z fits))) ∙ to_z-of_z fits;
}

-- a signed number that is read is in range
pub signed_fits : (w : Width) → IsWide w → (s : List ℕ) → AreBytes s → FitsSigned w (cast_signed w (from_le_bytes w s))
signed_fits w wide s bytes = sfits_to_z (Fits-of_lt (wide.below s bytes))

pub unsigned_number : (w : Width) → IsWide w → IsNumber (byte_len w) (from_le_bytes w) (λ n. LE w (pos n)) (λ n. n < 2 ^ bits w)
unfolding LE
unsigned_number w wide = record {
  len = λ n. wide.len n;
  right = λ s len bytes. (wide.below s bytes, sym (wide.suffix s len bytes));
  suffix = λ n lt. wide.again n lt;
}

number_item : {A : Type 0} (n : ℕ) (of : List ℕ → A) (bytes : A → List ℕ) (Ranges : A → Type 0) → IsNumber n of bytes Ranges →
    IsItem n (λ s. Ok (of s)) (λ s x. Ranges x × (s ≡ bytes x)) (IsTruncated n)
number_item {A} n of bytes Ranges p = record {
  right = λ s x len all e. subst (λ (y : A). Ranges y × (s ≡ bytes y)) (yes_is (of s) x e) (p.right s len all);
  again = λ s x h. (ap length h.1 ∙ p.len x, ap (λ (l : List ℕ). yes (of l)) h.1 ∙ ap yes (p.suffix x h.0));
  cut = λ s lt. record { short = lt; here = refl; cause = refl };
  bad = λ s c le e. absurd (let no : yes (of (take n s)) ≡ Err c = e in cc);
  suffix = λ s at c w. (w.here, inl (w.short, w.cause));
}

-- a byte is 0, 1 or no truth value
truth_zero : (b : ℕ) → b ≡ 0 → truth_of b ≡ Ok false
truth_zero b e = rw e refl

truth_one : (b : ℕ) → b ≡ 1 → truth_of b ≡ Ok true
truth_one b e = rw e refl

truth_wrong : (b : ℕ) → 2 ≤ b → truth_of b ≡ Err (cause.Bool b)
truth_wrong b le = rw (ne_eqb b 0 (omega arith), ne_eqb b 1 (omega arith)) refl

truth_ok : (b : ℕ) (x : Bool) → truth_of b ≡ Ok x → b ∷ [] ≡ scalar_bytes truth x
truth_ok zero true e = absurd cc
truth_ok zero false e = refl
truth_ok (suc zero) true e = refl
truth_ok (suc zero) false e = absurd cc
truth_ok (suc (suc b)) x e = absurd (let no = sym (truth_wrong (suc (suc b)) (omega arith)) ∙ e in cc)

truth_err : (b : ℕ) (c : Cause) → truth_of b ≡ Err c → (2 ≤ b) × (c ≡ cause.Bool b)
truth_err zero c e = absurd cc
truth_err (suc zero) c e = absurd cc
truth_err (suc (suc b)) c e = (omega arith, let no = sym (truth_wrong (suc (suc b)) (omega arith)) ∙ e in cc)

truth_right : (s : List ℕ) (x : Bool) → length s ≡ 1 → AreBytes s → truth_of (get_or s 0 0) ≡ Ok x → IsScalar truth s x
truth_right [] x len bytes e = absurd (omega (arith, len))
truth_right (b ∷ []) x len bytes e = (tt, truth_ok b x e)
truth_right (b ∷ d ∷ s) x len bytes e = absurd (omega (arith, len))

truth_bad : (s : List ℕ) (c : Cause) → 1 ≤ length s → truth_of (get_or (take 1 s) 0 0) ≡ Err c → StopsScalar truth s 0 c
truth_bad [] c le e = absurd (omega arith)
truth_bad (b ∷ s) c le e = let w = truth_err b c e in inr (record { byte = b; rest = s; whole = refl; wrong = w.0; here = refl; cause = w.1 })

truth_back : (s : List ℕ) (at : ℕ) (c : Cause) → StopsScalar truth s at c → (at ≡ 0) × (((length s < 1) × (c ≡ cause.Short)) ⊎ ((1 ≤ length s) × (truth_of (get_or (take 1 s) 0 0) ≡ Err c)))
truth_back s at c (inl w) = (w.here, inl (w.short, w.cause))
truth_back s at c (inr w) = (w.here, inr (rw w.whole (omega arith), rw (w.whole, w.cause) (truth_wrong w.byte w.wrong)))

truth_again : (s : List ℕ) (x : Bool) → IsScalar truth s x → (length s ≡ 1) × (truth_of (get_or s 0 0) ≡ Ok x)
truth_again s true h = (rw h.1 refl, rw h.1 refl)
truth_again s false h = (rw h.1 refl, rw h.1 refl)

truth_item : IsItem 1 (scalar_of truth) (IsScalar truth) (StopsScalar truth)
truth_item = record {
  right = truth_right;
  again = truth_again;
  cut = λ s lt. inl (record { short = lt; here = refl; cause = refl });
  bad = truth_bad;
  suffix = truth_back;
}

scalar_item : (k : Scalar) → IsItem (scalar_len k) (scalar_of k) (IsScalar k) (StopsScalar k)
scalar_item i8 = number_item 1 _ _ _ (signed_number w8 wide8)
scalar_item i16 = number_item 2 _ _ _ (signed_number w16 wide16)
scalar_item i32 = number_item 4 _ _ _ (signed_number w32 wide32)
scalar_item i64 = number_item 8 _ _ _ (signed_number w64 wide64)
scalar_item u16 = number_item 2 _ _ _ (unsigned_number w16 wide16)
scalar_item u32 = number_item 4 _ _ _ (unsigned_number w32 wide32)
scalar_item u64 = number_item 8 _ _ _ (unsigned_number w64 wide64)
scalar_item truth = truth_item

pub scalar_agrees : (k : Scalar) → Agrees (IsScalar k) (StopsScalar k) (scalar_at k)
scalar_agrees k = item_agrees (scalar_len k) (scalar_of k) (IsScalar k) (StopsScalar k) (scalar_item k)
