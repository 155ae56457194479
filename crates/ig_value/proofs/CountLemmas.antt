-- What stands behind an Int32 count, and bytes and texts there.
use Rattle.std.proofs.Common.{◌≡◌, ℕ, ◌+◌, ◌<◌, ◌^◌, ℤ, pos, negsuc, Bool, true, false, List, ◌++◌, length, take, Ok, Err, refl, sym, ap, subst, ◌∙◌, append_assoc, arith, inl, inr, length-append, ◌⊎◌}
use Rattle.std.specs.Prelude.{FitsSigned}
use Rattle.std.specs.Int.{w32}
use Rattle.std.specs.Str.{IsUtf8, is_utf8}
use Rattle.std.proofs.lemmas.Str.{IsUtf8-from_is_utf8, is_utf8-from_IsUtf8}
use Rattle.ig_base.specs.Numbers.{AreBytes, LE}
use Rattle.ig_value.specs.declared.cause.Cause.{Cause}
use Rattle.ig_value.specs.declared.cause.Cause.TheVariants as cause
use Rattle.ig_value.specs.Part.{i32}
use Rattle.ig_value.specs.Spells.{IsScalar, IsCounted, IsRun, IsTextRun}
use Rattle.ig_value.specs.Stops.{IsTruncated, IsNegative, StopsCounted, StopsRun, StopsTextRun}
use Rattle.ig_value.specs.Reading.{Fault, Read, ◌>>=◌, scalar_at, count_at, count_of, counted_at, run_of, text_of, run_at, text_run_at}
use Rattle.ig_value.proofs.AgreesLemmas.{Agrees, Takes, Halts, Halted, AreBytes-suffix, bind_ok, bind_err, ok_is, err_is}
use Rattle.ig_value.proofs.ItemLemmas.{IsItem, item_agrees}
use Rattle.ig_value.proofs.ScalarLemmas.{scalar_agrees}

-- ---- the count

count_ok : (left : ℕ) (z : ℤ) (rest : List ℕ) (n : ℕ) (rest' : List ℕ) → count_of left (z, rest) ≡ Ok (n, rest') → (z ≡ pos n) × (rest ≡ rest')
count_ok left (pos m) rest n rest' e = let p = ok_is (m, rest) (n, rest') e in (ap (λ (x : ℕ × List ℕ). pos x.0) p, ap (λ (x : ℕ × List ℕ). x.1) p)
count_ok left (negsuc m) rest n rest' e = absurd cc

count_err : (left : ℕ) (z : ℤ) (rest : List ℕ) (left' : ℕ) (c : Cause) → count_of left (z, rest) ≡ Err (left', c) → (left ≡ left') × ((m : ℕ) × (z ≡ negsuc m) × (c ≡ cause.Count (negsuc m)))
count_err left (pos m) rest left' c e = absurd cc
count_err left (negsuc m) rest left' c e =
    let p = err_is {A = ℕ × List ℕ} (left, cause.Count (negsuc m)) (left', c) e in
    (ap (λ (x : Fault). x.0) p, (m, refl, sym (ap (λ (x : Fault). x.1) p)))

pub count_takes : (s : List ℕ) (n : ℕ) (rest : List ℕ) → AreBytes s → count_at s ≡ Ok (n, rest) → (n < 2 ^ 31) × (s ≡ LE w32 (pos n) ++ rest)
count_takes s n rest bytes e =
    let a = bind_ok (scalar_at i32 s) (count_of (length s)) (n, rest) e in
    let k = count_ok (length s) a.0.0 a.0.1 n rest a.2 in
    let t = (scalar_agrees i32).takes s a.0.0 a.0.1 bytes a.1 in
    let fits : FitsSigned w32 (pos n) = subst (FitsSigned w32) k.0 t.right.0 in
    (fits.sfits, t.whole ∙ rw (t.right.1, k.0, k.1) refl)

pub count_again : (n : ℕ) (rest : List ℕ) → n < 2 ^ 31 → count_at (LE w32 (pos n) ++ rest) ≡ Ok (n, rest)
count_again n rest lt =
    let right : IsScalar i32 (LE w32 (pos n)) (pos n) = (record { sfits = lt }, refl) in
    rw ((scalar_agrees i32).again (LE w32 (pos n)) (pos n) rest right) refl

count_halts : (s : List ℕ) (left : ℕ) (c : Cause) → AreBytes s → count_at s ≡ Err (left, c) → (left ≡ length s) × (IsTruncated 4 s 0 c ⊎ IsNegative s 0 c)
count_halts s left c bytes e =
    elim (bind_err (scalar_at i32 s) (count_of (length s)) (left, c) e) [
      | inl first ↦
          let h = (scalar_agrees i32).halts s left c bytes first in
          let w : IsTruncated 4 s h.at c = h.wrong in
          (omega (arith, h.there, w.here), inl (record { short = w.short; here = refl; cause = w.cause }))
      | inr a ↦
          let k = count_err (length s) a.0.0 a.0.1 left c a.2 in
          let t = (scalar_agrees i32).takes s a.0.0 a.0.1 bytes a.1 in
          let m = k.1.0 in
          let fits : FitsSigned w32 (negsuc m) = subst (FitsSigned w32) k.1.1 t.right.0 in
          (sym k.0, inr (record { below = m; rest = a.0.1; fits = fits; whole = t.whole ∙ ap (λ (l : List ℕ). l ++ a.0.1) (t.right.1 ∙ ap (LE w32) k.1.1); here = refl; cause = k.1.2 }))
    ]

count_cut : (s : List ℕ) (at : ℕ) (c : Cause) → IsTruncated 4 s at c → count_at s ≡ Err (length s, c)
count_cut s at c w =
    let h = (scalar_agrees i32).halted s at c w in
    let left-is : h.left ≡ length s = omega (arith, h.there, w.here) in
    rw (h.is, left-is) refl

count_negative : (s : List ℕ) (at : ℕ) (c : Cause) → IsNegative s at c → count_at s ≡ Err (length s, c)
count_negative s at c w =
    let right : IsScalar i32 (LE w32 (negsuc w.below)) (negsuc w.below) = (w.fits, refl) in
    let is : scalar_at i32 s ≡ Ok (negsuc w.below, w.rest) = rw w.whole ((scalar_agrees i32).again (LE w32 (negsuc w.below)) (negsuc w.below) w.rest right) in
    rw (is, w.cause) refl

pub LE-length : (z : ℤ) → length (LE w32 z) ≡ 4
unfolding LE
LE-length z = refl

-- ---- what the count says

counted_takes : {A : Type 0} (P : ℕ → List ℕ → A → Type 0) (W : ℕ → List ℕ → ℕ → Cause → Type 0) (R : ℕ → List ℕ → Read A) → ((n : ℕ) → Agrees (P n) (W n) (R n)) →
    (s : List ℕ) (x : A) (rest : List ℕ) → AreBytes s → counted_at R s ≡ Ok (x, rest) → Takes (IsCounted P) s x rest
counted_takes P W R p s x rest bytes e =
    let a = bind_ok (count_at s) (λ n. R n.0 n.1) (x, rest) e in
    let k = count_takes s a.0.0 a.0.1 bytes a.1 in
    let t = (p a.0.0).takes a.0.1 x rest (AreBytes-suffix s (LE w32 (pos a.0.0)) a.0.1 k.1 bytes) a.2 in
    record {
      prefix = LE w32 (pos a.0.0) ++ t.prefix;
      whole = k.1 ∙ ap (λ (l : List ℕ). LE w32 (pos a.0.0) ++ l) t.whole ∙ sym (append_assoc (LE w32 (pos a.0.0)) t.prefix rest);
      right = record { count = a.0.0; suffix = t.prefix; small = k.0; whole = refl; after = t.right };
    }

counted_again : {A : Type 0} (P : ℕ → List ℕ → A → Type 0) (W : ℕ → List ℕ → ℕ → Cause → Type 0) (R : ℕ → List ℕ → Read A) → ((n : ℕ) → Agrees (P n) (W n) (R n)) →
    (s : List ℕ) (x : A) (rest : List ℕ) → IsCounted P s x → counted_at R (s ++ rest) ≡ Ok (x, rest)
counted_again P W R p s x rest h =
    let e : s ++ rest ≡ LE w32 (pos h.count) ++ (h.suffix ++ rest) = ap (λ (l : List ℕ). l ++ rest) h.whole ∙ append_assoc (LE w32 (pos h.count)) h.suffix rest in
    let first : count_at (s ++ rest) ≡ Ok (h.count, h.suffix ++ rest) = ap count_at e ∙ count_again h.count (h.suffix ++ rest) h.small in
    ap (λ (r : Read ℕ). r >>= λ n. R n.0 n.1) first ∙ (p h.count).again h.suffix x rest h.after

counted_halts : {A : Type 0} (P : ℕ → List ℕ → A → Type 0) (W : ℕ → List ℕ → ℕ → Cause → Type 0) (R : ℕ → List ℕ → Read A) → ((n : ℕ) → Agrees (P n) (W n) (R n)) →
    (s : List ℕ) (left : ℕ) (c : Cause) → AreBytes s → counted_at R s ≡ Err (left, c) → Halts (StopsCounted W) s left c
counted_halts P W R p s left c bytes e =
    elim (bind_err (count_at s) (λ n. R n.0 n.1) (left, c) e) [
      | inl first ↦
          let h = count_halts s left c bytes first in
          let there : left + 0 ≡ length s = omega (arith, h.0) in
          elim h.1 [
            | inl cut ↦ record { at = 0; there = there; wrong = inl cut }
            | inr negative ↦ record { at = 0; there = there; wrong = inr (inl negative) }
          ]
      | inr a ↦
          let k = count_takes s a.0.0 a.0.1 bytes a.1 in
          let h = (p a.0.0).halts a.0.1 left c (AreBytes-suffix s (LE w32 (pos a.0.0)) a.0.1 k.1 bytes) a.2 in
          record {
            at = 4 + h.at;
            there = omega (arith, h.there, ap length k.1, length-append (LE w32 (pos a.0.0)) a.0.1, LE-length (pos a.0.0));
            wrong = inr (inr (record { count = a.0.0; suffix = a.0.1; further = h.at; small = k.0; whole = k.1; wrong = h.wrong; there = refl }));
          }
    ]

counted_halted : {A : Type 0} (P : ℕ → List ℕ → A → Type 0) (W : ℕ → List ℕ → ℕ → Cause → Type 0) (R : ℕ → List ℕ → Read A) → ((n : ℕ) → Agrees (P n) (W n) (R n)) →
    (s : List ℕ) (at : ℕ) (c : Cause) → StopsCounted W s at c → Halted (counted_at R) s at c
counted_halted P W R p s at c (inl cut) =
    record { left = length s; there = omega (arith, cut.here); is = ap (λ (r : Read ℕ). r >>= λ n. R n.0 n.1) (count_cut s at c cut) }
counted_halted P W R p s at c (inr (inl negative)) =
    record { left = length s; there = omega (arith, negative.here); is = ap (λ (r : Read ℕ). r >>= λ n. R n.0 n.1) (count_negative s at c negative) }
counted_halted P W R p s at c (inr (inr w)) =
    let h = (p w.count).halted w.suffix w.further c w.wrong in
    let first : count_at s ≡ Ok (w.count, w.suffix) = ap count_at w.whole ∙ count_again w.count w.suffix w.small in
    record {
      left = h.left;
      there = omega (arith, h.there, w.there, ap length w.whole, length-append (LE w32 (pos w.count)) w.suffix, LE-length (pos w.count));
      is = ap (λ (r : Read ℕ). r >>= λ n. R n.0 n.1) first ∙ h.is;
    }

pub counted_agrees : {A : Type 0} (P : ℕ → List ℕ → A → Type 0) (W : ℕ → List ℕ → ℕ → Cause → Type 0) (R : ℕ → List ℕ → Read A) → ((n : ℕ) → Agrees (P n) (W n) (R n)) →
    Agrees (IsCounted P) (StopsCounted W) (counted_at R)
counted_agrees P W R p = record {
  takes = counted_takes P W R p;
  again = counted_again P W R p;
  halts = counted_halts P W R p;
  halted = counted_halted P W R p;
}

-- ---- bytes and texts

run_item : (n : ℕ) → IsItem n run_of (IsRun n) (StopsRun n)
run_item n = record {
  right = λ s x len bytes e. let is : s ≡ x = cc in (is, subst AreBytes is bytes, subst (λ (l : List ℕ). length l ≡ n) is len);
  again = λ s x h. (ap length h.0 ∙ h.2, ap run_of h.0);
  cut = λ s lt. record { short = lt; here = refl; cause = refl };
  bad = λ s c le e. absurd (let no : run_of (take n s) ≡ Err c = e in cc);
  suffix = λ s at c w. (w.here, inl (w.short, w.cause));
}

pub run_agrees : (n : ℕ) → Agrees (IsRun n) (StopsRun n) (run_at n)
run_agrees n = item_agrees n run_of (IsRun n) (StopsRun n) (run_item n)

text_ok : (s x : List ℕ) (b : Bool) → is_utf8 s ≡ b → text_of s ≡ Ok x → (s ≡ x) × IsUtf8 s
text_ok s x true is e = let same : text_of s ≡ Ok s = rw is refl in (let both = sym same ∙ e in cc, IsUtf8-from_is_utf8 s is)
text_ok s x false is e = absurd (let no : text_of s ≡ Err cause.Utf8 = rw is refl in let both = sym no ∙ e in cc)

text_err : (s : List ℕ) (c : Cause) (b : Bool) → is_utf8 s ≡ b → text_of s ≡ Err c → (c ≡ cause.Utf8) × ¬ IsUtf8 s
text_err s c true is e = absurd (let no : text_of s ≡ Ok s = rw is refl in let both = sym no ∙ e in cc)
text_err s c false is e =
    (let no : text_of s ≡ Err cause.Utf8 = rw is refl in let both = sym no ∙ e in cc, λ u. let yes = is_utf8-from_IsUtf8 s u in let both = sym is ∙ yes in cc)

text_again : (s : List ℕ) → IsUtf8 s → text_of s ≡ Ok s
text_again s u = rw (is_utf8-from_IsUtf8 s u) refl

text_bad : (s : List ℕ) (b : Bool) → is_utf8 s ≡ b → ¬ IsUtf8 s → text_of s ≡ Err cause.Utf8
text_bad s true is wrong = absurd (wrong (IsUtf8-from_is_utf8 s is))
text_bad s false is wrong = rw is refl

text_item : (n : ℕ) → IsItem n text_of (IsTextRun n) (StopsTextRun n)
text_item n = record {
  right = λ s x len bytes e.
      let t = text_ok s x (is_utf8 s) refl e in
      ((t.0, subst AreBytes t.0 bytes, subst (λ (l : List ℕ). length l ≡ n) t.0 len), subst IsUtf8 t.0 t.1);
  again = λ s x h. (ap length h.0.0 ∙ h.0.2, ap text_of h.0.0 ∙ text_again x h.1);
  cut = λ s lt. inl (record { short = lt; here = refl; cause = refl });
  bad = λ s c le e. let t = text_err (take n s) c (is_utf8 (take n s)) refl e in inr (record { whole = le; wrong = t.1; here = refl; cause = t.0 });
  suffix = λ s at c w.
      elim w [
        | inl cut ↦ (cut.here, inl (cut.short, cut.cause))
        | inr other ↦ (other.here, inr (other.whole, rw other.cause (text_bad (take n s) (is_utf8 (take n s)) refl other.wrong)))
      ];
}

pub text_run_agrees : (n : ℕ) → Agrees (IsTextRun n) (StopsTextRun n) (text_run_at n)
text_run_agrees n = item_agrees n text_of (IsTextRun n) (StopsTextRun n) (text_item n)
