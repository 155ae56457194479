-- What bytes begin with, when more bytes follow them.
use Rattle.std.proofs.Common.{◌≡◌, ℕ, ◌+◌, ◌-◌, ◌≤◌, ◌<◌, ℤ, pos, negsuc, ◌&&◌, List, ◌++◌, length, length-take-le, take, drop, Option, None, Some, refl, sym, ap, ◌∙◌, arith, inl, inr}
use Rattle.std.proofs.lemmas.Bool.{le-ltb, lt-ltb, leb-true, cond-true, cond-false, cases_Bool, cases_lt, and_parts}
use Rattle.std.proofs.lemmas.List.{length-append, length-drop, take-append-le, drop-append-le}
use Rattle.std.specs.Prelude.{nat_lt, nat_le}
use Rattle.std.specs.Int.{w32, cast_signed, from_le_bytes}
use Rattle.ig_base.specs.Numbers.{number_at}
use Rattle.ig_base.specs.Frames.{Front, Body, Bad, Incomplete, front, front_from, front_sized}
use Rattle.ig_base.proofs.NumberLemmas.{number_at-enough, number_at-short}
use Rattle.ig_base.proofs.FrameLemmas.{front-inside}

-- a number of four bytes stays the same
number_longer : (s more : List ℕ) → 4 ≤ length s → number_at w32 (s ++ more) 0 ≡ number_at w32 s 0
number_longer s more long =
    number_at-enough (s ++ more) (omega (arith, length-append s more))
    ∙ ap (λ l. Some (cast_signed w32 (from_le_bytes w32 l))) (take-append-le 4 s more long) ∙ sym (number_at-enough s long)

sized_longer : (n : ℕ) (s more body rest : List ℕ) → front_sized n s ≡ Body body rest → front_sized n (s ++ more) ≡ Body body (rest ++ more)
sized_longer n s more body rest h = elim (cases_lt (length s) n) [
  | inl short ↦ let part = cond-true (nat_lt (length s) n) (Incomplete (n - length s)) (Body (take n s) (drop n s)) (lt-ltb _ _ short) in cc
  | inr long ↦
      let whole = cond-false (nat_lt (length s) n) (Incomplete (n - length s)) (Body (take n s) (drop n s)) (le-ltb _ _ long) in
      let same : body ≡ take n s = cc in
      let after : rest ≡ drop n s = cc in
      cond-false (nat_lt (length (s ++ more)) n) (Incomplete (n - length (s ++ more))) (Body (take n (s ++ more)) (drop n (s ++ more))) (le-ltb _ _ (omega (arith, length-append s more)))
      ∙ ap (λ b. Body b (drop n (s ++ more))) (take-append-le n s more long ∙ sym same)
      ∙ ap (Body body) (drop-append-le n s more long ∙ ap (λ r. r ++ more) (sym after))
]

sized_never_bad : (n : ℕ) (s : List ℕ) (k : ℤ) → front_sized n s ≡ Bad k → ⊥
sized_never_bad n s k h = elim (cases_lt (length s) n) [
  | inl short ↦ let part = cond-true (nat_lt (length s) n) (Incomplete (n - length s)) (Body (take n s) (drop n s)) (lt-ltb _ _ short) in cc
  | inr long ↦ let whole = cond-false (nat_lt (length s) n) (Incomplete (n - length s)) (Body (take n s) (drop n s)) (le-ltb _ _ long) in cc
]

from_longer : (least limit : ℕ) (s more body rest : List ℕ) (read : Option ℤ) → 4 ≤ length s → front_from least limit s read ≡ Body body rest
    → front_from least limit (s ++ more) read ≡ Body body (rest ++ more)
from_longer least limit s more body rest None long h = cc
from_longer least limit s more body rest (Some (negsuc n)) long h = cc
from_longer least limit s more body rest (Some (pos n)) long h =
    let inside = front_sized n (drop 4 s) in
    elim (cases_Bool (nat_le least n && nat_le n limit)) [
      | inl fits ↦
          cond-true (nat_le least n && nat_le n limit) (front_sized n (drop 4 (s ++ more))) (Bad (pos n)) fits
          ∙ ap (front_sized n) (drop-append-le 4 s more long)
          ∙ sized_longer n (drop 4 s) more body rest (sym (cond-true (nat_le least n && nat_le n limit) inside (Bad (pos n)) fits) ∙ h)
      | inr out ↦ let bad = cond-false (nat_le least n && nat_le n limit) inside (Bad (pos n)) out in cc
    ]

from_longer_bad : (least limit : ℕ) (s more : List ℕ) (k : ℤ) (read : Option ℤ) → front_from least limit s read ≡ Bad k → front_from least limit (s ++ more) read ≡ Bad k
from_longer_bad least limit s more k None h = cc
from_longer_bad least limit s more k (Some (negsuc n)) h = h
from_longer_bad least limit s more k (Some (pos n)) h =
    let inside = front_sized n (drop 4 s) in
    elim (cases_Bool (nat_le least n && nat_le n limit)) [
      | inl fits ↦ absurd (sized_never_bad n (drop 4 s) k (sym (cond-true (nat_le least n && nat_le n limit) inside (Bad (pos n)) fits) ∙ h))
      | inr out ↦
          cond-false (nat_le least n && nat_le n limit) (front_sized n (drop 4 (s ++ more))) (Bad (pos n)) out
          ∙ sym (cond-false (nat_le least n && nat_le n limit) inside (Bad (pos n)) out) ∙ h
    ]

-- a whole frame is found, whatever follows it
pub front_longer : (least limit : ℕ) (s more body rest : List ℕ) → front least limit s ≡ Body body rest → front least limit (s ++ more) ≡ Body body (rest ++ more)
unfolding front
front_longer least limit s more body rest h =
    let long : 4 ≤ length s = omega (arith, (front-inside least limit s body rest h).0) in
    ap (front_from least limit (s ++ more)) (number_longer s more long) ∙ from_longer least limit s more body rest (number_at w32 s 0) long h

-- and so is a length that is out of range
pub front_longer_bad : (least limit : ℕ) (s more : List ℕ) (k : ℤ) → front least limit s ≡ Bad k → front least limit (s ++ more) ≡ Bad k
unfolding front
front_longer_bad least limit s more k h = elim (cases_lt (length s) 4) [
  | inl short ↦ let none : front_from least limit s (number_at w32 s 0) ≡ Incomplete (4 - length s) = ap (front_from least limit s) (number_at-short s short) in cc
  | inr long ↦ ap (front_from least limit (s ++ more)) (number_longer s more long) ∙ from_longer_bad least limit s more k (number_at w32 s 0) h
]

sized_length : (n : ℕ) (s body rest : List ℕ) → front_sized n s ≡ Body body rest → length body ≡ n
sized_length n s body rest h = elim (cases_lt (length s) n) [
  | inl short ↦ let part = cond-true (nat_lt (length s) n) (Incomplete (n - length s)) (Body (take n s) (drop n s)) (lt-ltb _ _ short) in cc
  | inr long ↦
      let whole = cond-false (nat_lt (length s) n) (Incomplete (n - length s)) (Body (take n s) (drop n s)) (le-ltb _ _ long) in
      let same : body ≡ take n s = cc in
      ap length same ∙ length-take-le n s long
]

from_range : (least limit : ℕ) (s body rest : List ℕ) (read : Option ℤ) → front_from least limit s read ≡ Body body rest → (least ≤ length body) × (length body ≤ limit)
from_range least limit s body rest None h = cc
from_range least limit s body rest (Some (negsuc n)) h = cc
from_range least limit s body rest (Some (pos n)) h =
    let inside = front_sized n (drop 4 s) in
    elim (cases_Bool (nat_le least n && nat_le n limit)) [
      | inl fits ↦
          let both = and_parts (nat_le least n) (nat_le n limit) fits in
          let len : length body ≡ n = sized_length n (drop 4 s) body rest (sym (cond-true (nat_le least n && nat_le n limit) inside (Bad (pos n)) fits) ∙ h) in
          (omega (arith, len, leb-true least n both.0), omega (arith, len, leb-true n limit both.1))
      | inr out ↦ let bad = cond-false (nat_le least n && nat_le n limit) inside (Bad (pos n)) out in cc
    ]

-- the length of a body is in range
pub front_range : (least limit : ℕ) (s body rest : List ℕ) → front least limit s ≡ Body body rest → (least ≤ length body) × (length body ≤ limit)
unfolding front
front_range least limit s body rest h = from_range least limit s body rest (number_at w32 s 0) h

-- fewer bytes are left after a frame
pub front_shorter : (least limit : ℕ) (s body rest : List ℕ) → front least limit s ≡ Body body rest → length rest < length s
front_shorter least limit s body rest h =
    let inside = front-inside least limit s body rest h in
    let len : length rest ≡ length s - (4 + length body) = sym (ap length inside.1) ∙ length-drop (4 + length body) s in
    omega (arith, inside.0, len)

-- no bytes begin with no frame
pub front_none : (least limit : ℕ) (s : List ℕ) → length s ≡ 0 → front least limit s ≡ Incomplete 4
unfolding front
front_none least limit s none = ap (front_from least limit s) (number_at-short s (omega (arith, none))) ∙ ap (λ n. Incomplete (4 - n)) none
