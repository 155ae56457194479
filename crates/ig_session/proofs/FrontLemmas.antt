-- How long what stands at the place of a stream is.
use Rattle.std.proofs.Common.{◌≡◌, ℕ, ℤ, pos, negsuc, ◌+◌, ◌-◌, ◌<◌, ◌≤◌, List, length, length-take-le, take, drop, Option, None, Some, refl, sym, ap, ◌∙◌, arith, inl, inr}
use Rattle.std.specs.Prelude.{◌&&◌, nat_lt, nat_le}
use Rattle.std.specs.Int.{w32}
use Rattle.std.proofs.lemmas.Bool.{cases_Bool, cases_lt, cond-true, cond-false, le-ltb, lt-ltb, leb-true, and_parts}
use Rattle.std.proofs.lemmas.List.{length-drop}
use Rattle.ig_base.specs.Numbers.{number_at}
use Rattle.ig_base.proofs.NumberLemmas.{number_at-enough}
use Rattle.ig_base.specs.Frames.{Body, Bad, Incomplete, front, front_from, front_sized}

-- ---- a whole frame

sized_length : (n : ℕ) (bytes body rest : List ℕ) → front_sized n bytes ≡ Body body rest → length body ≡ n
sized_length n bytes body rest h = elim (cases_lt (length bytes) n) [
  | inl short ↦ let part = cond-true (nat_lt (length bytes) n) (Incomplete (n - length bytes)) (Body (take n bytes) (drop n bytes)) (lt-ltb _ _ short) in cc
  | inr long ↦
      let whole = cond-false (nat_lt (length bytes) n) (Incomplete (n - length bytes)) (Body (take n bytes) (drop n bytes)) (le-ltb _ _ long) in
      let same : body ≡ take n bytes = cc in
      ap length same ∙ length-take-le n bytes long
]

ranged : (least limit : ℕ) (bytes body rest : List ℕ) (read : Option ℤ) → front_from least limit bytes read ≡ Body body rest → (least ≤ length body) × (length body ≤ limit)
ranged least limit bytes body rest None h = absurd cc
ranged least limit bytes body rest (Some (negsuc n)) h = absurd cc
ranged least limit bytes body rest (Some (pos n)) h = elim (cases_Bool (nat_le least n && nat_le n limit)) [
  | inl fits ↦
      let both = and_parts (nat_le least n) (nat_le n limit) fits in
      let len : length body ≡ n = sized_length n (drop 4 bytes) body rest (sym (cond-true (nat_le least n && nat_le n limit) (front_sized n (drop 4 bytes)) (Bad (pos n)) fits) ∙ h) in
      (omega (arith, len, leb-true least n both.0), omega (arith, len, leb-true n limit both.1))
  | inr out ↦ let bad = cond-false (nat_le least n && nat_le n limit) (front_sized n (drop 4 bytes)) (Bad (pos n)) out in absurd cc
]

-- the length of a body that is found is in range
pub body_range : (least limit : ℕ) (bytes body rest : List ℕ) → front least limit bytes ≡ Body body rest → (least ≤ length body) × (length body ≤ limit)
unfolding front
body_range least limit bytes body rest h = ranged least limit bytes body rest (number_at w32 bytes 0) h

-- ---- an incomplete frame

sized_few : (n missing : ℕ) (bytes : List ℕ) → front_sized n bytes ≡ Incomplete missing → length bytes < n
sized_few n missing bytes h = elim (cases_lt (length bytes) n) [
  | inl short ↦ short
  | inr long ↦ let whole = cond-false (nat_lt (length bytes) n) (Incomplete (n - length bytes)) (Body (take n bytes) (drop n bytes)) (le-ltb _ _ long) in absurd cc
]

numbered_few : (least limit missing : ℕ) (bytes : List ℕ) (read : Option ℤ) → 4 ≤ length bytes → number_at w32 bytes 0 ≡ read → front_from least limit bytes read ≡ Incomplete missing
    → length bytes < 4 + limit
numbered_few least limit missing bytes None long e h = let some = number_at-enough bytes long in absurd cc
numbered_few least limit missing bytes (Some (negsuc n)) long e h = absurd cc
numbered_few least limit missing bytes (Some (pos n)) long e h = elim (cases_Bool (nat_le least n && nat_le n limit)) [
  | inl fits ↦
      let both = and_parts (nat_le least n) (nat_le n limit) fits in
      let few : length (drop 4 bytes) < n = sized_few n missing (drop 4 bytes) (sym (cond-true (nat_le least n && nat_le n limit) (front_sized n (drop 4 bytes)) (Bad (pos n)) fits) ∙ h) in
      omega (arith, few, length-drop 4 bytes, leb-true n limit both.1)
  | inr out ↦ let bad = cond-false (nat_le least n && nat_le n limit) (front_sized n (drop 4 bytes)) (Bad (pos n)) out in absurd cc
]

-- an incomplete frame has fewer bytes than the longest frame
pub incomplete_few : (least limit missing : ℕ) (bytes : List ℕ) → front least limit bytes ≡ Incomplete missing → length bytes < 4 + limit
unfolding front
incomplete_few least limit missing bytes h = elim (cases_lt (length bytes) 4) [
  | inl short ↦ omega (arith, short)
  | inr long ↦ numbered_few least limit missing bytes (number_at w32 bytes 0) long refl h
]
