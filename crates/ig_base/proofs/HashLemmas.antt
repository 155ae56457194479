-- Lemmas on the hashes.
use Rattle.std.proofs.Common.{◌≡◌, ℕ, zero, suc, ◌+◌, ◌*◌, ◌%◌, ◌^◌, ◌<◌, ℤ, List, [], ◌∷◌, ◌++◌, length, map, take, fold, cond, lit<, subst, ◌≤◌, inl, inr, refl, sym, ap, ◌∙◌, arith}
use Rattle.std.proofs.lemmas.Bool.{cond-true, cond-false, lt-ltb, le-ltb, cases_lt}
use Rattle.std.proofs.lemmas.List.{map-append, length-append, take_all}
use Rattle.std.proofs.lemmas.Int.{of_z-to_z}
use Rattle.std.specs.Int.{w32, cast_signed, cast_unsigned}
use Rattle.std.proofs.lemmas.List.Sums.{fold-append}
use Rattle.std.proofs.lemmas.Nat.{mul-mod_first, mul-mod_second, mul-mod, pow-add}
use Rattle.std.proofs.Math.Nat.{add-mod-mod, mod-add-mod, pow-suc}
use Rattle.std.specs.Prelude.{nat_lt}
use Rattle.std.proofs.lemmas.Str.{chars-IsAscii}
use Rattle.std.specs.List.{flat_map}
use Rattle.std.specs.Str.{IsAscii, str_to_ascii_lowercase}
use Rattle.std.specs.Char.{to_ascii_lowercase}
use Rattle.std.specs.Char.Escape.{encode_utf16}
use Rattle.ig_base.specs.Hashes.{Java, java_step, units, sign_extension, hash_after, hash_factor}

-- ---- texts

one_unit_each : (codes : List ℕ) → IsAscii codes → flat_map encode_utf16 codes ≡ codes
one_unit_each [] are = refl
one_unit_each (c ∷ codes) are =
    let small : c < 0x1_0000 = omega (arith, are 0) in
    ap (λ l. l ++ flat_map encode_utf16 codes) (cond-true _ (c ∷ []) _ (lt-ltb c 0x1_0000 small)) ∙ ap (λ l. c ∷ l) (one_unit_each codes (λ i. are (suc i)))

-- an ASCII text has its bytes as its code units
units-IsAscii : (bytes : List ℕ) → IsAscii bytes → units bytes ≡ bytes
units-IsAscii bytes are = ap (flat_map encode_utf16) (chars-IsAscii bytes are) ∙ one_unit_each bytes are

lower-small : (b : ℕ) → b < 128 → to_ascii_lowercase b < 128
lower-small b small = elim (cases_lt b 65) [
  | inl below ↦ let same = cond-true _ b (cond (nat_lt b 91) (b + 32) b) (lt-ltb b 65 below) in omega (arith, same)
  | inr above ↦ elim (cases_lt b 91) [
    | inl letter ↦ let same = cond-false (nat_lt b 65) b (cond (nat_lt b 91) (b + 32) b) (le-ltb b 65 above) ∙ cond-true (nat_lt b 91) (b + 32) b (lt-ltb b 91 letter) in omega (arith, same)
    | inr past ↦ let same = cond-false (nat_lt b 65) b (cond (nat_lt b 91) (b + 32) b) (le-ltb b 65 above) ∙ cond-false (nat_lt b 91) (b + 32) b (le-ltb b 91 past) in omega (arith, same)
  ]
]

lower-IsAscii : (bytes : List ℕ) → IsAscii bytes → IsAscii (str_to_ascii_lowercase bytes)
lower-IsAscii [] are i = are i
lower-IsAscii (b ∷ bytes) are zero = lower-small b (are 0)
lower-IsAscii (b ∷ bytes) are (suc i) = lower-IsAscii bytes (λ k. are (suc k)) i

java-lower : (bytes : List ℕ) → IsAscii bytes → Java (units (str_to_ascii_lowercase bytes)) ≡ Java (str_to_ascii_lowercase bytes)
java-lower bytes are = ap Java (units-IsAscii (str_to_ascii_lowercase bytes) (lower-IsAscii bytes are))

java-in_range : (hash : ℕ) (us : List ℕ) → hash < 2 ^ 32 → fold java_step hash us < 2 ^ 32
java-in_range hash [] small = small
java-in_range hash (u ∷ us) small = java-in_range (java_step hash u) us (omega arith)

-- the hash of a whole name, where it is that of the bytes up to the end in lower case
pub java-name : (name bytes : List ℕ) (at hash : ℕ) (z : ℤ) → bytes ≡ name → length bytes ≤ at → IsAscii (take at bytes)
    → hash ≡ Java (str_to_ascii_lowercase (take at bytes)) → z ≡ cast_signed w32 hash
    → cast_signed w32 (cast_unsigned w32 z) ≡ cast_signed w32 (Java (units (str_to_ascii_lowercase name)))
java-name name bytes at hash z same whole ascii is signed =
    let all = take_all at bytes whole in
    let are : IsAscii name = subst IsAscii (all ∙ same) ascii in
    let full : hash ≡ Java (str_to_ascii_lowercase name) = is ∙ ap (λ (l : List ℕ). Java (str_to_ascii_lowercase l)) (all ∙ same) in
    let small : hash < 2 ^ 32 = omega (arith, is, java-in_range 0 (str_to_ascii_lowercase (take at bytes)) (lit< tt)) in
    ap (λ y. cast_signed w32 (cast_unsigned w32 y)) signed ∙ ap (cast_signed w32) (of_z-to_z w32 hash small) ∙ ap (cast_signed w32) (full ∙ sym (java-lower name are))

-- ---- bytes

pub hash_after-append : (hash : ℕ) (a b : List ℕ) → hash_after hash (a ++ b) ≡ hash_after (hash_after hash a) b
unfolding hash_after
hash_after-append hash a b = ap (fold java_step hash) (map-append sign_extension a b) ∙ fold-append java_step hash (map sign_extension a) (map sign_extension b)

-- the hash with no remainder taken
exact : ℕ → List ℕ → ℕ
exact hash [] = hash
exact hash (b ∷ bytes) = exact (31 * hash + sign_extension b) bytes

exact-scaled : (hash : ℕ) (bytes : List ℕ) → exact hash bytes ≡ hash * 31 ^ length bytes + exact 0 bytes
unfolding exact
exact-scaled hash [] = omega arith
exact-scaled hash (b ∷ bytes) =
    let here = exact-scaled (31 * hash + sign_extension b) bytes in
    let from_zero = exact-scaled (31 * 0 + sign_extension b) bytes in
    let power = pow-suc 31 (length bytes) in
    step hash (sign_extension b) (31 ^ length bytes) (31 ^ suc (length bytes)) (exact 0 bytes) (exact (31 * hash + sign_extension b) bytes) (exact (31 * 0 + sign_extension b) bytes) here from_zero power where
      step : (h s p q e here zero_here : ℕ) → here ≡ (31 * h + s) * p + e → zero_here ≡ (31 * 0 + s) * p + e → q ≡ p * 31 → here ≡ h * q + zero_here
      step h s p q e here zero_here a b c = omega (arith, a, b, ap (λ n. h * n) c)

-- a remainder before a product and a sum changes nothing after them
first-mod : (a p e m : ℕ) → (a % m * p + e) % m ≡ (a * p + e) % m
first-mod a p e m = sym (mod-add-mod (a % m * p) m e) ∙ ap (λ n. (n + e) % m) (mul-mod_first a p m) ∙ mod-add-mod (a * p) m e

exact-mod : (hash : ℕ) (bytes : List ℕ) (m : ℕ) → exact (hash % m) bytes % m ≡ exact hash bytes % m
exact-mod hash bytes m =
    ap (λ n. n % m) (exact-scaled (hash % m) bytes) ∙ first-mod hash (31 ^ length bytes) (exact 0 bytes) m ∙ ap (λ n. n % m) (sym (exact-scaled hash bytes))

hash_after-exact : (hash : ℕ) (bytes : List ℕ) → hash_after hash bytes % 2 ^ 32 ≡ exact hash bytes % 2 ^ 32
unfolding hash_after exact
hash_after-exact hash [] = refl
hash_after-exact hash (b ∷ bytes) =
    hash_after-exact (java_step hash (sign_extension b)) bytes ∙ exact-mod (31 * hash + sign_extension b) bytes (2 ^ 32)

pub hash_after-in_range : (hash : ℕ) (bytes : List ℕ) → hash < 2 ^ 32 → hash_after hash bytes < 2 ^ 32
unfolding hash_after
hash_after-in_range hash [] small = small
hash_after-in_range hash (b ∷ bytes) small = hash_after-in_range (java_step hash (sign_extension b)) bytes (omega arith)

hash_after-mod : (hash : ℕ) (bytes : List ℕ) → hash < 2 ^ 32 → hash_after hash bytes ≡ exact hash bytes % 2 ^ 32
hash_after-mod hash bytes small =
    let range = hash_after-in_range hash bytes small in
    let same : hash_after hash bytes % 2 ^ 32 ≡ hash_after hash bytes = omega arith in
    sym same ∙ hash_after-exact hash bytes

-- the hash before, times the factor of the bytes, plus their own hash
pub hash_after-scaled : (hash : ℕ) (bytes : List ℕ) → hash < 2 ^ 32 → hash_after hash bytes ≡ (hash * hash_factor bytes + hash_after 0 bytes) % 2 ^ 32
unfolding hash_factor
hash_after-scaled hash bytes small =
    let p : ℕ = 31 ^ length bytes in
    let m : ℕ = 2 ^ 32 in
    let e : ℕ = exact 0 bytes in
    hash_after-mod hash bytes small ∙ ap (λ n. n % m) (exact-scaled hash bytes)
    ∙ sym (
    ap (λ n. (hash * (p % m) + n) % m) (hash_after-mod 0 bytes (lit< tt))
    ∙ add-mod-mod (hash * (p % m)) e m
    ∙ sym (mod-add-mod (hash * (p % m)) m e)
    ∙ ap (λ n. (n + e) % m) (mul-mod_second hash p m)
    ∙ mod-add-mod (hash * p) m e
    )

pub hash_factor-append : (a b : List ℕ) → hash_factor (a ++ b) ≡ (hash_factor a * hash_factor b) % 2 ^ 32
unfolding hash_factor
hash_factor-append a b =
    ap (λ n. 31 ^ n % 2 ^ 32) (length-append a b) ∙ ap (λ n. n % 2 ^ 32) (pow-add 31 (length a) (length b)) ∙ mul-mod (31 ^ length a) (31 ^ length b) (2 ^ 32)
