-- Digests of bytes that are laid end to end.
use Rattle.std.proofs.Common.{◌≡◌, ℕ, suc, ◌+◌, ◌*◌, ◌%◌, ◌^◌, ◌<◌, List, [], ◌∷◌, ◌++◌, length, take, drop, get_or, refl, sym, ap, ◌∙◌, arith, lit<}
use Rattle.std.proofs.lemmas.Nat.{mul-mod_first, mul-mod_second}
use Rattle.std.proofs.Math.Nat.{pow-suc, mod-add-mod}
use Rattle.std.proofs.lemmas.Grind.{take_at_read}
use Rattle.std.proofs.lemmas.List.{take-append-drop}
use Rattle.std.proofs.lemmas.List.Sums.{fold-append}
use Rattle.ig_base.specs.Hashes.{hash_after, hash_factor}
use Rattle.ig_base.proofs.HashLemmas.{hash_after-scaled}
use Rattle.ig_encode.specs.declared.measure.Digest.{Digest}
use Rattle.ig_encode.specs.MeasureOutput.{digest_step, digest_after, no_digest}

digest_same : (d e : Digest) → d.pow ≡ e.pow → d.sum ≡ e.sum → d ≡ e
digest_same d e p s = ap (λ (n : ℕ). record { pow = n; sum = d.sum }) p ∙ ap (λ (n : ℕ). record { pow = e.pow; sum = n }) s

pow_after : (d : Digest) (bytes : List ℕ) → d.pow < 2 ^ 32 → (digest_after d bytes).pow ≡ (d.pow * 31 ^ length bytes) % 2 ^ 32
unfolding digest_after
pow_after d [] lt = omega (arith, lt)
pow_after d (b ∷ bytes) lt =
    let p : ℕ = 31 ^ length bytes in
    pow_after (digest_step d b) bytes (omega arith) ∙ mul-mod_first (d.pow * 31) p (2 ^ 32) ∙ ap (λ n. n % 2 ^ 32) (grouped d.pow p (31 ^ suc (length bytes)) (pow-suc 31 (length bytes))) where
      grouped : (a p q : ℕ) → q ≡ p * 31 → (a * 31) * p ≡ a * q
      grouped a p q e = omega (arith, ap (λ n. a * n) e)

sum_after : (d : Digest) (bytes : List ℕ) → (digest_after d bytes).sum ≡ hash_after d.sum bytes
unfolding digest_after hash_after
sum_after d [] = refl
sum_after d (b ∷ bytes) = sum_after (digest_step d b) bytes

factor_is : (bytes : List ℕ) → (digest_after no_digest bytes).pow ≡ hash_factor bytes
unfolding hash_factor
factor_is bytes = pow_after no_digest bytes (lit< tt) ∙ ap (λ n. n % 2 ^ 32) (let one : 1 * 31 ^ length bytes ≡ 31 ^ length bytes = omega arith in one)

factor_pow : (d : Digest) (bytes : List ℕ) → d.pow < 2 ^ 32 → (d.pow * hash_factor bytes) % 2 ^ 32 ≡ (digest_after d bytes).pow
unfolding hash_factor
factor_pow d bytes lt = mul-mod_second d.pow (31 ^ length bytes) (2 ^ 32) ∙ sym (pow_after d bytes lt)

-- the digest after bytes, by their own digest
pub composed : (d m : Digest) (bytes : List ℕ) → d.pow < 2 ^ 32 → d.sum < 2 ^ 32 → m ≡ digest_after no_digest bytes →
    record { pow = (d.pow * m.pow) % 2 ^ 32; sum = ((d.sum * m.pow) % 2 ^ 32 + m.sum) % 2 ^ 32 } ≡ digest_after d bytes
composed d m bytes p s is =
    let factor : m.pow ≡ hash_factor bytes = ap (λ (e : Digest). e.pow) is ∙ factor_is bytes in
    let hash : m.sum ≡ hash_after 0 bytes = ap (λ (e : Digest). e.sum) is ∙ sum_after no_digest bytes in
    digest_same (record { pow = (d.pow * m.pow) % 2 ^ 32; sum = ((d.sum * m.pow) % 2 ^ 32 + m.sum) % 2 ^ 32 }) (digest_after d bytes)
    (ap (λ n. (d.pow * n) % 2 ^ 32) factor ∙ factor_pow d bytes p)
    (mod-add-mod (d.sum * m.pow) (2 ^ 32) m.sum ∙ ap (λ n. (d.sum * n + m.sum) % 2 ^ 32) factor ∙ ap (λ n. (d.sum * hash_factor bytes + n) % 2 ^ 32) hash ∙ sym (hash_after-scaled d.sum bytes s) ∙ sym (sum_after d bytes))

-- the digest of the first bytes, and one more
pub digest_more : (d : Digest) (bytes : List ℕ) (i : ℕ) → i < length bytes → digest_after d (take (i + 1) bytes) ≡ digest_step (digest_after d (take i bytes)) (get_or bytes i 0)
unfolding digest_after
digest_more d bytes i lt = ap (digest_after d) (take_at_read bytes i 0 lt).1 ∙ fold-append digest_step d (take i bytes) (get_or bytes i 0 ∷ [])

pub hash_whole : (d : Digest) (bytes : List ℕ) → (digest_after d bytes).sum ≡ hash_after d.sum bytes
hash_whole d bytes = sum_after d bytes

-- the hash from 1, by the digest
pub hash_from_one : (m : Digest) (bytes : List ℕ) → m ≡ digest_after no_digest bytes → (m.pow + m.sum) % 2 ^ 32 ≡ hash_after 1 bytes
hash_from_one m bytes is =
    let factor : m.pow ≡ hash_factor bytes = ap (λ (e : Digest). e.pow) is ∙ factor_is bytes in
    let hash : m.sum ≡ hash_after 0 bytes = ap (λ (e : Digest). e.sum) is ∙ sum_after no_digest bytes in
    let one : m.pow ≡ 1 * m.pow = omega arith in
    ap (λ n. (n + m.sum) % 2 ^ 32) one ∙ ap (λ n. (1 * n + m.sum) % 2 ^ 32) factor ∙ ap (λ n. (1 * hash_factor bytes + n) % 2 ^ 32) hash ∙ sym (hash_after-scaled 1 bytes (lit< tt))

digest_both : (d : Digest) (p q : List ℕ) → digest_after d (p ++ q) ≡ digest_after (digest_after d p) q
unfolding digest_after
digest_both d p q = fold-append digest_step d p q

-- the first bytes were hashed, and the others are
pub hashed_on : (d e : Digest) (xs front back : List ℕ) (n : ℕ) → front ≡ take n xs → back ≡ drop n xs → e ≡ digest_after d front → digest_after e back ≡ digest_after d xs
hashed_on d e xs front back n first others is =
    let both : front ++ back ≡ xs = ap (λ (l : List ℕ). l ++ back) first ∙ ap (λ (l : List ℕ). take n xs ++ l) others ∙ take-append-drop n xs in
    ap (λ (s : Digest). digest_after s back) is ∙ sym (digest_both d front back) ∙ ap (digest_after d) both
