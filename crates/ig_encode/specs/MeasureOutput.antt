-- What a measure counts and hashes.
use Rattle.std.specs.Prelude.{◌≡◌, ℕ, ◌+◌, ◌-◌, ◌*◌, ◌/◌, ◌%◌, ◌^◌, max, min, Option, None, Some, List, [], ◌++◌, length, fold}
use Rattle.std.proofs.Common.{refl, ap, ◌∙◌, arith, length-append}
use Rattle.std.proofs.lemmas.List.Sums.{fold-append}
use Rattle.ig_base.specs.Hashes.{java_step, sign_extension}
use Rattle.ig_encode.specs.declared.length.Length.{Length}
use Rattle.ig_encode.specs.declared.measure.Digest.{Digest}
use Rattle.ig_encode.specs.declared.measure.Measure.{Measure}

-- ---- lengths

-- the greatest high number
abbrev pub most : ℕ
most = 2 ^ 128 - 1

-- how often the low number passes 2^64 as more bytes are counted
abbrev pub carry_count : ℕ → ℕ → ℕ
carry_count low more = (low + more) / 2 ^ 64 - low / 2 ^ 64

-- the length after more bytes
abbrev pub count_after : Length → ℕ → Length
count_after n more = record { low = n.low + more - 2 ^ 64 * carry_count n.low more; high = max n.high (min (n.high + carry_count n.low more) most) }

-- the length of no bytes
abbrev pub no_length : Length
no_length = record { low = 0; high = 0 }

-- ---- digests

-- the digest after one more byte
abbrev pub digest_step : Digest → ℕ → Digest
digest_step d byte = record { pow = (d.pow * 31) % 2 ^ 32; sum = java_step d.sum (sign_extension byte) }

-- the digest after more bytes
unfoldable pub digest_after : Digest → List ℕ → Digest
digest_after d bytes = fold digest_step d bytes

-- the digest of no bytes
abbrev pub no_digest : Digest
no_digest = record { pow = 1; sum = 0 }

abbrev pub hashed_after : Option Digest → List ℕ → Option Digest
hashed_after None bytes = None
hashed_after (Some d) bytes = Some (digest_after d bytes)

-- ---- measures

-- the measure after more bytes
abbrev pub measure_after : Measure → List ℕ → Measure
measure_after m bytes = record { length = count_after m.length (length bytes); digest = hashed_after m.digest bytes }

-- the measure and the slice after more bytes; the slice is unchanged
abbrev pub measured_after : Measure → List ℕ → List ℕ → Measure × List ℕ
measured_after m into bytes = (measure_after m bytes, into)

abbrev pub started : Option Digest → Option Digest
started None = None
started (Some d) = Some no_digest

-- the measure of no bytes, with a digest where the other has one
abbrev pub fresh_of : Measure → Measure
fresh_of m = record { length = no_length; digest = started m.digest }

-- the measures of no bytes: one that only counts, and one that hashes too
abbrev pub counting_start : Measure
counting_start = record { length = no_length; digest = None }

abbrev pub hashing_start : Measure
hashing_start = record { length = no_length; digest = Some no_digest }

-- ---- the laws of an output

count_same : (n m : Length) → n.low ≡ m.low → n.high ≡ m.high → n ≡ m
count_same n m low high = ap (λ (k : ℕ). record { low = k; high = n.high }) low ∙ ap (λ (k : ℕ). record { low = m.low; high = k }) high

counted_empty : (n : Length) → count_after n 0 ≡ n
counted_empty n = count_same (count_after n 0) n (omega arith) (omega arith)

counted_longer : (n : Length) (p q : List ℕ) → count_after n (length (p ++ q)) ≡ count_after (count_after n (length p)) (length q)
counted_longer n p q =
    count_same (count_after n (length (p ++ q))) (count_after (count_after n (length p)) (length q)) (omega (arith, length-append p q)) (omega (arith, length-append p q))

hashed_empty : (d : Option Digest) → hashed_after d [] ≡ d
unfolding digest_after
hashed_empty None = refl
hashed_empty (Some d) = refl

hashed_longer : (d : Option Digest) (p q : List ℕ) → hashed_after d (p ++ q) ≡ hashed_after (hashed_after d p) q
unfolding digest_after
hashed_longer None p q = refl
hashed_longer (Some d) p q = ap Some (fold-append digest_step d p q)

abbrev beside : List ℕ → Length → Option Digest → Measure × List ℕ
beside into n d = (record { length = n; digest = d }, into)

measure_same : (into : List ℕ) (n m : Length) (d e : Option Digest) → n ≡ m → d ≡ e → beside into n d ≡ beside into m e
measure_same into n m d e p q = ap (λ k. beside into k d) p ∙ ap (beside into m) q

pub measured_empty : (m : Measure) (into : List ℕ) → measured_after m into [] ≡ (m, into)
measured_empty m into = measure_same into (count_after m.length 0) m.length (hashed_after m.digest []) m.digest (counted_empty m.length) (hashed_empty m.digest)

pub measured_longer : (m : Measure) (into p q : List ℕ) → measured_after m into (p ++ q) ≡ measured_after (measured_after m into p).0 (measured_after m into p).1 q
measured_longer m into p q =
    measure_same into (count_after m.length (length (p ++ q))) (count_after (count_after m.length (length p)) (length q)) (hashed_after m.digest (p ++ q)) (hashed_after (hashed_after m.digest p) q)
    (counted_longer m.length p q) (hashed_longer m.digest p q)
