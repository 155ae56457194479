-- Reading many, one after the other, as a loop does.
use Rattle.std.proofs.Common.{◌≡◌, ℕ, suc, ◌-◌, ◌+◌, ◌*◌, ◌/◌, ◌≤◌, ◌<◌, min, List, [], ◌∷◌, ◌++◌, length, take, drop, Result, Ok, Err, refl, sym, ap, ◌∙◌, append_assoc, arith}
use Rattle.std.proofs.lemmas.List.{append-nil}
use Rattle.std.proofs.Math.Nat.{mul-le-mul_right, div-mul-le_self, div-add-mod, mod-lt}
use Rattle.ig_value.specs.declared.cause.Cause.{Cause}
use Rattle.ig_value.specs.Reading.{Read, ◌>>=◌, item_at, many_at}
use Rattle.ig_value.proofs.ItemLemmas.{item_whole}
use Rattle.ig_decode.specs.declared.fault.ReadError.{ReadError}
use Rattle.ig_decode.specs.declared.fault.ReadError.TheVariants as error
use Rattle.ig_decode.specs.ReaderAnswers.{Fails}

-- what was read before, and what is still read
abbrev pub with_front : {A : Type 0} → List A → Read (List A) → Read (List A)
with_front front read = read >>= λ x. Ok (front ++ x.0, x.1)

regroup : {A : Type 0} (front : List A) (x : A) (read : Read (List A)) → with_front front (read >>= λ xs. Ok (x ∷ xs.0, xs.1)) ≡ with_front (front ++ x ∷ []) read
regroup {A} front x (Ok xs) = ap (λ (l : List A). Ok (l, xs.1)) (simp append_assoc)
regroup front x (Err f) = refl

-- one more item was read, of those that are left
pub one_read : {A : Type 0} (one : List ℕ → Read A) (front : List A) (left left' : ℕ) (bytes : List ℕ) (x : A) (after : List ℕ) (total : Read (List A)) → left ≡ suc left' → one bytes ≡ Ok (x, after)
    → with_front front (many_at one left bytes) ≡ total → with_front (front ++ x ∷ []) (many_at one left' after) ≡ total
one_read one front left left' bytes x after total k h so_far =
    let step : with_front front (many_at one left bytes) ≡ with_front (front ++ x ∷ []) (many_at one left' after) = rw (k, h) (regroup front x (many_at one left' after)) in
    sym step ∙ so_far

-- one of those that are left could not be read
pub one_failed : {A : Type 0} (one : List ℕ → Read A) (e : ReadError) (front : List A) (left left' : ℕ) (bytes : List ℕ) (total : Read (List A)) → left ≡ suc left' → Fails e (one bytes)
    → with_front front (many_at one left bytes) ≡ total → Fails e total
one_failed one error.NoMemory front left left' bytes total k h so_far = tt
one_failed one (error.Fault rest c) front left left' bytes total k h so_far =
    let step : with_front front (many_at one left bytes) ≡ Err (rest, c) = rw (k, h) refl in
    sym so_far ∙ step

-- none is left
pub all_read : {A : Type 0} (one : List ℕ → Read A) (front : List A) (left : ℕ) (bytes : List ℕ) (total : Read (List A)) → left ≡ 0 → with_front front (many_at one left bytes) ≡ total → total ≡ Ok (front, bytes)
all_read {A} one front left bytes total k so_far =
    let step : with_front front (many_at one left bytes) ≡ Ok (front, bytes) = rw k (ap (λ (l : List A). Ok (l, bytes)) (append-nil front)) in
    sym so_far ∙ step

-- the same of a loop that counts up to the number of items
pub goes_on : {A : Type 0} (one : List ℕ → Read A) (front : List A) (count i : ℕ) (bytes : List ℕ) (x : A) (after : List ℕ) (total : Read (List A)) → i < count → one bytes ≡ Ok (x, after)
    → with_front front (many_at one (count - i) bytes) ≡ total → with_front (front ++ x ∷ []) (many_at one (count - (i + 1)) after) ≡ total
goes_on one front count i bytes x after total lt h so_far = one_read one front (count - i) (count - (i + 1)) bytes x after total (omega arith) h so_far

pub ends : {A : Type 0} (one : List ℕ → Read A) (e : ReadError) (front : List A) (count i : ℕ) (bytes : List ℕ) (total : Read (List A)) → i < count → Fails e (one bytes)
    → with_front front (many_at one (count - i) bytes) ≡ total → Fails e total
ends one e front count i bytes total lt h so_far = one_failed one e front (count - i) (count - (i + 1)) bytes total (omega arith) h so_far

-- ---- items of a fixed number of bytes

pub item_found : {A : Type 0} (n : ℕ) (of : List ℕ → Result A Cause) (s front back : List ℕ) (x : A) → n ≤ length s → front ≡ take n s → back ≡ drop n s → Ok x ≡ of front → item_at n of s ≡ Ok (x, back)
item_found n of s front back x le f b e = item_whole n of s le ∙ rw (← f, ← b, ← e) refl

pub item_wrong : {A : Type 0} (n : ℕ) (of : List ℕ → Result A Cause) (s front : List ℕ) (c : Cause) → n ≤ length s → front ≡ take n s → Err c ≡ of front → item_at n of s ≡ Err (length s, c)
item_wrong n of s front c le f e = item_whole n of s le ∙ rw (← f, ← e) refl

-- there is room for one more element where fewer than the whole ones were taken
pub one_more : (width k whole len rest : ℕ) → whole * width ≤ len → rest + k * width ≡ len → k < whole → width ≤ rest
one_more width k whole len rest le there lt =
    let lt' : suc k ≤ whole = omega arith in
    let room = mul-le-mul_right width lt' in
    omega arith

-- and none where all were
pub none_more : (width whole len rest : ℕ) → 0 < width → whole ≡ len / width → rest + whole * width ≡ len → rest < width
none_more width whole len rest some is there =
    let same : width * whole ≡ width * (len / width) = ap (λ (n : ℕ). width * n) is in
    omega (arith, div-add-mod len width, mod-lt len some)

pub whole_fits : (width whole count len : ℕ) → whole ≡ min count (len / width) → whole * width ≤ len
whole_fits width whole count len is =
    let le : whole ≤ len / width = omega arith in
    let a = mul-le-mul_right width le in
    omega (arith, div-mul-le_self len width)
