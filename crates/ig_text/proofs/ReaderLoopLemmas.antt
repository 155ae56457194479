-- The steps of the loops that read.
use Rattle.std.proofs.Common.{◌≡◌, ℕ, zero, suc, ◌+◌, ◌-◌, ◌*◌, ◌<◌, ◌≤◌, ◌^◌, ℤ, pos, negsuc, ◌-ℤ◌, to_z, of_z, w64, ◌&&◌, Bool, true, false, cond, List, [], ◌∷◌, ◌++◌, length, take, drop, get_or, set, Result, Ok, Err, eqb, ltb, leb, eq-eqb, refl, sym, ap, ◌∙◌, append_assoc, arith}
use Rattle.std.specs.Char.{is_ascii_digit, digit_value}
use Rattle.std.specs.List.{prefix_len}
use Rattle.std.specs.Str.{all_ascii_digits}
use Rattle.std.specs.Str.Parse.{digits_value, digits_value_after}
use Rattle.std.proofs.lemmas.Bool.{ne_eqb, and_parts, and_from, leb-true, lt-ltb, le-ltb, le-leb, cond-true, cond-false}
use Rattle.std.proofs.lemmas.Int.{to_z_pos, to_z-of_z}
use Rattle.std.proofs.lemmas.List.{drop_all, take_all, take_more_set, append-nil}
use Rattle.ig_text.specs.declared.fault.ReadError.{ReadError}
use Rattle.ig_text.specs.declared.fault.ReadError.TheVariants as error
use Rattle.ig_text.specs.ReaderAnswers.{Fails}
use Rattle.ig_text.specs.Tokens.{comma, minus}
use Rattle.ig_text.specs.ReadText.{Read, ◌>>=◌, mapped_read, checked_read, is_countable, mark_at, is_plain, natural_of, natural_at, signed_at, pair_at, run_at, until_at, next_at, some_at, any_at, items_at}
use Rattle.ig_text.proofs.LoopLemmas.{drop_item}
use Rattle.ig_text.proofs.ReadsLemmas.{done}

-- ---- how many bytes in front pass a test

pub prefix_step : (p : ℕ → Bool) (xs : List ℕ) (i x n : ℕ) → i < length xs → x ≡ get_or xs i x → p x ≡ true → n ≡ i + prefix_len p (drop i xs) → n ≡ (i + 1) + prefix_len p (drop (i + 1) xs)
prefix_step p xs i x n lt item passes before =
    let more : prefix_len p (drop i xs) ≡ 1 + prefix_len p (drop (i + 1) xs) = ap (prefix_len p) (drop_item xs i x lt item) ∙ cond-true (p x) (1 + prefix_len p (drop (i + 1) xs)) 0 passes in
    omega (arith, before, more)

pub prefix_stop : (p : ℕ → Bool) (xs : List ℕ) (i x n : ℕ) → i < length xs → x ≡ get_or xs i x → p x ≡ false → n ≡ i + prefix_len p (drop i xs) → n ≡ i
prefix_stop p xs i x n lt item fails before =
    let none : prefix_len p (drop i xs) ≡ 0 = ap (prefix_len p) (drop_item xs i x lt item) ∙ cond-false (p x) (1 + prefix_len p (drop (i + 1) xs)) 0 fails in
    omega (arith, before, none)

pub prefix_end : (p : ℕ → Bool) (xs : List ℕ) (i n : ℕ) → length xs ≤ i → n ≡ i + prefix_len p (drop i xs) → n ≡ i
prefix_end p xs i n le before =
    let none : prefix_len p (drop i xs) ≡ 0 = ap (prefix_len p) (drop_all i xs le) in
    omega (arith, before, none)

-- ---- items up to a byte

-- the same reading, with these items in front
abbrev pub with_front : {A : Type 0} → List A → Read (List A) → Read (List A)
with_front front r = mapped_read (λ xs. front ++ xs) r

pub with_none : {A : Type 0} (r : Read (List A)) → with_front [] r ≡ r
with_none (Ok (xs, s)) = refl
with_none (Err left) = refl

-- the text doesn't begin with this byte
abbrev pub IsNotBefore : ℕ → List ℕ → Type 0
IsNotBefore b s = (t : List ℕ) → s ≡ b ∷ t → ⊥

pub front_more : {A : Type 0} (front : List A) (x : A) (r : Read (List A)) → with_front front (r >>= λ xs. done (x ∷ xs.0, xs.1)) ≡ with_front (front ++ x ∷ []) r
front_more front x (Ok (xs, s)) = ap (λ l. done (l, s)) (sym (append_assoc front (x ∷ []) xs))
front_more front x (Err left) = refl

step_on : {A : Type 0} (R : List ℕ → Read A) (close n : ℕ) (s : List ℕ) (r : Read A) → R [] ≡ Err 0 → IsNotBefore close s → R s ≡ r → until_at R close (suc n) s ≡ (r >>= λ x. until_at R close n x.1 >>= λ xs. done (x.0 ∷ xs.0, xs.1))
step_on R close n [] r none other e = ap (λ q. q >>= λ x. until_at R close n x.1 >>= λ xs. done (x.0 ∷ xs.0, xs.1)) (sym none ∙ e)
step_on R close n (b ∷ s) r none other e = rw (ne_eqb b close (λ same. other s (ap (λ (c : ℕ). c ∷ s) same)), e) refl

pub counted_down : (most counter : ℕ) → counter < most → most - counter ≡ suc (most - (counter + 1))
counted_down most counter lt = omega (arith, lt)

-- one more item is read
pub until_more : {A : Type 0} (R : List ℕ → Read A) (close most counter : ℕ) (s : List ℕ) (front : List A) (x : A) (rest : List ℕ) (whole : Read (List A)) → R [] ≡ Err 0 → counter < most → IsNotBefore close s → R s ≡ Ok (x, rest) →
    with_front front (until_at R close (most - counter) s) ≡ whole → with_front (front ++ x ∷ []) (until_at R close (most - (counter + 1)) rest) ≡ whole
until_more R close most counter s front x rest whole none lt other e before =
    let n : ℕ = most - (counter + 1) in
    sym (front_more front x (until_at R close n rest)) ∙ ap (with_front front) (sym (step_on R close n s (Ok (x, rest)) none other e)) ∙ ap (λ (k : ℕ). with_front front (until_at R close k s)) (sym (counted_down most counter lt)) ∙ before

-- an item is wrong
pub until_fails : {A : Type 0} (R : List ℕ → Read A) (close most counter : ℕ) (s : List ℕ) (front : List A) (left : ℕ) (whole : Read (List A)) → R [] ≡ Err 0 → counter < most → IsNotBefore close s → R s ≡ Err left →
    with_front front (until_at R close (most - counter) s) ≡ whole → whole ≡ Err left
until_fails R close most counter s front left whole none lt other e before =
    sym before ∙ ap (λ (k : ℕ). with_front front (until_at R close k s)) (counted_down most counter lt) ∙ ap (with_front front) (step_on R close (most - (counter + 1)) s (Err left) none other e)

-- the byte that closes the items
pub until_closed : {A : Type 0} (R : List ℕ → Read A) (close most counter : ℕ) (s rest : List ℕ) (front : List A) (whole : Read (List A)) → counter < most → s ≡ close ∷ rest →
    with_front front (until_at R close (most - counter) s) ≡ whole → whole ≡ Ok (front, rest)
until_closed R close most counter s rest front whole lt is before =
    let n : ℕ = most - (counter + 1) in
    let one : until_at R close (suc n) (close ∷ rest) ≡ Ok ([], rest) = rw (eq-eqb close close refl) refl in
    sym before ∙ ap (λ (k : ℕ). with_front front (until_at R close k s)) (counted_down most counter lt) ∙ ap (λ (t : List ℕ). with_front front (until_at R close (suc n) t)) is ∙ ap (with_front front) one
    ∙ ap (λ l. done (l, rest)) (append-nil front)

-- nothing closes them
pub until_out : {A : Type 0} (R : List ℕ → Read A) (close most counter : ℕ) (s : List ℕ) (front : List A) (whole : Read (List A)) → most ≤ counter → with_front front (until_at R close (most - counter) s) ≡ whole → whole ≡ Err (length s)
until_out R close most counter s front whole le before =
    let none : most - counter ≡ 0 = omega (arith, le) in
    sym before ∙ ap (λ (k : ℕ). with_front front (until_at R close k s)) none

-- ---- the first item, and the others after commas

pub any_empty : {A : Type 0} (R : List ℕ → Read A) (close : ℕ) (s rest : List ℕ) → s ≡ close ∷ rest → any_at R close s ≡ Ok ([], rest)
any_empty R close s rest is = ap (any_at R close) is ∙ rw (eq-eqb close close refl) refl

pub any_some : {A : Type 0} (R : List ℕ → Read A) (close : ℕ) (s : List ℕ) → IsNotBefore close s → any_at R close s ≡ some_at R close s
any_some R close [] other = refl
any_some R close (b ∷ s) other = rw (ne_eqb b close (λ same. other s (ap (λ (c : ℕ). c ∷ s) same))) refl

pub first_wrong : {A : Type 0} (R : List ℕ → Read A) (close : ℕ) (s : List ℕ) (left : ℕ) → R s ≡ Err left → some_at R close s ≡ Err left
first_wrong R close s left e = rw e refl

pub first_read : {A : Type 0} (R : List ℕ → Read A) (close : ℕ) (s : List ℕ) (x : A) (rest : List ℕ) → R s ≡ Ok (x, rest) → with_front (x ∷ []) (until_at (next_at R) close (length rest) rest) ≡ some_at R close s
first_read R close s x rest e = rw e refl

-- the item after a comma
pub next_read : {A : Type 0} (R : List ℕ → Read A) (s t : List ℕ) (r : Read A) → mark_at comma s ≡ Ok (tt, t) → R t ≡ r → next_at R s ≡ r
next_read R s t r mark e = rw mark e

pub no_comma : {A : Type 0} (R : List ℕ → Read A) (s : List ℕ) (left : ℕ) → mark_at comma s ≡ Err left → next_at R s ≡ Err left
no_comma R s left mark = rw mark refl

-- the items are those that were read, if they are countable
pub items_are : {A : Type 0} (R : List ℕ → Read A) (close : ℕ) (s : List ℕ) (r : Read (List A)) → any_at R close s ≡ r → items_at R close s ≡ checked_read is_countable (length s) r
items_are R close s r e = ap (checked_read is_countable (length s)) e

-- ---- the value of digits

digit_is : (x : ℕ) → is_ascii_digit x ≡ true → (48 ≤ x) × (x ≤ 57) × (digit_value x ≡ x - 48)
digit_is x is =
    let p = and_parts (leb 48 x) (leb x 57) is in
    let least : 48 ≤ x = leb-true 48 x p.0 in
    let most : x ≤ 57 = leb-true x 57 p.1 in
    let above : ltb x 48 ≡ false = le-ltb x 48 least in
    let below : ltb x 58 ≡ true = lt-ltb x 58 (omega (arith, most)) in
    (least, most, rw (above, below) refl)

grows : (n : ℕ) (ds : List ℕ) → n ≤ digits_value_after 10 n ds
grows n [] = omega arith
grows n (d ∷ ds) = omega (arith, grows (n * 10 + digit_value d) ds)

-- one more digit is counted
pub digit_step : (ds : List ℕ) (i x n whole : ℕ) → i < length ds → x ≡ get_or ds i x → is_ascii_digit x ≡ true → digits_value_after 10 n (drop i ds) ≡ whole → digits_value_after 10 (n * 10 + (x - 48)) (drop (i + 1) ds) ≡ whole
digit_step ds i x n whole lt item is before =
    let d = digit_is x is in
    ap (λ (k : ℕ). digits_value_after 10 (n * 10 + k) (drop (i + 1) ds)) (sym d.2) ∙ ap (digits_value_after 10 n) (sym (drop_item ds i x lt item)) ∙ before

-- there is room for it, and the digit isn't below `0`
pub digit_room : (ds : List ℕ) (i x n whole : ℕ) → i < length ds → x ≡ get_or ds i x → is_ascii_digit x ≡ true → digits_value_after 10 n (drop i ds) ≡ whole → (48 ≤ x) × (n * 10 + (x - 48) ≤ whole)
digit_room ds i x n whole lt item is before =
    let d = digit_is x is in
    let next = digit_step ds i x n whole lt item is before in
    (d.0, omega (arith, grows (n * 10 + (x - 48)) (drop (i + 1) ds), next))

pub digits_done : (ds : List ℕ) (i n whole : ℕ) → length ds ≤ i → digits_value_after 10 n (drop i ds) ≡ whole → n ≡ whole
digits_done ds i n whole le before = ap (digits_value_after 10 n) (sym (drop_all i ds le)) ∙ before

-- ---- marks

pub mark_missing : (b : ℕ) (s : List ℕ) → IsNotBefore b s → mark_at b s ≡ Err (length s)
mark_missing b [] other = refl
mark_missing b (c ∷ s) other = rw (ne_eqb c b (λ same. other s (ap (λ (d : ℕ). d ∷ s) same))) refl

pub mark_there : (b : ℕ) (s t : List ℕ) → s ≡ b ∷ t → mark_at b s ≡ Ok (tt, t)
mark_there b s t is = ap (mark_at b) is ∙ rw (eq-eqb b b refl) refl

-- ---- a number

-- the digits of a list of digits
pub digit_at : (ds : List ℕ) (i x : ℕ) → all_ascii_digits ds ≡ true → i < length ds → x ≡ get_or ds i x → is_ascii_digit x ≡ true
digit_at [] i x all lt is = absurd (omega (arith, lt))
digit_at (d ∷ ds) zero x all lt is = ap is_ascii_digit is ∙ (and_parts (is_ascii_digit d) (all_ascii_digits ds) all).0
digit_at (d ∷ ds) (suc i) x all lt is = digit_at ds i x (and_parts (is_ascii_digit d) (all_ascii_digits ds) all).1 (omega (arith, lt)) is

pub natural_wrong : (s ds : List ℕ) (len : ℕ) → len ≡ prefix_len is_ascii_digit s → ds ≡ take len s → is_plain ds ≡ false → natural_at s ≡ Err (length s)
natural_wrong s ds len is front not_plain =
    ap (λ (k : ℕ). natural_of k s) (sym is) ∙ cond-false (is_plain (take len s)) (done (digits_value 10 (take len s), drop len s)) (Err (length s)) (ap is_plain (sym front) ∙ not_plain)

pub natural_read : (s ds rest : List ℕ) (len n : ℕ) → len ≡ prefix_len is_ascii_digit s → ds ≡ take len s → rest ≡ drop len s → is_plain ds ≡ true → n ≡ digits_value 10 ds → natural_at s ≡ Ok (n, rest)
natural_read s ds rest len n is front back plain value =
    ap (λ (k : ℕ). natural_of k s) (sym is) ∙ cond-true (is_plain (take len s)) (done (digits_value 10 (take len s), drop len s)) (Err (length s)) (ap is_plain (sym front) ∙ plain)
    ∙ ap (λ (l : List ℕ). done (digits_value 10 l, drop len s)) (sym front) ∙ ap (λ (l : List ℕ). done (digits_value 10 ds, l)) (sym back) ∙ ap (λ (m : ℕ). done (m, rest)) (sym value)

-- ---- bytes from pairs of digits

-- one more byte is read, and written into its place
pub run_more : (upper : Bool) (into : List ℕ) (i n : ℕ) (s rest : List ℕ) (x : ℕ) (whole : Read (List ℕ)) → i < length into → length into ≡ n → pair_at upper s ≡ Ok (x, rest) →
    with_front (take i into) (run_at upper (n - i) s) ≡ whole → with_front (take (i + 1) (set into i x)) (run_at upper (n - (i + 1)) rest) ≡ whole
run_more upper into i n s rest x whole lt len e before =
    let k : ℕ = n - (i + 1) in
    let one : run_at upper (suc k) s ≡ (run_at upper k rest >>= λ xs. done (x ∷ xs.0, xs.1)) = rw e refl in
    ap (λ (f : List ℕ). with_front f (run_at upper k rest)) (take_more_set into i x lt) ∙ sym (front_more (take i into) x (run_at upper k rest)) ∙ ap (with_front (take i into)) (sym one)
    ∙ ap (λ (m : ℕ). with_front (take i into) (run_at upper m s)) (sym (counted_down n i (omega (arith, lt, len)))) ∙ before

pub run_fails : (upper : Bool) (into : List ℕ) (i n : ℕ) (s : List ℕ) (left : ℕ) (whole : Read (List ℕ)) → i < length into → length into ≡ n → pair_at upper s ≡ Err left →
    with_front (take i into) (run_at upper (n - i) s) ≡ whole → whole ≡ Err left
run_fails upper into i n s left whole lt len e before =
    let one : run_at upper (suc (n - (i + 1))) s ≡ Err left = rw e refl in
    sym before ∙ ap (λ (m : ℕ). with_front (take i into) (run_at upper m s)) (counted_down n i (omega (arith, lt, len))) ∙ ap (with_front (take i into)) one

pub run_done : (upper : Bool) (into : List ℕ) (i n : ℕ) (s : List ℕ) (whole : Read (List ℕ)) → length into ≤ i → length into ≡ n → with_front (take i into) (run_at upper (n - i) s) ≡ whole → whole ≡ Ok (into, s)
run_done upper into i n s whole le len before =
    let none : n - i ≡ 0 = omega (arith, le, len) in
    sym before ∙ ap (λ (m : ℕ). with_front (take i into) (run_at upper m s)) none ∙ ap (λ (l : List ℕ). done (l, s)) (append-nil (take i into) ∙ take_all i into le)

-- a byte is wrong, or memory ran out
pub run_stops : (upper : Bool) (into : List ℕ) (i n : ℕ) (s : List ℕ) (e : ReadError) (whole : Read (List ℕ)) → i < length into → length into ≡ n → Fails e (pair_at upper s) → with_front (take i into) (run_at upper (n - i) s) ≡ whole → Fails e whole
run_stops upper into i n s error.NoMemory whole lt len e before = tt
run_stops upper into i n s (error.Bad left) whole lt len e before = run_fails upper into i n s left whole lt len e before

-- ---- a number below zero

minus_one : (k : ℕ) → negsuc 0 -ℤ pos k ≡ negsuc k
minus_one zero = refl
minus_one (suc k) = let e : 0 + k ≡ k = omega arith in ap (λ (m : ℕ). negsuc (suc m)) e

minus_from : (k : ℕ) → k < 2 ^ 63 → to_z w64 (of_z w64 (negsuc 0 -ℤ to_z w64 k)) ≡ negsuc k
minus_from k lt =
    ap (λ (z : ℤ). to_z w64 (of_z w64 (negsuc 0 -ℤ z))) (to_z_pos w64 k lt) ∙ ap (λ (z : ℤ). to_z w64 (of_z w64 z)) (minus_one k) ∙ to_z-of_z w64 (negsuc k) (record { sfits = omega (arith, lt) })

pub minus_there : (limit : ℕ) (s t rest : List ℕ) (n : ℕ) → s ≡ minus ∷ t → natural_at t ≡ Ok (n, rest) → 0 < n → n ≤ limit → limit ≤ 2 ^ 63 →
    signed_at limit s ≡ Ok (to_z w64 (of_z w64 (negsuc 0 -ℤ to_z w64 (n - 1))), rest)
minus_there limit s t rest n is e some few most =
    let passes : (ltb 0 n && leb n limit) ≡ true = and_from (ltb 0 n) (leb n limit) (lt-ltb 0 n some) (le-leb n limit few) in
    let read : signed_at limit (minus ∷ t) ≡ Ok (negsuc (n - 1), rest) = rw (e, passes) refl in
    ap (signed_at limit) is ∙ read ∙ ap (λ (z : ℤ). done (z, rest)) (sym (minus_from (n - 1) (omega (arith, some, few, most))))
