-- Numbers in decimal are read as they are written.
use Rattle.std.proofs.Common.{◌≡◌, ℕ, zero, suc, ◌+◌, ◌-◌, ◌<◌, ◌≤◌, ◌^◌, ℤ, pos, negsuc, Bool, true, false, cond, not, ◌&&◌, List, [], ◌∷◌, ◌++◌, length, take, drop, get_or, Ok, Err, eqb, ltb, leb, eq-eqb, refl, sym, ap, subst, ◌∙◌, arith, inl, inr}
use Rattle.std.specs.Prelude.{FitsSigned}
use Rattle.std.specs.Char.{is_ascii_digit}
use Rattle.std.specs.Int.{Width, w8, w16, w32, w64, is_in_range}
use Rattle.std.specs.List.{prefix_len, take_while}
use Rattle.std.specs.Str.{all_ascii_digits}
use Rattle.std.specs.Str.Parse.{digits_value}
use Rattle.std.specs.Fmt.{decimal, signed_decimal}
use Rattle.std.proofs.lemmas.Bool.{cases_eq, ne_eqb, or_parts, and_parts, and_from, both_ways, not-true, not_from_false, ltb-true, leb-true, lt-ltb, le-leb, cond-true, cond-false}
use Rattle.std.proofs.lemmas.Fmt.{decimal_digit, decimal_nonempty, first_decimal, length-decimal-le, digits_decimal, digits_value-decimal, decimal-digits_value}
use Rattle.std.proofs.lemmas.List.{take_at, drop_at, take-append-drop}
use Rattle.std.proofs.lemmas.List.Sums.{take_while-cons}
use Rattle.std.proofs.lemmas.Str.Parse.{IsNumeralModel, numerals_by_value, tells_all_ascii_digits, digits_value_short}
use mir.Val.{hbits}
use Rattle.ig_text.specs.Tokens.{minus}
use Rattle.ig_text.specs.TextLaws.{Ends}
use Rattle.ig_text.specs.ReadText.{Read, ◌>>=◌, mapped_read, checked_read, is_hex, is_plain, natural_of, natural_at, signed_at}
use Rattle.ig_text.proofs.ReadsLemmas.{Takes, Reads, Refuses, RefusesNone, bind_ok, done, ok_is, passed}

ends_digit : (b : ℕ) → is_hex true b ≡ false → is_ascii_digit b ≡ false
ends_digit b e = (or_parts (is_in_range 48 57 b) (is_in_range 65 70 b) e).0

own : IsNumeralModel (λ ds. all_ascii_digits ds ≡ true) (digits_value 10)
own = numerals_by_value (λ ds. all_ascii_digits ds ≡ true) tells_all_ascii_digits

-- ---- the digits in front

front_one : (b : ℕ) (ds : List ℕ) (t : Bool) → is_ascii_digit b ≡ t → all_ascii_digits ds ≡ true → all_ascii_digits (cond t (b ∷ ds) []) ≡ true
front_one b ds true is h = and_from (is_ascii_digit b) (all_ascii_digits ds) is h
front_one b ds false is h = refl

front_digits : (s : List ℕ) → all_ascii_digits (take_while is_ascii_digit s) ≡ true
front_digits [] = refl
front_digits (b ∷ s) = ap all_ascii_digits (take_while-cons is_ascii_digit b s) ∙ front_one b (take_while is_ascii_digit s) (is_ascii_digit b) refl (front_digits s)

front_len : (ds rest : List ℕ) → all_ascii_digits ds ≡ true → Ends rest → prefix_len is_ascii_digit (ds ++ rest) ≡ length ds
front_len [] [] h ends = refl
front_len [] (b ∷ rest) h ends = cond-false (is_ascii_digit b) (1 + prefix_len is_ascii_digit rest) 0 (ends_digit b ends)
front_len (d ∷ ds) rest h ends =
    let p = and_parts (is_ascii_digit d) (all_ascii_digits ds) h in
    cond-true (is_ascii_digit d) (1 + prefix_len is_ascii_digit (ds ++ rest)) 0 p.0 ∙ omega (arith, front_len ds rest p.1 ends)

plain_parts : (ds : List ℕ) → is_plain ds ≡ true → (0 < length ds) × (get_or ds 0 0 ≡ 48 → length ds ≡ 1) × (length ds ≤ 19)
plain_parts [] p = absurd cc
plain_parts (d ∷ []) p = (omega arith, λ h. refl, omega arith)
plain_parts (d ∷ e ∷ ds) p =
    let q = and_parts (not (eqb d 48)) (ltb (length ds) 18) p in
    (omega arith, λ h. absurd (both_ways (eqb d 48) (not-true (eqb d 48) q.0) (eq-eqb d 48 h)), omega (arith, ltb-true (length ds) 18 q.1))

plain_from : (ds : List ℕ) → 0 < length ds → (get_or ds 0 0 ≡ 48 → length ds ≡ 1) → length ds ≤ 19 → is_plain ds ≡ true
plain_from [] some lead few = absurd (omega (arith, some))
plain_from (d ∷ []) some lead few = refl
plain_from (d ∷ e ∷ ds) some lead few =
    and_from (not (eqb d 48)) (ltb (length ds) 18) (not_from_false (eqb d 48) (ne_eqb d 48 (λ h. let one = lead h in omega (arith, one)))) (lt-ltb (length ds) 18 (omega (arith, few)))

-- the digits of a number that is read, and their bound
pub plain_small : (s ds : List ℕ) (len : ℕ) → len ≡ prefix_len is_ascii_digit s → ds ≡ take len s → is_plain ds ≡ true → (all_ascii_digits ds ≡ true) × (digits_value 10 ds < 10 ^ 19)
plain_small s ds len is front plain =
    let digits : all_ascii_digits ds ≡ true = ap all_ascii_digits (front ∙ ap (λ (k : ℕ). take k s) is) ∙ front_digits s in
    (digits, digits_value_short own ds 19 digits (plain_parts ds plain).2)

lead_decimal : (n : ℕ) → n < 2 ^ 64 → get_or (decimal n) 0 0 ≡ 48 → length (decimal n) ≡ 1
lead_decimal zero big h = ap length (decimal_digit 0 (omega arith))
lead_decimal (suc m) big h = absurd (omega (arith, first_decimal (suc m) (omega arith) big, h))

-- ---- numbers that aren't negative

abbrev IsSmall : ℕ → Type 0
IsSmall n = n < 10 ^ 19

natural_takes : (s : List ℕ) (n : ℕ) (rest : List ℕ) → natural_at s ≡ Ok (n, rest) → Takes IsSmall decimal s n rest
natural_takes s n rest e =
    let k : ℕ = prefix_len is_ascii_digit s in
    let ds : List ℕ = take k s in
    let p = passed (is_plain ds) (digits_value 10 ds, drop k s) (length s) (n, rest) e in
    let f = plain_parts ds p.0 in
    let digits : all_ascii_digits ds ≡ true = front_digits s in
    let small : digits_value 10 ds < 10 ^ 19 = digits_value_short own ds 19 digits f.2 in
    let same : decimal (digits_value 10 ds) ≡ ds = decimal-digits_value own ds digits f.0 f.1 (omega (arith, small)) in
    let all : Takes IsSmall decimal s (digits_value 10 ds) (drop k s) = record { fits = small; whole = sym (take-append-drop k s) ∙ ap (λ (l : List ℕ). l ++ drop k s) (sym same) } in
    subst (λ (z : ℕ × List ℕ). Takes IsSmall decimal s z.0 z.1) p.1 all

natural_front : (ds rest : List ℕ) → is_plain ds ≡ true → natural_of (length ds) (ds ++ rest) ≡ Ok (digits_value 10 ds, rest)
natural_front ds rest plain = rw (take_at ds rest (length ds) refl, drop_at ds rest (length ds) refl, plain) refl

natural_again : (n : ℕ) (rest : List ℕ) → n < 10 ^ 19 → Ends rest → natural_at (decimal n ++ rest) ≡ Ok (n, rest)
natural_again n rest small ends =
    let big : n < 2 ^ 64 = omega (arith, small) in
    let digits : all_ascii_digits (decimal n) ≡ true = digits_decimal own n big in
    let plain = plain_from (decimal n) (decimal_nonempty n big) (lead_decimal n big) (length-decimal-le 19 n (omega arith) small big) in
    ap (λ (k : ℕ). natural_of k (decimal n ++ rest)) (front_len (decimal n) rest digits ends) ∙ natural_front (decimal n) rest plain
    ∙ ap (λ (m : ℕ). done (m, rest)) (digits_value-decimal own n big)

pub natural_reads : Reads IsSmall decimal Ends natural_at
natural_reads = record { takes = natural_takes; again = natural_again }

-- ---- signed numbers

abbrev below_zero : ℕ → ℕ → Bool
below_zero limit n = ltb 0 n && leb n limit

abbrev minus_read : ℕ → List ℕ → Read ℤ
minus_read limit s = mapped_read (λ n. negsuc (n - 1)) (checked_read (below_zero limit) (suc (length s)) (natural_at s))

abbrev plus_read : ℕ → ℕ → List ℕ → Read ℤ
plus_read limit left s = mapped_read pos (checked_read (λ n. ltb n limit) left (natural_at s))

minus_takes : (w : Width) (limit : ℕ) → limit ≡ 2 ^ hbits w → (s : List ℕ) (z : ℤ) (rest : List ℕ) → minus_read limit s ≡ Ok (z, rest) → Takes (FitsSigned w) signed_decimal (minus ∷ s) z rest
minus_takes w limit is s z rest e =
    let a = bind_ok (checked_read (below_zero limit) (suc (length s)) (natural_at s)) (λ x. Ok (negsuc (x.0 - 1), x.1)) (z, rest) e in
    let c = bind_ok (natural_at s) (λ x. cond (below_zero limit x.0) (done x) (Err (suc (length s)))) a.0 a.1 in
    let d = passed (below_zero limit c.0.0) c.0 (suc (length s)) a.0 c.2 in
    let n : ℕ = c.0.0 in
    let q = and_parts (ltb 0 n) (leb n limit) d.0 in
    let some : 0 < n = ltb-true 0 n q.0 in
    let few : n ≤ limit = leb-true n limit q.1 in
    let back : n ≡ suc (n - 1) = omega (arith, some) in
    let t = natural_takes s c.0.0 c.0.1 c.1 in
    let made : ℤ × List ℕ = (negsuc (n - 1), c.0.1) in
    let all : Takes (FitsSigned w) signed_decimal (minus ∷ s) made.0 made.1 = record {
      fits = record { sfits = omega (arith, some, few, is) };
      whole = ap (λ (l : List ℕ). minus ∷ l) (t.whole ∙ ap (λ (m : ℕ). decimal m ++ c.0.1) back);
    } in
    let same : done made ≡ done (z, rest) = ap (λ (x : ℕ × List ℕ). done (negsuc (x.0 - 1), x.1)) d.1 ∙ a.2 in
    subst (λ (y : ℤ × List ℕ). Takes (FitsSigned w) signed_decimal (minus ∷ s) y.0 y.1) (ok_is made (z, rest) same) all

plus_takes : (w : Width) (limit left : ℕ) → limit ≡ 2 ^ hbits w → (s : List ℕ) (z : ℤ) (rest : List ℕ) → plus_read limit left s ≡ Ok (z, rest) → Takes (FitsSigned w) signed_decimal s z rest
plus_takes w limit left is s z rest e =
    let a = bind_ok (checked_read (λ n. ltb n limit) left (natural_at s)) (λ x. Ok (pos x.0, x.1)) (z, rest) e in
    let c = bind_ok (natural_at s) (λ x. cond (ltb x.0 limit) (done x) (Err left)) a.0 a.1 in
    let d = passed (ltb c.0.0 limit) c.0 left a.0 c.2 in
    let few : c.0.0 < limit = ltb-true c.0.0 limit d.0 in
    let t = natural_takes s c.0.0 c.0.1 c.1 in
    let made : ℤ × List ℕ = (pos c.0.0, c.0.1) in
    let all : Takes (FitsSigned w) signed_decimal s made.0 made.1 = record { fits = record { sfits = omega (arith, few, is) }; whole = t.whole } in
    let same : done made ≡ done (z, rest) = ap (λ (x : ℕ × List ℕ). done (pos x.0, x.1)) d.1 ∙ a.2 in
    subst (λ (y : ℤ × List ℕ). Takes (FitsSigned w) signed_decimal s y.0 y.1) (ok_is made (z, rest) same) all

signed_takes : (w : Width) (limit : ℕ) → limit ≡ 2 ^ hbits w → (s : List ℕ) (z : ℤ) (rest : List ℕ) → signed_at limit s ≡ Ok (z, rest) → Takes (FitsSigned w) signed_decimal s z rest
signed_takes w limit is [] z rest e = absurd cc
signed_takes w limit is (b ∷ s) z rest e =
    elim (cases_eq b minus) [
      | inl same ↦
          let read : signed_at limit (b ∷ s) ≡ minus_read limit s = rw (eq-eqb b minus same) refl in
          subst (λ (c : ℕ). Takes (FitsSigned w) signed_decimal (c ∷ s) z rest) (sym same) (minus_takes w limit is s z rest (sym read ∙ e))
      | inr ne ↦
          let read : signed_at limit (b ∷ s) ≡ plus_read limit (suc (length s)) (b ∷ s) = rw (ne_eqb b minus ne) refl in
          plus_takes w limit (suc (length s)) is (b ∷ s) z rest (sym read ∙ e)
    ]

no_natural : (s : List ℕ) (z : ℕ × List ℕ) → natural_at (minus ∷ s) ≡ Ok z → ⊥
no_natural s z e = cc

plus_again : (limit : ℕ) (s : List ℕ) (n : ℕ) (rest : List ℕ) → natural_at s ≡ Ok (n, rest) → n < limit → signed_at limit s ≡ Ok (pos n, rest)
plus_again limit [] n rest e lt = absurd cc
plus_again limit (b ∷ s) n rest e lt =
    elim (cases_eq b minus) [
      | inl same ↦ absurd (no_natural s (n, rest) (subst (λ (c : ℕ). natural_at (c ∷ s) ≡ Ok (n, rest)) same e))
      | inr ne ↦
          let read : signed_at limit (b ∷ s) ≡ plus_read limit (suc (length s)) (b ∷ s) = rw (ne_eqb b minus ne) refl in
          read ∙ rw (e, lt-ltb n limit lt) refl
    ]

signed_again : (w : Width) (limit : ℕ) → limit ≡ 2 ^ hbits w → limit ≤ 2 ^ 63 → (z : ℤ) (rest : List ℕ) → FitsSigned w z → Ends rest → signed_at limit (signed_decimal z ++ rest) ≡ Ok (z, rest)
signed_again w limit is most (pos n) rest fits ends =
    let lt : n < limit = omega (arith, fits.sfits, is) in
    plus_again limit (decimal n ++ rest) n rest (natural_again n rest (omega (arith, lt, most)) ends) lt
signed_again w limit is most (negsuc m) rest fits ends =
    let lt : suc m ≤ limit = omega (arith, fits.sfits, is) in
    let one = natural_again (suc m) rest (omega (arith, lt, most)) ends in
    let passes : below_zero limit (suc m) ≡ true = and_from (ltb 0 (suc m)) (leb (suc m) limit) (lt-ltb 0 (suc m) (omega arith)) (le-leb (suc m) limit lt) in
    let read : signed_at limit (minus ∷ (decimal (suc m) ++ rest)) ≡ Ok (negsuc (suc m - 1), rest) = rw (one, passes) refl in
    let back : suc m - 1 ≡ m = omega arith in
    read ∙ ap (λ (k : ℕ). done (negsuc k, rest)) back

pub signed_reads : (w : Width) (limit : ℕ) → limit ≡ 2 ^ hbits w → limit ≤ 2 ^ 63 → Reads (FitsSigned w) signed_decimal Ends (signed_at limit)
signed_reads w limit is most = record { takes = signed_takes w limit is; again = signed_again w limit is most }
