-- A text at an offset, said of the grammar.
use Rattle.std.proofs.Common.{◌≡◌, ◌≢◌, ℕ, suc, ◌+◌, ◌-◌, ◌≤◌, List, [], ◌∷◌, ◌++◌, length, take, drop, Ok, Err, refl, sym, ap, subst, ◌∙◌, arith, inl, inr, length-append, length-drop}
use Rattle.std.proofs.lemmas.Bool.{cases_eq, ne_eqb}
use Rattle.ig_base.specs.Numbers.{AreBytes}
use Rattle.ig_value.specs.declared.Cause.{Cause}
use Rattle.ig_value.specs.declared.Cause.TheVariants as cause
use Rattle.ig_value.specs.declared.Code.TheVariants as code
use Rattle.ig_value.specs.declared.Value.{Value}
use Rattle.ig_value.specs.declared.Value.TheVariants.{Str}
use Rattle.ig_value.specs.Table.{byte_of}
use Rattle.ig_value.specs.Spells.{Spells}
use Rattle.ig_value.specs.Reading.{Fault, Read, counted_at, text_run_at, mapped_read, value_at, reading}
use Rattle.ig_value.proofs.AgreesLemmas.{ok_is, err_is, AreBytes-drop}
use Rattle.ig_value.proofs.RowLemmas.{Row, built}
use Rattle.ig_value.proofs.ValueLemmas.{value_agrees}
use Rattle.ig_decode.specs.declared.fault.Refusal.{Refusal}
use Rattle.ig_decode.specs.TextAnswers.{text_reading, IsText, IsNoText, IsTextResult}
use Rattle.ig_decode.proofs.DecodeLemmas.{rest_within, rest_is, spelled_at, reads_ok, left_within, is_refused, reads_err}

-- where no other code stands, a text is read as a value is
text_as_value : (rest : List ℕ) → value_at 32 (byte_of code.Str ∷ rest) ≡ mapped_read Str (counted_at text_run_at rest)
text_as_value rest = refl

text_after_code : (rest : List ℕ) → text_reading (byte_of code.Str ∷ rest) ≡ counted_at text_run_at rest
text_after_code rest = refl

other_code : (b : ℕ) (rest : List ℕ) → b ≢ byte_of code.Str → text_reading (b ∷ rest) ≡ Err (suc (length rest), cause.Code b)
other_code b rest other = rw (ne_eqb b (byte_of code.Str) other) refl

value_read : (s text rest : List ℕ) → text_reading s ≡ Ok (text, rest) → value_at 32 s ≡ Ok (Str text, rest)
value_read [] text rest e = absurd cc
value_read (b ∷ s) text rest e =
    elim (cases_eq b (byte_of code.Str)) [
      | inl is ↦ rw is (text_as_value s ∙ ap (mapped_read Str) (sym (text_after_code s) ∙ (rw is at e)))
      | inr other ↦ absurd (let no = sym (other_code b s other) ∙ e in cc)
    ]

pub is_text : (bytes : List ℕ) (at : ℕ) (text rest : List ℕ) → at ≤ length bytes → AreBytes bytes → text_reading (drop at bytes) ≡ Ok (text, rest) → (end : ℕ) → end ≡ length bytes - length rest → IsText bytes at text end
unfolding Spells
is_text bytes at text rest le b e end is =
    let r = value_read (drop at bytes) text rest e in
    let within = rest_within bytes at (Str text) rest b r in
    let used : ℕ = length bytes - at - length rest in
    let found : Spells (take used (drop at bytes)) (Str text) = spelled_at bytes at (Str text) rest b r used refl in
    let used_is : used ≡ end - at = omega (arith, is, within) in
    let end_is : at + used ≡ end = omega (arith, is, within) in
    record {
      after = omega (arith, is, within);
      within = omega (arith, is);
      spelled = subst (λ (n : ℕ). Spells (take n (drop at bytes)) (Str text)) used_is found;
      reads = subst (λ (n : ℕ). reading (drop at bytes) ≡ Ok (Str text, drop n bytes)) end_is (reads_ok bytes at (Str text) rest b r used refl);
    }

pub text_reads : (bytes : List ℕ) (at : ℕ) (text rest : List ℕ) → at ≤ length bytes → AreBytes bytes → text_reading (drop at bytes) ≡ Ok (text, rest) → (end : ℕ) → end ≡ length bytes - length rest → text_reading (drop at bytes) ≡ Ok (text, drop end bytes)
text_reads bytes at text rest le b e end is =
    let r = value_read (drop at bytes) text rest e in
    let used : ℕ = length bytes - at - length rest in
    let end_is : at + used ≡ end = omega (arith, is, rest_within bytes at (Str text) rest b r) in
    let after : rest ≡ drop end bytes = sym (rest_is bytes at (Str text) rest b r used refl) ∙ ap (λ (n : ℕ). drop n bytes) end_is in
    rw (← after) e

pub text_rest : (bytes : List ℕ) (at : ℕ) (text rest : List ℕ) → AreBytes bytes → text_reading (drop at bytes) ≡ Ok (text, rest) → length rest ≤ length bytes
text_rest bytes at text rest b e = omega (arith, rest_within bytes at (Str text) rest b (value_read (drop at bytes) text rest e))

-- ---- a fault was read

broken : (bytes : List ℕ) (at left : ℕ) (c : Cause) → at ≤ length bytes → AreBytes bytes → value_at 32 (drop at bytes) ≡ Err (left, c) → ((byte : ℕ) (rest : List ℕ) → drop at bytes ≡ byte ∷ rest → byte ≡ byte_of code.Str)
    → IsNoText bytes at (record { place = length bytes - left; cause = c })
broken bytes at left c le b e no_other =
    let r = is_refused bytes at left c le b e in
    inr (record { no_other = no_other; further = r.further; place = r.place; stops = r.stops; reads = reads_err bytes at left c b e })

none_read : (left : ℕ) (c : Cause) → text_reading [] ≡ Err (left, c) → value_at 32 [] ≡ Err (left, c)
none_read left c e = ap (λ (f : Fault). Err f) (err_is {A = List ℕ × List ℕ} (0, cause.Short) (left, c) e)

-- by what stands at the offset
no_text : (bytes : List ℕ) (at left : ℕ) (c : Cause) → at ≤ length bytes → AreBytes bytes → (s : List ℕ) → drop at bytes ≡ s → text_reading s ≡ Err (left, c) → IsNoText bytes at (record { place = length bytes - left; cause = c })
no_text bytes at left c le b [] whole e =
    broken bytes at left c le b (ap (value_at 32) whole ∙ none_read left c e) (λ byte rest is. absurd (let no = sym whole ∙ is in cc))
no_text bytes at left c le b (byte ∷ s) whole e =
    elim (cases_eq byte (byte_of code.Str)) [
      | inl is ↦
          let whole' : drop at bytes ≡ byte_of code.Str ∷ s = rw (← is) whole in
          let counted : counted_at text_run_at s ≡ Err (left, c) = sym (text_after_code s) ∙ (rw is at e) in
          broken bytes at left c le b (ap (value_at 32) whole' ∙ text_as_value s ∙ ap (mapped_read Str) counted)
          (λ byte' rest is'. let same = sym whole' ∙ is' in cc)
      | inr other ↦
          let same = err_is {A = List ℕ × List ℕ} (suc (length s), cause.Code byte) (left, c) (sym (other_code byte s other) ∙ e) in
          inl (record {
            byte = byte;
            rest = s;
            whole = whole;
            other = other;
            place = omega (arith, ap (λ (z : Fault). z.0) same, ap length whole, length-drop at bytes);
            cause = sym (ap (λ (z : Fault). z.1) same);
          })
    ]

pub is_no_text : (bytes : List ℕ) (at left : ℕ) (c : Cause) → at ≤ length bytes → AreBytes bytes → text_reading (drop at bytes) ≡ Err (left, c) → IsNoText bytes at (record { place = length bytes - left; cause = c })
is_no_text bytes at left c le b e = no_text bytes at left c le b (drop at bytes) refl e

text_left_at : (s : List ℕ) (left : ℕ) (c : Cause) → text_reading s ≡ Err (left, c) → AreBytes s → left ≤ length s
text_left_at [] left c e b = let same = err_is {A = List ℕ × List ℕ} (0, cause.Short) (left, c) e in omega (arith, ap (λ (z : Fault). z.0) same)
text_left_at (byte ∷ s) left c e b =
    elim (cases_eq byte (byte_of code.Str)) [
      | inl is ↦
          let counted : counted_at text_run_at s ≡ Err (left, c) = sym (text_after_code s) ∙ (rw is at e) in
          omega (arith, left_within (byte_of code.Str ∷ s) 0 left c (subst (λ (n : ℕ). AreBytes (n ∷ s)) is b) (text_as_value s ∙ ap (mapped_read Str) counted))
      | inr other ↦
          let same = err_is {A = List ℕ × List ℕ} (suc (length s), cause.Code byte) (left, c) (sym (other_code byte s other) ∙ e) in
          omega (arith, ap (λ (z : Fault). z.0) same)
    ]

pub text_left : (bytes : List ℕ) (at left : ℕ) (c : Cause) → AreBytes bytes → text_reading (drop at bytes) ≡ Err (left, c) → left ≤ length bytes - at
text_left bytes at left c b e = omega (arith, text_left_at (drop at bytes) left c e (AreBytes-drop at bytes b), length-drop at bytes)

pub refusal_reads : (bytes : List ℕ) (at left : ℕ) (c : Cause) → AreBytes bytes → text_reading (drop at bytes) ≡ Err (left, c) → text_reading (drop at bytes) ≡ Err (length bytes - (length bytes - left), c)
refusal_reads bytes at left c b e =
    let back : length bytes - (length bytes - left) ≡ left = omega (arith, text_left bytes at left c b e) in
    rw back e

-- ---- a text is there

str_is : (a b : List ℕ) → Str a ≡ Str b → a ≡ b
str_is a b e = cc

unmapped : (r : Read (List ℕ)) (text rest : List ℕ) → mapped_read Str r ≡ Ok (Str text, rest) → r ≡ Ok (text, rest)
unmapped (Ok (t, after)) text rest e =
    let same = ok_is (Str t, after) (Str text, rest) e in
    let inside = str_is t text (ap (λ (z : Value × List ℕ). z.0) same) in
    let left = ap (λ (z : Value × List ℕ). z.1) same in
    cc
unmapped (Err f) text rest e = absurd cc

-- a text is read from its encoding, whatever follows
text_again : (s rest text : List ℕ) → Spells s (Str text) → text_reading (s ++ rest) ≡ Ok (text, rest)
unfolding Spells
text_again s rest text h =
    let again : value_at 32 (s ++ rest) ≡ Ok (Str text, rest) = (value_agrees 32).again s (Str text) rest h in
    let whole : s ++ rest ≡ byte_of code.Str ∷ (h.suffix ++ rest) = ap (λ (l : List ℕ). l ++ rest) h.whole ∙ ap (λ (r : Row). byte_of r.0 ∷ (h.suffix ++ rest)) (built code.Str text) in
    let mapped : mapped_read Str (counted_at text_run_at (h.suffix ++ rest)) ≡ Ok (Str text, rest) = sym (text_as_value (h.suffix ++ rest)) ∙ ap (value_at 32) (sym whole) ∙ again in
    ap text_reading whole ∙ text_after_code (h.suffix ++ rest) ∙ unmapped (counted_at text_run_at (h.suffix ++ rest)) text rest mapped

pub one_text : (bytes : List ℕ) (at : ℕ) (text rest : List ℕ) → at ≤ length bytes → text_reading (drop at bytes) ≡ Ok (text, rest) → (s r t : List ℕ) → drop at bytes ≡ s ++ r → Spells s (Str t)
    → (text ≡ t) × (length bytes - length rest ≡ at + length s)
one_text bytes at text rest le e s r t whole h =
    let same = ok_is (text, rest) (t, r) (sym e ∙ ap text_reading whole ∙ text_again s r t h) in
    let is_rest : rest ≡ r = ap (λ (z : List ℕ × List ℕ). z.1) same in
    (ap (λ (z : List ℕ × List ℕ). z.0) same, omega (arith, ap length is_rest, ap length whole, length-append s r, length-drop at bytes))

pub none_there : (l : List ℕ) (left : ℕ) (c : Cause) → text_reading l ≡ Err (left, c) → (s r t : List ℕ) → l ≡ s ++ r → Spells s (Str t) → ⊥
none_there l left c e s r t whole h = let both = sym e ∙ ap text_reading whole ∙ text_again s r t h in cc
