-- A whole text is read, or is no value's.
use Rattle.std.proofs.Common.{◌≡◌, ℕ, suc, ◌+◌, ◌≤◌, true, false, List, [], ◌∷◌, ◌++◌, length, Result, Ok, Err, refl, sym, ap, subst, ◌∙◌, arith}
use Rattle.std.specs.Prelude.{◌==◌}
use Rattle.std.proofs.lemmas.Bool.{eqb-true}
use Rattle.std.proofs.lemmas.List.{append-nil}
use Rattle.ig_value.specs.declared.value.Value.{Value}
use Rattle.ig_value.specs.Limits.{Fits}
use Rattle.ig_text.specs.declared.fault.TextFault.{TextFault}
use Rattle.ig_text.specs.declared.fault.TextFault.TheVariants as fault
use Rattle.ig_text.specs.ReadText.{Read, text_at, value_at}
use Rattle.ig_text.specs.ReaderAnswers.{IsRefusal, IsTextResult, IsValueResult}
use Rattle.ig_text.specs.TextOf.{TextOf}
use Rattle.ig_text.proofs.LevelLemmas.{read_is_text, text_is_read}
use Rattle.ig_text.proofs.ReadsLemmas.{done, ok_is}
use Rattle.ig_text.proofs.PlaceLemmas.{IsWithin, value_advances}

whole_read : (s : List ℕ) (v : Value) → Fits v → s ≡ TextOf v → text_at s ≡ Ok (v, [])
whole_read s v fits same = ap (λ (l : List ℕ). text_at l) (same ∙ sym (append-nil (TextOf v))) ∙ text_is_read v [] fits tt

refused : (s : List ℕ) (place : ℕ) (r : Read Value) → text_at s ≡ r → IsRefusal s place r → (v : Value) → Fits v → s ≡ TextOf v → ⊥
refused s place (Ok z) is h v fits same =
    let whole : Value × List ℕ = (v, []) in
    let read : done z ≡ done whole = sym is ∙ whole_read s v fits same in
    h.1 (ap (λ (y : Value × List ℕ). y.1) (ok_is z whole read))
refused s place (Err left) is h v fits same = let both = sym is ∙ whole_read s v fits same in cc

pub whole_result : (s : List ℕ) (r : Result Value TextFault) → IsValueResult s r → IsTextResult s r
whole_result s (Ok v) e = let t = read_is_text s [] v e in (t.fits, t.whole ∙ append-nil (TextOf v))
whole_result s (Err fault.NoMemory) e = tt
whole_result s (Err (fault.Bad place)) e = λ v fits same. refused s place (text_at s) refl e v fits same

-- ---- what the reader of levels read

pub rest_within : (levels : ℕ) (s rest : List ℕ) (v : Value) → value_at levels s ≡ Ok (v, rest) → length rest ≤ length s
rest_within levels s rest v e = subst (λ (r : Read Value). IsWithin (length s) r) e (value_advances levels s)

pub left_within : (levels : ℕ) (s : List ℕ) (left : ℕ) → value_at levels s ≡ Err left → left ≤ length s
left_within levels s left e = subst (λ (r : Read Value). IsWithin (length s) r) e (value_advances levels s)

pub text_by_levels : (s : List ℕ) → text_at s ≡ value_at 32 s
unfolding text_at
text_by_levels s = refl

-- the whole text was read
pub all_read : (s rest : List ℕ) (v : Value) → value_at 32 s ≡ Ok (v, rest) → rest ≡ [] → IsValueResult s (Ok v)
all_read s rest v e none = text_by_levels s ∙ e ∙ ap (λ (l : List ℕ). done (v, l)) none

-- something follows the value
pub more_there : (s rest : List ℕ) (v : Value) (place : ℕ) → value_at 32 s ≡ Ok (v, rest) → (rest ≡ [] → ⊥) → place + length rest ≡ length s → IsValueResult s (Err (fault.Bad place))
more_there s rest v place e some size = subst (λ (r : Read Value). IsRefusal s place r) (sym (text_by_levels s ∙ e)) (size, some)

-- a part is wrong
pub part_wrong : (s : List ℕ) (left place : ℕ) → value_at 32 s ≡ Err left → place + left ≡ length s → IsValueResult s (Err (fault.Bad place))
part_wrong s left place e size = subst (λ (r : Read Value). IsRefusal s place r) (sym (text_by_levels s ∙ e)) size

-- ---- whether anything is left

pub none_left : (l : List ℕ) → true ≡ (length l == 0) → l ≡ []
none_left [] e = refl
none_left (b ∷ l) e = absurd (omega (arith, eqb-true (suc (length l)) 0 (sym e)))

pub some_left : (l : List ℕ) → false ≡ (length l == 0) → l ≡ [] → ⊥
some_left l e nil = let both : false ≡ true = e ∙ ap (λ (r : List ℕ). length r == 0) nil in cc
