-- A text behind its count.
use Rattle.std.proofs.Common.{◌≡◌, ℕ, ◌≤◌, Bool, true, false, List, length, take, drop, Ok, Err, refl, ap, ◌∙◌}
use Rattle.std.specs.Str.{IsUtf8, is_utf8}
use Rattle.std.proofs.lemmas.Str.{IsUtf8-from_is_utf8, is_utf8-from_IsUtf8}
use Rattle.ig_value.specs.declared.cause.Cause.TheVariants as cause
use Rattle.ig_value.specs.Reading.{Read, ◌>>=◌, item_read, count_at, counted_at, text_of, text_run_at}
use Rattle.ig_value.proofs.ItemLemmas.{item_whole}

not_text : (run : List ℕ) (b : Bool) → is_utf8 run ≡ b → ¬ IsUtf8 run → text_of run ≡ Err cause.Utf8
not_text run true is wrong = absurd (wrong (IsUtf8-from_is_utf8 run is))
not_text run false is wrong = rw is refl

pub text_found : (s rest run back : List ℕ) (n : ℕ) → count_at s ≡ Ok (n, rest) → n ≤ length rest → run ≡ take n rest → back ≡ drop n rest → IsUtf8 run → counted_at text_run_at s ≡ Ok (run, back)
text_found s rest run back n e le f b u =
    ap (λ (r : Read ℕ). r >>= λ m. text_run_at m.0 m.1) e ∙ item_whole n text_of rest le ∙ rw (← f, ← b, is_utf8-from_IsUtf8 run u) refl

pub text_wrong : (s rest run : List ℕ) (n : ℕ) → count_at s ≡ Ok (n, rest) → n ≤ length rest → run ≡ take n rest → ¬ IsUtf8 run → counted_at text_run_at s ≡ Err (length rest, cause.Utf8)
text_wrong s rest run n e le f wrong =
    ap (λ (r : Read ℕ). r >>= λ m. text_run_at m.0 m.1) e ∙ item_whole n text_of rest le ∙ rw (← f) (ap (item_read (length rest) (drop n rest)) (not_text run (is_utf8 run) refl wrong))
