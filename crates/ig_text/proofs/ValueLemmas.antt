-- A value is read by the row of its word, one level down.
use Rattle.std.proofs.Common.{◌≡◌, ℕ, zero, suc, ◌+◌, ◌-◌, ◌*◌, ◌<◌, ◌≤◌, List, [], ◌∷◌, ◌++◌, length, drop, map, Option, Some, None, Result, Ok, Err, ℤ, refl, sym, ap, subst, ◌∙◌, arith, length-append}
use Rattle.ig_value.specs.declared.code.Code.{Code}
use Rattle.ig_value.specs.declared.value.Value.{Value}
use Rattle.ig_text.specs.declared.row.Row.{Row}
use Rattle.ig_text.specs.declared.row.Row.TheVariants.{Kind}
use Rattle.ig_text.specs.declared.fault.ReadError.{ReadError}
use Rattle.ig_text.specs.ReadText.{Read, mapped_read, alone, known_at, content_at, value_at}
use Rattle.ig_text.specs.ReaderAnswers.{Fails, ReaderAnswers}
use Rattle.ig_text.specs.Words.{word, row_at}
use Rattle.ig_text.proofs.LevelLemmas.{row_begins}

pub level_none : (levels : ℕ) (s : List ℕ) → levels ≡ 0 → value_at levels s ≡ Err (length s)
level_none levels s is = ap (λ (n : ℕ). value_at n s) is

level_down : (levels : ℕ) (s : List ℕ) (o : Option Row) → 0 < levels → row_at s ≡ o → value_at levels s ≡ known_at (value_at (levels - 1)) s o
level_down zero s o some is = absurd (omega (arith, some))
level_down (suc n) s o some is =
    let back : n ≡ suc n - 1 = omega arith in
    ap (known_at (value_at n) s) is ∙ ap (λ (m : ℕ). known_at (value_at m) s o) back

pub word_wrong : (levels : ℕ) (s : List ℕ) → 0 < levels → row_at s ≡ None → value_at levels s ≡ Err (length s)
word_wrong levels s some is = level_down levels s None some is

pub word_read : (levels len : ℕ) (s rest : List ℕ) (r : Row) → 0 < levels → row_at s ≡ Some r → len ≡ length (word r) → rest ≡ drop len s → value_at levels s ≡ content_at (value_at (levels - 1)) r rest
word_read levels len s rest r some is size back =
    level_down levels s (Some r) some is ∙ ap (content_at (value_at (levels - 1)) r) (ap (λ (k : ℕ). drop k s) (sym size) ∙ sym back)

-- the word stands there
pub word_fits : (s : List ℕ) (r : Row) → row_at s ≡ Some r → length (word r) ≤ length s
word_fits s r is = omega (arith, ap length (row_begins s r is), length-append (word r) (drop (length (word r)) s))

-- ---- results

-- a result that is told of one reading is told of the same reading
pub told : {X Y : Type 0} (view : X → Y × List ℕ) (result : Result X ReadError) (r q : Read Y) → r ≡ q → ReaderAnswers view result r → ReaderAnswers view result q
told view result r q e h = subst (λ (z : Read _). ReaderAnswers view result z) e h

-- a list without anything before it
pub listed : {A : Type 0} (f : Unit {0} × List A → Value) (r : Read (List A)) → mapped_read (λ xs. f (alone xs)) r ≡ mapped_read f (mapped_read alone r)
listed f (Ok x) = refl
listed f (Err left) = refl

-- ---- the row of a code

pub code_at : (levels : ℕ) (s : List ℕ) (c d : Code) → c ≡ d → content_at (value_at levels) (Kind c) s ≡ content_at (value_at levels) (Kind d) s
code_at levels s c d is = ap (λ (k : Code). content_at (value_at levels) (Kind k) s) is

-- what the content of a code is read as
pub by_code : {X : Type 0} (view : X → Value × List ℕ) (result : Result X ReadError) (levels : ℕ) (s : List ℕ) (c d : Code) → c ≡ d → ReaderAnswers view result (content_at (value_at levels) (Kind d) s) →
    ReaderAnswers view result (content_at (value_at levels) (Kind c) s)
by_code view result levels s c d is h = told view result (content_at (value_at levels) (Kind d) s) (content_at (value_at levels) (Kind c) s) (sym (code_at levels s c d is)) h

pub code_stops : (levels : ℕ) (s : List ℕ) (c d : Code) (e : ReadError) → c ≡ d → Fails e (content_at (value_at levels) (Kind d) s) → Fails e (content_at (value_at levels) (Kind c) s)
code_stops levels s c d e is h = subst (λ (r : Read Value). Fails e r) (sym (code_at levels s c d is)) h
