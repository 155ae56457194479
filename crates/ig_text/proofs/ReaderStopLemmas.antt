-- Where a loop that reads stops: at an error, which may be a lack of memory, or at its end.
use Rattle.std.proofs.Common.{◌≡◌, ℕ, ◌+◌, ◌-◌, ◌/◌, ◌%◌, ◌<◌, ◌≤◌, ◌^◌, Bool, true, false, cond, ◌&&◌, List, [], ◌∷◌, ◌++◌, length, Result, Ok, Err, ltb, eqb, eq-eqb, refl, sym, ap, subst, ◌∙◌, arith}
use Rattle.std.specs.List.{prefix_len}
use Rattle.std.specs.Str.{IsUtf8, is_utf8}
use Rattle.std.proofs.lemmas.Bool.{lt-ltb, le-ltb, cond-true, cond-false, and_from}
use Rattle.std.proofs.lemmas.List.{append-nil}
use Rattle.std.proofs.lemmas.Str.{IsUtf8-from_is_utf8}
use Rattle.ig_text.specs.declared.fault.ReadError.{ReadError}
use Rattle.ig_text.specs.declared.fault.ReadError.TheVariants as error
use Rattle.ig_text.specs.ReaderAnswers.{Fails, ReaderAnswers}
use Rattle.ig_text.specs.Tokens.{comma, quote}
use Rattle.ig_text.specs.ReadText.{Read, ◌>>=◌, mapped_read, checked_read, is_countable, is_text, is_hex, mark_at, pair_at, run_at, octets_of, octets_at, until_at, next_at, any_at, items_at, char_at, quoted_at}
use Rattle.ig_text.proofs.ReadsLemmas.{done}
use Rattle.ig_text.proofs.ReaderLoopLemmas.{with_front, IsNotBefore, front_more, counted_down, until_more, until_fails, until_closed, next_read, no_comma, items_are}

-- a result that is told of one reading is told of the same reading
pub answers_by : {X Y : Type 0} (view : X → Y × List ℕ) (result : Result X ReadError) (r q : Read Y) → r ≡ q → ReaderAnswers view result q → ReaderAnswers view result r
answers_by {X} {Y} view result r q e h = subst (λ (z : Read Y). ReaderAnswers view result z) (sym e) h

-- ---- items up to a byte

-- an item is wrong
pub until_stops : {A : Type 0} (R : List ℕ → Read A) (close most counter : ℕ) (s : List ℕ) (front : List A) (e : ReadError) (whole : Read (List A)) → R [] ≡ Err 0 → counter < most → IsNotBefore close s → Fails e (R s) →
    with_front front (until_at R close (most - counter) s) ≡ whole → Fails e whole
until_stops R close most counter s front error.NoMemory whole none lt other e before = tt
until_stops R close most counter s front (error.Bad left) whole none lt other e before = until_fails R close most counter s front left whole none lt other e before

-- there is no comma before it, or it is wrong
pub comma_stops : {A : Type 0} (R : List ℕ → Read A) (s : List ℕ) (e : ReadError) → Fails e (mark_at comma s) → Fails e (next_at R s)
comma_stops R s error.NoMemory e = tt
comma_stops R s (error.Bad left) e = no_comma R s left e

pub next_stops : {A : Type 0} (R : List ℕ → Read A) (s t : List ℕ) (e : ReadError) → mark_at comma s ≡ Ok (tt, t) → Fails e (R t) → Fails e (next_at R s)
next_stops R s t error.NoMemory mark e = tt
next_stops R s t (error.Bad left) mark e = next_read R s t (Err left) mark e

pub items_stop : {A : Type 0} (R : List ℕ → Read A) (close : ℕ) (s : List ℕ) (e : ReadError) → Fails e (any_at R close s) → Fails e (items_at R close s)
items_stop R close s error.NoMemory e = tt
items_stop R close s (error.Bad left) e = items_are R close s (Err left) e

-- one more item, whatever list holds it
pub until_pushed : {A : Type 0} (R : List ℕ → Read A) (close most counter : ℕ) (s : List ℕ) (front pushed : List A) (x : A) (rest : List ℕ) (whole : Read (List A)) → R [] ≡ Err 0 → counter < most → IsNotBefore close s → R s ≡ Ok (x, rest) →
    pushed ≡ front ++ x ∷ [] → with_front front (until_at R close (most - counter) s) ≡ whole → with_front pushed (until_at R close (most - (counter + 1)) rest) ≡ whole
until_pushed R close most counter s front pushed x rest whole none lt other e push before =
    ap (λ (l : List _). with_front l (until_at R close (most - (counter + 1)) rest)) push ∙ until_more R close most counter s front x rest whole none lt other e before

-- ---- bytes from pairs of digits

step_of_run : (upper : Bool) (i n : ℕ) (s : List ℕ) (r : Read ℕ) → i < n → pair_at upper s ≡ r → run_at upper (n - i) s ≡ (r >>= λ x. run_at upper (n - (i + 1)) x.1 >>= λ xs. done (x.0 ∷ xs.0, xs.1))
step_of_run upper i n s r lt e =
    ap (λ (m : ℕ). run_at upper m s) (counted_down n i lt) ∙ ap (λ (q : Read ℕ). q >>= λ x. run_at upper (n - (i + 1)) x.1 >>= λ xs. done (x.0 ∷ xs.0, xs.1)) e

pub run_pushed : (upper : Bool) (i n : ℕ) (s : List ℕ) (front pushed : List ℕ) (x : ℕ) (rest : List ℕ) (whole : Read (List ℕ)) → i < n → pair_at upper s ≡ Ok (x, rest) → pushed ≡ front ++ x ∷ [] →
    with_front front (run_at upper (n - i) s) ≡ whole → with_front pushed (run_at upper (n - (i + 1)) rest) ≡ whole
run_pushed upper i n s front pushed x rest whole lt e push before =
    let k : ℕ = n - (i + 1) in
    ap (λ (f : List ℕ). with_front f (run_at upper k rest)) push ∙ sym (front_more front x (run_at upper k rest)) ∙ ap (with_front front) (sym (step_of_run upper i n s (Ok (x, rest)) lt e)) ∙ before

pub pair_stops : (upper : Bool) (i n : ℕ) (s front : List ℕ) (e : ReadError) (whole : Read (List ℕ)) → i < n → Fails e (pair_at upper s) → with_front front (run_at upper (n - i) s) ≡ whole → Fails e whole
pair_stops upper i n s front error.NoMemory whole lt e before = tt
pair_stops upper i n s front (error.Bad left) whole lt e before = sym before ∙ ap (with_front front) (step_of_run upper i n s (Err left) lt e)

pub run_ends : (upper : Bool) (i n : ℕ) (s front : List ℕ) (whole : Read (List ℕ)) → n ≤ i → with_front front (run_at upper (n - i) s) ≡ whole → whole ≡ Ok (front, s)
run_ends upper i n s front whole le before =
    let none : n - i ≡ 0 = omega (arith, le) in
    sym before ∙ ap (λ (m : ℕ). with_front front (run_at upper m s)) none ∙ ap (λ (l : List ℕ). done (l, s)) (append-nil front)

-- ---- quoted texts

quoted_by : (s t : List ℕ) (r : Read (List ℕ)) → mark_at quote s ≡ Ok (tt, t) → until_at char_at quote (length t) t ≡ r → quoted_at s ≡ checked_read is_text (length s) r
quoted_by s t r mark e = rw (mark, e) refl

pub text_read : (s t bytes rest : List ℕ) → mark_at quote s ≡ Ok (tt, t) → until_at char_at quote (length t) t ≡ Ok (bytes, rest) → length bytes ≤ 2147483647 → is_utf8 bytes ≡ true → quoted_at s ≡ Ok (bytes, rest)
text_read s t bytes rest mark e few valid =
    let passes : is_text bytes ≡ true = and_from (is_countable bytes) (is_utf8 bytes) (lt-ltb (length bytes) (2 ^ 31) (omega (arith, few))) valid in
    quoted_by s t (Ok (bytes, rest)) mark e ∙ cond-true (is_text bytes) (done (bytes, rest)) (Err (length s)) passes

pub text_wrong : (s t bytes rest : List ℕ) → mark_at quote s ≡ Ok (tt, t) → until_at char_at quote (length t) t ≡ Ok (bytes, rest) → length bytes ≤ 2147483647 → is_utf8 bytes ≡ false → quoted_at s ≡ Err (length s)
text_wrong s t bytes rest mark e few wrong =
    let countable : is_countable bytes ≡ true = lt-ltb (length bytes) (2 ^ 31) (omega (arith, few)) in
    let fails : is_text bytes ≡ false = ap (λ (b : Bool). b && is_utf8 bytes) countable ∙ wrong in
    quoted_by s t (Ok (bytes, rest)) mark e ∙ cond-false (is_text bytes) (done (bytes, rest)) (Err (length s)) fails

not_so : (b : Bool) → (b ≡ true → false ≡ true) → b ≡ false
not_so true never = sym (never refl)
not_so false never = refl

pub no_utf8 : (bytes : List ℕ) → (IsUtf8 bytes → false ≡ true) → is_utf8 bytes ≡ false
no_utf8 bytes never = not_so (is_utf8 bytes) (λ e. never (IsUtf8-from_is_utf8 bytes e))
