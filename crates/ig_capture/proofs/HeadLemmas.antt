-- Reading the fields of a capture, and the first bytes of a piece.
use Rattle.std.proofs.Common.{◌≡◌, ℕ, zero, suc, ◌+◌, ◌-◌, ◌≤◌, ◌<◌, min, ℤ, Bool, true, false, List, [], ◌∷◌, ◌++◌, length, length-take-le, take, Option, Some, None, Result, Ok, Err, refl, sym, ap, subst, ◌∙◌, arith, append-nil}
use Rattle.std.proofs.lemmas.Bool.{lt-ltb, le-ltb, cond-true, cond-false}
use Rattle.std.specs.Prelude.{nat_lt, if◌then◌else◌}
use Rattle.std.specs.Str.{bytes_eq}
use Rattle.std.specs.Int.{w32}
use Rattle.ig_base.specs.Numbers.{number_at}
use Rattle.ig_capture.specs.declared.fault.CaptureBad.{CaptureBad}
use Rattle.ig_capture.specs.declared.fault.CaptureBad.TheVariants as bad
use Rattle.ig_capture.specs.declared.fault.CaptureFault.{CaptureFault}
use Rattle.ig_capture.specs.declared.fault.CaptureFault.TheVariants as fault
use Rattle.ig_capture.specs.declared.field.Field.{Field}
use Rattle.ig_capture.specs.declared.field.Field.TheVariants.{Magic, Side, Session, Count, Bytes}
use Rattle.ig_capture.specs.Records.{magic, sessions, most_bytes, within}
use Rattle.ig_capture.specs.Said.{Said, silent, and_then}
use Rattle.ig_capture.specs.Sessions as state
use Rattle.ig_capture.specs.Sessions.{hear_at}
use Rattle.ig_capture.specs.Answers.{ShowsLines, ReadsByte}
use Rattle.ig_capture.specs.Reading.{Reading, Read, next_field, malformed, numbered, four_bytes, magic_whole, session_whole, count_whole, fewer_left, read_byte, read_bytes}
use Rattle.ig_capture.specs.Heads.{ReadsSome}
use Rattle.ig_capture.proofs.ReadLemmas.{in_bytes, left_after, read_run}

-- ---- a field of four bytes

pub field_short : (r : Reading) (whole : Reading → List ℕ → Read) (came : List ℕ) → length came < 4 → four_bytes r whole came ≡ silent (record r { came = came })
field_short r whole came short = cond-true (nat_lt (length came) 4) (silent (record r { came = came })) (whole r came) (lt-ltb (length came) 4 short)

pub field_whole : (r : Reading) (whole : Reading → List ℕ → Read) (came : List ℕ) → 4 ≤ length came → four_bytes r whole came ≡ whole r came
field_whole r whole came long = cond-false (nat_lt (length came) 4) (silent (record r { came = came })) (whole r came) (le-ltb (length came) 4 long)

pub magic_read : (r : Reading) (came : List ℕ) → bytes_eq came magic ≡ true → magic_whole r came ≡ silent (next_field r Side 4)
magic_read r came is = cond-true (bytes_eq came magic) (silent (next_field r Side 4)) (malformed r) is

pub magic_wrong : (r : Reading) (came : List ℕ) → bytes_eq came magic ≡ false → magic_whole r came ≡ malformed r
magic_wrong r came other = cond-false (bytes_eq came magic) (silent (next_field r Side 4)) (malformed r) other

-- a number of a field, and what it is in range
pub number_read : (r : Reading) (field : ℕ → Field) (least most n : ℕ) (z : ℤ) (came : List ℕ) → number_at w32 came 0 ≡ Some z → within least most (Some z) ≡ Some n
    → numbered r field (within least most (number_at w32 came 0)) ≡ silent (next_field r (field n) 4)
number_read r field least most n z came is fits = ap (numbered r field) (ap (within least most) is ∙ fits)

pub number_wrong : (r : Reading) (field : ℕ → Field) (least most : ℕ) (z : ℤ) (came : List ℕ) → number_at w32 came 0 ≡ Some z → within least most (Some z) ≡ None
    → numbered r field (within least most (number_at w32 came 0)) ≡ malformed r
number_wrong r field least most z came is other = ap (numbered r field) (ap (within least most) is ∙ other)

-- ---- the first bytes of a piece

-- one byte of a head
pub byte_some : (byte : ℕ) (rest : List ℕ) (old new : Reading) (lines : List ℕ) → ReadsByte (read_byte old byte) new (Ok tt) → ReadsSome (byte ∷ rest) old new lines lines (Ok 1)
byte_some byte rest old new lines reads =
    ([], omega arith, omega arith, ap (λ (x : Read). and_then x (λ (next : Reading). silent next)) reads, sym (append-nil lines))

pub byte_wrong : (byte : ℕ) (rest : List ℕ) (old new : Reading) (lines : List ℕ) (why : CaptureBad) → ReadsByte (read_byte old byte) new (Err (fault.Bad why))
    → ReadsSome (byte ∷ rest) old new lines lines (Err (fault.Bad why))
byte_wrong byte rest old new lines why reads =
    (1, [], ap (λ (x : Read). and_then x (λ (next : Reading). silent next)) reads, sym (append-nil lines))

-- bytes of a record
module _ (server : Bool) (session count left : ℕ) (r : Reading) (is : r.field ≡ Bytes server session count left) where
  same_reading : r ≡ in_bytes server session count left r
  same_reading = λ i. record r { field = is i }

  run_of : (k : ℕ) (byte : ℕ) (s : List ℕ) → suc k ≤ left → k ≤ length s
      → read_bytes r (take (suc k) (byte ∷ s)) ≡ and_then (hear_at r.sessions session server (take (suc k) (byte ∷ s))) (left_after server session count left (suc k) r)
  run_of k byte s low high =
      let size : length (take k s) ≡ k = length-take-le k s high in
      ap (λ (q : Reading). read_bytes q (byte ∷ take k s)) same_reading
      ∙ read_run server session count left r byte (take k s) (omega (arith, low, size))
      ∙ ap (λ (n : ℕ). and_then (hear_at r.sessions session server (byte ∷ take k s)) (left_after server session count left (suc n) r)) size

  pub run_some : (piece : List ℕ) (n : ℕ) (heard : List state.Session) (lines lines' : List ℕ) → 0 < n → n ≤ left → n ≤ length piece
      → ShowsLines (hear_at r.sessions session server (take n piece)) heard lines lines' (Ok tt)
      → ReadsSome piece r (fewer_left server session count left n (record r { sessions = heard })) lines lines' (Ok n)
  run_some [] n heard lines lines' some low high shows = absurd (omega (arith, some, high))
  run_some (byte ∷ s) zero heard lines lines' some low high shows = absurd (omega (arith, some))
  run_some (byte ∷ s) (suc k) heard lines lines' some low high shows = (
    shows.0,
    some,
    high,
    run_of k byte s low (omega (arith, high)) ∙ ap (λ (x : Said (List state.Session) CaptureBad). and_then x (left_after server session count left (suc k) r)) shows.1
        ∙ ap (λ (t : List ℕ). (Ok (fewer_left server session count left (suc k) (record r { sessions = heard })), t)) (append-nil shows.0),
    shows.2,
  )

  pub run_wrong : (piece : List ℕ) (n : ℕ) (heard : List state.Session) (new : Reading) (lines lines' : List ℕ) (why : CaptureBad) → 0 < n → n ≤ left → n ≤ length piece
      → ShowsLines (hear_at r.sessions session server (take n piece)) heard lines lines' (Err (fault.Bad why)) → ReadsSome piece r new lines lines' (Err (fault.Bad why))
  run_wrong [] n heard new lines lines' why some low high shows = absurd (omega (arith, some, high))
  run_wrong (byte ∷ s) zero heard new lines lines' why some low high shows = absurd (omega (arith, some))
  run_wrong (byte ∷ s) (suc k) heard new lines lines' why some low high shows =
      (suc k, shows.0, run_of k byte s low (omega (arith, high)) ∙ ap (λ (x : Said (List state.Session) CaptureBad). and_then x (left_after server session count left (suc k) r)) shows.1, shows.2)

  pub run_stopped : (piece : List ℕ) (n : ℕ) (heard : List state.Session) (new : Reading) (lines lines' : List ℕ) (e : CaptureFault) → 0 < n → n ≤ left → n ≤ length piece
      → ShowsLines (hear_at r.sessions session server (take n piece)) heard lines lines' (Err e) → ReadsSome piece r new lines lines' (Err e)
  run_stopped piece n heard new lines lines' (fault.Bad why) some low high shows = run_wrong piece n heard new lines lines' why some low high shows
  run_stopped piece n heard new lines lines' fault.NoMemory some low high shows = tt
