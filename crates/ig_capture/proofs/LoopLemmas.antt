-- The loops over the frames of a side and over the bytes of a piece.
use Rattle.std.proofs.Common.{◌≡◌, ℕ, suc, ◌+◌, ◌-◌, ◌≤◌, ◌<◌, Bool, true, false, List, [], ◌∷◌, ◌++◌, length, take, drop, Result, Ok, Err, refl, sym, ap, subst, ◌∙◌, arith, append_assoc, append-nil}
use Rattle.std.proofs.lemmas.List.{take-append-drop, drop-drop, length-drop, take_all}
use Rattle.ig_capture.specs.declared.fault.CaptureBad.{CaptureBad}
use Rattle.ig_capture.specs.declared.fault.CaptureFault.{CaptureFault}
use Rattle.ig_capture.specs.declared.fault.CaptureFault.TheVariants as fault
use Rattle.ig_capture.specs.Said.{Said, silent, and_then}
use Rattle.ig_capture.specs.Sessions.{Side, hear}
use Rattle.ig_capture.specs.Answers.{ShowsLines, HearsFrame}
use Rattle.ig_capture.specs.Reading.{Reading, Read, read_bytes}
use Rattle.ig_capture.specs.Heads.{ReadsSome}
use Rattle.ig_capture.proofs.SaidLemmas.{printed_first}
use Rattle.ig_capture.proofs.ReadLemmas.{read_pieces}

-- ---- any steps

-- what was said until now, and the lines of it
pub record SaidSoFar {A : Type 0} (all : Said A CaptureBad) (rest : A → Said A CaptureBad) (now : A) (lines lines' : List ℕ) : Type 0 where
  pub text : List ℕ
  pub said : all ≡ and_then (Ok now, text) rest
  pub printed : lines' ≡ lines ++ text

-- one more step
said_next : {A : Type 0} (all : Said A CaptureBad) (rest rest' : A → Said A CaptureBad) (now next : A) (lines lines' lines'' text : List ℕ)
    → SaidSoFar all rest now lines lines' → rest now ≡ and_then (Ok next, text) rest' → lines'' ≡ lines' ++ text → SaidSoFar all rest' next lines lines''
said_next {A} all rest rest' now next lines lines' lines'' text so step more = record {
  text = so.text ++ text;
  said = so.said ∙ ap (λ (s : Said A CaptureBad). (s.0, so.text ++ s.1)) step ∙ sym (printed_first so.text (Ok next, text) rest');
  printed = more ∙ ap (λ (l : List ℕ). l ++ text) so.printed ∙ append_assoc lines so.text text;
}

-- the last step
said_end : {A : Type 0} (all : Said A CaptureBad) (rest : A → Said A CaptureBad) (now : A) (lines lines' : List ℕ)
    → SaidSoFar all rest now lines lines' → rest now ≡ silent now → ShowsLines all now lines lines' (Ok tt)
said_end {A} all rest now lines lines' so end = (so.text, so.said ∙ ap (λ (s : Said A CaptureBad). (s.0, so.text ++ s.1)) end ∙ ap (λ (t : List ℕ). (Ok now, t)) (append-nil so.text), so.printed)

said_wrong : {A : Type 0} (all : Said A CaptureBad) (rest : A → Said A CaptureBad) (now after : A) (lines lines' lines'' text : List ℕ) (why : CaptureBad)
    → SaidSoFar all rest now lines lines' → rest now ≡ (Err why, text) → lines'' ≡ lines' ++ text → ShowsLines all after lines lines'' (Err (fault.Bad why))
said_wrong {A} all rest now after lines lines' lines'' text why so wrong more =
    (so.text ++ text, so.said ∙ ap (λ (s : Said A CaptureBad). (s.0, so.text ++ s.1)) wrong, more ∙ ap (λ (l : List ℕ). l ++ text) so.printed ∙ append_assoc lines so.text text)

-- ---- frames

abbrev pub HeardSoFar : ℕ → Bool → Side → Side → List ℕ → List ℕ → Type 0
HeardSoFar session server start now lines lines' = SaidSoFar (hear session server start) (hear session server) now lines lines'

pub heard_none : (session : ℕ) (server : Bool) (start : Side) (lines : List ℕ) → HeardSoFar session server start start lines lines
heard_none session server start lines = record { text = []; said = refl; printed = sym (append-nil lines) }

pub heard_more : (session : ℕ) (server : Bool) (start now next : Side) (lines lines' lines'' : List ℕ)
    → HeardSoFar session server start now lines lines' → HearsFrame session server now next lines' lines'' (Ok true)
    → HeardSoFar session server start next lines lines''
heard_more session server start now next lines lines' lines'' so hears =
    said_next (hear session server start) (hear session server) (hear session server) now next lines lines' lines'' hears.0 so hears.1 hears.2

pub heard_all : (session : ℕ) (server : Bool) (start now next : Side) (lines lines' lines'' : List ℕ)
    → HeardSoFar session server start now lines lines' → HearsFrame session server now next lines' lines'' (Ok false)
    → ShowsLines (hear session server start) next lines lines'' (Ok tt)
heard_all session server start now next lines lines' lines'' so hears =
    subst (λ (x : Side). ShowsLines (hear session server start) x lines lines'' (Ok tt)) (sym hears.1)
    (subst (λ (l : List ℕ). ShowsLines (hear session server start) now lines l (Ok tt)) (sym hears.2)
    (said_end (hear session server start) (hear session server) now lines lines' so hears.0))

pub heard_wrong : (session : ℕ) (server : Bool) (start now next : Side) (lines lines' lines'' : List ℕ) (e : CaptureFault)
    → HeardSoFar session server start now lines lines' → HearsFrame session server now next lines' lines'' (Err e)
    → ShowsLines (hear session server start) next lines lines'' (Err e)
heard_wrong session server start now next lines lines' lines'' (fault.Bad why) so hears =
    said_wrong (hear session server start) (hear session server) now next lines lines' lines'' hears.0 why so hears.1 hears.2
heard_wrong session server start now next lines lines' lines'' fault.NoMemory so hears = tt

-- ---- bytes

abbrev pub ReadSoFar : List ℕ → ℕ → Reading → Reading → List ℕ → List ℕ → Type 0
ReadSoFar piece at start now lines lines' = SaidSoFar (read_bytes start piece) (λ r. read_bytes r (drop at piece)) now lines lines'

pub read_none : (piece : List ℕ) (start : Reading) (lines : List ℕ) → ReadSoFar piece 0 start start lines lines
read_none piece start lines = record { text = []; said = refl; printed = sym (append-nil lines) }

-- the first bytes of the rest, and then the others
rest_cut : (piece : List ℕ) (at n : ℕ) (r : Reading)
    → read_bytes r (drop at piece) ≡ and_then (read_bytes r (take n (drop at piece))) (λ q. read_bytes q (drop (at + n) piece))
rest_cut piece at n r =
    ap (read_bytes r) (sym (take-append-drop n (drop at piece)))
    ∙ read_pieces r (take n (drop at piece)) (drop n (drop at piece))
    ∙ ap (λ (l : List ℕ). and_then (read_bytes r (take n (drop at piece))) (λ q. read_bytes q l)) (drop-drop n at piece ∙ ap (λ k. drop k piece) (omega arith))

-- a piece from an offset on
pub all_left : (piece : List ℕ) (at : ℕ) → take (length piece - at) (drop at piece) ≡ drop at piece
all_left piece at = take_all (length piece - at) (drop at piece) (omega (arith, length-drop at piece))

pub read_more : (piece rest : List ℕ) (at n : ℕ) (start now next : Reading) (lines lines' lines'' : List ℕ) → rest ≡ drop at piece
    → ReadSoFar piece at start now lines lines' → ReadsSome rest now next lines' lines'' (Ok n)
    → ReadSoFar piece (at + n) start next lines lines''
read_more piece rest at n start now next lines lines' lines'' is so reads =
    said_next (read_bytes start piece) (λ r. read_bytes r (drop at piece)) (λ r. read_bytes r (drop (at + n) piece)) now next lines lines' lines'' reads.0 so
    (rest_cut piece at n now ∙ ap (λ (x : Read). and_then x (λ q. read_bytes q (drop (at + n) piece))) (ap (λ (l : List ℕ). read_bytes now (take n l)) (sym is) ∙ reads.3)) reads.4

pub read_all : (piece : List ℕ) (at : ℕ) (start now : Reading) (lines lines' : List ℕ) → length piece ≤ at
    → ReadSoFar piece at start now lines lines' → ShowsLines (read_bytes start piece) now lines lines' (Ok tt)
read_all piece at start now lines lines' all so =
    said_end (read_bytes start piece) (λ r. read_bytes r (drop at piece)) now lines lines' so (ap (read_bytes now) (nothing piece at all))
  where
    nothing : (s : List ℕ) (k : ℕ) → length s ≤ k → drop k s ≡ []
    nothing s k short = empty (drop k s) (omega (arith, length-drop k s, short))
      where
        empty : (l : List ℕ) → length l ≡ 0 → l ≡ []
        empty [] e = refl
        empty (b ∷ l) e = absurd (omega (arith, e))

pub read_wrong : (piece rest : List ℕ) (at : ℕ) (start now next : Reading) (lines lines' lines'' : List ℕ) (e : CaptureFault) → rest ≡ drop at piece
    → ReadSoFar piece at start now lines lines' → ReadsSome rest now next lines' lines'' (Err e)
    → ShowsLines (read_bytes start piece) next lines lines'' (Err e)
read_wrong piece rest at start now next lines lines' lines'' (fault.Bad why) is so reads =
    said_wrong (read_bytes start piece) (λ r. read_bytes r (drop at piece)) now next lines lines' lines'' reads.1 why so
    (rest_cut piece at reads.0 now ∙ ap (λ (x : Read). and_then x (λ q. read_bytes q (drop (at + reads.0) piece))) (ap (λ (l : List ℕ). read_bytes now (take reads.0 l)) (sym is) ∙ reads.2)) reads.3
read_wrong piece rest at start now next lines lines' lines'' fault.NoMemory is so reads = tt
