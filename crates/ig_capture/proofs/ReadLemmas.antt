-- Reading the bytes of a capture in pieces.
use Rattle.std.proofs.Common.{◌≡◌, ℕ, zero, suc, ◌+◌, ◌-◌, ◌≤◌, ◌<◌, Bool, true, false, List, [], ◌∷◌, ◌++◌, length, Result, Ok, Err, refl, sym, ap, ◌∙◌, arith, append_assoc, append-nil, inl, inr}
use Rattle.std.proofs.lemmas.Bool.{cases_lt, lt-ltb, le-ltb, cond-true, cond-false}
use Rattle.std.specs.Prelude.{nat_lt, if◌then◌else◌}
use Rattle.ig_capture.specs.declared.fault.CaptureBad.{CaptureBad}
use Rattle.ig_capture.specs.declared.fault.CaptureFault.TheVariants as fault
use Rattle.ig_capture.specs.declared.field.Field.TheVariants.{Side, Bytes}
use Rattle.ig_capture.specs.Said.{Said, silent, and_then}
use Rattle.ig_capture.specs.Sessions as state
use Rattle.ig_capture.specs.Sessions.{hear_at}
use Rattle.ig_capture.specs.EndText.{wrong_line}
use Rattle.ig_capture.specs.Reading.{Reading, Read, next_field, fewer_left, read_byte, read_bytes, State, Going, Stopped, settled, fed}
use Rattle.ig_capture.specs.CaptureLaws.{FeedsCompose}
use Rattle.ig_capture.proofs.SaidLemmas.{printed_first, assoc, same_next}
use Rattle.ig_capture.proofs.HearLemmas.{at_pieces}

-- ---- pieces

pub read_pieces : (r : Reading) (first second : List ℕ) → read_bytes r (first ++ second) ≡ and_then (read_bytes r first) (λ next. read_bytes next second)
read_pieces r [] second = refl
read_pieces r (byte ∷ first) second =
    same_next (read_byte r byte) (λ next. read_bytes next (first ++ second)) (λ next. and_then (read_bytes next first) (λ later. read_bytes later second)) (λ next. read_pieces next first second)
    ∙ sym (assoc (read_byte r byte) (λ next. read_bytes next first) (λ later. read_bytes later second))

settled_pieces : (x : Read) (second : List ℕ) → ((settled (and_then x (λ r. read_bytes r second))).0 ≡ (fed (settled x).0 second).0)
    × ((settled (and_then x (λ r. read_bytes r second))).1 ≡ (settled x).1 ++ (fed (settled x).0 second).1)
settled_pieces (Err why, text) second = (refl, sym (append-nil (text ++ wrong_line why)))
settled_pieces (Ok r, text) second = after (read_bytes r second)
  where
    after : (y : Read) → ((settled (y.0, text ++ y.1)).0 ≡ (settled y).0) × ((settled (y.0, text ++ y.1)).1 ≡ text ++ (settled y).1)
    after (Ok later, more) = (refl, refl)
    after (Err why, more) = (refl, append_assoc text more (wrong_line why))

pub feeds_compose : (s : State) (first second : List ℕ) → FeedsCompose s first second
feeds_compose (Stopped why) first second = record { state = refl; text = refl }
feeds_compose (Going r) first second =
    let both = settled_pieces (read_bytes r first) second in record {
      state = ap (λ (x : Read). (settled x).0) (read_pieces r first second) ∙ both.0;
      text = ap (λ (x : Read). (settled x).1) (read_pieces r first second) ∙ both.1;
    }

-- ---- the bytes of a record

-- the reading of a record's bytes, of which some are left
abbrev pub in_bytes : Bool → ℕ → ℕ → ℕ → Reading → Reading
in_bytes server session count left r = record r { field = Bytes server session count left }

module _ (server : Bool) (session count : ℕ) where
  -- one byte, and then others
  one_then : (left n : ℕ) (r : Reading) → suc n ≤ left → fewer_left server session count (left - 1) n r ≡ fewer_left server session count left (suc n) r
  one_then left n r within = elim (cases_lt (suc n) left) [
    | inl more ↦
        cond-true (nat_lt n (left - 1)) (in_bytes server session count (left - 1 - n) r) (next_field r Side count) (lt-ltb n (left - 1) (omega (arith, more)))
        ∙ ap (λ k. in_bytes server session count k r) (omega (arith, more))
        ∙ sym (cond-true (nat_lt (suc n) left) (in_bytes server session count (left - suc n) r) (next_field r Side count) (lt-ltb (suc n) left more))
    | inr all ↦
        cond-false (nat_lt n (left - 1)) (in_bytes server session count (left - 1 - n) r) (next_field r Side count) (le-ltb n (left - 1) (omega (arith, all)))
        ∙ sym (cond-false (nat_lt (suc n) left) (in_bytes server session count (left - suc n) r) (next_field r Side count) (le-ltb (suc n) left all))
  ]

  -- the reading after the bytes of a record that were heard
  abbrev pub left_after : ℕ → ℕ → Reading → List state.Session → Read
  left_after left n r heard = silent (fewer_left server session count left n (record r { sessions = heard }))

  -- bytes of a record are heard at once
  abbrev RunsAtOnce : ℕ → Reading → ℕ → List ℕ → Type 0
  RunsAtOnce left r byte bytes =
      read_bytes (in_bytes server session count left r) (byte ∷ bytes)
      ≡ and_then (hear_at r.sessions session server (byte ∷ bytes)) (left_after left (suc (length bytes)) r)

  run_later : (left : ℕ) (r : Reading) (next : ℕ) (bytes : List ℕ) → suc (suc (length bytes)) ≤ left → (heard : List state.Session)
      → RunsAtOnce (left - 1) (record r { sessions = heard }) next bytes
      → read_bytes (fewer_left server session count left 1 (record r { sessions = heard })) (next ∷ bytes)
      ≡ and_then (hear_at heard session server (next ∷ bytes)) (left_after left (suc (suc (length bytes))) r)
  run_later left r next bytes within heard runs =
      ap (λ (q : Reading). read_bytes q (next ∷ bytes))
      (cond-true (nat_lt 1 left) (in_bytes server session count (left - 1) (record r { sessions = heard })) (next_field (record r { sessions = heard }) Side count) (lt-ltb 1 left (omega (arith, within))))
      ∙ runs
      ∙ same_next (hear_at heard session server (next ∷ bytes)) (left_after (left - 1) (suc (length bytes)) (record r { sessions = heard })) (left_after left (suc (suc (length bytes))) r)
      (λ end. ap (λ (q : Reading). silent q) (one_then left (suc (length bytes)) (record r { sessions = end }) within))

  pub read_run : (left : ℕ) (r : Reading) (byte : ℕ) (bytes : List ℕ) → suc (length bytes) ≤ left → RunsAtOnce left r byte bytes
  read_run left r byte [] within =
      assoc (hear_at r.sessions session server (byte ∷ [])) (left_after left 1 r) (λ next. silent next)
  read_run left r byte (next ∷ bytes) within =
      assoc (hear_at r.sessions session server (byte ∷ [])) (left_after left 1 r) (λ later. read_bytes later (next ∷ bytes))
      ∙ same_next (hear_at r.sessions session server (byte ∷ [])) (λ heard. and_then (left_after left 1 r heard) (λ later. read_bytes later (next ∷ bytes)))
      (λ heard. and_then (hear_at heard session server (next ∷ bytes)) (left_after left (suc (suc (length bytes))) r))
      (λ heard. run_later left r next bytes within heard (read_run (left - 1) (record r { sessions = heard }) next bytes (omega (arith, within))))
      ∙ sym (assoc (hear_at r.sessions session server (byte ∷ [])) (λ heard. hear_at heard session server (next ∷ bytes)) (left_after left (suc (suc (length bytes))) r))
      ∙ ap (λ (h : Said (List state.Session) CaptureBad). and_then h (left_after left (suc (suc (length bytes))) r)) (sym (at_pieces r.sessions session server (byte ∷ []) (next ∷ bytes)))
