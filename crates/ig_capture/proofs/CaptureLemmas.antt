-- Feeding a capture, by how its reading went.
use Rattle.std.proofs.Common.{◌≡◌, ℕ, List, [], ◌++◌, Option, Some, None, Result, Ok, Err, refl, sym, ap, subst, ◌∙◌, append-nil}
use Rattle.ig_capture.specs.declared.fault.CaptureBad.{CaptureBad}
use Rattle.ig_capture.specs.declared.fault.CaptureBad.TheVariants as bad
use Rattle.ig_capture.specs.declared.fault.CaptureFault.{CaptureFault}
use Rattle.ig_capture.specs.declared.fault.CaptureFault.TheVariants as fault
use Rattle.ig_capture.specs.declared.field.Field.{Field}
use Rattle.ig_capture.specs.declared.field.Field.TheVariants.{Side}
use Rattle.ig_capture.specs.EndText.{wrong_line, cuts_of}
use Rattle.ig_capture.specs.Reading.{Reading, Read, State, Going, Stopped, read_bytes, settled, fed, finished, answer_of, wrong_end, end_of}
use Rattle.ig_capture.specs.Feeds.{state_of, ShowsPiece, FeedsPiece, IsSpent, Feeds, StaysStopped, Finishes}

-- it had stopped before
pub feeds_stopped : (r : Reading) (why : CaptureFault) (old : State) (out piece : List ℕ) → state_of r (Some why) ≡ old → Feeds old old out out piece (Err why)
feeds_stopped r (fault.Bad why) old out piece is = (
  record {
    state = sym is ∙ ap (λ (s : State). (fed s piece).0) is;
    text = sym (append-nil out) ∙ ap (λ (s : State). out ++ (fed s piece).1) is;
  },
  ap answer_of is,
)
feeds_stopped r fault.NoMemory old out piece is = record { state = sym is; text = refl }

-- it goes on
pub feeds_going : (r r' : Reading) (old : State) (out out' piece : List ℕ) → state_of r None ≡ old → ShowsPiece r r' out out' piece (Ok tt) → Feeds old (state_of r' None) out out' piece (Ok tt)
feeds_going r r' old out out' piece is shows = (
  record {
    state = ap (λ (x : Read). (settled x).0) (sym shows.1) ∙ ap (λ (s : State). (fed s piece).0) is;
    text = shows.2 ∙ ap (λ (x : Read). out ++ (settled x).1) (sym shows.1) ∙ ap (λ (s : State). out ++ (fed s piece).1) is;
  },
  refl,
)

-- it stops
pub feeds_wrong : (r r' : Reading) (why : CaptureFault) (old : State) (out out' piece : List ℕ) → state_of r None ≡ old → ShowsPiece r r' out out' piece (Err why)
    → Feeds old (state_of r' (Some why)) out out' piece (Err why)
feeds_wrong r r' (fault.Bad why) old out out' piece is shows = (
  record {
    state = ap (λ (x : Read). (settled x).0) (sym shows.1) ∙ ap (λ (s : State). (fed s piece).0) is;
    text = shows.2 ∙ ap (λ (x : Read). out ++ (settled x).1) (sym shows.1) ∙ ap (λ (s : State). out ++ (fed s piece).1) is;
  },
  refl,
)
feeds_wrong r r' fault.NoMemory old out out' piece is shows = record { state = refl; text = shows }

-- it stays stopped
pub stays_stopped : (r : Reading) (why : CaptureFault) (old : State) (out : List ℕ) → state_of r (Some why) ≡ old → StaysStopped old old out out (Err why)
stays_stopped r why old out is = subst (λ (s : State). StaysStopped s s out out (Err why)) is (refl, refl, refl)

pub stays_going : (r : Reading) (old new : State) (out out' : List ℕ) (answer : Result (Unit {0}) CaptureFault) → state_of r None ≡ old → StaysStopped old new out out' answer
stays_going r old new out out' answer is = subst (λ (s : State). StaysStopped s new out out' answer) is tt

-- ---- the end

pub finishes_stopped : (r : Reading) (why : CaptureFault) (s : State) (out : List ℕ) → state_of r (Some why) ≡ s → Finishes s out out (Err why)
finishes_stopped r (fault.Bad why) s out is = (ap (λ (t : State). (finished t).0) is, sym (append-nil out) ∙ ap (λ (t : State). out ++ (finished t).1) is)
finishes_stopped r fault.NoMemory s out is = refl

pub finishes_well : (r : Reading) (s : State) (out out' text : List ℕ) → state_of r None ≡ s → r.field ≡ Side → text ≡ cuts_of r.sessions → out' ≡ out ++ text → Finishes s out out' (Ok tt)
finishes_well r s out out' text is side cuts appended =
    let end : finished s ≡ end_of r None = ap finished (sym is) ∙ ap (λ (f : Field). end_of r (wrong_end r f)) side in
    (sym (ap (λ e. e.0) end), appended ∙ ap (λ (t : List ℕ). out ++ t) cuts ∙ ap (λ e. out ++ e.1) (sym end))

pub finishes_inside : (r : Reading) (s : State) (out out' text : List ℕ) → state_of r None ≡ s → wrong_end r r.field ≡ Some (bad.Stream r.place) → text ≡ wrong_line (bad.Stream r.place)
    → out' ≡ out ++ text → Finishes s out out' (Err (fault.Bad (bad.Stream r.place)))
finishes_inside r s out out' text is inside line appended =
    let end : finished s ≡ end_of r (Some (bad.Stream r.place)) = ap finished (sym is) ∙ ap (end_of r) inside in
    (sym (ap (λ e. e.0) end), appended ∙ ap (λ (t : List ℕ). out ++ t) line ∙ ap (λ e. out ++ e.1) (sym end))
