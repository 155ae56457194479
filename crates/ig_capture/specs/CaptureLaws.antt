-- The laws of reading a capture in pieces.
use Rattle.std.specs.Prelude.{◌≡◌, ℕ, ◌++◌, List, Option, None, Some, Result, Ok, Err}
use Rattle.ig_capture.specs.declared.fault.CaptureBad.{CaptureBad}
use Rattle.ig_capture.specs.declared.fault.CaptureFault.{CaptureFault}
use Rattle.ig_capture.specs.declared.fault.CaptureFault.TheVariants as fault
use Rattle.ig_capture.specs.Reading.{Reading, State, Going, fresh_state, fed, finished}
use Rattle.ig_capture.specs.CaptureText.{CaptureText, CaptureLines, WrongIn}

-- two pieces add what they add as one
pub record FeedsCompose (s : State) (first second : List ℕ) : Type 0 where
  pub state : (fed s (first ++ second)).0 ≡ (fed (fed s first).0 second).0
  pub text : (fed s (first ++ second)).1 ≡ (fed s first).1 ++ (fed (fed s first).0 second).1

abbrev pub answer_for : Option CaptureBad → Result (Unit {0}) CaptureFault
answer_for None = Ok tt
answer_for (Some why) = Err (fault.Bad why)

-- a capture that was fed whole and finished gave its text, and answered what is malformed in it
pub record GivesText (capture : List ℕ) : Type 0 where
  pub text : CaptureText capture ≡ (fed fresh_state capture).1 ++ (finished (fed fresh_state capture).0).1
  pub answer : (finished (fed fresh_state capture).0).0 ≡ answer_for (WrongIn capture)

-- while it goes on, it gave the lines of the messages
abbrev pub GivesLines : List ℕ → Type 0
GivesLines capture = (r : Reading) → (fed fresh_state capture).0 ≡ Going r → (fed fresh_state capture).1 ≡ CaptureLines capture
