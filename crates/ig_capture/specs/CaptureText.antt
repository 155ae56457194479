-- The text of a capture: the lines of the messages in its records, and what the end adds.
use Rattle.std.specs.Prelude.{ℕ, List, [], ◌∷◌, ◌++◌, Option, Some, None, Result, Ok, Err}
use Rattle.ig_capture.specs.declared.fault.CaptureBad.{CaptureBad}
use Rattle.ig_capture.specs.declared.fault.CaptureBad.TheVariants as bad
use Rattle.ig_capture.specs.Records.{Piece, Records, records_of}
use Rattle.ig_capture.specs.Said.{Said, silent, and_then}
use Rattle.ig_capture.specs.Sessions.{Session, hear_at}
use Rattle.ig_capture.specs.EndText.{wrong_line, cuts_of}

-- the sessions after these pieces, with the lines of their messages; or the first message that is malformed
abbrev pub hear_pieces : List Session → List Piece → Said (List Session) CaptureBad
hear_pieces sessions [] = silent sessions
hear_pieces sessions (p ∷ pieces) = and_then (hear_at sessions p.session p.server p.bytes) (λ later. hear_pieces later pieces)

-- what the records of a capture say
abbrev pub heard : Records → Said (List Session) CaptureBad
heard records = hear_pieces [] records.pieces

-- what is malformed first: a message, or else the record after them
abbrev pub first_wrong : Result (List Session) CaptureBad → Option ℕ → Option CaptureBad
first_wrong (Err why) place = Some why
first_wrong (Ok sessions) None = None
first_wrong (Ok sessions) (Some place) = Some (bad.Stream place)

-- a line for each frame that isn't whole, or one that says what is malformed
abbrev pub end_text : Result (List Session) CaptureBad → Option CaptureBad → List ℕ
end_text sessions (Some why) = wrong_line why
end_text (Ok sessions) None = cuts_of sessions
end_text (Err why) None = []

-- what is malformed in a capture, if anything
unfoldable pub WrongIn : List ℕ → Option CaptureBad
WrongIn capture = first_wrong (heard (records_of capture)).0 (records_of capture).wrong

-- the lines of the messages of a capture
unfoldable pub CaptureLines : List ℕ → List ℕ
CaptureLines capture = (heard (records_of capture)).1

-- these lines, and what the end adds
unfoldable pub CaptureText : List ℕ → List ℕ
CaptureText capture = CaptureLines capture ++ end_text (heard (records_of capture)).0 (WrongIn capture)

-- 0, or 4 where something is malformed
abbrev pub status_for : Option CaptureBad → ℕ
status_for None = 0
status_for (Some why) = 4

unfoldable pub CaptureStatus : List ℕ → ℕ
CaptureStatus capture = status_for (WrongIn capture)
