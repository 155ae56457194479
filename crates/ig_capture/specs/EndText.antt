-- What the end of a capture adds to its lines.
use Rattle.std.specs.Prelude.{ℕ, ◌+◌, Bool, true, false, List, [], ◌∷◌, ◌++◌, length, codes, ◌==◌, if◌then◌else◌}
use Rattle.std.specs.Fmt.{decimal}
use Rattle.ig_capture.specs.declared.fault.CaptureBad.{CaptureBad}
use Rattle.ig_capture.specs.declared.fault.CaptureBad.TheVariants as bad
use Rattle.ig_capture.specs.Sessions.{Session, line_end, message_line}

abbrev pub side_text : Bool → List ℕ
side_text false = codes "client"
side_text true = codes "server"

-- a place in the capture, or one in the stream of a side of a session
abbrev pub wrong_text : CaptureBad → List ℕ
wrong_text (bad.Stream place) = codes "malformed stream " ++ decimal place
wrong_text (bad.Message session server place) =
    codes "malformed session " ++ (decimal session ++ (codes " side " ++ (side_text server ++ (codes " place " ++ decimal place))))

abbrev pub wrong_line : CaptureBad → List ℕ
wrong_line why = wrong_text why ++ line_end ∷ []

-- the bytes of a frame that isn't whole, by their number, if there are any
abbrev pub cut_line : ℕ → Bool → ℕ → List ℕ
cut_line session server held = if held == 0 then [] else message_line session server (codes "cut " ++ decimal held)

abbrev pub cuts_from : ℕ → List Session → List ℕ
cuts_from number [] = []
cuts_from number (s ∷ sessions) =
    cut_line number false (length s.from_client.rest) ++ (cut_line number true (length s.from_server.rest) ++ cuts_from (number + 1) sessions)

-- a line for each frame that isn't whole, by session and first that of the client
abbrev pub cuts_of : List Session → List ℕ
cuts_of sessions = cuts_from 0 sessions
