-- What the calls of this crate answer, by what they are said to do.
use Rattle.std.specs.Prelude.{◌≡◌, ℕ, ◌<◌, ◌++◌, Bool, true, false, List, [], length, Result, Ok, Err}
use Rattle.ig_wire.specs.Fields.{frame_place}
use Rattle.ig_wire.specs.declared.ask.AskFault.{AskFault}
use Rattle.ig_wire.specs.declared.ask.AskFault.TheVariants as ask
use Rattle.ig_wire.specs.declared.unread.ReadFault.{ReadFault}
use Rattle.ig_wire.specs.declared.unread.ReadFault.TheVariants as reads
use Rattle.ig_caches.specs.declared.request.Request.{Request}
use Rattle.ig_capture.specs.declared.fault.CaptureBad.{CaptureBad}
use Rattle.ig_capture.specs.declared.fault.CaptureFault.{CaptureFault}
use Rattle.ig_capture.specs.declared.fault.CaptureFault.TheVariants as fault
use Rattle.ig_capture.specs.declared.stop.Stop.{Stop}
use Rattle.ig_capture.specs.declared.stop.Stop.TheVariants as stop
use Rattle.ig_capture.specs.Said.{Said, silent, and_then}
use Rattle.ig_capture.specs.Talks.{Talk, Step, later_place}
use Rattle.ig_capture.specs.Sessions.{Side, hear}
use Rattle.ig_capture.specs.Reading.{Reading, Read}

-- memory ran out for a request
abbrev pub lacks_memory : Result Request AskFault → Bool
lacks_memory (Err ask.NoMemory) = true
lacks_memory asked = false

-- a message was shown, unless memory ran out
abbrev pub ShowsStep : Step → Talk → List ℕ → Result (Unit {0}) Stop → Type 0
ShowsStep step talk text (Ok done) = step ≡ Ok (talk, text)
ShowsStep step talk text (Err (stop.At place)) = step ≡ Err place
ShowsStep step talk text (Err stop.NoMemory) = Unit {0}

-- the text of a result was appended; or the result stops where this many bytes of the body are left
abbrev pub ShowsContent : ℕ → List ℕ → Result (List ℕ) ℕ → List ℕ → List ℕ → Result (Unit {0}) Stop → Type 0
ShowsContent place body content old new (Ok done) = (text : List ℕ) × (content ≡ Ok text) × (new ≡ old ++ text)
ShowsContent place body content old new (Err (stop.At at)) = (left : ℕ) × (content ≡ Err left) × (at ≡ later_place place (frame_place body left))
ShowsContent place body content old new (Err stop.NoMemory) = Unit {0}

-- the lines were appended, and this is where it led, unless memory ran out
abbrev pub ShowsLines : {A : Type 0} → Said A CaptureBad → A → List ℕ → List ℕ → Result (Unit {0}) CaptureFault → Type 0
ShowsLines said after old new (Ok done) = (text : List ℕ) × (said ≡ (Ok after, text)) × (new ≡ old ++ text)
ShowsLines said after old new (Err (fault.Bad why)) = (text : List ℕ) × (said ≡ (Err why, text)) × (new ≡ old ++ text)
ShowsLines said after old new (Err fault.NoMemory) = Unit {0}

-- A frame of a side was heard, and its line appended, or there is no whole one; unless memory ran out. Hearing
-- the side is hearing this frame and then the rest.
abbrev pub HearsFrame : ℕ → Bool → Side → Side → List ℕ → List ℕ → Result Bool CaptureFault → Type 0
HearsFrame session server old new lines lines' (Ok true) =
    (text : List ℕ) × (hear session server old ≡ and_then (Ok new, text) (hear session server)) × (lines' ≡ lines ++ text)
    × (length new.stream.rest < length old.stream.rest)
HearsFrame session server old new lines lines' (Ok false) = (hear session server old ≡ silent old) × (new ≡ old) × (lines' ≡ lines)
HearsFrame session server old new lines lines' (Err (fault.Bad why)) =
    (text : List ℕ) × (hear session server old ≡ (Err why, text)) × (lines' ≡ lines ++ text)
HearsFrame session server old new lines lines' (Err fault.NoMemory) = Unit {0}

-- the message is malformed where reading it says
abbrev pub StopsAt : ℕ → ReadFault → Stop → Type 0
StopsAt place reads.NoMemory result = result ≡ stop.NoMemory
StopsAt place (reads.Unread unread) result = result ≡ stop.At (later_place place unread.place)

-- a byte of a capture was read that ends no message
abbrev pub ReadsByte : Read → Reading → Result (Unit {0}) CaptureFault → Type 0
ReadsByte read new (Ok done) = read ≡ silent new
ReadsByte read new (Err (fault.Bad why)) = read ≡ (Err why, [])
ReadsByte read new (Err fault.NoMemory) = Unit {0}
