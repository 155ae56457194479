-- The records of a capture: four bytes, and then for each record a side, a session, a count of bytes, and
-- the bytes.
use Rattle.std.specs.Prelude.{ℕ, zero, suc, ◌+◌, ◌-◌, ℤ, pos, negsuc, Bool, true, false, List, [], ◌∷◌, length, take, drop, Option, Some, None, nat_lt, nat_le, ◌&&◌, ◌==◌, if◌then◌else◌}
use Rattle.std.specs.Int.{w32}
use Rattle.ig_base.specs.Numbers.{number_at}
use Rattle.ig_frame.specs.Streams.{place_of}
use Rattle.std.specs.Str.{bytes_eq}

-- the four bytes that a capture begins with
abbrev pub magic : List ℕ
magic = 73 ∷ 71 ∷ 67 ∷ 49 ∷ []

-- a session's number is below this
abbrev pub sessions : ℕ
sessions = 1024

-- the most bytes of a record; it has at least one
abbrev pub most_bytes : ℕ
most_bytes = 65536

-- bytes of a side of a session
pub record Piece : Type 0 where
  pub server : Bool
  pub session : ℕ
  pub bytes : List ℕ

-- the pieces of a capture in order, and the place of its first wrong part where one follows them: the first
-- byte of a field that is out of range or isn't whole, or of bytes that aren't whole; a place saturates
pub record Records : Type 0 where
  pub pieces : List Piece
  pub wrong : Option ℕ

abbrev pub nothing_more : Records
nothing_more = record { pieces = []; wrong = None }

abbrev pub wrong_at : ℕ → Records
wrong_at place = record { pieces = []; wrong = Some (place_of place) }

abbrev pub after_piece : Piece → Records → Records
after_piece piece later = record { pieces = piece ∷ later.pieces; wrong = later.wrong }

-- a number of four bytes from least to most, if it is there
abbrev pub within : ℕ → ℕ → Option ℤ → Option ℕ
within least most (Some (pos n)) = if nat_le least n && nat_le n most then Some n else None
within least most _ = None

-- the bytes of a record, at a place, and what follows them
abbrev pub bytes_from : (ℕ → List ℕ → Records) → ℕ → Bool → ℕ → ℕ → List ℕ → Records
bytes_from later place server session n [] = wrong_at place
bytes_from later place server session n (byte ∷ s) =
    after_piece (record { server = server; session = session; bytes = take n (byte ∷ s) })
    (if nat_lt (suc (length s)) n then wrong_at place else later (place + n) (drop n (byte ∷ s)))

-- the number of the bytes, if it is there and in range, and what follows it
abbrev pub count_from : (ℕ → List ℕ → Records) → ℕ → Bool → ℕ → Option ℕ → List ℕ → Records
count_from later place server session None s = wrong_at place
count_from later place server session (Some n) s = bytes_from later (place + 4) server session n (drop 4 s)

abbrev pub count_at : (ℕ → List ℕ → Records) → ℕ → Bool → ℕ → List ℕ → Records
count_at later place server session s = count_from later place server session (within 1 most_bytes (number_at w32 s 0)) s

-- the session, and what follows it
abbrev pub session_from : (ℕ → List ℕ → Records) → ℕ → Bool → Option ℕ → List ℕ → Records
session_from later place server None s = wrong_at place
session_from later place server (Some session) s = count_at later (place + 4) server session (drop 4 s)

abbrev pub session_at : (ℕ → List ℕ → Records) → ℕ → Bool → List ℕ → Records
session_at later place server s = session_from later place server (within 0 (sessions - 1) (number_at w32 s 0)) s

-- a record that begins at this place
abbrev pub record_from : (ℕ → List ℕ → Records) → ℕ → List ℕ → Records
record_from later place [] = nothing_more
record_from later place (side ∷ s) =
    if nat_lt side 2 then session_at later (place + 1) (side == 1) s else wrong_at place

-- records from a place on, at most as many as there are bytes
abbrev pub records_from : ℕ → ℕ → List ℕ → Records
records_from zero place s = nothing_more
records_from (suc most) place s = record_from (records_from most) place s

-- the records of a capture
abbrev pub records_of : List ℕ → Records
records_of s = if bytes_eq (take 4 s) magic then records_from (length s) 4 (drop 4 s) else wrong_at 0
