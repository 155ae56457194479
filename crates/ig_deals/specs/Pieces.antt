-- The pieces in which a frame is shown.
use Rattle.std.specs.Prelude.{◌≡◌, ℕ, ◌+◌, ◌-◌, ◌%◌, ◌<◌, ◌≤◌, List, ◌++◌, length, take, drop}
use Rattle.ig_wire.specs.Limits.{piece_bytes}

-- how many bytes are left of the piece of 65,536 bytes in which the next byte stands, when these are gone
abbrev pub piece_left : ℕ → ℕ
piece_left gone = piece_bytes - gone % piece_bytes

-- what is shown of a frame when these bytes of it are gone: the rest of that piece, or of the frame
abbrev pub piece_at : List ℕ → ℕ → List ℕ
piece_at frame gone = take (piece_left gone) (drop gone frame)

-- a piece comes next in the frame, has some bytes while any are left, and 65,536 at most
pub record IsNextPiece (frame : List ℕ) (gone : ℕ) : Type 0 where
  pub after : List ℕ
  pub next : piece_at frame gone ++ after ≡ drop gone frame
  pub some : gone < length frame → 0 < length (piece_at frame gone)
  pub most : length (piece_at frame gone) ≤ piece_bytes

abbrev pub PiecesAreNext : Type 0
PiecesAreNext = (frame : List ℕ) (gone : ℕ) → IsNextPiece frame gone

-- where part of a piece goes, the rest of it is shown
abbrev pub PiecesGoOn : Type 0
PiecesGoOn =
    (frame : List ℕ) (gone n : ℕ) → n < length (piece_at frame gone)
    → piece_at frame (gone + n) ≡ drop n (piece_at frame gone)
