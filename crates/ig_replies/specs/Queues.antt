-- What the parts of a queue stand for.
use Rattle.std.specs.Prelude.{◌≡◌, ℕ, ◌-◌, ◌%◌, ◌<◌, ◌≤◌, List, [], ◌∷◌, ◌++◌, map, length, Option, None, Some}
use Rattle.std.specs.List.{AllByRecursion}
use Rattle.ig_wire.specs.Limits.{piece_bytes}
use Rattle.ig_deals.specs.Pieces.{piece_at}
use Rattle.ig_replies.specs.Showing.{Showing, Waiting, waiting_none, frames_when}

abbrev pub frames_of : List Showing → List (List ℕ)
frames_of later = map (λ (s : Showing). s.frame) later

-- the frames, and how much of the first is gone where this is left of its piece
abbrev pub waiting_in : Option Showing → List ℕ → List Showing → Waiting
waiting_in None piece later = waiting_none
waiting_in (Some s) piece later = record { frames = s.frame ∷ frames_of later; gone = s.gone - length piece }

-- nothing of the frame is gone
abbrev pub IsFresh : Showing → Type 0
IsFresh s = s.gone ≡ 0

-- some bytes are left of the piece that was taken last from the frame
pub record IsPieceOf (s : Showing) (piece : List ℕ) : Type 0 where
  pub some : 0 < length piece
  pub within : length piece ≤ s.gone
  pub whole : s.gone ≤ length s.frame
  pub next : piece ≡ piece_at s.frame (s.gone - length piece)

abbrev pub IsQueue : Option Showing → List ℕ → List Showing → Type 0
IsQueue None piece later = (piece ≡ []) × (later ≡ [])
IsQueue (Some s) piece later = IsPieceOf s piece × AllByRecursion IsFresh later

-- whole pieces of the frame are gone, or all of it
pub record IsSpent (s : Showing) : Type 0 where
  pub whole : s.gone ≤ length s.frame
  pub even : s.gone < length s.frame → s.gone % piece_bytes ≡ 0

abbrev pub IsSpentQueue : Option Showing → List Showing → Type 0
IsSpentQueue None later = later ≡ []
IsSpentQueue (Some s) later = IsSpent s × AllByRecursion IsFresh later

-- what is waited for when the piece is spent
abbrev pub waiting_spent : Option Showing → List Showing → Waiting
waiting_spent None later = waiting_none
waiting_spent (Some s) later = frames_when (s.frame ∷ frames_of later) s.gone
