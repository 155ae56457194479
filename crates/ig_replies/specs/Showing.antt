-- Frames of which the first bytes are gone, and queues of frames.
use Rattle.std.specs.Prelude.{ℕ, ◌+◌, List, [], ◌∷◌, ◌++◌, length, drop, nat_lt, if◌then◌else◌}
use Rattle.ig_deals.specs.Pieces.{piece_at}
use Rattle.ig_deals.specs.Serves.{joined}

-- a frame, and how many bytes of it are gone
pub record Showing : Type 0 where
  pub frame : List ℕ
  pub gone : ℕ

abbrev pub showing : List ℕ → Showing
showing frame = record { frame = frame; gone = 0 }

-- frames that are shown one after another, and how many bytes of the first are gone
pub record Waiting : Type 0 where
  pub frames : List (List ℕ)
  pub gone : ℕ

abbrev pub waiting_none : Waiting
waiting_none = record { frames = []; gone = 0 }

-- what is left of the first frame, and the frames after it
abbrev pub left_of : List (List ℕ) → ℕ → List ℕ
left_of [] gone = []
left_of (frame ∷ frames) gone = drop gone frame ++ joined frames

-- the bytes that are still to be shown
abbrev pub bytes_left : Waiting → List ℕ
bytes_left w = left_of w.frames w.gone

-- the piece that is shown: of the first frame
abbrev pub piece_of : List (List ℕ) → ℕ → List ℕ
piece_of [] gone = []
piece_of (frame ∷ frames) gone = piece_at frame gone

abbrev pub piece_shown : Waiting → List ℕ
piece_shown w = piece_of w.frames w.gone

-- the next frame comes first when the first one is gone
abbrev pub frames_when : List (List ℕ) → ℕ → Waiting
frames_when [] gone = waiting_none
frames_when (frame ∷ frames) gone =
    if nat_lt gone (length frame) then record { frames = frame ∷ frames; gone = gone }
    else record { frames = frames; gone = 0 }

-- these many more bytes are gone
abbrev pub after_gone : Waiting → ℕ → Waiting
after_gone w n = frames_when w.frames (w.gone + n)

-- a frame waits after the others; nothing of it is gone
abbrev pub frames_and : List (List ℕ) → ℕ → List ℕ → Waiting
frames_and [] gone frame = record { frames = frame ∷ []; gone = 0 }
frames_and (first ∷ frames) gone frame = record { frames = first ∷ (frames ++ frame ∷ []); gone = gone }

abbrev pub after_push : Waiting → List ℕ → Waiting
after_push w frame = frames_and w.frames w.gone frame
