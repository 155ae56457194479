-- What holds of queues of frames.
use Rattle.std.specs.Prelude.{◌≡◌, ℕ, ◌≤◌, List, ◌++◌, length, drop}
use Rattle.ig_replies.specs.Showing.{Waiting, bytes_left, piece_shown, after_gone, after_push}

-- what is shown comes next of the bytes that are left
abbrev pub ShowsNext : Type 0
ShowsNext = (w : Waiting) → (after : List ℕ) × (piece_shown w ++ after ≡ bytes_left w)

-- what goes is no more there
abbrev pub GoneIsDropped : Type 0
GoneIsDropped = (w : Waiting) (n : ℕ) → n ≤ length (piece_shown w) → bytes_left (after_gone w n) ≡ drop n (bytes_left w)

-- a frame that is pushed is shown after all others
abbrev pub PushIsLast : Type 0
PushIsLast = (w : Waiting) (frame : List ℕ) → bytes_left (after_push w frame) ≡ bytes_left w ++ frame
