-- What waits to be written: the reply to the hello, and then replies to requests.
use Rattle.std.specs.Prelude.{◌≡◌, ℕ, ◌<◌, ◌≤◌, List, [], ◌∷◌, length, nat_lt, if◌then◌else◌}
use Rattle.ig_wire.specs.Limits.{piece_bytes}
use Rattle.ig_replies.specs.Showing.{Waiting}

-- the reply to the hello comes first while bytes of it are left
abbrev pub waiting_after : List ℕ → ℕ → Waiting → Waiting
waiting_after hello gone replies =
    if nat_lt gone (length hello) then record { frames = hello ∷ replies.frames; gone = gone } else replies

-- it is one piece, and no reply is begun before it is gone; of no reply nothing is gone
pub record IsOutbox (hello : List ℕ) (gone : ℕ) (replies : Waiting) : Type 0 where
  pub short : length hello ≤ piece_bytes
  pub first : gone < length hello → replies.gone ≡ 0
  pub idle : replies.frames ≡ [] → replies.gone ≡ 0
