-- Frames, and how a stream is cut into them.
use Rattle.std.specs.Prelude.{◌≡◌, ℕ, ◌-◌, ◌≤◌, ◌≤ℤ◌, ℤ, pos, negsuc, List, [], ◌∷◌, ◌++◌, length, take, drop, nat_lt, nat_le, ◌&&◌, Option, None, Some, if◌then◌else◌}
use Rattle.std.specs.Int.{w32}
use Rattle.std.specs.List.{flat_map, AllByRecursion}
use Rattle.ig_base.specs.Numbers.{LE, number_at}

-- the greatest length of a body, without the four bytes of the length
abbrev pub max_body : ℕ
max_body = 8388608

-- the length of a body in four bytes, and the body
unfoldable pub Frame : List ℕ → List ℕ
Frame body = LE w32 (pos (length body)) ++ body

-- the least lengths of the bodies that one side sends: of its first, and of each later one
pub record Side : Type 0 where
  pub first : ℕ
  pub later : ℕ

-- a client sends a hello and then requests
abbrev pub client : Side
client = record { first = 8; later = 10 }

-- a server sends its answer to the hello and then replies: below version 1.4.0
abbrev pub server : Side
server = record { first = 1; later = 12 }

-- the same at version 1.4.0, where a reply's head may be shorter
abbrev pub server_1_4 : Side
server_1_4 = record { first = 1; later = 10 }

-- the least length of the next body after these
abbrev pub least_after : Side → List (List ℕ) → ℕ
least_after side [] = side.first
least_after side (body ∷ bodies) = side.later

-- a body whose length is in range
pub record IsBodyWithin (least limit : ℕ) (body : List ℕ) : Type 0 where
  pub least_length : least ≤ length body
  pub greatest_length : length body ≤ limit

-- a body that the protocol allows, where a body has at least this length
abbrev pub IsBody : ℕ → List ℕ → Type 0
IsBody least body = IsBodyWithin least max_body body

-- the bodies that one side sends, from its first on
abbrev pub AreBodies : Side → List (List ℕ) → Type 0
AreBodies side [] = Unit {0}
AreBodies side (body ∷ bodies) = IsBody side.first body × AllByRecursion (IsBody side.later) bodies

-- the input is the frames of these bodies laid end to end, and then the rest
pub record Begins (side : Side) (input : List ℕ) (bodies : List (List ℕ)) (rest : List ℕ) : Type 0 where
  pub whole : input ≡ flat_map Frame bodies ++ rest
  pub each : AreBodies side bodies

-- What bytes begin with: a whole frame, given as its body and the bytes after the frame; a length
-- that is out of range; or an incomplete frame, with the number of bytes missing: to the end of the
-- length where fewer than four bytes are there, else to the end of the frame.
pub data Front : Type 0 where
  Body : List ℕ → List ℕ → Front
  Bad : ℤ → Front
  Incomplete : ℕ → Front

-- what the bytes after a length in range begin with
abbrev pub front_sized : ℕ → List ℕ → Front
front_sized n bytes = if nat_lt (length bytes) n then Incomplete (n - length bytes) else Body (take n bytes) (drop n bytes)

-- what bytes begin with, where their first four are this number, if they have four
abbrev pub front_from : ℕ → ℕ → List ℕ → Option ℤ → Front
front_from least limit bytes None = Incomplete (4 - length bytes)
front_from least limit bytes (Some (pos n)) = if nat_le least n && nat_le n limit then front_sized n (drop 4 bytes) else Bad (pos n)
front_from least limit bytes (Some (negsuc n)) = Bad (negsuc n)

-- what bytes begin with, where a body's length is in this range
unfoldable pub front : ℕ → ℕ → List ℕ → Front
front least limit bytes = front_from least limit bytes (number_at w32 bytes 0)

-- a body can't have this length
abbrev pub IsOutOfRange : ℕ → ℕ → ℤ → Type 0
IsOutOfRange least limit n = pos least ≤ℤ n → n ≤ℤ pos limit → ⊥

-- the bytes don't begin with a whole frame
abbrev pub HasNoFrame : Front → Type 0
HasNoFrame (Body body rest) = ⊥
HasNoFrame (Bad n) = Unit {0}
HasNoFrame (Incomplete missing) = Unit {0}

-- the input is the frames of these bodies and the rest, which doesn't begin with a whole frame
pub record Cut (side : Side) (input : List ℕ) (bodies : List (List ℕ)) (rest : List ℕ) : Type 0 where
  pub begins : Begins side input bodies rest
  pub ends : HasNoFrame (front (least_after side bodies) max_body rest)
