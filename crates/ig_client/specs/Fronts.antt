-- What the bytes of a frame are so far, as the answer of a look at them.
use Rattle.std.specs.Prelude.{◌≡◌, ℕ, ◌+◌, ◌≤◌, ℤ, pos, negsuc, List, length, take, drop, nat_le, ◌&&◌, Option, None, Some, if◌then◌else◌}
use Rattle.ig_base.specs.Frames as frames
use Rattle.ig_client.specs.declared.front.Front.{Front}
use Rattle.ig_client.specs.declared.front.Front.TheVariants.{Whole, Bad, Missing}

-- the answer says what the bytes begin with
abbrev pub Finds : Front → List ℕ → frames.Front → Type 0
Finds (Whole len) bytes front = (4 + len ≤ length bytes) × (front ≡ frames.Body (take len (drop 4 bytes)) (drop (4 + len) bytes))
Finds (Bad n) bytes front = front ≡ frames.Bad n
Finds (Missing count) bytes front = front ≡ frames.Incomplete count

-- a length that a body may have
abbrev pub len_in_range : ℕ → ℕ → ℤ → Option ℕ
len_in_range least limit (pos n) = if nat_le least n && nat_le n limit then Some n else None
len_in_range least limit (negsuc n) = None
