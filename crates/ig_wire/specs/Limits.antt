-- The limits that both ends keep to. The greatest length of a body is `max_body` of `ig_base`.
use Rattle.std.specs.Prelude.{ℕ, ℤ, pos, ◌^◌}

-- the open cursors of a session
abbrev pub most_cursors : ℕ
most_cursors = 128

-- the calls of a channel that wait for a reply
abbrev pub most_pending_calls : ℕ
most_pending_calls = 1024

-- the caches that stand
abbrev pub most_caches : ℕ
most_caches = 1024

-- the creations and destructions of caches
abbrev pub most_cache_changes : ℤ
most_cache_changes = pos 2147483647

-- the bytes that a session takes
abbrev pub most_session_bytes : ℕ
most_session_bytes = 2 ^ 48

-- the bytes of a reply's frame that are shown at once
abbrev pub piece_bytes : ℕ
piece_bytes = 65536
