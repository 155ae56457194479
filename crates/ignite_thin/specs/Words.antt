-- What the program's words ask for.
use Rattle.std.specs.Prelude.{ℕ, Bool, true, false, length, not, ◌&&◌, ◌==◌, nat_lt, nat_le, List, [], ◌∷◌, codes, Option, None, Some, if◌then◌else◌}
use Rattle.std.specs.List.{list_all}
use Rattle.std.specs.Str.{bytes_eq}

-- a name isn't empty and doesn't begin with a hyphen
abbrev pub is_name : List ℕ → Bool
is_name [] = false
is_name (first ∷ name) = not (first == 45)

-- 1 to 64 of them
abbrev pub are_names : List (List ℕ) → Bool
are_names names = nat_lt 0 (length names) && (nat_le (length names) 64 && list_all is_name names)

-- the one word is `decode`
abbrev pub is_decode : List (List ℕ) → Bool
is_decode (command ∷ []) = bytes_eq command (codes "decode")
is_decode _ = false

-- the names in `pipe NAME ..`, where the words are these
abbrev pub pipe_names : List (List ℕ) → Option (List (List ℕ))
pipe_names [] = None
pipe_names (command ∷ names) = if bytes_eq command (codes "pipe") && are_names names then Some names else None
