-- The frames of what a server sends after its reply to the hello, and those of them that were asked for.
use Rattle.std.specs.Prelude.{◌≡◌, ℕ, ◌+◌, ℤ, pos, negsuc, Bool, true, false, not, ◌&&◌, nat_lt, nat_le, List, [], ◌∷◌, ◌++◌, if◌then◌else◌}
use Rattle.std.specs.Ordering.{int_eq}
use Rattle.std.specs.List.{fold, list_any}
use Rattle.ig_base.specs.Numbers.{AreBytes}
use Rattle.ig_base.specs.Frames.{Front, Body, Bad, Incomplete, front, max_body, Side, Cut}
use Rattle.ig_client.specs.PendingState.{id_of}

-- the bodies of the whole frames of a stream, and the bytes after them
pub record Cutting : Type 0 where
  pub bodies : List (List ℕ)
  pub rest : List ℕ

abbrev pub uncut : Cutting
uncut = record { bodies = []; rest = [] }

-- the bytes after the last frame are a whole frame now, or they aren't
abbrev pub with_rest : List (List ℕ) → List ℕ → Front → Cutting
with_rest bodies rest (Body body after) = record { bodies = bodies ++ body ∷ []; rest = after }
with_rest bodies rest (Bad n) = record { bodies = bodies; rest = rest }
with_rest bodies rest (Incomplete n) = record { bodies = bodies; rest = rest }

-- with one more byte of the stream, where a body has at least this length
abbrev pub with_byte : ℕ → Cutting → ℕ → Cutting
with_byte least c b = with_rest c.bodies (c.rest ++ b ∷ []) (front least max_body (c.rest ++ b ∷ []))

-- the cut of a stream whose bodies all have at least this length
abbrev pub cut : ℕ → List ℕ → Cutting
cut least bytes = fold (with_byte least) uncut bytes

-- all bodies have at least this length: what a server sends after its reply to the hello
abbrev pub replies_side : ℕ → Side
replies_side least = record { first = least; later = least }

-- it is the one cut of the stream into frames
abbrev pub CutsRightly : Type 0
CutsRightly = (least : ℕ) (bytes : List ℕ) → AreBytes bytes → Cut (replies_side least) bytes (cut least bytes).bodies (cut least bytes).rest

-- the body has this identifier
abbrev pub has_id : ℤ → List ℕ → Bool
has_id id body = int_eq (id_of body) id

-- of n calls, under the identifiers 1 to n, one has this identifier
abbrev pub was_made : ℕ → ℤ → Bool
was_made n (pos id) = nat_lt 0 id && nat_le id n
was_made n (negsuc id) = false

-- of n calls the one with this identifier is pending: it was made, and no frame so far has the identifier
abbrev pub is_pending : ℕ → List (List ℕ) → ℤ → Bool
is_pending n earlier id = was_made n id && not (list_any (has_id id) earlier)

-- the frames up to the first one whose call isn't pending when it comes, where n calls were submitted
abbrev pub asked_from : ℕ → List (List ℕ) → List (List ℕ) → List (List ℕ)
asked_from n earlier [] = []
asked_from n earlier (body ∷ bodies) =
    if is_pending n earlier (id_of body) then body ∷ asked_from n (earlier ++ body ∷ []) bodies else []

abbrev pub asked : ℕ → List (List ℕ) → List (List ℕ)
asked n bodies = asked_from n [] bodies
