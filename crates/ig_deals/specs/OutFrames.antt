-- The frames that a session writes.
use Rattle.std.specs.Prelude.{ℕ, List, [], ◌∷◌, map, Ok, Err}
use Rattle.ig_wire.specs.declared.version.Version.{Version}
use Rattle.ig_deals.specs.declared.cfg.SessionCfg.{SessionCfg}
use Rattle.ig_deals.specs.declared.manner.Manner.{Manner}
use Rattle.ig_deals.specs.Hellos.{Greeting, greeting_of, hello_frame}
use Rattle.ig_deals.specs.Asks.{Asked, asks_after}
use Rattle.ig_deals.specs.Deals.{Got, Deal, dealt}
use Rattle.ig_deals.specs.Desk.{Desk, fresh_desk}
use Rattle.ig_deals.specs.Replies.{Reply, reply_frame}
use Rattle.ig_deals.specs.Turns.{Terms, turn}

-- the replies to deals, one after another
abbrev pub replies : Terms → Desk → List Deal → List Reply
replies terms desk [] = []
replies terms desk (deal ∷ deals) = (turn terms desk deal).reply ∷ replies terms (turn terms desk deal).desk deals

-- the desk after deals
abbrev pub desk_after : Terms → Desk → List Deal → Desk
desk_after terms desk [] = desk
desk_after terms desk (deal ∷ deals) = desk_after terms (turn terms desk deal).desk deals

-- the frames of the replies
abbrev pub reply_frames : Terms → Desk → List Deal → List (List ℕ)
reply_frames terms desk deals = map (reply_frame terms.version) (replies terms desk deals)

-- the terms of a session whose hello was accepted at a version
abbrev pub terms_at : SessionCfg → (Version → Manner) → Version → Terms
terms_at cfg manner_at v = record { version = v; manner = manner_at v; cfg = cfg }

-- the frames after the reply to the hello: none after a refused one
abbrev pub frames_after : SessionCfg → (Version → Manner) → Greeting → List Asked → List Got → List (List ℕ)
frames_after cfg manner_at (Ok hello) asked given = reply_frames (terms_at cfg manner_at hello.version) fresh_desk (dealt asked given)
frames_after cfg manner_at (Err fault) asked given = []

-- the frames that answer bodies: the reply to the hello, and one reply to each request up to the first
-- call for which the grid gave nothing yet
abbrev pub out_frames : SessionCfg → (Version → Manner) → List (List ℕ) → List Got → List (List ℕ)
out_frames cfg manner_at [] given = []
out_frames cfg manner_at (hello ∷ bodies) given =
    hello_frame cfg hello ∷ frames_after cfg manner_at (greeting_of hello) (asks_after (greeting_of hello) bodies) given
