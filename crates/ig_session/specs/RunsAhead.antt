-- How the input, the output, the calls and the end of a session belong together whose calls are answered in any order.
use Rattle.std.specs.Prelude.{◌≡◌, ℕ, ◌+◌, ◌<◌, ◌≤◌, List, [], ◌++◌, map, length, Contains}
use Rattle.ig_base.specs.Frames.{client, Begins}
use Rattle.ig_wire.specs.Limits.{most_session_bytes}
use Rattle.ig_deals.specs.declared.cfg.SessionCfg.{SessionCfg}
use Rattle.ig_deals.specs.declared.end.SessionEnd.{SessionEnd}
use Rattle.ig_deals.specs.declared.end.SessionEnd.TheVariants as ends
use Rattle.ig_deals.specs.Asks.{asks}
use Rattle.ig_deals.specs.Deals.{Deal, calls}
use Rattle.ig_deals.specs.Serves.{EndsBy, joined}
use Rattle.ig_session.specs.StandsAhead.{HandedAhead, given_so_far, dealt_ahead, out_among, IsOrder, out_ahead}

-- each call was answered, each request was replied, and the output is these frames
pub record ShowsAll (deals : List Deal) (order : List ℕ) (frames : List (List ℕ)) (output : List ℕ) : Type 0 where
  pub none_out : out_among 0 deals ≡ []
  pub each : (place : ℕ) → place < length deals → Contains order place
  pub output_is : output ≡ joined frames

-- The output is the first of these frames, and of the others the first bytes. No more replies are missing, or not whole, than
-- calls may be out.
pub record ShowsFirst (limit : ℕ) (deals : List Deal) (order : List ℕ) (frames : List (List ℕ)) (output : List ℕ) : Type 0 where
  pub whole : List (List ℕ)
  pub others : List (List ℕ)
  pub prefix : List ℕ
  pub missing : List ℕ
  pub frames_are : frames ≡ whole ++ others
  pub cut : joined others ≡ prefix ++ missing
  pub output_is : output ≡ joined whole ++ prefix
  pub few : length deals + length others ≤ length order + limit

-- a write fault and a lack of memory may cut off the output
abbrev pub ShowsAhead : SessionEnd → ℕ → List Deal → List ℕ → List (List ℕ) → List ℕ → Type 0
ShowsAhead ends.WriteFault limit deals order frames output = ShowsFirst limit deals order frames output
ShowsAhead ends.NoMemory limit deals order frames output = ShowsFirst limit deals order frames output
ShowsAhead end limit deals order frames output = ShowsAll deals order frames output

-- A session took this input, wrote this output, handed out these calls and ended so. It read the bodies that the input
-- begins with, and each call that they ask for was handed out once and in order. The output is the reply to the hello, and
-- then replies to requests in this order, each once.
pub record RunsAhead (limit : ℕ) (cfg : SessionCfg) (input output : List ℕ) (ran : List HandedAhead) (order : List ℕ) (end : SessionEnd) : Type 0 where
  pub bodies : List (List ℕ)
  pub after : List ℕ
  pub within : length input ≤ most_session_bytes
  pub begins : Begins client input bodies after
  pub ends_by : EndsBy end input bodies after
  pub handed_out : map (λ (r : HandedAhead). r.call) ran ≡ calls (asks bodies)
  pub order_is : IsOrder (dealt_ahead (asks bodies) (given_so_far ran)) order
  pub shows : ShowsAhead end limit (dealt_ahead (asks bodies) (given_so_far ran)) order
      (out_ahead cfg bodies (dealt_ahead (asks bodies) (given_so_far ran)) order) output
