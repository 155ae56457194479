-- What contracts see of a session.
use Rattle.std.specs.Prelude.{ℕ, List, []}
use Rattle.ig_base.specs.Frames.{max_body}
use Rattle.ig_frame.specs.Streams.{Stream, new_stream}
use Rattle.ig_deals.specs.declared.cfg.SessionCfg.{SessionCfg}
use Rattle.ig_deals.specs.Desk.{Desk, fresh_desk}
use Rattle.ig_replies.specs.Showing.{Waiting, waiting_none}
use Rattle.ig_session.specs.declared.phase.Phase.{Phase}
use Rattle.ig_session.specs.declared.phase.Phase.TheVariants.{BeforeHello}
use Rattle.ig_session.specs.declared.awaited.Awaited.{Awaited}

pub record State : Type 0 where
  pub cfg : SessionCfg
  -- how many bytes of the input were read, and those that follow, as far as they were fed
  pub stream : Stream
  pub phase : Phase
  -- the cursors, the next cursor's number, and what was told last
  pub desk : Desk
  -- the calls that are out, in the order in which they were handed out
  pub out : List Awaited
  -- how many calls were handed out
  pub handed : ℕ
  -- the frames that are to be written, and how many bytes of the first are gone
  pub waiting : Waiting

-- the state with these parts
abbrev pub state_of : SessionCfg → Stream → Phase → Desk → List Awaited → ℕ → Waiting → State
state_of cfg stream phase desk out handed waiting = record {
  cfg = cfg;
  stream = stream;
  phase = phase;
  desk = desk;
  out = out;
  handed = handed;
  waiting = waiting;
}

-- a session that was fed nothing
abbrev pub new_state : SessionCfg → State
new_state cfg = record {
  cfg = cfg;
  stream = new_stream max_body;
  phase = BeforeHello;
  desk = fresh_desk;
  out = [];
  handed = 0;
  waiting = waiting_none;
}
