-- What holds of every session, whatever it was fed.
use Rattle.std.specs.Prelude.{◌≡◌, ℕ, ◌+◌, ◌≤◌, ◌^◌, List, [], length}
use Rattle.ig_base.specs.Frames.{max_body}
use Rattle.ig_deals.specs.declared.cfg.SessionCfg.{SessionCfg}
use Rattle.ig_deals.specs.Laws.{IsDesk}
use Rattle.ig_replies.specs.RunTerms.{AreTerms}
use Rattle.ig_session.specs.declared.phase.Phase.{Phase}
use Rattle.ig_session.specs.declared.phase.Phase.TheVariants.{BeforeHello, Open, Refused, OutOfMemory}
use Rattle.ig_session.specs.declared.awaited.Awaited.{Awaited}
use Rattle.ig_session.specs.Cfg.{IsCfg}
use Rattle.ig_session.specs.States.{State}

-- the most bytes that a session may be fed in all
abbrev pub most_fed : ℕ
most_fed = 2 ^ 62

-- the most bytes that it may hold of them: the longest frame, and a piece
abbrev pub most_held : ℕ
most_held = 8454148

-- calls are out only while a session is open, or after it ran out of memory
abbrev pub IsSoundPhase : Phase → SessionCfg → List Awaited → Type 0
IsSoundPhase BeforeHello cfg out = out ≡ []
IsSoundPhase (Open terms) cfg out = AreTerms terms × (terms.cfg ≡ cfg)
IsSoundPhase (Refused fault) cfg out = out ≡ []
IsSoundPhase OutOfMemory cfg out = Unit {0}

-- Each request has bytes, so there are fewer cursors and calls than bytes that were read. Where nothing waits,
-- nothing of it is gone.
pub record IsSound (s : State) : Type 0 where
  pub cfg : IsCfg s.cfg
  pub limit : s.stream.limit ≡ max_body
  pub fed : s.stream.place + length s.stream.rest ≤ most_fed
  pub phase : IsSoundPhase s.phase s.cfg s.out
  pub desk : IsDesk s.desk
  pub cursors : s.desk.next + length s.out ≤ s.stream.place + 1
  pub calls : s.handed ≤ s.stream.place
  pub idle : s.waiting.frames ≡ [] → s.waiting.gone ≡ 0
