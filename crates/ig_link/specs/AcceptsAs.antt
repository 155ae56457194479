-- What contracts see of a door, and what each answer of an accept says of the door before and after it
-- and of the link that it opened.
use Rattle.std.specs.Prelude.{◌≡◌, ℕ, ◌+◌, ◌-◌, ◌^◌, ◌<◌, ◌≤◌, Bool, true, false, List, [], ◌∷◌, Option, Some, None, IfSome}
use Rattle.ig_link.specs.States.{SourceState, SinkState, Rose}
use Rattle.ig_link.specs.declared.door.Opened.{Opened}
use Rattle.ig_link.specs.declared.door.Opened.TheVariants as opened

-- A link that is still to come: the bytes that it has to give, and whether its reads and its writes
-- hold.
pub record Coming : Type 0 where
  pub rest : List ℕ
  pub reads_hold : Bool
  pub writes_hold : Bool

-- A door: the links still to come, if the door tells them; how often it has failed; how many links it
-- has opened; and whether it has ended.
pub record DoorState : Type 0 where
  pub coming : Option (List Coming)
  pub faults : ℕ
  pub opened : ℕ
  pub ended : Bool

-- the link is the one that was to come
pub record IsComing (c : Coming) (source : SourceState) (sink : SinkState) : Type 0 where
  pub rest : source.left ≡ Some c.rest
  pub reads_hold : source.holds ≡ c.reads_hold
  pub writes_hold : sink.holds ≡ c.writes_hold

-- if the links to come are told, the first of them came
abbrev pub FirstComes : Option (List Coming) → SourceState → SinkState → Option (List Coming) → Type 0
FirstComes None source sink after = after ≡ None
FirstComes (Some coming) source sink after =
    (c : Coming) × (others : List Coming) × (coming ≡ c ∷ others) × (after ≡ Some others)
    × IsComing c source sink

-- nothing was read from the link or written to it, and no read or write has failed, paused or ended
pub record IsNew (source : SourceState) (sink : SinkState) : Type 0 where
  pub taken : IfSome source.taken (λ bytes. bytes ≡ [])
  pub written : IfSome sink.written (λ bytes. bytes ≡ [])
  pub tells : sink.tells ≡ true
  pub read_faults : source.faults ≡ 0
  pub write_faults : sink.faults ≡ 0
  pub pauses : source.pauses ≡ 0
  pub is_open : source.ended ≡ false

-- a link was opened, which is counted; the count saturates at `u64::MAX`
pub record OpensLink (source : SourceState) (sink : SinkState) (old new : DoorState) : Type 0 where
  pub comes : FirstComes old.coming source sink new.coming
  pub is_new : IsNew source sink
  pub opened : old.opened < 2 ^ 64 - 1 → new.opened ≡ old.opened + 1
  pub grows : old.opened ≤ new.opened
  pub faults : new.faults ≡ old.faults
  pub was_open : old.ended ≡ false
  pub is_open : new.ended ≡ false

-- the door has ended; if it told its links, none was still to come
pub record DoorEnds (old new : DoorState) : Type 0 where
  pub none_left : IfSome old.coming (λ coming. coming ≡ [])
  pub coming : new.coming ≡ old.coming
  pub opened : new.opened ≡ old.opened
  pub faults : new.faults ≡ old.faults
  pub ended : new.ended ≡ true

-- the door failed, which is counted
pub record DoorFails (old new : DoorState) : Type 0 where
  pub coming : new.coming ≡ old.coming
  pub opened : new.opened ≡ old.opened
  pub faults : old.faults ≤ new.faults
  pub rose : Rose old.faults new.faults
  pub was_open : old.ended ≡ false
  pub is_open : new.ended ≡ false

abbrev pub AcceptsAs : {L : Type 0} → (L → SourceState) → (L → SinkState) → Opened L → DoorState → DoorState → Type 0
AcceptsAs source sink (opened.Link link) old new = OpensLink (source link) (sink link) old new
AcceptsAs source sink opened.End old new = DoorEnds old new
AcceptsAs source sink opened.Failed old new = DoorFails old new
