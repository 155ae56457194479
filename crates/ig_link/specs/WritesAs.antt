-- What each answer of a write, or of sending a whole piece, says of the sink before and after it.
use Rattle.std.specs.Prelude.{◌≡◌, ℕ, ◌<◌, ◌≤◌, false, List, [], length, take}
use Rattle.ig_link.specs.States.{SinkState, Rose, SinkAdvances}
use Rattle.ig_link.specs.declared.ends.Gave.{Gave}
use Rattle.ig_link.specs.declared.ends.Gave.TheVariants as gave

-- the first n bytes of the piece, at least one, were written
pub record WroteSome (n : ℕ) (old new : SinkState) (piece : List ℕ) : Type 0 where
  pub some : 1 ≤ n
  pub fits : n ≤ length piece
  pub advances : SinkAdvances old new (take n piece)
  pub counts : new.faults ≡ old.faults

-- the write failed, which is counted, and the sink's writes didn't hold
pub record WriteFault (old new : SinkState) : Type 0 where
  pub advances : SinkAdvances old new []
  pub rose : Rose old.faults new.faults
  pub holds_not : old.holds ≡ false

abbrev pub WritesAs : Gave → SinkState → SinkState → List ℕ → Type 0
WritesAs (gave.Bytes n) old new piece = WroteSome n old new piece
WritesAs gave.Failed old new piece = WriteFault old new

-- the first bytes of the piece were sent, not all of them, and then a write failed, which is counted
pub record SentPart (sent : ℕ) (old new : SinkState) (piece : List ℕ) : Type 0 where
  pub fits : sent < length piece
  pub advances : SinkAdvances old new (take sent piece)
  pub rose : Rose old.faults new.faults
  pub holds_not : old.holds ≡ false
