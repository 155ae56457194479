-- What each answer of a read says of the source before and after it.
use Rattle.std.specs.Prelude.{◌≡◌, ℕ, ◌≤◌, true, false, List, [], length, take, Some}
use Rattle.ig_link.specs.States.{SourceState, Rose, SourceAdvances}
use Rattle.ig_link.specs.declared.ends.Take.{Take}
use Rattle.ig_link.specs.declared.ends.Take.TheVariants as took

-- n bytes, at least one, were taken and stand at the start of the buffer
pub record ReadSome (n : ℕ) (old new : SourceState) (buf : List ℕ) : Type 0 where
  pub some : 1 ≤ n
  pub fits : n ≤ length buf
  pub advances : SourceAdvances old new (take n buf)
  pub was_open : old.ended ≡ false
  pub is_open : new.ended ≡ false
  pub counts : new.faults ≡ old.faults
  pub pauses : new.pauses ≡ old.pauses

-- the source has ended; if its reads hold, it told that no byte was still to come
pub record ReadEnd (old new : SourceState) : Type 0 where
  pub advances : SourceAdvances old new []
  pub ended : new.ended ≡ true
  pub whole : old.holds ≡ true → old.left ≡ Some []
  pub counts : new.faults ≡ old.faults
  pub pauses : new.pauses ≡ old.pauses

-- the read failed, which is counted, and the source's reads didn't hold
pub record ReadFault (old new : SourceState) : Type 0 where
  pub advances : SourceAdvances old new []
  pub was_open : old.ended ≡ false
  pub is_open : new.ended ≡ false
  pub rose : Rose old.faults new.faults
  pub pauses : new.pauses ≡ old.pauses
  pub holds_not : old.holds ≡ false

abbrev pub ReadsAs : Take → SourceState → SourceState → List ℕ → Type 0
ReadsAs (took.Bytes n) old new buf = ReadSome n old new buf
ReadsAs took.End old new buf = ReadEnd old new
ReadsAs took.Failed old new buf = ReadFault old new
