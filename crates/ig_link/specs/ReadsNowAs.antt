-- What each answer of a read that doesn't wait says of the source before and after it.
use Rattle.std.specs.Prelude.{◌≡◌, ℕ, false, List, []}
use Rattle.ig_link.specs.States.{SourceState, Rose, SourceAdvances}
use Rattle.ig_link.specs.ReadsAs.{ReadSome, ReadEnd, ReadFault}
use Rattle.ig_link.specs.declared.link.TakeNow.{TakeNow}
use Rattle.ig_link.specs.declared.link.TakeNow.TheVariants as now

-- no byte was there yet, which is counted
pub record ReadPause (old new : SourceState) : Type 0 where
  pub advances : SourceAdvances old new []
  pub was_open : old.ended ≡ false
  pub is_open : new.ended ≡ false
  pub counts : new.faults ≡ old.faults
  pub rose : Rose old.pauses new.pauses

abbrev pub ReadsNowAs : TakeNow → SourceState → SourceState → List ℕ → Type 0
ReadsNowAs (now.Bytes n) old new buf = ReadSome n old new buf
ReadsNowAs now.NotYet old new buf = ReadPause old new
ReadsNowAs now.End old new buf = ReadEnd old new
ReadsNowAs now.Failed old new buf = ReadFault old new
