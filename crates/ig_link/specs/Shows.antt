-- What a retired link shows.
use Rattle.std.specs.Prelude.{◌≡◌, true, false, None}
use Rattle.ig_link.specs.States.{SourceState, SinkState}
use Rattle.ig_link.specs.declared.link.Retired.{Retired}

-- all that contracts saw of the link as a source and as a sink; the bytes written if it told them
pub record Shows (source : SourceState) (sink : SinkState) (shown : Retired) : Type 0 where
  pub taken : shown.taken ≡ source.taken
  pub told : sink.tells ≡ true → shown.written ≡ sink.written
  pub untold : sink.tells ≡ false → shown.written ≡ None
  pub read_faults : shown.read_faults ≡ source.faults
  pub write_faults : shown.write_faults ≡ sink.faults
  pub pauses : shown.pauses ≡ source.pauses
  pub ended : shown.ended ≡ source.ended
