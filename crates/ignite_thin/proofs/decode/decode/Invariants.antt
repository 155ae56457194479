use Rattle.std.proofs.Common.{◌≡◌, ◌-◌, []}
use Rattle.ig_wire.specs.Limits.{most_session_bytes, piece_bytes}
use Rattle.ignite_thin.proofs.DecodeLemmas.{DecodedSoFar}
use Rattle.ignite_thin.proofs.decode.decode.Given as goal

-- the text of what was taken was written
abbrev pub invariant-pieces : goal.invariant-pieces
invariant-pieces g l = record {
  so_far : DecodedSoFar (g.S.Source.source l.fn.source) (g.S.Source.source l.source) (g.K.Sink.sink l.fn.sink) (g.K.Sink.sink l.sink) l.capture l.taken;
  none : l.text ≡ [];
  room : l.buf.len ≡ piece_bytes;
}

-- less of the limit is left
abbrev pub decreases-pieces : goal.decreases-pieces
decreases-pieces g l = most_session_bytes - l.taken
