use Rattle.std.proofs.Common.{◌≡◌, ◌-◌, vec_len}
use Rattle.ig_wire.specs.Limits.{most_session_bytes, piece_bytes}
use Rattle.ig_session.specs.Serving.{Going}
use Rattle.ig_session.proofs.serve.serve_ends.Given as goal

-- what was taken was answered
abbrev pub invariant-pieces : goal.invariant-pieces
invariant-pieces g l = record {
  going : Going g.C.Caller.stands (g.C.Caller.seat l.fn.caller) l.fn.cfg l.fn.caller l.caller l.session (g.S.Source.source l.fn.source) (g.S.Source.source l.source)
      (g.K.Sink.sink l.fn.sink) (g.K.Sink.sink l.sink) l.taken;
  seat : g.C.Caller.seat l.caller ≡ g.C.Caller.seat l.fn.caller;
  lent : g.C.Caller.lent l.caller ≡ g.C.Caller.lent l.fn.caller;
  kept : g.C.Caller.kept l.caller ≡ g.C.Caller.kept l.fn.caller;
  room : vec_len l.buf ≡ piece_bytes;
}

-- less of the limit is left
abbrev pub decreases-pieces : goal.decreases-pieces
decreases-pieces g l = most_session_bytes - l.taken
