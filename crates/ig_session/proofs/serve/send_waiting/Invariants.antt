use Rattle.std.proofs.Common.{◌≡◌, length}
use Rattle.ig_replies.specs.Showing.{bytes_left}
use Rattle.ig_session.proofs.SendLemmas.{Sent}
use Rattle.ig_session.proofs.serve.send_waiting.Given as goal

-- the first of what waited was written
abbrev pub invariant-pieces : goal.invariant-pieces
invariant-pieces g l = record {
  sent : Sent l.fn.session l.session (g.K.Sink.sink l.fn.sink) (g.K.Sink.sink l.sink);
  beside : g.K.Sink.source_beside l.sink ≡ g.K.Sink.source_beside l.fn.sink;
}

-- fewer bytes wait
abbrev pub decreases-pieces : goal.decreases-pieces
decreases-pieces g l = length (bytes_left l.session.waiting)
