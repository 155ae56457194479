use Rattle.std.proofs.Common.{◌≡◌, []}
use Rattle.ig_session.proofs.ProgressLemmas.{to_do}
use Rattle.ig_session.proofs.SinceLemmas.{Since}
use Rattle.ig_session.proofs.serve.answer_all.Given as goal

-- the frames so far were answered
abbrev pub invariant-steps : goal.invariant-steps
invariant-steps g l = record {
  since : Since g.C.Caller.stands (g.C.Caller.seat l.fn.caller) l.fn.caller l.caller l.fn.session l.session (g.K.Sink.sink l.fn.sink) (g.K.Sink.sink l.sink);
  seat : g.C.Caller.seat l.caller ≡ g.C.Caller.seat l.fn.caller;
  lent : g.C.Caller.lent l.caller ≡ g.C.Caller.lent l.fn.caller;
  kept : g.C.Caller.kept l.caller ≡ g.C.Caller.kept l.fn.caller;
  beside : g.K.Sink.source_beside l.sink ≡ g.K.Sink.source_beside l.fn.sink;
  none : l.session.out ≡ [];
}

-- less is left to read and to write
abbrev pub decreases-steps : goal.decreases-steps
decreases-steps g l = to_do l.session
