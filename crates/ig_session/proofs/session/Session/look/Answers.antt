use Rattle.std.proofs.Common.{sym}
use Rattle.ig_session.specs.declared.phase.Phase.TheVariants.{Refused, OutOfMemory}
use Rattle.ig_session.proofs.LookLemmas.{next_by_phase}
use Rattle.ig_session.proofs.HeldLemmas.{none_now, replies_now, phase_now}
use Rattle.ig_session.proofs.session.Session.look.Goals as goal

pub returns-then-not-is_empty-clause-coming : goal.returns-then-not-is_empty-clause-coming
returns-then-not-is_empty-clause-coming c = replies_now _ _ c.self.view_is c.is_empty.result c.is_empty.ensures c.if-not-is_empty.true

pub returns-in-Refused-clause-coming : goal.returns-in-Refused-clause-coming
returns-in-Refused-clause-coming c =
    sym (next_by_phase c.args.self.now (Refused c.in-Refused.fault) (none_now _ _ c.self.view_is c.is_empty.result c.is_empty.ensures c.if-not-is_empty.false)
    (phase_now _ _ c.self.view_is (Refused c.in-Refused.fault) c.in-Refused.is))

pub returns-in-OutOfMemory-clause-coming : goal.returns-in-OutOfMemory-clause-coming
returns-in-OutOfMemory-clause-coming c =
    sym (next_by_phase c.args.self.now OutOfMemory (none_now _ _ c.self.view_is c.is_empty.result c.is_empty.ensures c.if-not-is_empty.false)
    (phase_now _ _ c.self.view_is OutOfMemory c.in-OutOfMemory.is))

pub look_at_hello-requires-clause-phase : goal.look_at_hello-requires-clause-phase
look_at_hello-requires-clause-phase c = phase_now _ _ c.self.view_is _ c.in-BeforeHello.is

pub look_at_hello-requires-clause-none : goal.look_at_hello-requires-clause-none
look_at_hello-requires-clause-none c = none_now _ _ c.self.view_is c.is_empty.result c.is_empty.ensures c.if-not-is_empty.false

pub look_at_request-requires-clause-phase : goal.look_at_request-requires-clause-phase
look_at_request-requires-clause-phase c = phase_now _ _ c.self.view_is _ c.in-Open.is

pub look_at_request-requires-clause-none : goal.look_at_request-requires-clause-none
look_at_request-requires-clause-none c = none_now _ _ c.self.view_is c.is_empty.result c.is_empty.ensures c.if-not-is_empty.false
