use Rattle.std.proofs.Common.{refl}
use Rattle.ig_session.specs.Steps.{given}
use Rattle.ig_session.proofs.HistoryLemmas.{given_stands}
use Rattle.ig_session.proofs.serve.run_call.Goals as goal

pub returns-in-Ok-clause-runs : goal.returns-in-Ok-clause-runs
returns-in-Ok-clause-runs g c = (
  given c.run-got.result,
  given_stands g.C.Caller.stands (g.C.Caller.seat c.args.caller.now) c.args.caller.now c.run-got.new.self c.args.call c.run-got.result c.run-got.ensures.ok c.run-got.ensures.err,
  c.in-Ok.ensures.ok,
)

pub returns-in-Err-clause-runs : goal.returns-in-Err-clause-runs
returns-in-Err-clause-runs g c = (
  given c.run-got.result,
  given_stands g.C.Caller.stands (g.C.Caller.seat c.args.caller.now) c.args.caller.now c.run-got.new.self c.args.call c.run-got.result c.run-got.ensures.ok c.run-got.ensures.err,
  (refl, c.in-Err.ensures.err),
)
