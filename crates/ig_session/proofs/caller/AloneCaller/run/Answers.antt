use Rattle.ig_session.proofs.HistoryLemmas.{alone_runs, answer_fits}
use Rattle.ig_session.proofs.caller.AloneCaller.run.Goals as goal

pub returns-clause-ok : goal.returns-clause-ok
returns-clause-ok g c = alone_runs g.E.Exec.caches c.args.self.now (record { exec = c.run.new.self }) c.args.call c.run.result c.run.ensures.answer c.run.ensures.after

pub returns-clause-fits : goal.returns-clause-fits
returns-clause-fits g c = answer_fits (g.E.Exec.caches c.args.self.now.exec) c.args.call c.run.result c.run.ensures.answer
