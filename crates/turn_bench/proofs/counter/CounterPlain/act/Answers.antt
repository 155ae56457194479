use Rattle.turn_bench.proofs.More.{counted_more}
use Rattle.turn_bench.proofs.counter.CounterPlain.act.Goals as goal

pub returns-clause-ok : goal.returns-clause-ok
returns-clause-ok c = λ _ pairs stood. counted_more c.args.self.now.count pairs stood
