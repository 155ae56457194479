use Rattle.ig_caches.specs.CachesView.{plain_caches}
use Rattle.ig_shards.proofs.RunLemmas.{as_run}
use Rattle.ig_shards.proofs.shard_rows.ShardRows.run.Goals as goal

pub returns-clause-runs : goal.returns-clause-runs
returns-clause-runs c =
    as_run c.args.call (plain_caches c.args.self.now.caches) (plain_caches c.run.new.self) c.run.result c.run.ensures.answer c.run.ensures.after c.run.ensures.back c.run.ensures.unchanged
