use Rattle.ig_shards.proofs.MarkLemmas.{written_over_marked}
use Rattle.ig_shards.proofs.spread_rows.SpreadRows.reserve.Goals as goal

pub returns-then-is_ok-clause-written : goal.returns-then-is_ok-clause-written
returns-then-is_ok-clause-written c =
    written_over_marked c.args.self.now.1 c.reserve_each.new.self.1 c.reserve_each.new.marks.items c.args.pairs.now c.reserve_each.ensures.marked
