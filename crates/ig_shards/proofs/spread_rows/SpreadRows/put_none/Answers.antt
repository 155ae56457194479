use Rattle.std.proofs.Common.{pos, sym, subst}
use Rattle.ig_value.specs.declared.value.Value.TheVariants as value
use Rattle.ig_caches.specs.IsRunnable.{IsItem}
use Rattle.ig_shards.proofs.MarkLemmas.{none_item, on_ok}
use Rattle.ig_shards.proofs.spread_rows.SpreadRows.put_none.Goals as goal

pub put-requires : goal.put-requires
put-requires c = (subst IsItem (sym c.in_ok-key.ensures) c.requires, none_item)

pub returns-clause-ok : goal.returns-clause-ok
returns-clause-ok c = on_ok c.put.result (λ is. (record { key = c.in_ok-key.key; value = value.Int (pos 0) }, c.in_ok-key.ensures, is)) c.put.ensures.ok
