use Rattle.std.proofs.Common.{◌≡◌, true, take}
use Rattle.std.specs.List.{list_all}
use Rattle.ig_caches.specs.Rows.{has_row}
use Rattle.ig_shards.proofs.spread_rows.SpreadRows.has_all.Given as goal

-- the rows stay, and each key so far has a row
abbrev pub invariant-loop-key : goal.invariant-loop-key
invariant-loop-key l = record {
  same : l.self ≡ l.fn.self;
  all : list_all (has_row l.fn.self.1) (take l.key-index l.keys) ≡ true;
}
