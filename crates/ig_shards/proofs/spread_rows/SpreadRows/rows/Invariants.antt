use Rattle.std.proofs.Common.{◌≡◌, ◌&&◌, ℕ, List, take, is_some}
use Rattle.std.specs.FinMap as finite
use Rattle.ig_caches.specs.Rows.{rows_of}
use Rattle.ig_caches.specs.RowEntries.{is_among}
use Rattle.ig_caches.proofs.MentionLemmas.{is_mentioned}
use Rattle.ig_shards.proofs.spread_rows.SpreadRows.rows.Given as goal

-- the rows of the keys so far are copied, and the encodings of those with a row were met
abbrev pub invariant-loop-key : goal.invariant-loop-key
invariant-loop-key l = record {
  same : l.self ≡ l.fn.self;
  rows : l.rows.items ≡ rows_of l.fn.self.1 (take l.key-index l.keys);
  met : (q : List ℕ) → is_among (λ k. k.items) l.met.keys q ≡ (is_some (finite.get l.fn.self.1 q) && is_mentioned (take l.key-index l.keys) q);
}
