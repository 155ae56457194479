-- Laws of shards, over the definitions alone.
use Rattle.std.specs.Prelude.{◌≡◌, ◌<◌, ℕ, List, ◌∷◌, ◌++◌}
use Rattle.ig_base.specs.declared.entry.Entry.{Entry}
use Rattle.ig_caches.specs.declared.call.Call.{Call}
use Rattle.ig_caches.specs.declared.answer.Answer.{Answer}
use Rattle.ig_caches.specs.PlainCaches.{PlainCaches}
use Rattle.ig_caches.specs.Answered.{answered, after}
use Rattle.ig_caches.specs.Legal.{Legal}
use Rattle.ig_shards.specs.declared.touch.Touched.TheVariants.{One}
use Rattle.ig_shards.specs.Touches.{touches}
use Rattle.ig_shards.specs.Parts.{Part, AreAll, together}
use Rattle.ig_shards.specs.LegalAt.{cut_to, entries_at, LegalAt}

-- a call that touches one shard is answered by the caches of this shard alone, and changes these alone
abbrev pub NeedsItsShardAlone : Type 0
NeedsItsShardAlone = (shards : ℕ) (before later : List Part) (part : Part) (call : Call) → AreAll shards (before ++ part ∷ later) → touches call shards ≡ One part.number
    → (answered (together (before ++ part ∷ later)) call ≡ answered part.caches call)
    × (after (together (before ++ part ∷ later)) call ≡ together (before ++ record part { caches = after part.caches call } ∷ later))

-- of a legal history each shard sees a legal one
abbrev pub LegalAtEachShard : Type 0
LegalAtEachShard = (shards shard : ℕ) (c : PlainCaches) (entries : List (Entry Call Answer)) → shard < shards → Legal c entries
    → LegalAt shards shard (cut_to shards shard c) (entries_at shards shard entries)
