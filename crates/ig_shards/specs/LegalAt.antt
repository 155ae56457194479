-- What one shard sees of a history.
use Rattle.std.specs.Prelude.{◌≡◌, ℕ, nat_eq, Bool, List, [], ◌∷◌, filter, true, map, if◌then◌else◌}
use Rattle.std.specs.FinMap as finite
use Rattle.ig_base.specs.declared.entry.Entry.{Entry}
use Rattle.ig_types.specs.Registered.{Registered, empty_registry}
use Rattle.ig_caches.specs.declared.call.Call.{Call}
use Rattle.ig_caches.specs.declared.answer.Answer.{Answer}
use Rattle.ig_caches.specs.Rows.{Rows}
use Rattle.ig_caches.specs.PlainCaches.{Cache, PlainCaches}
use Rattle.ig_caches.specs.Answered.{answered, after}
use Rattle.ig_shards.specs.declared.touch.Touched.{Touched}
use Rattle.ig_shards.specs.declared.touch.Touched.TheVariants.{One, All}
use Rattle.ig_shards.specs.Touches.{touches}
use Rattle.ig_shards.specs.ShardOf.{shard_of}

-- the rows that lie in the shard
abbrev pub rows_in : ℕ → ℕ → Rows → Rows
rows_in shards shard rows = finite.retain_keys rows (λ form. nat_eq (shard_of shards form) shard)

-- the types, which lie in the first shard
abbrev pub types_in : ℕ → Registered → Registered
types_in shard registry = if nat_eq shard 0 then registry else empty_registry

-- a cache with those of its rows that lie in the shard
abbrev pub cut_cache : ℕ → ℕ → Cache → Cache
cut_cache shards shard cache = record cache { rows = rows_in shards shard cache.rows }

-- the caches as a shard has them: all names and the count, and of rows and types those that lie in it
abbrev pub cut_to : ℕ → ℕ → PlainCaches → PlainCaches
cut_to shards shard c = record {
  caches = map (cut_cache shards shard) c.caches;
  registry = types_in shard c.registry;
  minor = c.minor;
}

-- tests whether the shard is touched
abbrev pub is_touched : Touched → ℕ → Bool
is_touched (One other) shard = nat_eq other shard
is_touched All shard = true

-- the entries of a history whose calls touch the shard
abbrev pub entries_at : ℕ → ℕ → List (Entry Call Answer) → List (Entry Call Answer)
entries_at shards shard entries = filter (λ entry. is_touched (touches entry.ask shards) shard) entries

-- what a shard that an entry touches can say of its answer: it is that of its own caches if the call touches no other
-- shard, and else it counts the creations and destructions as its own caches do after the call
abbrev pub IsAnswerAt : Touched → PlainCaches → Entry Call Answer → Type 0
IsAnswerAt (One shard) c entry = entry.got ≡ answered c entry.ask
IsAnswerAt All c entry = entry.got.minor ≡ (after c entry.ask).minor

-- each answer is what the shard can say of it, of the caches after the entries before it, cut to the shard
abbrev pub LegalAt : ℕ → ℕ → PlainCaches → List (Entry Call Answer) → Type 0
LegalAt shards shard c [] = Unit {0}
LegalAt shards shard c (entry ∷ entries) =
    IsAnswerAt (touches entry.ask shards) c entry × LegalAt shards shard (cut_to shards shard (after c entry.ask)) entries
