use Rattle.std.proofs.Common.{◌≡◌, take}
use Rattle.ig_base.specs.Hashes.{fnv_after}
use Rattle.ig_base.proofs.hashes.schema_id.Given as goal

-- the hash so far is that of the identifiers so far
abbrev pub invariant-loop-id : goal.invariant-loop-id
invariant-loop-id l = l.hash ≡ fnv_after 0x811C_9DC5 (take l.id-index l.ids)
