use Rattle.std.proofs.Common.{◌≡◌, All, take}
use Rattle.ig_caches.specs.CachesView.{HasRoom}
use Rattle.ig_shards.specs.PartView.{parts_of}
use Rattle.ig_shards.proofs.whole.make_room.Given as goal

-- the shards so far have room, and all are as they were
abbrev pub invariant-loop-part : goal.invariant-loop-part
invariant-loop-part l = record {
  room : All (λ part. HasRoom part.caches) (take l.part-index l.parts);
  same : parts_of l.parts ≡ parts_of l.fn.parts;
}
