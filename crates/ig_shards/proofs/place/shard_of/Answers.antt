use Rattle.std.proofs.Common.{◌≡◌, ◌<◌, ◌%◌, ◌^◌, w32, to_z, of_z, ap, ◌∙◌, lit<, rules}
use Rattle.std.specs.Int.{cast_unsigned}
use Rattle.std.proofs.lemmas.Int.{of_z-to_z}
use Rattle.ig_base.specs.Hashes.{BytesHash}
use Rattle.ig_base.proofs.HashLemmas.{hash_after-in_range}
use Rattle.ig_shards.proofs.place.shard_of.Goals as goal

pub returns-clause-of : goal.returns-clause-of
returns-clause-of c =
    let small : BytesHash c.args.spelling.now < 2 ^ 32 = hash_after-in_range 1 c.args.spelling.now (lit< tt) in
    let same : to_z w32 (of_z w32 c.bytes_hash.result) ≡ c.bytes_hash.result = search rules in
    ap (λ n. n % c.args.shards) (c.cast_unsigned.ensures ∙ ap (cast_unsigned w32) same ∙ ap (cast_unsigned w32) c.bytes_hash.ensures ∙ of_z-to_z w32 (BytesHash c.args.spelling.now) small)
