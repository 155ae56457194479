use Rattle.std.proofs.Common.{◌≡◌, ℕ, List, Option, Some, None, sym, ap, ◌∙◌}
use Rattle.ig_value.specs.Canon.{Canon}
use Rattle.ig_encode.specs.declared.measure.Digest.{Digest}
use Rattle.ig_encode.specs.declared.measure.Measure.{Measure}
use Rattle.ig_encode.specs.MeasureOutput.{digest_after, no_digest, measure_after, hashing_start}
use Rattle.ig_encode.proofs.DigestLemmas.{hash_from_one}
use Rattle.ig_shards.proofs.place.key_hash.Goals as goal

unwrapped : Digest → Option Digest → Digest
unwrapped d None = d
unwrapped d (Some e) = e

inside : (d e : Digest) → Some d ≡ Some e → d ≡ e
unfolding unwrapped
inside d e is = ap (unwrapped d) is

pub returns-in-Some : goal.returns-in-Some
returns-in-Some c =
    let bytes : List ℕ = Canon c.args.key.now in
    let measured : c.put_value.new.self ≡ measure_after hashing_start bytes =
    ap (λ p. p.0) c.put_value.ensures ∙ ap (λ (m : Measure). measure_after m bytes) c.hashing-measure.ensures in
    let digest : c.in-Some.digest ≡ digest_after no_digest bytes =
    inside c.in-Some.digest (digest_after no_digest bytes) (sym c.in-Some.is ∙ ap (λ (m : Measure). m.digest) measured) in
    hash_from_one c.in-Some.digest bytes digest
