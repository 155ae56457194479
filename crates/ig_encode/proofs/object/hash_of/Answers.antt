use Rattle.std.proofs.Common.{◌≡◌, ◌+◌, ◌%◌, ◌^◌, ℕ, ℤ, List, Option, Some, None, sym, ap, ◌∙◌, arith}
use Rattle.std.specs.Int.{w32, cast_signed, cast_unsigned}
use Rattle.std.proofs.lemmas.Int.{of_z-to_z}
use Rattle.ig_base.specs.Hashes.{BytesHash}
use Rattle.ig_encode.specs.declared.measure.Digest.{Digest}
use Rattle.ig_encode.specs.declared.measure.Measure.{Measure}
use Rattle.ig_encode.specs.MeasureOutput.{digest_after, no_digest, measure_after, hashing_start}
use Rattle.ig_encode.proofs.DigestLemmas.{hash_from_one}
use Rattle.ig_encode.proofs.object.hash_of.Goals as goal

unwrapped : Digest → Option Digest → Digest
unwrapped d None = d
unwrapped d (Some e) = e

inside : (d e : Digest) → Some d ≡ Some e → d ≡ e
unfolding unwrapped
inside d e is = ap (unwrapped d) is

hashed : (z : ℤ) (bytes : List ℕ) (d : Digest) (m : Measure) → m ≡ measure_after hashing_start bytes → m.digest ≡ Some d → z ≡ cast_signed w32 ((d.pow + d.sum) % 2 ^ 32) → cast_signed w32 (cast_unsigned w32 z) ≡ cast_signed w32 (BytesHash bytes)
hashed z bytes d m is some e =
    let digest : d ≡ digest_after no_digest bytes = inside d (digest_after no_digest bytes) (sym some ∙ ap (λ (t : Measure). t.digest) is) in
    ap (λ y. cast_signed w32 (cast_unsigned w32 y)) e ∙ ap (cast_signed w32) (of_z-to_z w32 ((d.pow + d.sum) % 2 ^ 32) (omega arith)) ∙ ap (cast_signed w32) (hash_from_one d bytes digest)

pub returns-in-Some : goal.returns-in-Some
returns-in-Some c = λ bytes is. hashed c.cast_signed.result bytes c.in-Some.digest c.args.fields.now is c.in-Some.is c.cast_signed.ensures
