use Rattle.ig_base.proofs.HashLemmas.{java-name}
use Rattle.ig_base.proofs.hashes.name_id.Goals as goal

pub returns-clause-hash : goal.returns-clause-hash
returns-clause-hash c =
    java-name _ _ _ _ _ c.as_bytes-bytes.ensures.value c.loop-at-test.false c.loop-at.invariant.ascii c.loop-at.invariant.hash c.cast_signed.ensures
