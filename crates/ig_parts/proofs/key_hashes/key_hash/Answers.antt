use Rattle.std.proofs.Common.{sym, ap, Ok}
use Rattle.ig_parts.proofs.KeyLemmas.{hash_none}
use Rattle.ig_parts.proofs.key_hashes.key_hash.Goals as goal

pub returns-in_default : goal.returns-in_default
returns-in_default c =
    let d = c.in_default in
    ap (λ o. Ok o) (sym (hash_none c.args.key.now d.not-Byte d.not-Short d.not-Int d.not-Long d.not-Char d.not-Bool d.not-Str d.not-Uuid d.not-Object))
