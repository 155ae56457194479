use Rattle.std.proofs.Common.{refl}
use Rattle.ig_encode.proofs.OutputLemmas.{first_claimed}
use Rattle.ig_encode.proofs.leaves.put_rest.Goals as goal

pub returns : goal.returns
returns g c =
    let claimed = rw c.width.ensures.count at c.claim-at.ensures.claimed in
    first_claimed g.S.Output.after g.met.S.Output.longer g.E.Spell.bytes g.E.WriteElement.byte_count g.met.E.WriteElement.wide c.args.out.now c.args.into.now c.args.elements.now c.split_at.result.0.now c.split_at.result.1.now
    c.claim-at.result.0 c.claim-at.result.1 c.claim-at.new.self c.write_all.new.into (c.put_parts.new.out, c.put_parts.new.into) c.claim-at.ensures.within c.split_at.ensures.front c.split_at.ensures.back
    (λ bytes len. claimed c.args.into.now bytes refl len) c.write_all.ensures c.put_parts.ensures
