use Rattle.ig_encode.proofs.OutputLemmas.{first_passed}
use Rattle.ig_encode.proofs.leaves.put_elements.Goals as goal

pub returns : goal.returns
returns g c =
    first_passed g.S.Output.after g.met.S.Output.longer g.E.Spell.bytes g.E.WriteElement.byte_count g.met.E.WriteElement.wide c.args.out.now c.args.into.now c.args.elements.now c.split_at.result.1.now c.pass-passed.result
    (c.pass-passed.new.self, c.args.into.now) (c.put_rest.new.out, c.put_rest.new.into) c.pass-passed.ensures.within c.split_at.ensures.back
    (rw c.width.ensures.count at c.pass-passed.ensures.passed) c.put_rest.ensures
