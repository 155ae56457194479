use Rattle.ig_encode.proofs.MarkLemmas.{get_key, get_value, get_no_pair}
use Rattle.ig_encode.proofs.resume.child_of_pairs.Goals as goal

pub returns-then-at-pairs-clause-child : goal.returns-then-at-pairs-clause-child
returns-then-at-pairs-clause-child c = get_no_pair c.args.pairs.now c.args.index c.if-at-pairs.true

pub returns-then-index-eq0-clause-child : goal.returns-then-index-eq0-clause-child
returns-then-index-eq0-clause-child c = get_key c.args.pairs.now c.args.index c.index-pairs-at.result c.if-at-pairs.false c.index-pairs-at.is c.if-index-eq0.true

pub returns-clause-child : goal.returns-clause-child
returns-clause-child c = get_value c.args.pairs.now c.args.index c.index-pairs-at.result c.if-at-pairs.false c.index-pairs-at.is c.if-index-eq0.false
