use Rattle.std.proofs.Common.{arith}
use Rattle.ig_session.proofs.HeldLemmas.{fed_keeps, fed_ok, fed_err}
use Rattle.ig_session.proofs.session.Session.feed.Goals as goal

pub invariant_of-self : goal.invariant_of-self
invariant_of-self c = fed_keeps _ _ c.self.view_is c.feed.result c.feed.new.self c.args.piece.now c.feed.ensures.ok c.feed.ensures.err c.requires.fed c.self.invariant

pub returns-clause-ok : goal.returns-clause-ok
returns-clause-ok c = fed_ok _ _ c.self.view_is c.feed.result c.feed.new.self c.args.piece.now c.feed.ensures.ok

pub returns-clause-err : goal.returns-clause-err
returns-clause-err c = fed_err _ _ c.self.view_is c.feed.result c.feed.new.self c.feed.ensures.err

pub returns-clause-bytes : goal.returns-clause-bytes
returns-clause-bytes c = λ i. omega (arith, c.type_inv.piece i)
