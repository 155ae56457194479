use Rattle.std.proofs.Common.{sym, subst}
use Rattle.ig_session.specs.Soundness.{IsSound}
use Rattle.ig_session.proofs.ChangeLemmas.{new_is}
use Rattle.ig_session.proofs.SoundLemmas.{new_sound}
use Rattle.ig_session.proofs.session.Session.new.Goals as goal

pub invariant_of-result : goal.invariant_of-result
invariant_of-result c =
    subst IsSound (sym (new_is c.args.cfg c.new-frames.result c.in_ok-desk.desk c.new-out.result.items c.in_ok-outbox.outbox c.new-frames.ensures c.in_ok-desk.ensures c.new-out.ensures.items c.in_ok-outbox.ensures))
    (new_sound c.args.cfg c.requires)

pub returns : goal.returns
returns c = new_is c.args.cfg c.new-frames.result c.in_ok-desk.desk c.new-out.result.items c.in_ok-outbox.outbox c.new-frames.ensures c.in_ok-desk.ensures c.new-out.ensures.items c.in_ok-outbox.ensures
