use Rattle.std.proofs.Common.{◌∙◌, ap, sym, refl}
use Rattle.ig_wire.specs.HelloReplies.{hello_reply_bytes, hello_reply_of}
use Rattle.ig_wire.proofs.AgreeLemmas.{ok_is}
use Rattle.ig_wire.proofs.HelloReplyLemmas.{hello_reply_read}
use Rattle.ig_wire.proofs.laws.one_hello_reply.Goals as goal

pub returns-clause-written : goal.returns-clause-written
returns-clause-written c v reply is = (hello_reply_read v).again (hello_reply_bytes reply) reply (is, refl)

pub returns-clause-spelled : goal.returns-clause-spelled
returns-clause-spelled c v body reply bytes e = (hello_reply_read v).right body reply bytes e

pub returns-clause-apart : goal.returns-clause-apart
returns-clause-apart c v a b is_a is_b e =
    ok_is a b (sym ((hello_reply_read v).again (hello_reply_bytes a) a (is_a, refl)) ∙ ap (hello_reply_of v) e ∙ (hello_reply_read v).again (hello_reply_bytes b) b (is_b, refl))

pub returns-clause-stops : goal.returns-clause-stops
returns-clause-stops c v body left bytes e = let h = (hello_reply_read v).halts body left bytes e in (h.at, h.there, h.wrong)

pub returns-clause-stopped : goal.returns-clause-stopped
returns-clause-stopped c v body at w = (hello_reply_read v).halted body at w
