use Rattle.std.specs.Prelude.{pos}
use Rattle.std.specs.Int.{w32}
use Rattle.ig_base.specs.Numbers.{LE}
use Rattle.ig_wire.specs.Heads.{head_bytes}
use Rattle.ig_wire.specs.HeadViews.{owned_head}
use Rattle.ig_encode.proofs.OutputLemmas.{two}
use Rattle.ig_replies.proofs.head.LeadMessage.put.Goals as goal

pub returns : goal.returns
returns g c =
    two g.S.Output.after g.met.S.Output.longer c.args.out.now c.args.into.now (LE w32 (pos c.args.self.now.body_len))
    (head_bytes c.args.self.now.head.version (owned_head c.args.self.now.head.view))
    (c.put_count.new.out, c.put_count.new.into) (c.put.new.out, c.put.new.into) c.put_count.ensures c.put.ensures
