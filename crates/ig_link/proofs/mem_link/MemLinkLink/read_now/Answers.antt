use Rattle.std.proofs.Common.{length, arith, ◌<◌, false}
use Rattle.ig_link.proofs.ScriptLemmas.{reads_now_as}
use Rattle.ig_link.proofs.mem_link.MemLinkLink.read_now.Goals as goal

pub returns-clause-answer : goal.returns-clause-answer
returns-clause-answer c =
    let room : 0 < length c.follow_read.new.buf = omega (arith, c.requires, c.follow_read.auto.buf) in
    reads_now_as false c.follow_read.result c.args.self.now c.follow_read.new.self c.follow_read.new.buf room c.follow_read.ensures
