use Rattle.std.proofs.Common.{length, arith, ◌<◌, true}
use Rattle.ig_link.specs.declared.link.TakeNow.TheVariants as now
use Rattle.ig_link.proofs.ScriptLemmas.{reads_now_as, never_not_yet}
use Rattle.ig_link.proofs.mem_link.MemLinkSource.read.Goals as goal

pub unreachable-requires : goal.unreachable-requires
unreachable-requires c = never_not_yet c.args.self.now c.follow_read.new.self c.follow_read.new.buf (rw (← c.in-NotYet.is) c.follow_read.ensures)

pub returns-in-Bytes-clause-answer : goal.returns-in-Bytes-clause-answer
returns-in-Bytes-clause-answer c =
    let room : 0 < length c.follow_read.new.buf = omega (arith, c.requires, c.follow_read.auto.buf) in
    reads_now_as true (now.Bytes c.in-Bytes.n) c.args.self.now c.follow_read.new.self c.follow_read.new.buf room (rw (← c.in-Bytes.is) c.follow_read.ensures)

pub returns-in-End-clause-answer : goal.returns-in-End-clause-answer
returns-in-End-clause-answer c =
    let room : 0 < length c.follow_read.new.buf = omega (arith, c.requires, c.follow_read.auto.buf) in
    reads_now_as true now.End c.args.self.now c.follow_read.new.self c.follow_read.new.buf room (rw (← c.in-End.is) c.follow_read.ensures)

pub returns-in-Failed-clause-answer : goal.returns-in-Failed-clause-answer
returns-in-Failed-clause-answer c =
    let room : 0 < length c.follow_read.new.buf = omega (arith, c.requires, c.follow_read.auto.buf) in
    reads_now_as true now.Failed c.args.self.now c.follow_read.new.self c.follow_read.new.buf room (rw (← c.in-Failed.is) c.follow_read.ensures)
