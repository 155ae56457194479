use Rattle.std.proofs.lemmas.Result.{err_from_is_err_and}
use Rattle.ig_fields.specs.ReadingFields.{each_of}
use Rattle.ig_fields.proofs.LoopLemmas.{one_read, one_failed, all_read}
use Rattle.ig_fields.proofs.list.items_of.Goals as goal

pub returns-in_err-item : goal.returns-in_err-item
returns-in_err-item g c =
    let p = err_from_is_err_and c.from_residual-in_err-item.result c.from_residual-in_err-item.ensures.1 in
    let one = g.F.FieldFormat.reads in
    let less = c.take_one.ensures.more c.each-test.true in
    rw (p.1, p.2) (one_failed one c.in_err-item.field-0.0 c.each.items.items c.each.left.items c.take_one.new.self.items c.each.rest.now (each_of one c.args.count.items c.args.bytes.now) less c.in_err-item.ensures c.each.invariant)

pub each-preserved : goal.each-preserved
each-preserved g c =
    let one = g.F.FieldFormat.reads in
    let less = c.take_one.ensures.more c.each-test.true in
    rw c.in_ok-push.ensures.items
    (one_read one c.each.items.items c.each.left.items c.take_one.new.self.items c.each.rest.now c.in_ok-item.item c.in_ok-item.after.now (each_of one c.args.count.items c.args.bytes.now) less c.in_ok-item.ensures c.each.invariant)

pub returns : goal.returns
returns g c =
    let one = g.F.FieldFormat.reads in
    let none = c.take_one.ensures.none c.each-test.false in
    rw c.new.ensures (all_read one c.each.items.items c.each.left.items c.each.rest.now (each_of one c.args.count.items c.args.bytes.now) none c.each.invariant)
