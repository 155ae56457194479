use Rattle.std.proofs.Common.{◌+◌}
use Rattle.ig_encode.proofs.SpanLemmas.{noted_right}
use Rattle.ig_encode.proofs.object.note_entry.Goals as goal

pub returns : goal.returns
returns c = λ n is.
    noted_right c.args.span.now c.args.shape.now c.args.index (24 + n) c.offset_after-offset.result c.put_entry.new.out c.put_entry-2.new.out c.put_entry-3.new.out c.put_entry.new.into c.put_entry-2.new.into c.put_entry-3.new.into _ _ _
    (c.offset_after-offset.ensures n is) c.put_entry.ensures c.put_entry-2.ensures c.put_entry-3.ensures
