use Rattle.std.proofs.Common.{◌+◌, take, arith}
use Rattle.ig_encode.proofs.MarkLemmas.{path_later}
use Rattle.ig_encode.proofs.calls.encode_next.Goals as goal

pub move_path-moved-requires-clause-path : goal.move_path-moved-requires-clause-path
move_path-moved-requires-clause-path c =
    path_later c.args.value.now c.args.mark.now.offset (c.args.mark.now.offset + c.fill_from.new.out.filled) (take c.args.mark.now.depth c.args.mark.now.steps) (omega arith) c.requires.mark.path
