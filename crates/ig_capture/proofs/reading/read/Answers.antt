use Rattle.std.proofs.Common.{◌≤◌, ◌-◌, length, take, drop, ap, arith}
use Rattle.std.proofs.lemmas.List.{length-drop}
use Rattle.ig_capture.proofs.LoopLemmas.{read_none, all_left, read_more, read_all, read_wrong}
use Rattle.ig_capture.proofs.reading.read.Goals as goal

pub bytes-init : goal.bytes-init
bytes-init c = record {
  within = omega arith;
  read = read_none c.args.piece.now c.args.reading.now c.args.lines.now;
}

pub bytes-preserved : goal.bytes-preserved
bytes-preserved c = record {
  within = omega (arith, c.in-Ok.ensures.2, ap length (all_left c.args.piece.now c.bytes.at), length-drop c.bytes.at c.args.piece.now, c.bytes.invariant.within);
  read = read_more c.args.piece.now (take (length c.args.piece.now - c.bytes.at) (drop c.bytes.at c.args.piece.now)) c.bytes.at c.in-Ok.len c.args.reading.now c.bytes.reading c.read_some.new.self c.args.lines.now c.bytes.lines c.read_some.new.lines
      (all_left c.args.piece.now c.bytes.at) c.bytes.invariant.read c.in-Ok.ensures;
}

pub bytes-smaller : goal.bytes-smaller
bytes-smaller c = omega (arith, c.in-Ok.ensures.1, c.in-Ok.ensures.2, ap length (all_left c.args.piece.now c.bytes.at), length-drop c.bytes.at c.args.piece.now, c.bytes.invariant.within)

pub returns-in-Err : goal.returns-in-Err
returns-in-Err c =
    read_wrong c.args.piece.now (take (length c.args.piece.now - c.bytes.at) (drop c.bytes.at c.args.piece.now)) c.bytes.at c.args.reading.now c.bytes.reading c.read_some.new.self c.args.lines.now c.bytes.lines c.read_some.new.lines c.in-Err.fault
    (all_left c.args.piece.now c.bytes.at) c.bytes.invariant.read c.in-Err.ensures

pub returns : goal.returns
returns c = read_all c.args.piece.now c.bytes.at c.args.reading.now c.bytes.reading c.args.lines.now c.bytes.lines (omega (arith, c.bytes-test.false)) c.bytes.invariant.read
