use Rattle.std.proofs.Common.{rules, ◌≡◌, ◌<◌, List, ℕ, length, arith}
use Rattle.ig_text.specs.ReadText.{Read, run_at}
use Rattle.ig_text.specs.ReaderAnswers.{Fails}
use Rattle.ig_text.proofs.ReaderLoopLemmas.{run_more, run_stops}
use Rattle.ig_text.proofs.read.fill.Goals as goal

pub returns-in_err-read : goal.returns-in_err-read
returns-in_err-read c =
    let whole : Read (List ℕ) = run_at c.args.upper (length c.args.into.now) c.args.text.now in
    let lt : c.loop-byte.byte-index < length c.loop-byte.into = omega (arith, c.loop-byte-test.true, c.loop-byte.auto.into) in
    let fails : Fails c.in_err-read.field-0.0 whole =
    run_stops c.args.upper c.loop-byte.into c.loop-byte.byte-index (length c.args.into.now) c.loop-byte.rest.now c.in_err-read.field-0.0 whole lt c.loop-byte.auto.into c.in_err-read.ensures c.loop-byte.invariant in
    search rules

pub loop-byte-preserved : goal.loop-byte-preserved
loop-byte-preserved c =
    let lt : c.loop-byte.byte-index < length c.loop-byte.into = omega (arith, c.loop-byte-test.true, c.loop-byte.auto.into) in
    run_more c.args.upper c.loop-byte.into c.loop-byte.byte-index (length c.args.into.now) c.loop-byte.rest.now c.in_ok-read.after.now c.in_ok-read.read
    (run_at c.args.upper (length c.args.into.now) c.args.text.now) lt c.loop-byte.auto.into c.in_ok-read.ensures c.loop-byte.invariant
