use Rattle.std.proofs.Common.{rules, ◌≡◌, ℕ, List, true, arith}
use Rattle.ig_text.specs.ReadText.{Read, run_at}
use Rattle.ig_text.specs.ReaderAnswers.{Fails}
use Rattle.ig_text.proofs.ReaderStopLemmas.{run_pushed, pair_stops, run_ends}
use Rattle.ig_text.proofs.parts.paired.Goals as goal

pub returns-in_err-byte : goal.returns-in_err-byte
returns-in_err-byte c =
    let whole : Read (List ℕ) = run_at true c.args.count c.args.text.now in
    let fails : Fails c.in_err-byte.field-0.0 whole = pair_stops true c.loop.counter c.args.count c.loop.rest.now c.loop.bytes.items c.in_err-byte.field-0.0 whole c.loop-test.true c.in_err-byte.ensures c.loop.invariant in
    search rules

pub loop-preserved : goal.loop-preserved
loop-preserved c =
    run_pushed true c.loop.counter c.args.count c.loop.rest.now c.loop.bytes.items c.push.new.self.items c.in_ok-byte.byte c.in_ok-byte.after.now (run_at true c.args.count c.args.text.now) c.loop-test.true c.in_ok-byte.ensures
    c.in_ok-push.ensures.items c.loop.invariant

pub returns : goal.returns
returns c = run_ends true c.loop.counter c.args.count c.loop.rest.now c.loop.bytes.items (run_at true c.args.count c.args.text.now) (omega (arith, c.loop-test.false)) c.loop.invariant
