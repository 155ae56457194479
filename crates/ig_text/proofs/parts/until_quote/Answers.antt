use Rattle.std.proofs.Common.{rules, ◌≡◌, ℕ, List, length, refl}
use Rattle.ig_text.specs.Tokens.{quote}
use Rattle.ig_text.specs.ReadText.{Read, until_at, char_at}
use Rattle.ig_text.specs.ReaderAnswers.{Fails}
use Rattle.ig_text.proofs.ReaderLoopLemmas.{until_closed}
use Rattle.ig_text.proofs.ReaderStopLemmas.{until_stops, until_pushed}
use Rattle.ig_text.proofs.parts.until_quote.Goals as goal

pub returns-in-Some : goal.returns-in-Some
returns-in-Some c =
    until_closed char_at quote (length c.args.text.now) c.loop.counter c.loop.rest.now c.in-Some.behind.now c.loop.bytes.items (until_at char_at quote (length c.args.text.now) c.args.text.now) c.loop-test.true c.in-Some.ensures.some c.loop.invariant

pub returns-in_err-byte : goal.returns-in_err-byte
returns-in_err-byte c =
    let whole : Read (List ℕ) = until_at char_at quote (length c.args.text.now) c.args.text.now in
    let fails : Fails c.in_err-byte.field-0.0 whole =
    until_stops char_at quote (length c.args.text.now) c.loop.counter c.loop.rest.now c.loop.bytes.items c.in_err-byte.field-0.0 whole refl c.loop-test.true (c.in_default.ensures.none refl) c.in_err-byte.ensures c.loop.invariant in
    search rules

pub loop-preserved : goal.loop-preserved
loop-preserved c =
    until_pushed char_at quote (length c.args.text.now) c.loop.counter c.loop.rest.now c.loop.bytes.items c.push.new.self.items c.in_ok-byte.byte c.in_ok-byte.next.now (until_at char_at quote (length c.args.text.now) c.args.text.now) refl
    c.loop-test.true (c.in_default.ensures.none refl) c.in_ok-byte.ensures c.in_ok-push.ensures.items c.loop.invariant
