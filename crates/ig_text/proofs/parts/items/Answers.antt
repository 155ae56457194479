use Rattle.std.proofs.Common.{rules, ◌≡◌, ℕ, List, length, refl}
use Rattle.ig_text.specs.ReadText.{Read, next_at, any_at, items_at}
use Rattle.ig_text.specs.ReaderAnswers.{Fails}
use Rattle.ig_text.proofs.ReaderLoopLemmas.{until_closed, next_read, items_are}
use Rattle.ig_text.proofs.ReaderStopLemmas.{answers_by, comma_stops, next_stops, items_stop, until_stops, until_pushed}
use Rattle.ig_text.proofs.parts.items.Goals as goal

pub returns-in-Some-after : goal.returns-in-Some-after
returns-in-Some-after g c =
    let R = g.T.ReadPart.reads in
    let s : List ℕ = c.args.text.now in
    let e = until_closed (next_at R) c.args.close (length c.in_ok-first.rest.now) c.loop.counter c.loop.rest.now c.in-Some-after.behind.now c.loop.read.items (any_at R c.args.close s) c.loop-test.true c.in-Some-after.ensures.some c.loop.invariant in
    answers_by _ c.counted.result _ _ (items_are R c.args.close s _ e) c.counted.ensures

pub returns-in_err-next : goal.returns-in_err-next
returns-in_err-next g c =
    let R = g.T.ReadPart.reads in
    let s : List ℕ = c.args.text.now in
    let wrong = comma_stops R c.loop.rest.now c.in_err-next.field-0.0 c.in_err-next.ensures in
    let fails : Fails c.in_err-next.field-0.0 (items_at R c.args.close s) =
    items_stop R c.args.close s c.in_err-next.field-0.0
    (until_stops (next_at R) c.args.close (length c.in_ok-first.rest.now) c.loop.counter c.loop.rest.now c.loop.read.items c.in_err-next.field-0.0 (any_at R c.args.close s) refl c.loop-test.true
    (c.in_default-after.ensures.none refl) wrong c.loop.invariant) in
    search rules

pub returns-in_err-item : goal.returns-in_err-item
returns-in_err-item g c =
    let R = g.T.ReadPart.reads in
    let s : List ℕ = c.args.text.now in
    let wrong = next_stops R c.loop.rest.now c.in_ok-next.next.now c.in_err-item.field-0.0 c.in_ok-next.ensures c.in_err-item.ensures in
    let fails : Fails c.in_err-item.field-0.0 (items_at R c.args.close s) =
    items_stop R c.args.close s c.in_err-item.field-0.0
    (until_stops (next_at R) c.args.close (length c.in_ok-first.rest.now) c.loop.counter c.loop.rest.now c.loop.read.items c.in_err-item.field-0.0 (any_at R c.args.close s) refl c.loop-test.true
    (c.in_default-after.ensures.none refl) wrong c.loop.invariant) in
    search rules

pub loop-preserved : goal.loop-preserved
loop-preserved g c =
    let R = g.T.ReadPart.reads in
    let one = next_read R c.loop.rest.now c.in_ok-next.next.now _ c.in_ok-next.ensures c.in_ok-item.ensures in
    until_pushed (next_at R) c.args.close (length c.in_ok-first.rest.now) c.loop.counter c.loop.rest.now c.loop.read.items c.push-in-loop.new.self.items c.in_ok-item.item c.in_ok-item.next.now (any_at R c.args.close c.args.text.now) refl
    c.loop-test.true (c.in_default-after.ensures.none refl) one c.in_ok-push-2.ensures.items c.loop.invariant
