use Rattle.std.proofs.Common.{◌≡◌, ◌+◌, ◌*◌, ◌/◌, ◌<◌, min, length, take, drop, [], ◌∷◌, ap, ◌∙◌, arith, length-append, length-drop}
use Rattle.ig_value.specs.declared.cause.Cause.TheVariants as cause
use Rattle.ig_value.specs.Reading.{item_at, many_at}
use Rattle.ig_value.proofs.ItemLemmas.{item_short}
use Rattle.ig_decode.specs.declared.fault.ReadError.TheVariants as error
use Rattle.ig_decode.proofs.LoopLemmas.{goes_on, ends, item_found, item_wrong, one_more, none_more, whole_fits}
use Rattle.ig_decode.proofs.element.elements_at.Goals as goal

pub returns-in-Err : goal.returns-in-Err
returns-in-Err g c =
    let W = g.E.ReadElement.WIDTH in
    let one = item_at W g.E.ReadElement.meaning in
    let whole : c.whole_items-whole.result ≡ min c.args.count.items (length c.args.bytes.now / W) = rw c.WIDTH.ensures at c.whole_items-whole.ensures in
    let room = one_more W c.loop.counter c.whole_items-whole.result (length c.args.bytes.now) (length c.loop.rest.now) (whole_fits W c.whole_items-whole.result c.args.count.items (length c.args.bytes.now) whole) c.loop.invariant.taken c.loop-test.true in
    let front : c.split_at.result.0.now ≡ take W c.loop.rest.now = rw c.WIDTH-in-loop.ensures at c.split_at.ensures.front in
    let wrong = item_wrong W g.E.ReadElement.meaning c.loop.rest.now c.split_at.result.0.now c.in-Err.cause room front c.in-Err.ensures in
    let counts : c.loop.counter < c.args.count.items = omega arith in
    ends one (error.Fault (length c.loop.rest.now) c.in-Err.cause) c.loop.elements.items c.args.count.items c.loop.counter c.loop.rest.now (many_at one c.args.count.items c.args.bytes.now) counts wrong c.loop.invariant.so_far

pub loop-preserved : goal.loop-preserved
loop-preserved g c =
    let W = g.E.ReadElement.WIDTH in
    let one = item_at W g.E.ReadElement.meaning in
    let whole : c.whole_items-whole.result ≡ min c.args.count.items (length c.args.bytes.now / W) = rw c.WIDTH.ensures at c.whole_items-whole.ensures in
    let room = one_more W c.loop.counter c.whole_items-whole.result (length c.args.bytes.now) (length c.loop.rest.now) (whole_fits W c.whole_items-whole.result c.args.count.items (length c.args.bytes.now) whole) c.loop.invariant.taken c.loop-test.true in
    let front : c.split_at.result.0.now ≡ take W c.loop.rest.now = rw c.WIDTH-in-loop.ensures at c.split_at.ensures.front in
    let back : c.split_at.result.1.now ≡ drop W c.loop.rest.now = rw c.WIDTH-in-loop.ensures at c.split_at.ensures.back in
    let found = item_found W g.E.ReadElement.meaning c.loop.rest.now c.split_at.result.0.now c.split_at.result.1.now c.in-Ok.element room front back c.in-Ok.ensures in
    let counts : c.loop.counter < c.args.count.items = omega arith in
    record {
      room = c.push_reserved.ensures.capacity ∙ c.loop.invariant.room;
      len = omega (arith, ap length c.push_reserved.ensures.items, length-append c.loop.elements.items (c.in-Ok.element ∷ []), c.loop.invariant.len);
      taken = omega (arith, c.loop.invariant.taken, ap length back, length-drop W c.loop.rest.now);
      so_far = rw c.push_reserved.ensures.items
          (goes_on one c.loop.elements.items c.args.count.items c.loop.counter c.loop.rest.now c.in-Ok.element c.split_at.result.1.now (many_at one c.args.count.items c.args.bytes.now) counts found c.loop.invariant.so_far);
    }

pub returns-then-is_more_than : goal.returns-then-is_more_than
returns-then-is_more_than g c =
    let W = g.E.ReadElement.WIDTH in
    let one = item_at W g.E.ReadElement.meaning in
    let whole : c.whole_items-whole.result ≡ min c.args.count.items (length c.args.bytes.now / W) = rw c.WIDTH.ensures at c.whole_items-whole.ensures in
    let more = c.is_more_than.ensures.0 c.if-is_more_than.true in
    let all : c.whole_items-whole.result ≡ length c.args.bytes.now / W = omega arith in
    let at_end : c.loop.counter ≡ c.whole_items-whole.result = omega arith in
    let there : length c.loop.rest.now + c.whole_items-whole.result * W ≡ length c.args.bytes.now = rw (← at_end) c.loop.invariant.taken in
    let none = none_more W c.whole_items-whole.result (length c.args.bytes.now) (length c.loop.rest.now) g.met.E.ReadElement.some all there in
    let counts : c.loop.counter < c.args.count.items = omega arith in
    ends one (error.Fault (length c.loop.rest.now) cause.Short) c.loop.elements.items c.args.count.items c.loop.counter c.loop.rest.now (many_at one c.args.count.items c.args.bytes.now) counts
    (item_short W g.E.ReadElement.meaning c.loop.rest.now none) c.loop.invariant.so_far
