use Rattle.std.proofs.Common.{◌≡◌, ◌+◌, ◌-◌, ◌*◌, length, vec_capacity}
use Rattle.ig_value.specs.Reading.{item_at, many_at}
use Rattle.ig_decode.proofs.LoopLemmas.{with_front}
use Rattle.ig_decode.proofs.element.elements_at.Given as goal

abbrev pub invariant-loop : goal.invariant-loop
invariant-loop g l = record {
  room : vec_capacity l.elements ≡ l.whole;
  len : length l.elements.items ≡ l.counter;
  taken : length l.rest + l.counter * g.E.ReadElement.WIDTH ≡ length l.bytes;
  so_far : with_front l.elements.items (many_at (item_at g.E.ReadElement.WIDTH g.E.ReadElement.meaning) (l.count.items - l.counter) l.rest) ≡ many_at (item_at g.E.ReadElement.WIDTH g.E.ReadElement.meaning) l.count.items l.bytes;
}
