use Rattle.std.proofs.Common.{◌≡◌, ◌++◌, ℕ, List, length, take, drop, map, All}
use Rattle.ig_shards.specs.PartView.{parts_of}
use Rattle.ig_shards.specs.RowsOfParts.{created_in}
use Rattle.ig_shards.proofs.whole.add_to_all.Given as goal

-- the shards so far have one more cache, and the others are as they were
abbrev pub invariant-loop-name : goal.invariant-loop-name
invariant-loop-name l = record {
  at : l.at ≡ length l.yielded;
  items : l.yielded ++ l.name-iterator.rest.items ≡ l.fn.names.items;
  later : drop l.at l.parts ≡ drop l.at l.fn.parts;
  added : (name : List ℕ) → All (λ n. n ≡ name) l.fn.names.items
      → parts_of l.parts ≡ map (created_in name) (take l.at (parts_of l.fn.parts)) ++ drop l.at (parts_of l.fn.parts);
}
