use Rattle.std.proofs.Common.{◌≡◌, ℤ, take}
use Rattle.std.specs.BTreeSet.{contains}
use Rattle.std.specs.Ordering.{int_cmp}
use Rattle.ig_parts.specs.ServedMap.{first_mentions}
use Rattle.ig_parts.proofs.ServedLemmas.{mentions}
use Rattle.ig_parts.proofs.served.first_mentions.Given as goal

abbrev pub invariant-loop-number : goal.invariant-loop-number
invariant-loop-number l = record {
  made : l.made.items ≡ first_mentions (take l.number-index l.numbers);
  seen : (q : ℤ) → contains int_cmp l.seen q ≡ mentions (take l.number-index l.numbers) q;
}
