use Rattle.std.proofs.Common.{◌≡◌, ◌++◌, drop}
use Rattle.ig_lines.specs.Arguments.{pair_text}
use Rattle.ig_lines.specs.ShownText.{spaced}
use Rattle.ig_lines.proofs.put_arguments.put_pairs.Given as goal

abbrev pub invariant-loop-pair : goal.invariant-loop-pair
invariant-loop-pair l = l.out ++ spaced pair_text (drop l.pair-index l.pairs) ≡ l.initial.out ++ spaced pair_text l.pairs
