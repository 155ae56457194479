use Rattle.std.proofs.Common.{◌≡◌, ◌++◌, drop}
use Rattle.std.specs.Fmt.{decimal}
use Rattle.ig_lines.specs.ShownText.{spaced}
use Rattle.ig_lines.proofs.put_arguments.put_smalls.Given as goal

abbrev pub invariant-loop-number : goal.invariant-loop-number
invariant-loop-number l = l.out ++ spaced decimal (drop l.number-index l.numbers) ≡ l.initial.out ++ spaced decimal l.numbers
