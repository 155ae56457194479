use Rattle.std.proofs.Common.{◌≡◌, ◌++◌, drop}
use Rattle.ig_lines.specs.ShownText.{spaced}
use Rattle.ig_lines.proofs.put_arguments.put_each.Given as goal

abbrev pub invariant-loop-part : goal.invariant-loop-part
invariant-loop-part g l = l.out ++ spaced g.T.PutText.text (drop l.part-index l.parts) ≡ l.initial.out ++ spaced g.T.PutText.text l.parts
