use Rattle.std.proofs.Common.{◌≡◌, ◌+◌, drop}
use Rattle.ig_lines.specs.Arguments.{graphic_len}
use Rattle.ig_lines.proofs.arguments.graphic_len.Given as goal

abbrev pub invariant-loop-index : goal.invariant-loop-index
invariant-loop-index l = graphic_len l.text ≡ l.index + graphic_len (drop l.index l.text)
