use Rattle.std.proofs.Common.{◌≡◌, ◌+◌, drop}
use Rattle.ig_lines.specs.ReadLine.{word_len}
use Rattle.ig_lines.proofs.reader.word_len.Given as goal

abbrev pub invariant-loop-index : goal.invariant-loop-index
invariant-loop-index l = word_len l.text ≡ l.index + word_len (drop l.index l.text)
