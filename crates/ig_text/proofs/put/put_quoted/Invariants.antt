use Rattle.std.proofs.Common.{◌≡◌, ◌++◌, drop}
use Rattle.ig_text.specs.Tokens.{quote, until_text, quoted_byte}
use Rattle.ig_text.proofs.put.put_quoted.Given as goal

abbrev pub invariant-loop-byte : goal.invariant-loop-byte
invariant-loop-byte l = l.out ++ until_text quote quoted_byte (drop l.byte-index l.bytes) ≡ l.initial.out ++ until_text quote quoted_byte l.bytes
