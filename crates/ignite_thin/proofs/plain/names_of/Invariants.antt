use Rattle.std.proofs.Common.{◌≡◌, map, string_bytes, take}
use Rattle.ignite_thin.proofs.plain.names_of.Given as goal

abbrev pub invariant-loop-word : goal.invariant-loop-word
invariant-loop-word l = l.names.items ≡ map string_bytes (take l.word-index l.words)
