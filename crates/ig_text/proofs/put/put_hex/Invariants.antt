use Rattle.std.proofs.Common.{◌≡◌, ◌++◌, drop}
use Rattle.std.specs.List.{flat_map}
use Rattle.ig_text.specs.Tokens.{hex_byte}
use Rattle.ig_text.proofs.put.put_hex.Given as goal

abbrev pub invariant-loop-byte : goal.invariant-loop-byte
invariant-loop-byte l = l.out ++ flat_map (hex_byte l.upper) (drop l.byte-index l.bytes) ≡ l.initial.out ++ flat_map (hex_byte l.upper) l.bytes
