use Rattle.std.proofs.Common.{◌≡◌, ◌+◌, drop, true}
use Rattle.std.specs.List.{prefix_len}
use Rattle.ig_text.specs.ReadText.{is_hex}
use Rattle.ig_text.proofs.read.hex_len.Given as goal

abbrev pub invariant-loop-index : goal.invariant-loop-index
invariant-loop-index l = prefix_len (is_hex true) l.text ≡ l.index + prefix_len (is_hex true) (drop l.index l.text)
