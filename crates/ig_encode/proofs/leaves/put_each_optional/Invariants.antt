use Rattle.std.proofs.Common.{◌≡◌, take}
use Rattle.std.specs.List.{flat_map}
use Rattle.ig_value.specs.Table.{byte_of}
use Rattle.ig_value.specs.Canon.{optional_bytes}
use Rattle.ig_encode.proofs.leaves.put_each_optional.Given as goal

abbrev pub invariant-loop-part : goal.invariant-loop-part
invariant-loop-part g l = (l.out, l.into) ≡ g.S.Output.after l.initial.out l.initial.into (flat_map (optional_bytes (byte_of l.inner) g.T.Spell.bytes) (take l.part-index l.parts))
