-- When a reply tells the topology.
use Rattle.std.specs.Prelude.{ℤ, pos, Bool, false, Option, None, Some, if◌then◌else◌}
use Rattle.std.specs.Ordering.{int_eq}
use Rattle.ig_base.specs.declared.Topology.{Topology}
use Rattle.ig_wire.specs.declared.version.Version.{Version}
use Rattle.ig_wire.specs.Versions.{has_flags}
use Rattle.ig_deals.specs.declared.manner.Manner.{Manner}
use Rattle.ig_deals.specs.declared.manner.Manner.TheVariants.{Never, AtChanges, Always}

-- a session of one seat tells from 1.4.0 on where the topology changed
abbrev pub session_manner : Version → Manner
session_manner v = if has_flags v then AtChanges else Never

-- a crew tells from 1.4.0 on with each answer, as its replies may come in any order
abbrev pub crew_manner : Version → Manner
crew_manner v = if has_flags v then Always else Never

-- the topology is version 1, and its minor version is that of an answer
abbrev pub topology : ℤ → Topology
topology minor = record { version = pos 1; minor = minor }

-- tests whether this minor version was told last
abbrev pub is_told : Option ℤ → ℤ → Bool
is_told None minor = false
is_told (Some last) minor = int_eq last minor

-- what the reply to a grid call tells whose answer has this minor version, after what was told last
abbrev pub tells : Manner → Option ℤ → ℤ → Option Topology
tells Never last minor = None
tells AtChanges last minor = if is_told last minor then None else Some (topology minor)
tells Always last minor = Some (topology minor)

-- what was told last after that reply
abbrev pub told_after : Manner → Option ℤ → ℤ → Option ℤ
told_after Never last minor = last
told_after AtChanges last minor = Some minor
told_after Always last minor = last
