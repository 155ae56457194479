-- How a `Gathering` holds its bytes.
use Rattle.std.specs.Prelude.{◌≡◌, ◌≤◌, false, drop, length}
use Rattle.ig_link.specs.Gathered.{Gathered}
use Rattle.ig_link.specs.declared.gathering.Gathering.TheInside.{Inside}

-- the bytes that wait are those after the ones that were handed on
abbrev pub gathered : Inside → Gathered
gathered g = record { waiting = drop g.handed_on g.bytes.items; broken = g.broken }

-- only a failed write leaves bytes of which the first were handed on
pub record IsWithin (g : Inside) : Type 0 where
  pub within : g.handed_on ≤ length g.bytes.items
  pub whole : g.broken ≡ false → g.handed_on ≡ 0
