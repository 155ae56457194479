-- Which of several partition maps counts.
use Rattle.std.specs.Prelude.{Bool, ◌&&◌, ◌||◌, not, List, Option, find, int_lt, if◌then◌else◌}
use Rattle.std.specs.List.{list_all}
use Rattle.std.specs.Ordering.{int_eq}
use Rattle.ig_base.specs.declared.Topology.{Topology}
use Rattle.ig_parts.specs.declared.map.PartMap.{PartMap}

-- a is greater than b: by its version, or by its minor version where the versions are equal
abbrev pub is_newer : Topology → Topology → Bool
is_newer a b = int_lt b.version a.version || (int_eq a.version b.version && int_lt b.minor a.minor)

-- the second map where it is newer than the first, else the first
abbrev pub newer_map : PartMap → PartMap → PartMap
newer_map a b = if is_newer b.told a.told then b else a

-- the first of the maps that no other exceeds
unfoldable pub Newest : List PartMap → Option PartMap
Newest maps = find (λ m. list_all (λ other. not (is_newer other.told m.told)) maps) maps
