-- How a `MemDoor` holds the state of its script.
use Rattle.std.specs.Prelude.{◌≡◌, true, []}
use Rattle.std.specs.Vec.Iter.{into_iter_items}
use Rattle.ig_link.specs.DoorScript.{DoorScript, AreUnused}
use Rattle.ig_link.specs.declared.mem_door.MemDoor.TheInside.{Inside}

-- the state of its script
abbrev pub door_script : Inside → DoorScript
door_script d = record { steps = into_iter_items d.steps; faults = d.faults; opened = d.opened; ended = d.ended }

-- the links still to come are as they were made, and a door that has ended has no step left
pub record IsReady (d : Inside) : Type 0 where
  pub unused : AreUnused (into_iter_items d.steps)
  pub at_end : d.ended ≡ true → into_iter_items d.steps ≡ []
