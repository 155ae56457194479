-- A door in memory, as the script that it follows.
use Rattle.std.specs.Prelude.{◌≡◌, ℕ, ◌^◌, ◌<◌, Bool, true, false, not, List, [], ◌∷◌, Some}
use Rattle.std.specs.List.{list_any}
use Rattle.ig_link.specs.AcceptsAs.{Coming, DoorState}
use Rattle.ig_link.specs.Script.{Script, initial_script, bytes_of, may_stop, is_write_fault, next_count}
use Rattle.ig_link.specs.declared.door.Opened.{Opened}
use Rattle.ig_link.specs.declared.door.Opened.TheVariants as opened
use Rattle.ig_link.specs.declared.mem_door.DoorStep.{DoorStep}
use Rattle.ig_link.specs.declared.mem_door.DoorStep.TheVariants as steps

-- The state of a door's script: the steps that are left; how often an accept has failed; how many links
-- were opened; and whether an accept has answered the end.
pub record DoorScript : Type 0 where
  pub steps : List DoorStep
  pub faults : ℕ
  pub opened : ℕ
  pub ended : Bool

-- the state before the first accept
abbrev pub initial_door : List DoorStep → DoorScript
initial_door steps = record { steps = steps; faults = 0; opened = 0; ended = false }

-- a link in memory, as one that is still to come
abbrev pub coming_link : Script → Coming
coming_link s = record {
  rest = bytes_of s.reads;
  reads_hold = not (list_any may_stop s.reads);
  writes_hold = not (list_any is_write_fault s.writes);
}

-- the links among the steps
abbrev pub coming_links : List DoorStep → List Coming
coming_links [] = []
coming_links (steps.Link link ∷ more) = coming_link link ∷ coming_links more
coming_links (steps.Fault ∷ more) = coming_links more

-- a door in memory tells the links still to come
abbrev pub script_door : DoorScript → DoorState
script_door d = record {
  coming = Some (coming_links d.steps);
  faults = d.faults;
  opened = d.opened;
  ended = d.ended;
}

-- a link as it was made: nothing was read from it or written to it
abbrev pub IsUnused : Script → Type 0
IsUnused s = s ≡ initial_script s.room s.reads s.writes

-- each link among the steps is as it was made
abbrev pub AreUnused : List DoorStep → Type 0
AreUnused [] = Unit {0}
AreUnused (steps.Link link ∷ more) = IsUnused link × AreUnused more
AreUnused (steps.Fault ∷ more) = AreUnused more

-- what an accept answers at these steps, and the steps left after it; after the last comes the end
abbrev pub NextAccept : List DoorStep → Opened Script → List DoorStep → Type 0
NextAccept [] answer after = (answer ≡ opened.End) × (after ≡ [])
NextAccept (steps.Link link ∷ more) answer after = (answer ≡ opened.Link link) × (after ≡ more)
NextAccept (steps.Fault ∷ more) answer after = (answer ≡ opened.Failed) × (after ≡ more)

-- the counts and the end after an accept with this answer
abbrev pub AcceptCounts : Opened Script → DoorScript → DoorScript → Type 0
AcceptCounts (opened.Link link) old new =
    (new.opened ≡ next_count old.opened) × (new.faults ≡ old.faults) × (new.ended ≡ false)
AcceptCounts opened.End old new =
    (new.opened ≡ old.opened) × (new.faults ≡ old.faults) × (new.ended ≡ true)
AcceptCounts opened.Failed old new =
    (new.opened ≡ old.opened) × (new.faults ≡ next_count old.faults) × (new.ended ≡ false)

-- An accept answers what the steps say. A script that has ended has no step left.
pub record ScriptAccepts (answer : Opened Script) (old new : DoorScript) : Type 0 where
  pub steps : NextAccept old.steps answer new.steps
  pub counts : AcceptCounts answer old new
  pub settled : old.ended ≡ true → old.steps ≡ []
  pub unused : AreUnused old.steps
  pub in_range : (old.faults < 2 ^ 64) × (old.opened < 2 ^ 64)
