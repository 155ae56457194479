-- What building an object gives, and when it is refused.
use Rattle.std.specs.Prelude.{◌≡◌, ◌≢◌, ℕ, ◌<◌, ℤ, pos, List, map}
use Rattle.std.specs.List.{AllByRecursion}
use Rattle.ig_value.specs.declared.build.BuildFault.{BuildFault}
use Rattle.ig_value.specs.declared.build.BuildFault.TheVariants as fault
use Rattle.ig_value.specs.declared.object.Record.{Record}
use Rattle.ig_value.specs.declared.object.Shape.TheVariants.{Named}
use Rattle.ig_value.specs.declared.value.Value.{Value}
use Rattle.ig_value.specs.Objects.{kept_flags}
use Rattle.ig_value.specs.Limits.{IsLimitedObject, FitsTo, Depth}

-- an object inside adds a level, so its fields are at most 31 levels deep
abbrev pub AreShallow : List (ℤ × Value) → Type 0
AreShallow fields = AllByRecursion (λ f. Depth f.1 < 32) fields

-- the object with these bits, of this type, with these fields, each after its identifier
abbrev pub object_of : ℕ → ℤ → List (ℤ × Value) → Record Value
object_of bits type fields = record { bits = bits; type_id = type; shape = Named (map (λ f. f.0) fields); fields = map (λ f. f.1) fields }

-- there is such an object
pub record IsBuildable (bits : ℕ) (type : ℤ) (fields : List (ℤ × Value)) : Type 0 where
  pub kept : kept_flags bits ≡ bits
  pub registered : type ≢ pos 0
  pub shallow : AreShallow fields

-- there is, it is this one, and it keeps to the limits
pub record IsBuilt (bits : ℕ) (type : ℤ) (fields : List (ℤ × Value)) (o : Record Value) : Type 0 where
  pub right : IsBuildable bits type fields
  pub is : o ≡ object_of bits type fields
  pub fits : IsLimitedObject (FitsTo 31) o

-- the refusal is right: it is the first that holds, and memory is asked for where none does
abbrev pub IsRefused : ℕ → ℤ → List (ℤ × Value) → BuildFault → Type 0
IsRefused bits type fields fault.Bits = kept_flags bits ≢ bits
IsRefused bits type fields fault.TypeId = (kept_flags bits ≡ bits) × (type ≡ pos 0)
IsRefused bits type fields fault.Deep = (kept_flags bits ≡ bits) × (type ≢ pos 0) × ¬ AreShallow fields
IsRefused bits type fields fault.NoMemory = IsBuildable bits type fields
