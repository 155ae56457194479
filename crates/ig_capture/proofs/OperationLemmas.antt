-- The tables of operations.
use Rattle.std.proofs.Common.{◌≡◌, true, false, Option, Some, None, IsSome, is_some, refl}
use Rattle.ig_wire.specs.declared.operation.Operation.{Operation}
use Rattle.ig_wire.specs.declared.operation.Operation.TheVariants as operation
use Rattle.ig_wire.specs.Operations.{operation_at, operation_code}
use Rattle.ig_meta.specs.Requests.{ask_of as types_ask}
use Rattle.ig_meta.specs.Results.{result_of as types_result}
use Rattle.ig_ops.specs.Results.{result_of as rows_result}

-- an operation has its code
pub at_code : (o : Operation) → operation_at (operation_code o) ≡ Some o
at_code operation.CloseResource = refl
at_code operation.Get = refl
at_code operation.Put = refl
at_code operation.PutIfAbsent = refl
at_code operation.GetAll = refl
at_code operation.PutAll = refl
at_code operation.GetAndPut = refl
at_code operation.GetAndReplace = refl
at_code operation.GetAndRemove = refl
at_code operation.GetAndPutIfAbsent = refl
at_code operation.Replace = refl
at_code operation.ReplaceIfEquals = refl
at_code operation.ContainsKey = refl
at_code operation.ContainsKeys = refl
at_code operation.Clear = refl
at_code operation.ClearKey = refl
at_code operation.ClearKeys = refl
at_code operation.RemoveKey = refl
at_code operation.RemoveIfEquals = refl
at_code operation.RemoveKeys = refl
at_code operation.RemoveAll = refl
at_code operation.GetSize = refl
at_code operation.CacheNames = refl
at_code operation.Create = refl
at_code operation.GetOrCreate = refl
at_code operation.Destroy = refl
at_code operation.PartitionMaps = refl
at_code operation.Scan = refl
at_code operation.NextPage = refl
at_code operation.GetTypeName = refl
at_code operation.RegisterTypeName = refl
at_code operation.GetType = refl
at_code operation.PutType = refl

-- an operation of types has a result of types, and none of rows
pub types_known : (o : Operation) → is_some (types_ask o) ≡ true → IsSome (types_result o)
types_known operation.CloseResource is = absurd (cc)
types_known operation.Get is = absurd (cc)
types_known operation.Put is = absurd (cc)
types_known operation.PutIfAbsent is = absurd (cc)
types_known operation.GetAll is = absurd (cc)
types_known operation.PutAll is = absurd (cc)
types_known operation.GetAndPut is = absurd (cc)
types_known operation.GetAndReplace is = absurd (cc)
types_known operation.GetAndRemove is = absurd (cc)
types_known operation.GetAndPutIfAbsent is = absurd (cc)
types_known operation.Replace is = absurd (cc)
types_known operation.ReplaceIfEquals is = absurd (cc)
types_known operation.ContainsKey is = absurd (cc)
types_known operation.ContainsKeys is = absurd (cc)
types_known operation.Clear is = absurd (cc)
types_known operation.ClearKey is = absurd (cc)
types_known operation.ClearKeys is = absurd (cc)
types_known operation.RemoveKey is = absurd (cc)
types_known operation.RemoveIfEquals is = absurd (cc)
types_known operation.RemoveKeys is = absurd (cc)
types_known operation.RemoveAll is = absurd (cc)
types_known operation.GetSize is = absurd (cc)
types_known operation.CacheNames is = refl
types_known operation.Create is = refl
types_known operation.GetOrCreate is = refl
types_known operation.Destroy is = refl
types_known operation.PartitionMaps is = absurd (cc)
types_known operation.Scan is = absurd (cc)
types_known operation.NextPage is = absurd (cc)
types_known operation.GetTypeName is = refl
types_known operation.RegisterTypeName is = refl
types_known operation.GetType is = refl
types_known operation.PutType is = refl

-- nothing is no row
pub none_is_some : false ≡ true → ⊥
none_is_some clash = absurd (cc)

pub types_alone : (o : Operation) → IsSome (types_result o) → rows_result o ≡ None
types_alone operation.CloseResource is = absurd (none_is_some is)
types_alone operation.Get is = absurd (none_is_some is)
types_alone operation.Put is = absurd (none_is_some is)
types_alone operation.PutIfAbsent is = absurd (none_is_some is)
types_alone operation.GetAll is = absurd (none_is_some is)
types_alone operation.PutAll is = absurd (none_is_some is)
types_alone operation.GetAndPut is = absurd (none_is_some is)
types_alone operation.GetAndReplace is = absurd (none_is_some is)
types_alone operation.GetAndRemove is = absurd (none_is_some is)
types_alone operation.GetAndPutIfAbsent is = absurd (none_is_some is)
types_alone operation.Replace is = absurd (none_is_some is)
types_alone operation.ReplaceIfEquals is = absurd (none_is_some is)
types_alone operation.ContainsKey is = absurd (none_is_some is)
types_alone operation.ContainsKeys is = absurd (none_is_some is)
types_alone operation.Clear is = absurd (none_is_some is)
types_alone operation.ClearKey is = absurd (none_is_some is)
types_alone operation.ClearKeys is = absurd (none_is_some is)
types_alone operation.RemoveKey is = absurd (none_is_some is)
types_alone operation.RemoveIfEquals is = absurd (none_is_some is)
types_alone operation.RemoveKeys is = absurd (none_is_some is)
types_alone operation.RemoveAll is = absurd (none_is_some is)
types_alone operation.GetSize is = absurd (none_is_some is)
types_alone operation.CacheNames is = refl
types_alone operation.Create is = refl
types_alone operation.GetOrCreate is = refl
types_alone operation.Destroy is = refl
types_alone operation.PartitionMaps is = absurd (none_is_some is)
types_alone operation.Scan is = absurd (none_is_some is)
types_alone operation.NextPage is = absurd (none_is_some is)
types_alone operation.GetTypeName is = refl
types_alone operation.RegisterTypeName is = refl
types_alone operation.GetType is = refl
types_alone operation.PutType is = refl

-- any other but partition maps has a result of rows
abbrev pub IsOther : Operation → Type 0
IsOther operation.PartitionMaps = ⊥
IsOther _ = Unit {0}

pub other : (o : Operation) → (o ≡ operation.PartitionMaps → ⊥) → IsOther o
other operation.PartitionMaps never = absurd (never refl)
other _ never = tt

pub rows_known : (o : Operation) → is_some (types_ask o) ≡ false → IsOther o → IsSome (rows_result o)
rows_known operation.CloseResource is kind = refl
rows_known operation.Get is kind = refl
rows_known operation.Put is kind = refl
rows_known operation.PutIfAbsent is kind = refl
rows_known operation.GetAll is kind = refl
rows_known operation.PutAll is kind = refl
rows_known operation.GetAndPut is kind = refl
rows_known operation.GetAndReplace is kind = refl
rows_known operation.GetAndRemove is kind = refl
rows_known operation.GetAndPutIfAbsent is kind = refl
rows_known operation.Replace is kind = refl
rows_known operation.ReplaceIfEquals is kind = refl
rows_known operation.ContainsKey is kind = refl
rows_known operation.ContainsKeys is kind = refl
rows_known operation.Clear is kind = refl
rows_known operation.ClearKey is kind = refl
rows_known operation.ClearKeys is kind = refl
rows_known operation.RemoveKey is kind = refl
rows_known operation.RemoveIfEquals is kind = refl
rows_known operation.RemoveKeys is kind = refl
rows_known operation.RemoveAll is kind = refl
rows_known operation.GetSize is kind = refl
rows_known operation.CacheNames is kind = absurd (cc)
rows_known operation.Create is kind = absurd (cc)
rows_known operation.GetOrCreate is kind = absurd (cc)
rows_known operation.Destroy is kind = absurd (cc)
rows_known operation.PartitionMaps is kind = absurd kind
rows_known operation.Scan is kind = refl
rows_known operation.NextPage is kind = refl
rows_known operation.GetTypeName is kind = absurd (cc)
rows_known operation.RegisterTypeName is kind = absurd (cc)
rows_known operation.GetType is kind = absurd (cc)
rows_known operation.PutType is kind = absurd (cc)
