-- The table of the operations: the code and the name of each, and the first version that has it.
use Rattle.std.specs.Prelude.{ℕ, ℤ, pos, negsuc, List, [], ◌∷◌, Option, None, ◌==◌, codes}
use Rattle.std.specs.List.{find}
use Rattle.ig_wire.specs.Versions.{version_1_0, version_1_4}
use Rattle.ig_wire.specs.declared.version.Version.{Version}
use Rattle.ig_wire.specs.declared.operation.Operation.{Operation}
use Rattle.ig_wire.specs.declared.operation.Operation.TheVariants as operation

abbrev pub operation_number : Operation → ℕ
operation_number operation.CloseResource = 0
operation_number operation.Get = 1000
operation_number operation.Put = 1001
operation_number operation.PutIfAbsent = 1002
operation_number operation.GetAll = 1003
operation_number operation.PutAll = 1004
operation_number operation.GetAndPut = 1005
operation_number operation.GetAndReplace = 1006
operation_number operation.GetAndRemove = 1007
operation_number operation.GetAndPutIfAbsent = 1008
operation_number operation.Replace = 1009
operation_number operation.ReplaceIfEquals = 1010
operation_number operation.ContainsKey = 1011
operation_number operation.ContainsKeys = 1012
operation_number operation.Clear = 1013
operation_number operation.ClearKey = 1014
operation_number operation.ClearKeys = 1015
operation_number operation.RemoveKey = 1016
operation_number operation.RemoveIfEquals = 1017
operation_number operation.RemoveKeys = 1018
operation_number operation.RemoveAll = 1019
operation_number operation.GetSize = 1020
operation_number operation.CacheNames = 1050
operation_number operation.Create = 1051
operation_number operation.GetOrCreate = 1052
operation_number operation.Destroy = 1056
operation_number operation.PartitionMaps = 1101
operation_number operation.Scan = 2000
operation_number operation.NextPage = 2001
operation_number operation.GetTypeName = 3000
operation_number operation.RegisterTypeName = 3001
operation_number operation.GetType = 3002
operation_number operation.PutType = 3003

-- its code, an Int16
abbrev pub operation_code : Operation → ℤ
operation_code o = pos (operation_number o)

abbrev pub operation_name : Operation → List ℕ
operation_name operation.CloseResource = codes "close resource"
operation_name operation.Get = codes "get"
operation_name operation.Put = codes "put"
operation_name operation.PutIfAbsent = codes "put if absent"
operation_name operation.GetAll = codes "get all"
operation_name operation.PutAll = codes "put all"
operation_name operation.GetAndPut = codes "get and put"
operation_name operation.GetAndReplace = codes "get and replace"
operation_name operation.GetAndRemove = codes "get and remove"
operation_name operation.GetAndPutIfAbsent = codes "get and put if absent"
operation_name operation.Replace = codes "replace"
operation_name operation.ReplaceIfEquals = codes "replace if equals"
operation_name operation.ContainsKey = codes "contains key"
operation_name operation.ContainsKeys = codes "contains keys"
operation_name operation.Clear = codes "clear"
operation_name operation.ClearKey = codes "clear key"
operation_name operation.ClearKeys = codes "clear keys"
operation_name operation.RemoveKey = codes "remove key"
operation_name operation.RemoveIfEquals = codes "remove if equals"
operation_name operation.RemoveKeys = codes "remove keys"
operation_name operation.RemoveAll = codes "remove all"
operation_name operation.GetSize = codes "get size"
operation_name operation.CacheNames = codes "cache names"
operation_name operation.Create = codes "create"
operation_name operation.GetOrCreate = codes "get or create"
operation_name operation.Destroy = codes "destroy"
operation_name operation.PartitionMaps = codes "partition maps"
operation_name operation.Scan = codes "scan"
operation_name operation.NextPage = codes "next page"
operation_name operation.GetTypeName = codes "get type name"
operation_name operation.RegisterTypeName = codes "register type name"
operation_name operation.GetType = codes "get type"
operation_name operation.PutType = codes "put type"

-- partition maps came with 1.4.0
abbrev pub first_version : Operation → Version
first_version operation.PartitionMaps = version_1_4
first_version _ = version_1_0

-- each operation once
abbrev pub operations : List Operation
operations =
    operation.CloseResource ∷ operation.Get ∷ operation.Put ∷ operation.PutIfAbsent
    ∷ operation.GetAll ∷ operation.PutAll ∷ operation.GetAndPut ∷ operation.GetAndReplace
    ∷ operation.GetAndRemove ∷ operation.GetAndPutIfAbsent ∷ operation.Replace
    ∷ operation.ReplaceIfEquals ∷ operation.ContainsKey ∷ operation.ContainsKeys
    ∷ operation.Clear ∷ operation.ClearKey ∷ operation.ClearKeys ∷ operation.RemoveKey
    ∷ operation.RemoveIfEquals ∷ operation.RemoveKeys ∷ operation.RemoveAll ∷ operation.GetSize
    ∷ operation.CacheNames ∷ operation.Create ∷ operation.GetOrCreate ∷ operation.Destroy
    ∷ operation.PartitionMaps ∷ operation.Scan ∷ operation.NextPage ∷ operation.GetTypeName
    ∷ operation.RegisterTypeName ∷ operation.GetType ∷ operation.PutType ∷ []

-- the operation with this code, if there is one
abbrev pub operation_at : ℤ → Option Operation
operation_at (pos n) = find (λ o. operation_number o == n) operations
operation_at (negsuc n) = None
