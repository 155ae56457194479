-- Which calls may be run.
use Rattle.std.specs.Prelude.{◌≢◌, [], All}
use Rattle.ig_value.specs.declared.value.Value.{Value}
use Rattle.ig_value.specs.declared.value.Value.TheVariants.{Null}
use Rattle.ig_value.specs.Canon.{IsSendable}
use Rattle.ig_value.specs.Limits.{Fits}
use Rattle.ig_types.specs.IsInOrder.{IsInOrder}
use Rattle.ig_caches.specs.declared.call.Pair.{Pair}
use Rattle.ig_caches.specs.declared.call.Call.{Call}
use Rattle.ig_caches.specs.declared.call.Call.TheVariants.{Get, GetAndRemove, ContainsKey, ClearKey, RemoveKey, Put, PutIfAbsent, GetAndPut, GetAndReplace, GetAndPutIfAbsent, Replace, ReplaceIfEquals, RemoveIfEquals, GetAll, ContainsKeys, ClearKeys, RemoveKeys, PutAll, Create, GetOrCreate, PutType}

-- what may be a key, a value or a wanted value: it isn't null, it keeps to the limits of values, and an Int32 counts the
-- bytes of its canonical encoding
pub record IsItem (v : Value) : Type 0 where
  pub present : v ≢ Null
  pub fits : Fits v
  pub sendable : IsSendable v

-- a key and a value that may be such
abbrev pub IsRow : Pair → Type 0
IsRow pair = IsItem pair.key × IsItem pair.value

-- each key, value and wanted value may be such, the name of a cache to be created isn't empty, and a description is in order
abbrev pub IsRunnable : Call → Type 0
IsRunnable (Get id key) = IsItem key
IsRunnable (GetAndRemove id key) = IsItem key
IsRunnable (ContainsKey id key) = IsItem key
IsRunnable (ClearKey id key) = IsItem key
IsRunnable (RemoveKey id key) = IsItem key
IsRunnable (Put id key value) = IsItem key × IsItem value
IsRunnable (PutIfAbsent id key value) = IsItem key × IsItem value
IsRunnable (GetAndPut id key value) = IsItem key × IsItem value
IsRunnable (GetAndReplace id key value) = IsItem key × IsItem value
IsRunnable (GetAndPutIfAbsent id key value) = IsItem key × IsItem value
IsRunnable (Replace id key value) = IsItem key × IsItem value
IsRunnable (ReplaceIfEquals id key wanted value) = IsItem key × IsItem wanted × IsItem value
IsRunnable (RemoveIfEquals id key wanted) = IsItem key × IsItem wanted
IsRunnable (GetAll id keys) = All IsItem keys
IsRunnable (ContainsKeys id keys) = All IsItem keys
IsRunnable (ClearKeys id keys) = All IsItem keys
IsRunnable (RemoveKeys id keys) = All IsItem keys
IsRunnable (PutAll id pairs) = All IsRow pairs
IsRunnable (Create name) = name ≢ []
IsRunnable (GetOrCreate name) = name ≢ []
IsRunnable (PutType meta) = IsInOrder meta
IsRunnable _ = Unit {0}
