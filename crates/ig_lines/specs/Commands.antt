-- What each word and its arguments ask, and the word and the arguments of what is asked.
use Rattle.std.specs.Prelude.{ℤ, Option, Some, None}
use Rattle.ig_caches.specs.declared.call.Call.{Call}
use Rattle.ig_caches.specs.declared.call.Call.TheVariants.{Get, GetAndRemove, ContainsKey, ClearKey, RemoveKey, Put, PutIfAbsent, GetAndPut, GetAndReplace, GetAndPutIfAbsent, Replace, ReplaceIfEquals, RemoveIfEquals, GetAll, ContainsKeys, ClearKeys, RemoveKeys, PutAll, Clear, RemoveAll, Scan, Size, Names, Create, GetOrCreate, Destroy, TypeName, SetTypeName, TypeOf, PutType, Affinity}
use Rattle.ig_caches.specs.declared.request.Request.TheVariants as request
use Rattle.ig_lines.specs.declared.line.LineAsk.{LineAsk}
use Rattle.ig_lines.specs.declared.line.LineAsk.TheVariants as asks
use Rattle.ig_lines.specs.declared.word.Word.{Word}
use Rattle.ig_lines.specs.declared.word.Word.TheVariants as word
use Rattle.ig_lines.specs.Arguments.{Held}
use Rattle.ig_lines.specs.Words.{shape}

-- a word, and the arguments after it
abbrev pub Command : Type 0 → Type 0
Command C = (w : Word) × Held C (shape w)

abbrev pub run : Call → LineAsk
run call = asks.Ask (request.Run call)

abbrev pub ask_with : (w : Word) → Held ℤ (shape w) → LineAsk
ask_with word.Get x = run (Get x.0 x.1)
ask_with word.GetAndRemove x = run (GetAndRemove x.0 x.1)
ask_with word.Contains x = run (ContainsKey x.0 x.1)
ask_with word.ClearKey x = run (ClearKey x.0 x.1)
ask_with word.Remove x = run (RemoveKey x.0 x.1)
ask_with word.Put x = run (Put x.0 x.1.0 x.1.1)
ask_with word.PutIfAbsent x = run (PutIfAbsent x.0 x.1.0 x.1.1)
ask_with word.GetAndPut x = run (GetAndPut x.0 x.1.0 x.1.1)
ask_with word.GetAndReplace x = run (GetAndReplace x.0 x.1.0 x.1.1)
ask_with word.GetAndPutIfAbsent x = run (GetAndPutIfAbsent x.0 x.1.0 x.1.1)
ask_with word.Replace x = run (Replace x.0 x.1.0 x.1.1)
ask_with word.ReplaceIf x = run (ReplaceIfEquals x.0 x.1.0 x.1.1.0 x.1.1.1)
ask_with word.RemoveIf x = run (RemoveIfEquals x.0 x.1.0 x.1.1)
ask_with word.GetAll x = run (GetAll x.0 x.1)
ask_with word.ContainsAll x = run (ContainsKeys x.0 x.1)
ask_with word.ClearKeys x = run (ClearKeys x.0 x.1)
ask_with word.RemoveKeys x = run (RemoveKeys x.0 x.1)
ask_with word.PutAll x = run (PutAll x.0 x.1)
ask_with word.Clear x = run (Clear x)
ask_with word.RemoveAll x = run (RemoveAll x)
ask_with word.Size x = run (Size x.0 x.1)
ask_with word.Names x = run Names
ask_with word.Create x = run (Create x)
ask_with word.GetOrCreate x = run (GetOrCreate x)
ask_with word.Destroy x = run (Destroy x)
ask_with word.Scan x = asks.Ask (request.Scan x.0 x.1)
ask_with word.Next x = asks.Ask (request.NextPage x)
ask_with word.Close x = asks.Ask (request.Close x)
ask_with word.TypeName x = run (TypeName x.0 x.1)
ask_with word.Type x = run (TypeOf x)
ask_with word.SetTypeName x = run (SetTypeName x.0 x.1.0 x.1.1)
ask_with word.PutType x = run (PutType x)
ask_with word.Parts x = asks.Parts x

-- the command of a call; a scan is asked for by pages, and pairs of caches by the word `parts`
abbrev pub call_command : Call → Option (Command ℤ)
call_command (Get cache key) = Some (word.Get, (cache, key))
call_command (GetAndRemove cache key) = Some (word.GetAndRemove, (cache, key))
call_command (ContainsKey cache key) = Some (word.Contains, (cache, key))
call_command (ClearKey cache key) = Some (word.ClearKey, (cache, key))
call_command (RemoveKey cache key) = Some (word.Remove, (cache, key))
call_command (Put cache key v) = Some (word.Put, (cache, (key, v)))
call_command (PutIfAbsent cache key v) = Some (word.PutIfAbsent, (cache, (key, v)))
call_command (GetAndPut cache key v) = Some (word.GetAndPut, (cache, (key, v)))
call_command (GetAndReplace cache key v) = Some (word.GetAndReplace, (cache, (key, v)))
call_command (GetAndPutIfAbsent cache key v) = Some (word.GetAndPutIfAbsent, (cache, (key, v)))
call_command (Replace cache key v) = Some (word.Replace, (cache, (key, v)))
call_command (ReplaceIfEquals cache key wanted v) = Some (word.ReplaceIf, (cache, (key, (wanted, v))))
call_command (RemoveIfEquals cache key wanted) = Some (word.RemoveIf, (cache, (key, wanted)))
call_command (GetAll cache keys) = Some (word.GetAll, (cache, keys))
call_command (ContainsKeys cache keys) = Some (word.ContainsAll, (cache, keys))
call_command (ClearKeys cache keys) = Some (word.ClearKeys, (cache, keys))
call_command (RemoveKeys cache keys) = Some (word.RemoveKeys, (cache, keys))
call_command (PutAll cache pairs) = Some (word.PutAll, (cache, pairs))
call_command (Clear cache) = Some (word.Clear, cache)
call_command (RemoveAll cache) = Some (word.RemoveAll, cache)
call_command (Scan cache) = None
call_command (Size cache modes) = Some (word.Size, (cache, modes))
call_command Names = Some (word.Names, tt)
call_command (Create name) = Some (word.Create, name)
call_command (GetOrCreate name) = Some (word.GetOrCreate, name)
call_command (Destroy cache) = Some (word.Destroy, cache)
call_command (TypeName platform type) = Some (word.TypeName, (platform, type))
call_command (SetTypeName platform type name) = Some (word.SetTypeName, (platform, (type, name)))
call_command (TypeOf type) = Some (word.Type, type)
call_command (PutType meta) = Some (word.PutType, meta)
call_command (Affinity caches) = None

abbrev pub command_of : LineAsk → Option (Command ℤ)
command_of (asks.Ask (request.Run call)) = call_command call
command_of (asks.Ask (request.Scan cache page)) = Some (word.Scan, (cache, page))
command_of (asks.Ask (request.NextPage cursor)) = Some (word.Next, cursor)
command_of (asks.Ask (request.Close resource)) = Some (word.Close, resource)
command_of (asks.Parts caches) = Some (word.Parts, caches)
