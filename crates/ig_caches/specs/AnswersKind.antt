-- Which kind of outcome answers which call.
use Rattle.std.specs.Prelude.{◌≡◌}
use Rattle.ig_caches.specs.declared.call.Call.{Call}
use Rattle.ig_caches.specs.declared.call.Call.TheVariants.{Get, GetAndRemove, ContainsKey, ClearKey, RemoveKey, Put, PutIfAbsent, GetAndPut, GetAndReplace, GetAndPutIfAbsent, Replace, ReplaceIfEquals, RemoveIfEquals, GetAll, ContainsKeys, ClearKeys, RemoveKeys, PutAll, Clear, RemoveAll, Scan, Size, Names, Create, GetOrCreate, Destroy, TypeName, SetTypeName, TypeOf, PutType, Affinity}
use Rattle.ig_caches.specs.declared.answer.Outcome.{Outcome}
use Rattle.ig_caches.specs.declared.answer.Outcome.TheVariants as outcome

-- the kinds of outcome that answer calls which aren't refused
pub data OutcomeKind : Type 0 where
  done : OutcomeKind
  found : OutcomeKind
  yes_or_no : OutcomeKind
  pairs : OutcomeKind
  count : OutcomeKind
  names : OutcomeKind
  name : OutcomeKind
  meta : OutcomeKind
  keys : OutcomeKind

-- the kind that answers a call
abbrev pub kind_of : Call → OutcomeKind
kind_of (Get _ _) = found
kind_of (ContainsKey _ _) = yes_or_no
kind_of (Put _ _ _) = done
kind_of (PutIfAbsent _ _ _) = yes_or_no
kind_of (GetAndPut _ _ _) = found
kind_of (GetAndReplace _ _ _) = found
kind_of (GetAndPutIfAbsent _ _ _) = found
kind_of (GetAndRemove _ _) = found
kind_of (Replace _ _ _) = yes_or_no
kind_of (ReplaceIfEquals _ _ _ _) = yes_or_no
kind_of (ClearKey _ _) = done
kind_of (RemoveKey _ _) = yes_or_no
kind_of (RemoveIfEquals _ _ _) = yes_or_no
kind_of (GetAll _ _) = pairs
kind_of (ContainsKeys _ _) = yes_or_no
kind_of (PutAll _ _) = done
kind_of (ClearKeys _ _) = done
kind_of (RemoveKeys _ _) = done
kind_of (Clear _) = done
kind_of (RemoveAll _) = done
kind_of (Scan _) = pairs
kind_of (Size _ _) = count
kind_of Names = names
kind_of (Create _) = done
kind_of (GetOrCreate _) = done
kind_of (Destroy _) = done
kind_of (TypeName _ _) = name
kind_of (SetTypeName _ _ _) = yes_or_no
kind_of (TypeOf _) = meta
kind_of (PutType _) = done
kind_of (Affinity _) = keys

-- an outcome of the kind, or a refusal
abbrev pub IsOfKind : OutcomeKind → Outcome → Type 0
IsOfKind kind outcome.Done = kind ≡ done
IsOfKind kind (outcome.Found _) = kind ≡ found
IsOfKind kind (outcome.Yes _) = kind ≡ yes_or_no
IsOfKind kind (outcome.Pairs _) = kind ≡ pairs
IsOfKind kind (outcome.Count _) = kind ≡ count
IsOfKind kind (outcome.Names _) = kind ≡ names
IsOfKind kind (outcome.Name _) = kind ≡ name
IsOfKind kind (outcome.Meta _) = kind ≡ meta
IsOfKind kind (outcome.Keys _) = kind ≡ keys
IsOfKind kind (outcome.Refused _) = Unit {0}

-- the outcome may answer the call: it is of the call's kind, or a refusal
abbrev pub AnswersKind : Call → Outcome → Type 0
AnswersKind call outcome = IsOfKind (kind_of call) outcome
