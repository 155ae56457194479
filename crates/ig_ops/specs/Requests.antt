-- The requests on the rows of caches, on scans and on cursors: their fields, what they ask, and how they
-- are written.
use Rattle.std.specs.Prelude.{◌≡◌, ℕ, ℤ, pos, negsuc, Bool, true, false, int_lt, int_le, List, [], ◌∷◌, map, is_some, Option, None, Some, if◌then◌else◌}
use Rattle.std.specs.List.{list_any, flat_map}
use Rattle.ig_value.specs.declared.Value.{Value}
use Rattle.ig_value.specs.Part.{i32, i64}
use Rattle.ig_wire.specs.declared.Operation.{Operation}
use Rattle.ig_wire.specs.declared.Operation.TheVariants as operation
use Rattle.ig_wire.specs.declared.Profile.{Profile}
use Rattle.ig_wire.specs.declared.Profile.TheVariants as profile
use Rattle.ig_caches.specs.declared.call.Pair.{Pair}
use Rattle.ig_caches.specs.declared.call.Call.{Call}
use Rattle.ig_caches.specs.declared.call.Call.TheVariants.{Get, GetAndRemove, ContainsKey, ClearKey, RemoveKey, Put, PutIfAbsent, GetAndPut, GetAndReplace, GetAndPutIfAbsent, Replace, ReplaceIfEquals, RemoveIfEquals, GetAll, ContainsKeys, ClearKeys, RemoveKeys, PutAll, Clear, RemoveAll, Scan, Size, Names, Create, GetOrCreate, Destroy, TypeName, SetTypeName, TypeOf, PutType, Affinity}
use Rattle.ig_caches.specs.declared.request.Request.{Request}
use Rattle.ig_caches.specs.declared.request.Request.TheVariants as request
use Rattle.ig_caches.specs.IsRunnable.{IsRunnable}
use Rattle.ig_fields.specs.Format.{Format, nothing, byte, value, scalar, both, unless_null, listed, Fields}
use Rattle.ig_fields.specs.ReadingFields.{is_null}
use Rattle.ig_fields.specs.Ask.{Ask, served_ask, AskForm, form_body}

-- ---- the fields

-- an Int32, which is a cache, and a Byte of flags, which say nothing
abbrev pub cache_fields : Format
cache_fields = both (scalar i32) byte

-- a cache, and a key
abbrev pub key_fields : Format
key_fields = both cache_fields value

-- a cache, and two values: a key and a value, or a key and a wanted value
abbrev pub two_fields : Format
two_fields = both cache_fields (both value value)

-- a cache, and three values: a key, a wanted value and a value
abbrev pub three_fields : Format
three_fields = both cache_fields (both value (both value value))

-- a cache, and keys
abbrev pub keys_fields : Format
keys_fields = both cache_fields (listed value)

-- keys with their values
abbrev pub rows_fields : Format
rows_fields = listed (both value value)

-- a cache, and keys with their values
abbrev pub pairs_fields : Format
pairs_fields = both cache_fields rows_fields

-- a cache, and Bytes, which are modes
abbrev pub modes_fields : Format
modes_fields = both cache_fields (listed byte)

-- a cache; a filter, and a Byte, which is its platform, unless it is null; an Int32, which is the page
-- size; an Int32, which is a partition; and a Byte, which says whether the scan is local
abbrev pub scan_fields : Format
scan_fields = both cache_fields (both (unless_null byte) (both (scalar i32) (both (scalar i32) byte)))

-- an Int64, which is a cursor
abbrev pub cursor_fields : Format
cursor_fields = scalar i64

-- ---- what isn't served

-- a null key, value or wanted value
abbrev pub null_refused : Bool → Option Profile
null_refused null = if null then Some profile.NullItem else None

abbrev pub null_among : List Value → Option Profile
null_among values = null_refused (list_any is_null values)

-- a filter; else a page without room for a row; else one partition
abbrev pub scan_refused : Bool → ℤ → ℤ → Option Profile
scan_refused filtered page partition =
    if filtered then Some profile.Filter
    else if int_lt page (pos 1) then Some profile.PageSize
    else if int_le (pos 0) partition then Some profile.Partition
    else None

-- ---- what the fields ask, by their shape

abbrev pub pair_of : Value × Value → Pair
pair_of x = record { key = x.0; value = x.1 }

abbrev pub pair_values : Pair → List Value
pair_values pair = pair.key ∷ pair.value ∷ []

abbrev pub cache_ask : (ℤ → Call) → Ask Request
cache_ask call = served_ask cache_fields (λ x. request.Run (call x.0))

abbrev pub key_ask : (ℤ → Value → Call) → Ask Request
key_ask call = record {
  format = key_fields;
  request = λ x. request.Run (call x.0.0 x.1);
  profile = λ x. null_among (x.1 ∷ []);
}

abbrev pub two_ask : (ℤ → Value → Value → Call) → Ask Request
two_ask call = record {
  format = two_fields;
  request = λ x. request.Run (call x.0.0 x.1.0 x.1.1);
  profile = λ x. null_among (x.1.0 ∷ x.1.1 ∷ []);
}

abbrev pub three_ask : (ℤ → Value → Value → Value → Call) → Ask Request
three_ask call = record {
  format = three_fields;
  request = λ x. request.Run (call x.0.0 x.1.0 x.1.1.0 x.1.1.1);
  profile = λ x. null_among (x.1.0 ∷ x.1.1.0 ∷ x.1.1.1 ∷ []);
}

abbrev pub keys_ask : (ℤ → List Value → Call) → Ask Request
keys_ask call = record {
  format = keys_fields;
  request = λ x. request.Run (call x.0.0 x.1);
  profile = λ x. null_among x.1;
}

abbrev pub pairs_ask : Ask Request
pairs_ask = record {
  format = pairs_fields;
  request = λ x. request.Run (PutAll x.0.0 (map pair_of x.1));
  profile = λ x. null_among (flat_map pair_values (map pair_of x.1));
}

abbrev pub modes_ask : Ask Request
modes_ask = served_ask modes_fields (λ x. request.Run (Size x.0.0 x.1))

abbrev pub scan_ask : Ask Request
scan_ask = record {
  format = scan_fields;
  request = λ x. request.Scan x.0.0 x.1.1.0;
  profile = λ x. scan_refused (is_some x.1.0) x.1.1.0 x.1.1.1.0;
}

abbrev pub cursor_ask : (ℤ → Request) → Ask Request
cursor_ask ask = served_ask cursor_fields ask

-- ---- the table: what the fields of each operation ask

abbrev pub ask_of : Operation → Option (Ask Request)
ask_of operation.Get = Some (key_ask Get)
ask_of operation.Put = Some (two_ask Put)
ask_of operation.PutIfAbsent = Some (two_ask PutIfAbsent)
ask_of operation.GetAll = Some (keys_ask GetAll)
ask_of operation.PutAll = Some pairs_ask
ask_of operation.GetAndPut = Some (two_ask GetAndPut)
ask_of operation.GetAndReplace = Some (two_ask GetAndReplace)
ask_of operation.GetAndRemove = Some (key_ask GetAndRemove)
ask_of operation.GetAndPutIfAbsent = Some (two_ask GetAndPutIfAbsent)
ask_of operation.Replace = Some (two_ask Replace)
ask_of operation.ReplaceIfEquals = Some (three_ask ReplaceIfEquals)
ask_of operation.ContainsKey = Some (key_ask ContainsKey)
ask_of operation.ContainsKeys = Some (keys_ask ContainsKeys)
ask_of operation.Clear = Some (cache_ask Clear)
ask_of operation.ClearKey = Some (key_ask ClearKey)
ask_of operation.ClearKeys = Some (keys_ask ClearKeys)
ask_of operation.RemoveKey = Some (key_ask RemoveKey)
ask_of operation.RemoveIfEquals = Some (two_ask RemoveIfEquals)
ask_of operation.RemoveKeys = Some (keys_ask RemoveKeys)
ask_of operation.RemoveAll = Some (cache_ask RemoveAll)
ask_of operation.GetSize = Some modes_ask
ask_of operation.Scan = Some scan_ask
ask_of operation.NextPage = Some (cursor_ask request.NextPage)
ask_of operation.CloseResource = Some (cursor_ask request.Close)
ask_of _ = None

-- ---- how a request is written

abbrev pub filled_form : Operation → (f : Format) → Fields f → AskForm
filled_form o f x = record { operation = o; filled = record { format = f; fields = x } }

-- no flags
abbrev pub cache_written : ℤ → ℤ × ℕ
cache_written cache = (cache, 0)

abbrev pub cache_form : Operation → ℤ → AskForm
cache_form o cache = filled_form o cache_fields (cache_written cache)

abbrev pub key_form : Operation → ℤ → Value → AskForm
key_form o cache key = filled_form o key_fields (cache_written cache, key)

abbrev pub two_form : Operation → ℤ → Value → Value → AskForm
two_form o cache v w = filled_form o two_fields (cache_written cache, (v, w))

abbrev pub three_form : Operation → ℤ → Value → Value → Value → AskForm
three_form o cache u v w = filled_form o three_fields (cache_written cache, (u, (v, w)))

abbrev pub keys_form : Operation → ℤ → List Value → AskForm
keys_form o cache keys = filled_form o keys_fields (cache_written cache, keys)

abbrev pub pair_fields : Pair → Value × Value
pair_fields pair = (pair.key, pair.value)

abbrev pub pairs_form : ℤ → List Pair → AskForm
pairs_form cache pairs = filled_form operation.PutAll pairs_fields (cache_written cache, map pair_fields pairs)

abbrev pub modes_form : ℤ → List ℕ → AskForm
modes_form cache modes = filled_form operation.GetSize modes_fields (cache_written cache, modes)

-- no filter, no partition, and not local
abbrev pub scan_form : ℤ → ℤ → AskForm
scan_form cache page = filled_form operation.Scan scan_fields (cache_written cache, (None, (page, (negsuc 0, 0))))

abbrev pub cursor_form : Operation → ℤ → AskForm
cursor_form o cursor = filled_form o cursor_fields cursor

-- what stands for a request that isn't written here
abbrev pub other_form : AskForm
other_form = filled_form operation.CloseResource nothing tt

abbrev pub call_form : Call → AskForm
call_form (Get cache key) = key_form operation.Get cache key
call_form (Put cache key v) = two_form operation.Put cache key v
call_form (PutIfAbsent cache key v) = two_form operation.PutIfAbsent cache key v
call_form (GetAll cache keys) = keys_form operation.GetAll cache keys
call_form (PutAll cache pairs) = pairs_form cache pairs
call_form (GetAndPut cache key v) = two_form operation.GetAndPut cache key v
call_form (GetAndReplace cache key v) = two_form operation.GetAndReplace cache key v
call_form (GetAndRemove cache key) = key_form operation.GetAndRemove cache key
call_form (GetAndPutIfAbsent cache key v) = two_form operation.GetAndPutIfAbsent cache key v
call_form (Replace cache key v) = two_form operation.Replace cache key v
call_form (ReplaceIfEquals cache key wanted v) = three_form operation.ReplaceIfEquals cache key wanted v
call_form (ContainsKey cache key) = key_form operation.ContainsKey cache key
call_form (ContainsKeys cache keys) = keys_form operation.ContainsKeys cache keys
call_form (Clear cache) = cache_form operation.Clear cache
call_form (ClearKey cache key) = key_form operation.ClearKey cache key
call_form (ClearKeys cache keys) = keys_form operation.ClearKeys cache keys
call_form (RemoveKey cache key) = key_form operation.RemoveKey cache key
call_form (RemoveIfEquals cache key wanted) = two_form operation.RemoveIfEquals cache key wanted
call_form (RemoveKeys cache keys) = keys_form operation.RemoveKeys cache keys
call_form (RemoveAll cache) = cache_form operation.RemoveAll cache
call_form (Size cache modes) = modes_form cache modes
call_form _ = other_form

abbrev pub form_of : Request → AskForm
form_of (request.Run call) = call_form call
form_of (request.Scan cache page) = scan_form cache page
form_of (request.NextPage cursor) = cursor_form operation.NextPage cursor
form_of (request.Close resource) = cursor_form operation.CloseResource resource

-- the body of its frame
abbrev pub ask_body : ℤ → Request → List ℕ
ask_body id r = form_body id (form_of r)

-- ---- which requests these are

-- a call on the rows of a cache, other than a scan, which is asked for by pages
abbrev pub IsOpsCall : Call → Type 0
IsOpsCall (Scan _) = ⊥
IsOpsCall Names = ⊥
IsOpsCall (Create _) = ⊥
IsOpsCall (GetOrCreate _) = ⊥
IsOpsCall (Destroy _) = ⊥
IsOpsCall (TypeName _ _) = ⊥
IsOpsCall (SetTypeName _ _ _) = ⊥
IsOpsCall (TypeOf _) = ⊥
IsOpsCall (PutType _) = ⊥
IsOpsCall (Affinity _) = ⊥
IsOpsCall _ = Unit {0}

abbrev pub IsOpsRequest : Request → Type 0
IsOpsRequest (request.Run call) = IsOpsCall call
IsOpsRequest _ = Unit {0}

-- the keys, values and wanted values of a call, in the order of its fields
abbrev pub values_of : Call → List Value
values_of (Get _ key) = key ∷ []
values_of (Put _ key v) = key ∷ v ∷ []
values_of (PutIfAbsent _ key v) = key ∷ v ∷ []
values_of (GetAll _ keys) = keys
values_of (PutAll _ pairs) = flat_map pair_values pairs
values_of (GetAndPut _ key v) = key ∷ v ∷ []
values_of (GetAndReplace _ key v) = key ∷ v ∷ []
values_of (GetAndRemove _ key) = key ∷ []
values_of (GetAndPutIfAbsent _ key v) = key ∷ v ∷ []
values_of (Replace _ key v) = key ∷ v ∷ []
values_of (ReplaceIfEquals _ key wanted v) = key ∷ wanted ∷ v ∷ []
values_of (ContainsKey _ key) = key ∷ []
values_of (ContainsKeys _ keys) = keys
values_of (ClearKey _ key) = key ∷ []
values_of (ClearKeys _ keys) = keys
values_of (RemoveKey _ key) = key ∷ []
values_of (RemoveIfEquals _ key wanted) = key ∷ wanted ∷ []
values_of (RemoveKeys _ keys) = keys
values_of _ = []

-- why a request isn't served, if it isn't
abbrev pub profile_of : Request → Option Profile
profile_of (request.Run call) = null_among (values_of call)
profile_of (request.Scan cache page) = scan_refused false page (negsuc 0)
profile_of _ = None

-- the request can be served: its call can be run, and its page has room for a row
abbrev pub IsServed : Request → Type 0
IsServed (request.Run call) = IsRunnable call
IsServed (request.Scan cache page) = int_lt page (pos 1) ≡ false
IsServed _ = Unit {0}
