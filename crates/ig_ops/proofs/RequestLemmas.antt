-- Requests: each is written by the row of its operation, and what is read can be written and served.
use Rattle.std.proofs.Common.{◌≡◌, ◌≢◌, ℕ, ◌<◌, ◌^◌, ℤ, pos, negsuc, Bool, true, false, List, [], ◌∷◌, ◌++◌, map, length, Option, None, Some, Result, Ok, Err, refl, sym, ap, subst, ◌∙◌, arith, length-drop}
use Rattle.std.specs.Prelude.{All, IfOk, int_lt, int_le, is_some, ◌||◌, if◌then◌else◌}
use Rattle.std.specs.List.{list_any, flat_map, AllByRecursion}
use Rattle.std.specs.Option.{option_and_then}
use Rattle.std.proofs.lemmas.Bool.{or_parts, false≢true}
use Rattle.std.proofs.lemmas.List.Elements.{All-nil, All-cons}
use Rattle.ig_value.specs.declared.Value.{Value}
use Rattle.ig_value.specs.declared.Value.TheVariants.{Null}
use Rattle.ig_wire.specs.Operations.{operation_code, operation_at}
use Rattle.ig_wire.specs.declared.AskFault.{AskFault}
use Rattle.ig_wire.specs.declared.AskFault.TheVariants as fault
use Rattle.ig_wire.specs.declared.Operation.{Operation}
use Rattle.ig_wire.specs.declared.Operation.TheVariants as operation
use Rattle.ig_wire.specs.declared.Profile.{Profile}
use Rattle.ig_wire.specs.declared.Profile.TheVariants as profile
use Rattle.ig_caches.specs.declared.call.Pair.{Pair}
use Rattle.ig_caches.specs.declared.call.Call.{Call}
use Rattle.ig_caches.specs.declared.call.Call.TheVariants.{Get, GetAndRemove, ContainsKey, ClearKey, RemoveKey, Put, PutIfAbsent, GetAndPut, GetAndReplace, GetAndPutIfAbsent, Replace, ReplaceIfEquals, RemoveIfEquals, GetAll, ContainsKeys, ClearKeys, RemoveKeys, PutAll, Clear, RemoveAll, Scan, Size, Names, Create, GetOrCreate, Destroy, TypeName, SetTypeName, TypeOf, PutType, Affinity}
use Rattle.ig_caches.specs.declared.request.Request.{Request}
use Rattle.ig_caches.specs.declared.request.Request.TheVariants as request
use Rattle.ig_caches.specs.IsRunnable.{IsItem, IsRow, IsRunnable}
use Rattle.ig_fields.specs.Format.{Format, Fields}
use Rattle.ig_fields.specs.ReadingFields.{is_null}
use Rattle.ig_fields.specs.FieldBytes.{IsWritable, FitsFields}
use Rattle.ig_fields.specs.Ask.{row_at, Ask, AskForm, Filled}
use Rattle.ig_fields.specs.AsksRightly.{AsksRightly, fields_after}
use Rattle.ig_fields.specs.TableLaws.{IsRowOf, FitsFilled}
use Rattle.ig_fields.proofs.FieldLemmas.{null_false}
use Rattle.ig_fields.proofs.FitsLemmas.{fields_fit}
use Rattle.ig_fields.proofs.RowLemmas.{is_row}
use Rattle.ig_fields.proofs.WrittenTableLemmas.{written_ask_read, written_asks_apart}
use Rattle.ig_ops.specs.Requests.{cache_fields, key_fields, two_fields, three_fields, keys_fields, rows_fields, pairs_fields, modes_fields, scan_fields, cursor_fields, null_refused, null_among, scan_refused, pair_of, pair_values, pair_fields, cache_ask, key_ask, two_ask, three_ask, keys_ask, pairs_ask, modes_ask, scan_ask, cursor_ask, ask_of, filled_form, cache_written, cache_form, key_form, two_form, three_form, keys_form, pairs_form, modes_form, scan_form, cursor_form, call_form, form_of, ask_body, IsOpsCall, IsOpsRequest, values_of, profile_of, IsServed}
use Rattle.ig_ops.specs.Laws.{FitsAsk, WrittenAskIsRead, AsksTellApart, ReadAskFits}

-- ---- pairs

pub pairs_back : (pairs : List Pair) → map pair_of (map pair_fields pairs) ≡ pairs
pairs_back [] = refl
pairs_back (p ∷ ps) = ap (λ (l : List Pair). p ∷ l) (pairs_back ps)

pub pair_fields_back : (xs : List (Value × Value)) → map pair_fields (map pair_of xs) ≡ xs
pair_fields_back [] = refl
pair_fields_back (x ∷ xs) = ap (λ (l : List (Value × Value)). x ∷ l) (pair_fields_back xs)

-- ---- the row of each request

abbrev HasRow : Request → Type 0
HasRow r = IsRowOf ask_of profile_of r (form_of r)

module _ (r : Request) (o : Operation) (ask : Ask Request) (x : Fields ask.format) where
  row : ask_of o ≡ Some ask → ask.request x ≡ r → ask.profile x ≡ profile_of r → Some (filled_form o ask.format x) ≡ Some (form_of r) → HasRow r
  row known asks profile e = is_row ask_of profile_of r o ask x known asks profile (form_of r) e

call_row : (call : Call) → IsOpsCall call → HasRow (request.Run call)
call_row (Get cache key) h = row (request.Run (Get cache key)) operation.Get (key_ask Get) (cache_written cache, key) refl refl refl refl
call_row (GetAndRemove cache key) h = row (request.Run (GetAndRemove cache key)) operation.GetAndRemove (key_ask GetAndRemove) (cache_written cache, key) refl refl refl refl
call_row (ContainsKey cache key) h = row (request.Run (ContainsKey cache key)) operation.ContainsKey (key_ask ContainsKey) (cache_written cache, key) refl refl refl refl
call_row (ClearKey cache key) h = row (request.Run (ClearKey cache key)) operation.ClearKey (key_ask ClearKey) (cache_written cache, key) refl refl refl refl
call_row (RemoveKey cache key) h = row (request.Run (RemoveKey cache key)) operation.RemoveKey (key_ask RemoveKey) (cache_written cache, key) refl refl refl refl
call_row (Put cache key value) h = row (request.Run (Put cache key value)) operation.Put (two_ask Put) (cache_written cache, (key, value)) refl refl refl refl
call_row (PutIfAbsent cache key value) h = row (request.Run (PutIfAbsent cache key value)) operation.PutIfAbsent (two_ask PutIfAbsent) (cache_written cache, (key, value)) refl refl refl refl
call_row (GetAndPut cache key value) h = row (request.Run (GetAndPut cache key value)) operation.GetAndPut (two_ask GetAndPut) (cache_written cache, (key, value)) refl refl refl refl
call_row (GetAndReplace cache key value) h = row (request.Run (GetAndReplace cache key value)) operation.GetAndReplace (two_ask GetAndReplace) (cache_written cache, (key, value)) refl refl refl refl
call_row (GetAndPutIfAbsent cache key value) h = row (request.Run (GetAndPutIfAbsent cache key value)) operation.GetAndPutIfAbsent (two_ask GetAndPutIfAbsent) (cache_written cache, (key, value)) refl refl refl refl
call_row (Replace cache key value) h = row (request.Run (Replace cache key value)) operation.Replace (two_ask Replace) (cache_written cache, (key, value)) refl refl refl refl
call_row (ReplaceIfEquals cache key wanted value) h = row (request.Run (ReplaceIfEquals cache key wanted value)) operation.ReplaceIfEquals (three_ask ReplaceIfEquals) (cache_written cache, (key, (wanted, value))) refl refl refl refl
call_row (RemoveIfEquals cache key wanted) h = row (request.Run (RemoveIfEquals cache key wanted)) operation.RemoveIfEquals (two_ask RemoveIfEquals) (cache_written cache, (key, wanted)) refl refl refl refl
call_row (GetAll cache keys) h = row (request.Run (GetAll cache keys)) operation.GetAll (keys_ask GetAll) (cache_written cache, keys) refl refl refl refl
call_row (ContainsKeys cache keys) h = row (request.Run (ContainsKeys cache keys)) operation.ContainsKeys (keys_ask ContainsKeys) (cache_written cache, keys) refl refl refl refl
call_row (ClearKeys cache keys) h = row (request.Run (ClearKeys cache keys)) operation.ClearKeys (keys_ask ClearKeys) (cache_written cache, keys) refl refl refl refl
call_row (RemoveKeys cache keys) h = row (request.Run (RemoveKeys cache keys)) operation.RemoveKeys (keys_ask RemoveKeys) (cache_written cache, keys) refl refl refl refl
call_row (PutAll cache pairs) h =
    row (request.Run (PutAll cache pairs)) operation.PutAll pairs_ask (cache_written cache, map pair_fields pairs) refl
    (ap (λ (l : List Pair). request.Run (PutAll cache l)) (pairs_back pairs)) (ap (λ (l : List Pair). null_among (flat_map pair_values l)) (pairs_back pairs)) refl
call_row (Clear cache) h = row (request.Run (Clear cache)) operation.Clear (cache_ask Clear) (cache_written cache) refl refl refl refl
call_row (RemoveAll cache) h = row (request.Run (RemoveAll cache)) operation.RemoveAll (cache_ask RemoveAll) (cache_written cache) refl refl refl refl
call_row (Size cache modes) h = row (request.Run (Size cache modes)) operation.GetSize modes_ask (cache_written cache, modes) refl refl refl refl
call_row (Scan cache) h = absurd h
call_row Names h = absurd h
call_row (Create name) h = absurd h
call_row (GetOrCreate name) h = absurd h
call_row (Destroy cache) h = absurd h
call_row (TypeName platform type_id) h = absurd h
call_row (SetTypeName platform type_id name) h = absurd h
call_row (TypeOf type_id) h = absurd h
call_row (PutType meta) h = absurd h
call_row (Affinity caches) h = absurd h

request_row : (r : Request) → IsOpsRequest r → HasRow r
request_row (request.Run call) h = call_row call h
request_row (request.Scan cache page) h = row (request.Scan cache page) operation.Scan scan_ask (cache_written cache, (None, (page, (negsuc 0, 0)))) refl refl refl refl
request_row (request.NextPage cursor) h = row (request.NextPage cursor) operation.NextPage (cursor_ask request.NextPage) cursor refl refl refl refl
request_row (request.Close resource) h = row (request.Close resource) operation.CloseResource (cursor_ask request.Close) resource refl refl refl refl

pub written_ask_is_read : WrittenAskIsRead
written_ask_is_read id r fits = written_ask_read ask_of profile_of id r (form_of r) (request_row r fits.known) fits.fields

pub asks_tell_apart : AsksTellApart
asks_tell_apart a b p q fa fb fp fq e =
    written_asks_apart ask_of profile_of a b p q (form_of p) (form_of q) fa fb (request_row p fp.known) (request_row q fq.known) fp.fields fq.fields e

-- ---- items

-- none of the values is null
none_null : (values : List Value) → null_among values ≡ None → list_any is_null values ≡ false
none_null values e = by_test (list_any is_null values) e where
  by_test : (b : Bool) → null_refused b ≡ None → b ≡ false
  by_test true bad = absurd cc
  by_test false is = refl

item : (v : Value) → is_null v ≡ false → IsWritable v → IsItem v
item v n w = record { present = null_false v n; fits = w.0; sendable = w.1 }

items : (values : List Value) → list_any is_null values ≡ false → AllByRecursion IsWritable values → All IsItem values
items [] n w = All-nil IsItem
items (v ∷ vs) n w = let t = or_parts (is_null v) (list_any is_null vs) n in All-cons IsItem v vs (item v t.0 w.0) (items vs t.1 w.1)

abbrev BothWritable : Value × Value → Type 0
BothWritable x = IsWritable x.0 × IsWritable x.1

rows : (xs : List (Value × Value)) → list_any is_null (flat_map pair_values (map pair_of xs)) ≡ false → AllByRecursion BothWritable xs → All IsRow (map pair_of xs)
rows [] n w = All-nil IsRow
rows (x ∷ xs) n w =
    let t = or_parts (is_null x.0) (is_null x.1 || list_any is_null (flat_map pair_values (map pair_of xs))) n in
    let u = or_parts (is_null x.1) (list_any is_null (flat_map pair_values (map pair_of xs))) t.1 in
    All-cons IsRow (pair_of x) (map pair_of xs) (item x.0 t.0 w.0.0, item x.1 u.0 w.0.1) (rows xs u.1 w.1)

-- ---- what is read can be written, and served

-- what the row of the operation asks
record Holds (o : Operation) (ask : Ask Request) : Type 0 where
  known : (x : Fields ask.format) → IsOpsRequest (ask.request x)
  same : (x : Fields ask.format) → (form_of (ask.request x)).operation ≡ o
  fits : (x : Fields ask.format) → FitsFields ask.format x → FitsFilled (form_of (ask.request x)).filled
  served : (x : Fields ask.format) → FitsFields ask.format x → ask.profile x ≡ None → IsServed (ask.request x)
  refusal : (x : Fields ask.format) → ask.profile x ≡ None → profile_of (ask.request x) ≡ None

abbrev fits_form : (r : Request) (form : AskForm) → form ≡ form_of r → FitsFilled form.filled → FitsFilled (form_of r).filled
fits_form r form e h = subst (λ (f : AskForm). FitsFilled f.filled) e h

abbrev op_of : AskForm → Operation
op_of form = form.operation

-- no flags are a byte
no_flags : (x : Fields cache_fields) → FitsFields cache_fields x → FitsFields cache_fields (cache_written x.0)
no_flags x h = (h.0, omega arith)

module _ (o : Operation) where
  cache_holds : (call : ℤ → Call) → ((c : ℤ) → IsOpsCall (call c)) → ((c : ℤ) → cache_form o c ≡ call_form (call c)) → ((c : ℤ) → IsRunnable (call c)) → ((c : ℤ) → values_of (call c) ≡ []) → Holds o (cache_ask call)
  cache_holds call known form runs values = record {
    known = λ x. known x.0;
    same = λ x. sym (ap op_of (form x.0));
    fits = λ x h. fits_form (request.Run (call x.0)) (cache_form o x.0) (form x.0) (no_flags x h);
    served = λ x h n. runs x.0;
    refusal = λ x n. ap null_among (values x.0);
  }

  key_holds : (call : ℤ → Value → Call) → ((c : ℤ) (k : Value) → IsOpsCall (call c k)) → ((c : ℤ) (k : Value) → key_form o c k ≡ call_form (call c k)) → ((c : ℤ) (k : Value) → IsItem k → IsRunnable (call c k)) → ((c : ℤ) (k : Value) → values_of (call c k) ≡ k ∷ []) → Holds o (key_ask call)
  key_holds call known form runs values = record {
    known = λ x. known x.0.0 x.1;
    same = λ x. sym (ap op_of (form x.0.0 x.1));
    fits = λ x h. fits_form (request.Run (call x.0.0 x.1)) (key_form o x.0.0 x.1) (form x.0.0 x.1) (no_flags x.0 h.0, h.1);
    served = λ x h n. let t = or_parts (is_null x.1) false (none_null (x.1 ∷ []) n) in runs x.0.0 x.1 (item x.1 t.0 h.1);
    refusal = λ x n. ap null_among (values x.0.0 x.1) ∙ n;
  }

  two_holds : (call : ℤ → Value → Value → Call) → ((c : ℤ) (v w : Value) → IsOpsCall (call c v w)) → ((c : ℤ) (v w : Value) → two_form o c v w ≡ call_form (call c v w)) → ((c : ℤ) (v w : Value) → IsItem v → IsItem w → IsRunnable (call c v w)) → ((c : ℤ) (v w : Value) → values_of (call c v w) ≡ v ∷ w ∷ []) → Holds o (two_ask call)
  two_holds call known form runs values = record {
    known = λ x. known x.0.0 x.1.0 x.1.1;
    same = λ x. sym (ap op_of (form x.0.0 x.1.0 x.1.1));
    fits = λ x h. fits_form (request.Run (call x.0.0 x.1.0 x.1.1)) (two_form o x.0.0 x.1.0 x.1.1) (form x.0.0 x.1.0 x.1.1) (no_flags x.0 h.0, h.1);
    served = λ x h n.
        let t = or_parts (is_null x.1.0) (is_null x.1.1 || false) (none_null (x.1.0 ∷ x.1.1 ∷ []) n) in
        let u = or_parts (is_null x.1.1) false t.1 in
        runs x.0.0 x.1.0 x.1.1 (item x.1.0 t.0 h.1.0) (item x.1.1 u.0 h.1.1);
    refusal = λ x n. ap null_among (values x.0.0 x.1.0 x.1.1) ∙ n;
  }

  keys_holds : (call : ℤ → List Value → Call) → ((c : ℤ) (ks : List Value) → IsOpsCall (call c ks)) → ((c : ℤ) (ks : List Value) → keys_form o c ks ≡ call_form (call c ks)) → ((c : ℤ) (ks : List Value) → All IsItem ks → IsRunnable (call c ks)) → ((c : ℤ) (ks : List Value) → values_of (call c ks) ≡ ks) → Holds o (keys_ask call)
  keys_holds call known form runs values = record {
    known = λ x. known x.0.0 x.1;
    same = λ x. sym (ap op_of (form x.0.0 x.1));
    fits = λ x h. fits_form (request.Run (call x.0.0 x.1)) (keys_form o x.0.0 x.1) (form x.0.0 x.1) (no_flags x.0 h.0, h.1);
    served = λ x h n. runs x.0.0 x.1 (items x.1 (none_null x.1 n) h.1.1);
    refusal = λ x n. ap null_among (values x.0.0 x.1) ∙ n;
  }

three_holds : Holds operation.ReplaceIfEquals (three_ask ReplaceIfEquals)
three_holds = record {
  known = λ x. tt;
  same = λ x. refl;
  fits = λ x h. (no_flags x.0 h.0, h.1);
  served = λ x h n.
      let t = or_parts (is_null x.1.0) (is_null x.1.1.0 || (is_null x.1.1.1 || false)) (none_null (x.1.0 ∷ x.1.1.0 ∷ x.1.1.1 ∷ []) n) in
      let u = or_parts (is_null x.1.1.0) (is_null x.1.1.1 || false) t.1 in
      let v = or_parts (is_null x.1.1.1) false u.1 in
      (item x.1.0 t.0 h.1.0, item x.1.1.0 u.0 h.1.1.0, item x.1.1.1 v.0 h.1.1.1);
  refusal = λ x n. n;
}

pairs_hold : Holds operation.PutAll pairs_ask
pairs_hold = record {
  known = λ x. tt;
  same = λ x. refl;
  fits = λ x h. (no_flags x.0 h.0, subst (FitsFields rows_fields) (sym (pair_fields_back x.1)) h.1);
  served = λ x h n. rows x.1 (none_null (flat_map pair_values (map pair_of x.1)) n) h.1.1;
  refusal = λ x n. n;
}

modes_hold : Holds operation.GetSize modes_ask
modes_hold = record {
  known = λ x. tt;
  same = λ x. refl;
  fits = λ x h. (no_flags x.0 h.0, h.1);
  served = λ x h n. tt;
  refusal = λ x n. refl;
}

-- a scan that is served has room for a row, and is of no partition
room : (filtered : Bool) (page partition : ℤ) → scan_refused filtered page partition ≡ None → int_lt page (pos 1) ≡ false
room true page partition bad = absurd cc
room false page partition e = by_test (int_lt page (pos 1)) e where
  by_test : (b : Bool) → (if b then Some profile.PageSize else if int_le (pos 0) partition then Some profile.Partition else None) ≡ None → b ≡ false
  by_test true bad = absurd cc
  by_test false is = refl

scan_holds : Holds operation.Scan scan_ask
scan_holds = record {
  known = λ x. tt;
  same = λ x. refl;
  fits = λ x h. (no_flags x.0 h.0, (tt, (h.1.1.0, (record { sfits = omega arith }, omega arith))));
  served = λ x h n. room (is_some x.1.0) x.1.1.0 x.1.1.1.0 n;
  refusal = λ x n. let e = room (is_some x.1.0) x.1.1.0 x.1.1.1.0 n in rw e refl;
}

next_holds : Holds operation.NextPage (cursor_ask request.NextPage)
next_holds = record { known = λ x. tt; same = λ x. refl; fits = λ x h. h; served = λ x h n. tt; refusal = λ x n. refl }

close_holds : Holds operation.CloseResource (cursor_ask request.Close)
close_holds = record { known = λ x. tt; same = λ x. refl; fits = λ x h. h; served = λ x h n. tt; refusal = λ x n. refl }

abbrev RowHolds : Operation → Option (Ask Request) → Type 0
RowHolds o None = Unit {0}
RowHolds o (Some ask) = Holds o ask

rows_hold : (o : Operation) → RowHolds o (ask_of o)
rows_hold operation.Get = key_holds operation.Get Get (λ c k. tt) (λ c k. refl) (λ c k i. i) (λ c k. refl)
rows_hold operation.GetAndRemove = key_holds operation.GetAndRemove GetAndRemove (λ c k. tt) (λ c k. refl) (λ c k i. i) (λ c k. refl)
rows_hold operation.ContainsKey = key_holds operation.ContainsKey ContainsKey (λ c k. tt) (λ c k. refl) (λ c k i. i) (λ c k. refl)
rows_hold operation.ClearKey = key_holds operation.ClearKey ClearKey (λ c k. tt) (λ c k. refl) (λ c k i. i) (λ c k. refl)
rows_hold operation.RemoveKey = key_holds operation.RemoveKey RemoveKey (λ c k. tt) (λ c k. refl) (λ c k i. i) (λ c k. refl)
rows_hold operation.Put = two_holds operation.Put Put (λ c v w. tt) (λ c v w. refl) (λ c v w i j. (i, j)) (λ c v w. refl)
rows_hold operation.PutIfAbsent = two_holds operation.PutIfAbsent PutIfAbsent (λ c v w. tt) (λ c v w. refl) (λ c v w i j. (i, j)) (λ c v w. refl)
rows_hold operation.GetAndPut = two_holds operation.GetAndPut GetAndPut (λ c v w. tt) (λ c v w. refl) (λ c v w i j. (i, j)) (λ c v w. refl)
rows_hold operation.GetAndReplace = two_holds operation.GetAndReplace GetAndReplace (λ c v w. tt) (λ c v w. refl) (λ c v w i j. (i, j)) (λ c v w. refl)
rows_hold operation.GetAndPutIfAbsent = two_holds operation.GetAndPutIfAbsent GetAndPutIfAbsent (λ c v w. tt) (λ c v w. refl) (λ c v w i j. (i, j)) (λ c v w. refl)
rows_hold operation.Replace = two_holds operation.Replace Replace (λ c v w. tt) (λ c v w. refl) (λ c v w i j. (i, j)) (λ c v w. refl)
rows_hold operation.RemoveIfEquals = two_holds operation.RemoveIfEquals RemoveIfEquals (λ c v w. tt) (λ c v w. refl) (λ c v w i j. (i, j)) (λ c v w. refl)
rows_hold operation.ReplaceIfEquals = three_holds
rows_hold operation.GetAll = keys_holds operation.GetAll GetAll (λ c ks. tt) (λ c ks. refl) (λ c ks i. i) (λ c ks. refl)
rows_hold operation.ContainsKeys = keys_holds operation.ContainsKeys ContainsKeys (λ c ks. tt) (λ c ks. refl) (λ c ks i. i) (λ c ks. refl)
rows_hold operation.ClearKeys = keys_holds operation.ClearKeys ClearKeys (λ c ks. tt) (λ c ks. refl) (λ c ks i. i) (λ c ks. refl)
rows_hold operation.RemoveKeys = keys_holds operation.RemoveKeys RemoveKeys (λ c ks. tt) (λ c ks. refl) (λ c ks i. i) (λ c ks. refl)
rows_hold operation.PutAll = pairs_hold
rows_hold operation.Clear = cache_holds operation.Clear Clear (λ c. tt) (λ c. refl) (λ c. tt) (λ c. refl)
rows_hold operation.RemoveAll = cache_holds operation.RemoveAll RemoveAll (λ c. tt) (λ c. refl) (λ c. tt) (λ c. refl)
rows_hold operation.GetSize = modes_hold
rows_hold operation.Scan = scan_holds
rows_hold operation.NextPage = next_holds
rows_hold operation.CloseResource = close_holds
rows_hold _ = tt

row_holds : (o : Operation) (ask : Ask Request) → ask_of o ≡ Some ask → Holds o ask
row_holds o ask known = subst (RowHolds o) known (rows_hold o)

pub read_ask_fits : ReadAskFits
read_ask_fits o body r small (ask, x, known, spelled, served, asks) =
    let holds = row_holds o ask known in
    let fit = fields_fit ask.format (fields_after body) x (omega (arith, small, length-drop 10 body)) spelled in
    subst (λ (q : Request). FitsAsk q × ((form_of q).operation ≡ o) × IsServed q × (profile_of q ≡ None)) asks
    (record { known = holds.known x; fields = holds.fits x fit }, holds.same x, holds.served x fit served, holds.refusal x served)

-- ---- what a reader's answer is

-- the row of the operation, if there is one
abbrev row_in : Option Operation → Option (Ask Request)
row_in o = option_and_then ask_of o

pub answer_known : (code : ℤ) (body : List ℕ) (answer : Result Request AskFault) → AsksRightly (row_at ask_of code) body answer → IfOk answer IsOpsRequest
answer_known code body (Err e) h = tt
answer_known code body (Ok r) (ask, x, known, spelled, served, asks) = subst IsOpsRequest asks (by_operation (operation_at code) known) where
  by_operation : (o : Option Operation) → row_in o ≡ Some ask → IsOpsRequest (ask.request x)
  by_operation None bad = absurd cc
  by_operation (Some o) is = (row_holds o ask is).known x

pub answer_served : (code : ℤ) (body : List ℕ) (answer : Result Request AskFault) → AsksRightly (row_at ask_of code) body answer → length body < 2 ^ 31 → IfOk answer IsServed
answer_served code body (Err e) h small = tt
answer_served code body (Ok r) (ask, x, known, spelled, served, asks) small = subst IsServed asks (by_operation (operation_at code) known) where
  by_operation : (o : Option Operation) → row_in o ≡ Some ask → IsServed (ask.request x)
  by_operation None bad = absurd cc
  by_operation (Some o) is = (row_holds o ask is).served x (fields_fit ask.format (fields_after body) x (omega (arith, small, length-drop 10 body)) spelled) served
