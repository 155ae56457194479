-- The requests that a client submits, and the bodies of their frames.
use Rattle.std.specs.Prelude.{ℕ, ℤ, Bool, true, false, List, if◌then◌else◌}
use Rattle.ig_caches.specs.declared.Call.TheVariants as call
use Rattle.ig_caches.specs.declared.Request.{Request}
use Rattle.ig_caches.specs.declared.Request.TheVariants.{Run}
use Rattle.ig_ops.specs.Requests as ops
use Rattle.ig_meta.specs.Requests as meta

-- a scan is asked for by pages, and the affinity fields of types by the request for partition maps
abbrev pub IsSubmittable : Request → Type 0
IsSubmittable (Run (call.Scan _)) = ⊥
IsSubmittable (Run (call.Affinity _)) = ⊥
IsSubmittable _ = Unit {0}

-- a request on the names of caches or on descriptions of types
abbrev pub is_meta : Request → Bool
is_meta (Run call.Names) = true
is_meta (Run (call.Create name)) = true
is_meta (Run (call.GetOrCreate name)) = true
is_meta (Run (call.Destroy cache)) = true
is_meta (Run (call.TypeName platform type)) = true
is_meta (Run (call.SetTypeName platform type name)) = true
is_meta (Run (call.TypeOf type)) = true
is_meta (Run (call.PutType meta)) = true
is_meta _ = false

-- the body of the frame of a request with this identifier
abbrev pub request_body : ℤ → Request → List ℕ
request_body id request = if is_meta request then meta.ask_body id request else ops.ask_body id request
