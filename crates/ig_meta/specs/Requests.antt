-- The requests on the names of caches and on descriptions of types.
use Rattle.std.specs.Prelude.{ℕ, ℤ, List, [], ◌∷◌, Option, None, Some}
use Rattle.ig_value.specs.Part.{i32}
use Rattle.ig_wire.specs.declared.Operation.{Operation}
use Rattle.ig_wire.specs.declared.Operation.TheVariants as operation
use Rattle.ig_wire.specs.declared.Profile.{Profile}
use Rattle.ig_wire.specs.declared.Profile.TheVariants.{EmptyName}
use Rattle.ig_caches.specs.declared.Call.{Call}
use Rattle.ig_caches.specs.declared.Call.TheVariants as call
use Rattle.ig_caches.specs.declared.Request.{Request}
use Rattle.ig_caches.specs.declared.Request.TheVariants.{Run}
use Rattle.ig_fields.specs.Format.{Format, nothing, byte, string, scalar, both}
use Rattle.ig_fields.specs.Ask.{Ask, served_ask, AskForm, form_body}
use Rattle.ig_meta.specs.TypeFields.{type_format, type_of_fields, fields_of_type}

-- ---- reading

-- a cache with an empty name isn't created
abbrev pub name_profile : List ℕ → Option Profile
name_profile [] = Some EmptyName
name_profile (b ∷ bytes) = None

-- a String: the name of a cache to be created
abbrev pub name_ask : (List ℕ → Call) → Ask Request
name_ask named = record { format = string; request = λ x. Run (named x); profile = name_profile }

-- a Byte, which is a platform, and an Int32, which is a type
abbrev pub type_name : Format
type_name = both byte (scalar i32)

-- the fields of each operation, and what they ask
abbrev pub ask_of : Operation → Option (Ask Request)
ask_of operation.CacheNames = Some (served_ask nothing (λ x. Run call.Names))
ask_of operation.Create = Some (name_ask (λ x. call.Create x))
ask_of operation.GetOrCreate = Some (name_ask (λ x. call.GetOrCreate x))
ask_of operation.Destroy = Some (served_ask (scalar i32) (λ x. Run (call.Destroy x)))
ask_of operation.GetTypeName = Some (served_ask type_name (λ x. Run (call.TypeName x.0 x.1)))
ask_of operation.RegisterTypeName = Some (served_ask (both type_name string) (λ x. Run (call.SetTypeName x.0.0 x.0.1 x.1)))
ask_of operation.GetType = Some (served_ask (scalar i32) (λ x. Run (call.TypeOf x)))
ask_of operation.PutType = Some (served_ask type_format (λ x. Run (call.PutType (type_of_fields x))))
ask_of _ = None

-- ---- writing

-- a request of one of these operations
abbrev pub IsMetaRequest : Request → Type 0
IsMetaRequest (Run call.Names) = Unit {0}
IsMetaRequest (Run (call.Create name)) = Unit {0}
IsMetaRequest (Run (call.GetOrCreate name)) = Unit {0}
IsMetaRequest (Run (call.Destroy cache)) = Unit {0}
IsMetaRequest (Run (call.TypeName platform type)) = Unit {0}
IsMetaRequest (Run (call.SetTypeName platform type name)) = Unit {0}
IsMetaRequest (Run (call.TypeOf type)) = Unit {0}
IsMetaRequest (Run (call.PutType meta)) = Unit {0}
IsMetaRequest _ = ⊥

-- why the request isn't served, if it isn't
abbrev pub profile_of : Request → Option Profile
profile_of (Run (call.Create name)) = name_profile name
profile_of (Run (call.GetOrCreate name)) = name_profile name
profile_of _ = None

-- the operation of the request, and its fields; requests of other operations aren't written here
abbrev pub form_of : Request → AskForm
form_of (Run (call.Create name)) = record { operation = operation.Create; filled = record { format = string; fields = name } }
form_of (Run (call.GetOrCreate name)) = record { operation = operation.GetOrCreate; filled = record { format = string; fields = name } }
form_of (Run (call.Destroy cache)) = record { operation = operation.Destroy; filled = record { format = scalar i32; fields = cache } }
form_of (Run (call.TypeName platform type)) = record { operation = operation.GetTypeName; filled = record { format = type_name; fields = (platform, type) } }
form_of (Run (call.SetTypeName platform type name)) = record { operation = operation.RegisterTypeName; filled = record { format = both type_name string; fields = ((platform, type), name) } }
form_of (Run (call.TypeOf type)) = record { operation = operation.GetType; filled = record { format = scalar i32; fields = type } }
form_of (Run (call.PutType meta)) = record { operation = operation.PutType; filled = record { format = type_format; fields = fields_of_type meta } }
form_of _ = record { operation = operation.CacheNames; filled = record { format = nothing; fields = tt } }

-- the body of its frame
abbrev pub ask_body : ℤ → Request → List ℕ
ask_body id request = form_body id (form_of request)
