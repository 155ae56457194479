-- What the bodies of a session ask.
use Rattle.std.specs.Prelude.{ℕ, ℤ, pos, List, [], ◌∷◌, map, Option, None, Result, Ok, Err, unwrap_or, if◌then◌else◌}
use Rattle.std.specs.Result.{result_map_both}
use Rattle.std.specs.Int.{w16, w64}
use Rattle.ig_base.specs.Numbers.{number_at}
use Rattle.ig_wire.specs.declared.version.Version.{Version}
use Rattle.ig_wire.specs.declared.operation.Operation.{Operation}
use Rattle.ig_wire.specs.declared.head.Fault.{Fault}
use Rattle.ig_wire.specs.declared.ask.AskFault.{AskFault}
use Rattle.ig_wire.specs.Versions.{is_up_to}
use Rattle.ig_wire.specs.Operations.{first_version}
use Rattle.ig_fields.specs.Ask.{Ask, row_at}
use Rattle.ig_fields.specs.AsksRightly.{asked}
use Rattle.ig_caches.specs.declared.request.Request.{Request}
use Rattle.ig_deals.specs.Tables.{ask_of}
use Rattle.ig_deals.specs.Faults.{refusal_of}
use Rattle.ig_deals.specs.Hellos.{Greeting, greeting_of}

-- what a body asks: a request under an identifier, or the fault that refuses it
pub record Asked : Type 0 where
  pub id : ℤ
  pub request : Result Request Fault

-- an operation is served from its first version on
abbrev pub served_at : Version → Operation → Option (Ask Request)
served_at v operation = if is_up_to (first_version operation) v then ask_of operation else None

-- the operation, and the identifier after it
abbrev pub operation_in : List ℕ → ℤ
operation_in body = unwrap_or (number_at w16 body 0) (pos 0)

abbrev pub id_in : List ℕ → ℤ
id_in body = unwrap_or (number_at w64 body 2) (pos 0)

-- what a body asks at a version, or why it is refused
abbrev pub request_in : Version → List ℕ → Result Request AskFault
request_in v body = asked (row_at (served_at v) (operation_in body)) body

-- what a body asks at a version
unfoldable pub asked_in : Version → List ℕ → Asked
asked_in v body = record {
  id = id_in body;
  request = result_map_both (λ r. r) refusal_of (request_in v body);
}

-- after an accepted hello each body asks, and after a refused one nothing is asked
abbrev pub asks_after : Greeting → List (List ℕ) → List Asked
asks_after (Ok hello) bodies = map (asked_in hello.version) bodies
asks_after (Err fault) bodies = []

-- what the bodies of a session ask, of which the first is the hello
abbrev pub asks : List (List ℕ) → List Asked
asks [] = []
asks (hello ∷ bodies) = asks_after (greeting_of hello) bodies
