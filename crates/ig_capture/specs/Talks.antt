-- What the two sides of a session say to each other, message by message: how far they have come, which
-- requests have no reply yet, and the text of each message.
use Rattle.std.specs.Prelude.{ℕ, ◌+◌, ℤ, Bool, true, false, not, ◌&&◌, List, [], ◌∷◌, ◌++◌, length, slice_index, codes, Option, Some, None, Result, Ok, Err, nat_lt, ◌==◌, if◌then◌else◌, option_map}
use Rattle.std.specs.Fmt.{decimal}
use Rattle.std.specs.Option.{option_or}
use Rattle.std.specs.FinMap as map
use Rattle.ig_base.specs.Frames.{client, server}
use Rattle.ig_base.specs.declared.Topology.{Topology}
use Rattle.ig_frame.specs.Streams.{place_of}
use Rattle.ig_value.specs.Part.{i16, i32, i64}
use Rattle.ig_wire.specs.declared.version.Version.{Version}
use Rattle.ig_wire.specs.declared.hello_reply.HelloReply.{HelloReply}
use Rattle.ig_wire.specs.declared.hello_reply.HelloReply.TheVariants.{Accepted, Refused}
use Rattle.ig_wire.specs.declared.operation.Operation.{Operation}
use Rattle.ig_wire.specs.declared.head.Fault.{Fault}
use Rattle.ig_wire.specs.declared.head.ReplyHead.{ReplyHead}
use Rattle.ig_wire.specs.declared.ask.AskFault.{AskFault}
use Rattle.ig_wire.specs.Versions.{is_spoken, server_side}
use Rattle.ig_wire.specs.Operations.{operation_at}
use Rattle.ig_wire.specs.Greets.{version_at, thin_client}
use Rattle.ig_wire.specs.HelloReplies.{hello_reply_of}
use Rattle.ig_wire.specs.Heads.{head_of}
use Rattle.ig_wire.specs.Fields.{frame_place}
use Rattle.ig_fields.specs.Format.{Fields}
use Rattle.ig_fields.specs.Ask.{ResultForm}
use Rattle.ig_fields.specs.ReadingFields.{message_of}
use Rattle.ig_caches.specs.declared.call.Call.TheVariants.{Affinity}
use Rattle.ig_caches.specs.declared.request.Request.{Request}
use Rattle.ig_caches.specs.declared.request.Request.TheVariants.{Run}
use Rattle.ig_ops.specs.Results as ops_results
use Rattle.ig_meta.specs.Results as meta_results
use Rattle.ig_parts.specs.PartsMessages as parts
use Rattle.ig_deals.specs.Asks.{id_in, operation_in, request_in}
use Rattle.ig_deals.specs.Faults.{refusal_of}
use Rattle.ig_text.specs.Tokens.{quoted, scalar_text, uuid_text}
use Rattle.ig_lines.specs.declared.line.LineAsk.{LineAsk}
use Rattle.ig_lines.specs.declared.line.LineAsk.TheVariants as asks
use Rattle.ig_lines.specs.Arguments.{space}
use Rattle.ig_lines.specs.LineText.{AskText}
use Rattle.ig_lines.specs.ShownText.{full_stop, ShownText, FaultText, MapText}
use Rattle.ig_capture.specs.Requests.{Unanswered, with_request, taken}
use Rattle.ig_capture.specs.declared.phase.Phase.{Phase}
use Rattle.ig_capture.specs.declared.phase.Phase.TheVariants.{Fresh, Asked, Talking, Closed}

-- ---- what is known of a session

-- how far a session has come, and its requests without a reply
pub record Talk : Type 0 where
  pub phase : Phase
  pub unanswered : Unanswered

abbrev pub fresh_talk : Talk
fresh_talk = record { phase = Fresh; unanswered = map.empty }

-- the talk after a message, and the message's text; or the place in the stream of what is malformed
abbrev pub Step : Type 0
Step = Result (Talk × List ℕ) ℕ

-- a place in the stream, counted from the first length byte of a frame at this place
abbrev pub later_place : ℕ → ℕ → ℕ
later_place place further = place_of (place + further)

-- ---- the client's messages

abbrev pub version_text : Version → List ℕ
version_text v = scalar_text i16 v.major ++ full_stop ∷ (scalar_text i16 v.minor ++ full_stop ∷ scalar_text i16 v.patch)

-- a hello is byte 1, a version and the client code of a thin client; a login may follow
abbrev pub is_hello : List ℕ → Bool
is_hello body = (slice_index body 0 == 1) && (slice_index body 7 == thin_client)

abbrev pub hello_text : List ℕ → List ℕ
hello_text body = codes "hello " ++ (version_text (version_at body 1) ++ (if nat_lt 8 (length body) then codes " login" else []))

abbrev pub hello_step : Talk → ℕ → List ℕ → Step
hello_step talk place body =
    if is_hello body then Ok (record talk { phase = Asked (version_at body 1) }, hello_text body) else Err place

-- a request for the pairs of caches is the word `parts`
abbrev pub line_ask : Request → LineAsk
line_ask (Run (Affinity caches)) = asks.Parts caches
line_ask request = asks.Ask request

-- what is asked, or the status that it is refused with
abbrev pub asked_text : Result Request AskFault → List ℕ
asked_text (Ok request) = AskText (line_ask request)
asked_text (Err fault) = codes "refused " ++ scalar_text i32 (refusal_of fault).status

abbrev pub asked_operation : ℤ → Result Request AskFault → Option Operation
asked_operation code (Ok request) = operation_at code
asked_operation code (Err fault) = None

abbrev pub request_step : Talk → Version → List ℕ → Step
request_step talk v body =
    Ok (
      record talk { unanswered = with_request (id_in body) (asked_operation (operation_in body) (request_in v body)) talk.unanswered },
      scalar_text i64 (id_in body) ++ space ∷ asked_text (request_in v body),
    )

abbrev pub client_message : Talk → Phase → ℕ → List ℕ → Step
client_message talk Fresh place body = hello_step talk place body
client_message talk (Talking v) place body = request_step talk v body
client_message talk _ place body = Err place

-- ---- the server's messages

abbrev pub accepted_text : HelloReply → List ℕ
accepted_text (Accepted None) = codes "ok"
accepted_text (Accepted (Some node)) = codes "ok " ++ uuid_text node
accepted_text (Refused highest text n) = codes "refused " ++ (version_text highest ++ space ∷ quoted text)

abbrev pub phase_after : Version → HelloReply → Phase
phase_after v (Accepted told) = Talking v
phase_after v (Refused highest text n) = Closed

abbrev pub greeted : Talk → Version → ℕ → List ℕ → Result HelloReply ℕ → Step
greeted talk v place body (Ok reply) = Ok (record talk { phase = phase_after v reply }, accepted_text reply)
greeted talk v place body (Err left) = Err (later_place place (frame_place body left))

-- an acceptance of a version that isn't spoken
abbrev pub accepts_unspoken : Version → List ℕ → Bool
accepts_unspoken v body = (slice_index body 0 == 1) && not (is_spoken v)

-- it is malformed at its frame
abbrev pub greeting_step : Talk → Version → ℕ → List ℕ → Step
greeting_step talk v place body =
    if accepts_unspoken v body then Err place else greeted talk v place body (hello_reply_of v body)

abbrev pub told_text : Option Topology → List ℕ
told_text None = []
told_text (Some t) = codes "told " ++ (scalar_text i64 t.version ++ full_stop ∷ (scalar_text i32 t.minor ++ space ∷ []))

-- the form of a result, shown as its text
abbrev pub printed : {A : Type 0} → (A → List ℕ) → ResultForm A → ResultForm (List ℕ)
printed text form = record { format = form.format; shown = λ x. text (form.shown x) }

abbrev pub text_form : Operation → Option (ResultForm (List ℕ))
text_form o =
    option_or (option_map (printed ShownText) (ops_results.result_of o))
    (option_or (option_map (printed ShownText) (meta_results.result_of o)) (option_map (λ ask. printed MapText parts.map_form) (parts.ask_of o)))

-- a result that isn't read is told by the number of its bytes
abbrev pub unread_text : List ℕ → List ℕ
unread_text s = codes "unread " ++ decimal (length s)

abbrev pub shown_text : (form : ResultForm (List ℕ)) → Result (Fields form.format) ℕ → Result (List ℕ) ℕ
shown_text form (Ok x) = Ok (form.shown x)
shown_text form (Err left) = Err left

abbrev pub text_by : Option (ResultForm (List ℕ)) → List ℕ → Result (List ℕ) ℕ
text_by None s = Ok (unread_text s)
text_by (Some form) s = shown_text form (message_of form.format s)

abbrev pub form_for : Option Operation → Option (ResultForm (List ℕ))
form_for None = None
form_for (Some o) = text_form o

-- nothing may follow a fault
abbrev pub content_text : Option Fault → Option Operation → List ℕ → Result (List ℕ) ℕ
content_text None operation s = text_by (form_for operation) s
content_text (Some fault) operation [] = Ok (FaultText fault)
content_text (Some fault) operation s = Err (length s)

abbrev pub replied : Talk → ℕ → List ℕ → ReplyHead → Result (List ℕ) ℕ → Step
replied talk place body head (Ok text) = Ok (talk, scalar_text i64 head.id ++ space ∷ (told_text head.told ++ text))
replied talk place body head (Err left) = Err (later_place place (frame_place body left))

-- a reply without its request is malformed at its frame
abbrev pub reply_for : Talk → ℕ → List ℕ → ReplyHead → List ℕ → Option (Option Operation × Unanswered) → Step
reply_for talk place body head s None = Err place
reply_for talk place body head s (Some t) = replied (record talk { unanswered = t.1 }) place body head (content_text head.fault t.0 s)

abbrev pub reply_after : Talk → ℕ → List ℕ → Result (ReplyHead × List ℕ) ℕ → Step
reply_after talk place body (Ok h) = reply_for talk place body h.0 h.1 (taken h.0.id talk.unanswered)
reply_after talk place body (Err left) = Err (later_place place (frame_place body left))

abbrev pub server_message : Talk → Phase → ℕ → List ℕ → Step
server_message talk (Asked v) place body = greeting_step talk v place body
server_message talk (Talking v) place body = reply_after talk place body (head_of v body)
server_message talk _ place body = Err place

-- ---- both

-- the next message of a side, whose frame begins at this place of its stream
abbrev pub message : Talk → Bool → ℕ → List ℕ → Step
message talk false place body = client_message talk talk.phase place body
message talk true place body = server_message talk talk.phase place body

-- the least length of the body of that message: the first of a side, or a later one
abbrev pub least : Bool → Phase → ℕ
least false Fresh = client.first
least false _ = client.later
least true (Talking v) = (server_side v).later
least true Closed = server.later
least true _ = server.first
