-- The texts of messages, by what was read.
use Rattle.std.proofs.Common.{◌≡◌, ◌≢◌, ℕ, zero, suc, ◌+◌, ◌-◌, ◌<◌, ◌≤◌, ℤ, Bool, true, false, List, [], ◌∷◌, ◌++◌, length, drop, Option, Some, None, Result, Ok, Err, OnOk, refl, sym, ap, subst, ◌∙◌, arith, append_assoc}
use Rattle.std.proofs.lemmas.List.{length-drop}
use Rattle.std.specs.Prelude.{codes}
use Rattle.ig_base.specs.declared.NodeId.{NodeId}
use Rattle.ig_value.specs.Part.{i64}
use Rattle.ig_frame.specs.Streams.{place_of}
use Rattle.ig_wire.specs.Fields.{frame_place, in_frame}
use Rattle.ig_wire.specs.Heads.{head_of}
use Rattle.ig_wire.specs.HelloReplies.{hello_reply_of}
use Rattle.ig_wire.specs.declared.version.Version.{Version}
use Rattle.ig_wire.specs.declared.operation.Operation.{Operation}
use Rattle.ig_wire.specs.declared.hello_reply.HelloReply.{HelloReply}
use Rattle.ig_wire.specs.declared.hello_reply.HelloReply.TheVariants.{Accepted}
use Rattle.ig_wire.specs.declared.head.Fault.{Fault}
use Rattle.ig_wire.specs.declared.head.ReplyHead.{ReplyHead}
use Rattle.ig_wire.specs.declared.ask.AskFault.{AskFault}
use Rattle.ig_wire.specs.declared.ask.AskFault.TheVariants as ask
use Rattle.ig_fields.specs.AskAnswers.{AnswersAs}
use Rattle.ig_caches.specs.declared.call.Call.{Call}
use Rattle.ig_caches.specs.declared.call.Call.TheVariants as call
use Rattle.ig_caches.specs.declared.request.Request.{Request}
use Rattle.ig_caches.specs.declared.request.Request.TheVariants.{Run, Scan, NextPage, Close}
use Rattle.ig_deals.specs.Asks.{id_in, operation_in, request_in}
use Rattle.ig_text.specs.Tokens.{scalar_text, uuid_text}
use Rattle.ig_lines.specs.declared.line.LineAsk.TheVariants as asks
use Rattle.ig_lines.specs.Arguments.{space}
use Rattle.ig_lines.specs.ShownText.{FaultText}
use Rattle.ig_capture.specs.Requests.{Unanswered, with_request, taken}
use Rattle.ig_capture.specs.Answers.{lacks_memory}
use Rattle.ig_capture.specs.Talks.{Talk, Step, later_place, line_ask, asked_text, asked_operation, request_step, accepted_text, phase_after, greeted, told_text, content_text, replied, reply_for, reply_after}

-- ---- requests

-- the answer of reading a request, unless memory ran out
pub read_right : (expected read : Result Request AskFault) → AnswersAs expected read → lacks_memory read ≡ false → expected ≡ read
read_right expected (Ok request) answers enough = answers
read_right expected (Err ask.NoMemory) answers enough = absurd (cc)
read_right expected (Err ask.NotMine) answers enough = answers
read_right expected (Err (ask.Unread place)) answers enough = answers
read_right expected (Err (ask.Profile profile)) answers enough = answers

-- a request was heard
pub request_heard : (talk : Talk) (v : Version) (body : List ℕ) (read : Result Request AskFault) (id : ℤ) (operation : Option Operation) (us : Unanswered) (text : List ℕ)
    → request_in v body ≡ read → id ≡ id_in body → operation ≡ asked_operation (operation_in body) read → us ≡ with_request id operation talk.unanswered
    → text ≡ (scalar_text i64 id ++ space ∷ []) ++ asked_text read → request_step talk v body ≡ Ok (record talk { unanswered = us }, text)
request_heard talk v body read id operation us text is ids operations added whole =
    let one : request_step talk v body ≡ Ok (record talk { unanswered = with_request (id_in body) (asked_operation (operation_in body) read) talk.unanswered }, scalar_text i64 (id_in body) ++ space ∷ asked_text read) =
    ap (λ (r : Result Request AskFault). Ok (record talk { unanswered = with_request (id_in body) (asked_operation (operation_in body) r) talk.unanswered }, scalar_text i64 (id_in body) ++ space ∷ asked_text r)) is in
    let same : with_request (id_in body) (asked_operation (operation_in body) read) talk.unanswered ≡ us =
    ap (λ (o : Option Operation). with_request (id_in body) o talk.unanswered) (sym operations) ∙ ap (λ (n : ℤ). with_request n operation talk.unanswered) (sym ids) ∙ sym added in
    let line : scalar_text i64 (id_in body) ++ space ∷ asked_text read ≡ text =
    ap (λ (n : ℤ). scalar_text i64 n ++ space ∷ asked_text read) (sym ids) ∙ sym (append_assoc (scalar_text i64 id) (space ∷ []) (asked_text read)) ∙ sym whole in
    one ∙ ap (λ (u : Unanswered). Ok (record talk { unanswered = u }, scalar_text i64 (id_in body) ++ space ∷ asked_text read)) same
    ∙ ap (λ (t : List ℕ). Ok (record talk { unanswered = us }, t)) line

-- each call but the one for the pairs of caches is asked as it is
pub other_call : (c : Call) → ((caches : List ℤ) → c ≡ call.Affinity caches → ⊥) → line_ask (Run c) ≡ asks.Ask (Run c)
other_call (call.Get cache key) never = refl
other_call (call.GetAndRemove cache key) never = refl
other_call (call.ContainsKey cache key) never = refl
other_call (call.ClearKey cache key) never = refl
other_call (call.RemoveKey cache key) never = refl
other_call (call.Put cache key value) never = refl
other_call (call.PutIfAbsent cache key value) never = refl
other_call (call.GetAndPut cache key value) never = refl
other_call (call.GetAndReplace cache key value) never = refl
other_call (call.GetAndPutIfAbsent cache key value) never = refl
other_call (call.Replace cache key value) never = refl
other_call (call.ReplaceIfEquals cache key wanted value) never = refl
other_call (call.RemoveIfEquals cache key wanted) never = refl
other_call (call.GetAll cache keys) never = refl
other_call (call.ContainsKeys cache keys) never = refl
other_call (call.ClearKeys cache keys) never = refl
other_call (call.RemoveKeys cache keys) never = refl
other_call (call.PutAll cache pairs) never = refl
other_call (call.Clear cache) never = refl
other_call (call.RemoveAll cache) never = refl
other_call (call.Scan cache) never = refl
other_call (call.Size cache modes) never = refl
other_call call.Names never = refl
other_call (call.Create name) never = refl
other_call (call.GetOrCreate name) never = refl
other_call (call.Destroy cache) never = refl
other_call (call.TypeName platform type_id) never = refl
other_call (call.SetTypeName platform type_id name) never = refl
other_call (call.TypeOf type_id) never = refl
other_call (call.PutType meta) never = refl
other_call (call.Affinity caches) never = absurd (never caches refl)

-- and each other request
pub other_ask : (request : Request) → ((c : Call) → request ≡ Run c → ⊥) → line_ask request ≡ asks.Ask request
other_ask (Run c) never = absurd (never c refl)
other_ask (Scan cache page) never = refl
other_ask (NextPage cursor) never = refl
other_ask (Close resource) never = refl

-- ---- replies

-- the node that is told, after the word
pub node_appended : {T E : Type 0} (r : Result T E) (node : NodeId) (old one new : List ℕ) → one ≡ old ++ codes "ok " → OnOk r (new ≡ one ++ uuid_text node)
    → OnOk r (new ≡ old ++ accepted_text (Accepted (Some node)))
node_appended (Ok x) node old one new first second = second ∙ ap (λ (l : List ℕ). l ++ uuid_text node) first ∙ append_assoc old (codes "ok ") (uuid_text node)
node_appended (Err e) node old one new first second = second

-- one that doesn't read, and one that does
pub greeted_well : (talk : Talk) (v : Version) (place : ℕ) (body : List ℕ) (reply : HelloReply) → hello_reply_of v body ≡ Ok reply
    → greeted talk v place body (hello_reply_of v body) ≡ Ok (record talk { phase = phase_after v reply }, accepted_text reply)
greeted_well talk v place body reply is = ap (greeted talk v place body) is

pub greeted_wrong : (talk : Talk) (v : Version) (place at : ℕ) (body : List ℕ) (read : Result HelloReply ℕ) → in_frame body read ≡ Err at
    → greeted talk v place body read ≡ Err (later_place place at)
greeted_wrong talk v place at body (Ok reply) is = absurd (cc)
greeted_wrong talk v place at body (Err left) is =
    let same : frame_place body left ≡ at = cc in ap (λ (n : ℕ). Err (later_place place n)) same

pub reply_wrong : (talk : Talk) (place at : ℕ) (body : List ℕ) (read : Result (ReplyHead × List ℕ) ℕ) → in_frame body read ≡ Err at
    → reply_after talk place body read ≡ Err (later_place place at)
reply_wrong talk place at body (Ok head) is = absurd (cc)
reply_wrong talk place at body (Err left) is =
    let same : frame_place body left ≡ at = cc in ap (λ (n : ℕ). Err (later_place place n)) same

module _ (talk : Talk) (place : ℕ) (body : List ℕ) (head : ReplyHead) (s : List ℕ) (read : Result (ReplyHead × List ℕ) ℕ) (is : read ≡ Ok (head, s)) where
  pub reply_unasked : taken head.id talk.unanswered ≡ None → reply_after talk place body read ≡ Err place
  reply_unasked none = ap (reply_after talk place body) is ∙ ap (reply_for talk place body head s) none

  module _ (operation : Option Operation) (us : Unanswered) (first : taken head.id talk.unanswered ≡ Some (operation, us)) where
    pub reply_shown : (content text : List ℕ) → content_text head.fault operation s ≡ Ok content → text ≡ ((scalar_text i64 head.id ++ space ∷ []) ++ told_text head.told) ++ content
        → reply_after talk place body read ≡ Ok (record talk { unanswered = us }, text)
    reply_shown content text shows whole =
        let line : scalar_text i64 head.id ++ space ∷ (told_text head.told ++ content) ≡ text =
        sym (append_assoc (scalar_text i64 head.id) (space ∷ []) (told_text head.told ++ content))
        ∙ sym (append_assoc (scalar_text i64 head.id ++ space ∷ []) (told_text head.told) content) ∙ sym whole in
        ap (reply_after talk place body) is ∙ ap (reply_for talk place body head s) first
        ∙ ap (replied (record talk { unanswered = us }) place body head) shows ∙ ap (λ (t : List ℕ). Ok (record talk { unanswered = us }, t)) line

    pub reply_stops : (left at : ℕ) → content_text head.fault operation s ≡ Err left → at ≡ later_place place (frame_place body left) → reply_after talk place body read ≡ Err at
    reply_stops left at stops there =
        ap (reply_after talk place body) is ∙ ap (reply_for talk place body head s) first
        ∙ ap (replied (record talk { unanswered = us }) place body head) stops ∙ ap Err (sym there)

-- ---- what follows the head

-- bytes after a fault
pub after_fault : (fault : Fault) (operation : Option Operation) (s : List ℕ) → 0 < length s → content_text (Some fault) operation s ≡ Err (length s)
after_fault fault operation [] some = absurd (omega (arith, some))
after_fault fault operation (b ∷ s) some = refl

-- none
pub fault_alone : (fault : Fault) (operation : Option Operation) (s : List ℕ) → length s ≡ 0 → content_text (Some fault) operation s ≡ Ok (FaultText fault)
fault_alone fault operation [] none = refl
fault_alone fault operation (b ∷ s) none = absurd (omega (arith, none))

-- where they begin
pub fault_ends : (place at : ℕ) (body : List ℕ) → at ≤ length body → place_of (place + (4 + at)) ≡ later_place place (frame_place body (length (drop at body)))
fault_ends place at body within = ap (λ (n : ℕ). place_of (place + (4 + n))) (omega (arith, within, length-drop at body))
