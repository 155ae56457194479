-- What a message leads to, as the calls that hear it answer.
use Rattle.std.proofs.Common.{◌≡◌, ℕ, ◌+◌, ◌≤◌, ℤ, Bool, true, false, List, [], ◌∷◌, ◌++◌, length, drop, Option, Some, None, Result, Ok, Err, refl, sym, ap, subst, ◌∙◌}
use Rattle.std.proofs.lemmas.Bool.{cond-true, cond-false}
use Rattle.ig_value.specs.Part.{i64}
use Rattle.ig_wire.specs.Greets.{version_at}
use Rattle.ig_wire.specs.Heads.{head_of}
use Rattle.ig_wire.specs.HelloReplies.{hello_reply_of}
use Rattle.ig_wire.specs.HeadAnswers.{HeadAnswers}
use Rattle.ig_wire.specs.ReadAnswers.{MessageAnswers}
use Rattle.ig_wire.specs.declared.version.Version.{Version}
use Rattle.ig_wire.specs.declared.operation.Operation.{Operation}
use Rattle.ig_wire.specs.declared.hello_reply.HelloReply.{HelloReply}
use Rattle.ig_wire.specs.declared.head.ReplyHead.{ReplyHead}
use Rattle.ig_wire.specs.declared.ask.AskFault.{AskFault}
use Rattle.ig_wire.specs.declared.unread.ReadFault.{ReadFault}
use Rattle.ig_wire.specs.declared.unread.ReadFault.TheVariants as reads
use Rattle.ig_fields.specs.AskAnswers.{AnswersAs}
use Rattle.ig_caches.specs.declared.request.Request.{Request}
use Rattle.ig_deals.specs.Asks.{id_in, operation_in, request_in}
use Rattle.ig_text.specs.Tokens.{scalar_text}
use Rattle.ig_lines.specs.Arguments.{space}
use Rattle.ig_capture.specs.declared.phase.Phase.{Phase}
use Rattle.ig_capture.specs.declared.phase.Phase.TheVariants.{Asked}
use Rattle.ig_capture.specs.declared.stop.Stop.{Stop}
use Rattle.ig_capture.specs.declared.stop.Stop.TheVariants as stop
use Rattle.ig_capture.specs.Requests.{Unanswered, with_request, taken, TakesFirst}
use Rattle.ig_capture.specs.Answers.{lacks_memory, ShowsStep, ShowsContent, StopsAt}
use Rattle.ig_capture.specs.Talks.{Talk, Step, is_hello, hello_text, hello_step, asked_text, asked_operation, request_step, accepts_unspoken, accepted_text, phase_after, greeted, greeting_step, told_text, content_text, reply_after, client_message, server_message, least}
use Rattle.ig_capture.proofs.MessageLemmas.{read_right, request_heard, greeted_well, greeted_wrong, reply_wrong, reply_unasked, reply_shown, reply_stops}

-- a text that is appended to nothing
alone : (old new text : List ℕ) → old ≡ [] → new ≡ old ++ text → text ≡ new
alone old new text none is = sym (is ∙ ap (λ (l : List ℕ). l ++ text) none)

-- ---- messages that are malformed

module _ (talk : Talk) where
  pub hello_wrong : (place : ℕ) (body : List ℕ) → is_hello body ≡ false → hello_step talk place body ≡ Err place
  hello_wrong place body other = cond-false (is_hello body) (Ok (record talk { phase = Asked (version_at body 1) }, hello_text body)) (Err place) other

  pub unspoken_accepted : (v : Version) (place : ℕ) (body : List ℕ) → accepts_unspoken v body ≡ true → greeting_step talk v place body ≡ Err place
  unspoken_accepted v place body is = cond-true (accepts_unspoken v body) (Err place) (greeted talk v place body (hello_reply_of v body)) is

  greets : (v : Version) (place : ℕ) (body : List ℕ) → accepts_unspoken v body ≡ false → greeting_step talk v place body ≡ greeted talk v place body (hello_reply_of v body)
  greets v place body other = cond-false (accepts_unspoken v body) (Err place) (greeted talk v place body (hello_reply_of v body)) other

  pub greeting_stops : (v : Version) (place : ℕ) (body : List ℕ) (e : ReadFault) (s : Stop) (talk' : Talk) (text : List ℕ) → accepts_unspoken v body ≡ false
      → MessageAnswers body (Err e) (hello_reply_of v body) → StopsAt place e s → ShowsStep (greeting_step talk v place body) talk' text (Err s)
  greeting_stops v place body reads.NoMemory s talk' text other answers stops = subst (λ (t : Stop). ShowsStep (greeting_step talk v place body) talk' text (Err t)) (sym stops) tt
  greeting_stops v place body (reads.Unread unread) s talk' text other answers stops =
      subst (λ (t : Stop). ShowsStep (greeting_step talk v place body) talk' text (Err t)) (sym stops)
      (greets v place body other ∙ greeted_wrong talk v place unread.place body (hello_reply_of v body) answers)

  pub reply_unread : (v : Version) (place : ℕ) (body : List ℕ) (e : ReadFault) (s : Stop) (talk' : Talk) (text : List ℕ) → HeadAnswers v body (Err e) → StopsAt place e s
      → ShowsStep (reply_after talk place body (head_of v body)) talk' text (Err s)
  reply_unread v place body reads.NoMemory s talk' text answers stops = subst (λ (t : Stop). ShowsStep (reply_after talk place body (head_of v body)) talk' text (Err t)) (sym stops) tt
  reply_unread v place body (reads.Unread unread) s talk' text answers stops =
      subst (λ (t : Stop). ShowsStep (reply_after talk place body (head_of v body)) talk' text (Err t)) (sym stops)
      (reply_wrong talk place unread.place body (head_of v body) answers)

-- ---- messages that are heard

module _ (phase : Phase) (us : Unanswered) (talk : Talk) (view : record { phase = phase; unanswered = us } ≡ talk) where
  -- ---- a hello

  pub hello_heard : (place : ℕ) (body : List ℕ) (v : Version) (old new : List ℕ) → is_hello body ≡ true → v ≡ version_at body 1 → old ≡ [] → new ≡ old ++ hello_text body
      → hello_step talk place body ≡ Ok (record { phase = Asked v; unanswered = us }, new)
  hello_heard place body v old new is version none text =
      cond-true (is_hello body) (Ok (record talk { phase = Asked (version_at body 1) }, hello_text body)) (Err place) is
      ∙ ap (λ (t : Talk). Ok (record t { phase = Asked (version_at body 1) }, hello_text body)) (sym view)
      ∙ ap (λ (w : Version). Ok (record { phase = Asked w; unanswered = us }, hello_text body)) (sym version)
      ∙ ap (λ (l : List ℕ). Ok (record { phase = Asked v; unanswered = us }, l)) (alone old new (hello_text body) none text)

  -- ---- a request

  pub request_is_heard : (v : Version) (body : List ℕ) (read : Result Request AskFault) (id : ℤ) (operation : Option Operation) (us' : Unanswered) (old one new : List ℕ)
      → AnswersAs (request_in v body) read → lacks_memory read ≡ false → id ≡ id_in body → operation ≡ asked_operation (operation_in body) read → us' ≡ with_request id operation us
      → old ≡ [] → one ≡ old ++ (scalar_text i64 id ++ space ∷ []) → new ≡ one ++ asked_text read
      → request_step talk v body ≡ Ok (record { phase = phase; unanswered = us' }, new)
  request_is_heard v body read id operation us' old one new answers enough ids operations added none first second =
      request_heard talk v body read id operation us' new (read_right (request_in v body) read answers enough) ids operations
      (added ∙ ap (λ (t : Talk). with_request id operation t.unanswered) view)
      (second ∙ ap (λ (l : List ℕ). l ++ asked_text read) (sym (alone old one (scalar_text i64 id ++ space ∷ []) none first)))
      ∙ ap (λ (t : Talk). Ok (record t { unanswered = us' }, new)) (sym view)

  -- ---- the reply to a hello

  pub greeting_heard : (v : Version) (place : ℕ) (body : List ℕ) (reply : HelloReply) (phase' : Phase) (old new : List ℕ) → accepts_unspoken v body ≡ false → hello_reply_of v body ≡ Ok reply
      → phase' ≡ phase_after v reply → old ≡ [] → new ≡ old ++ accepted_text reply → greeting_step talk v place body ≡ Ok (record { phase = phase'; unanswered = us }, new)
  greeting_heard v place body reply phase' old new other reads after none text =
      greets talk v place body other ∙ greeted_well talk v place body reply reads
      ∙ ap (λ (t : Talk). Ok (record t { phase = phase_after v reply }, accepted_text reply)) (sym view)
      ∙ ap (λ (p : Phase). Ok (record { phase = p; unanswered = us }, accepted_text reply)) (sym after)
      ∙ ap (λ (l : List ℕ). Ok (record { phase = phase'; unanswered = us }, l)) (alone old new (accepted_text reply) none text)

  -- ---- a reply

  module _ (place : ℕ) (body : List ℕ) (head : ReplyHead) (s : List ℕ) (read : Result (ReplyHead × List ℕ) ℕ) (is : read ≡ Ok (head, s)) (us' : Unanswered) where
    pub reply_not_asked : TakesFirst head.id us us' None → reply_after talk place body read ≡ Err place
    reply_not_asked takes = reply_unasked talk place body head s read is (ap (λ (t : Talk). taken head.id t.unanswered) (sym view) ∙ takes.0)

    pub reply_is_heard : (operation : Option Operation) (old one two new : List ℕ) (r : Result (Unit {0}) Stop) → TakesFirst head.id us us' (Some operation)
        → old ≡ [] → one ≡ old ++ (scalar_text i64 head.id ++ space ∷ []) → two ≡ one ++ told_text head.told
        → ShowsContent place body (content_text head.fault operation s) two new r → ShowsStep (reply_after talk place body read) (record { phase = phase; unanswered = us' }) new r
    reply_is_heard operation old one two new r takes none first second shows = go r shows
      where
        first_is : taken head.id talk.unanswered ≡ Some (operation, us')
        first_is = ap (λ (t : Talk). taken head.id t.unanswered) (sym view) ∙ takes

        before : two ≡ (scalar_text i64 head.id ++ space ∷ []) ++ told_text head.told
        before = second ∙ ap (λ (l : List ℕ). l ++ told_text head.told) (sym (alone old one (scalar_text i64 head.id ++ space ∷ []) none first))

        go : (a : Result (Unit {0}) Stop) → ShowsContent place body (content_text head.fault operation s) two new a → ShowsStep (reply_after talk place body read) (record { phase = phase; unanswered = us' }) new a
        go (Ok done) x =
            reply_shown talk place body head s read is operation us' first_is x.0 new x.1 (x.2 ∙ ap (λ (l : List ℕ). l ++ x.0) before)
            ∙ ap (λ (t : Talk). Ok (record t { unanswered = us' }, new)) (sym view)
        go (Err (stop.At at)) x = reply_stops talk place body head s read is operation us' first_is x.0 at x.1 x.2
        go (Err stop.NoMemory) x = tt

-- ---- by how far the session has come

module _ (phase : Phase) (us : Unanswered) (talk : Talk) (view : record { phase = phase; unanswered = us } ≡ talk) (at : Phase) (is : phase ≡ at) where
  phase_at : at ≡ talk.phase
  phase_at = sym is ∙ ap (λ (t : Talk). t.phase) view

  pub client_at : (place : ℕ) (body : List ℕ) (talk' : Talk) (text : List ℕ) (result : Result (Unit {0}) Stop) → ShowsStep (client_message talk at place body) talk' text result
      → ShowsStep (client_message talk talk.phase place body) talk' text result
  client_at place body talk' text result = subst (λ (p : Phase). ShowsStep (client_message talk p place body) talk' text result) phase_at

  pub server_at : (place : ℕ) (body : List ℕ) (talk' : Talk) (text : List ℕ) (result : Result (Unit {0}) Stop) → ShowsStep (server_message talk at place body) talk' text result
      → ShowsStep (server_message talk talk.phase place body) talk' text result
  server_at place body talk' text result = subst (λ (p : Phase). ShowsStep (server_message talk p place body) talk' text result) phase_at

  pub least_at : (server : Bool) (n : ℕ) → least server talk.phase ≤ n → least server at ≤ n
  least_at server n = subst (λ (p : Phase). least server p ≤ n) (sym phase_at)
