-- What a channel stands for after a submit.
use Rattle.std.proofs.Common.{◌≡◌, cond, ℕ, ◌+◌, ◌-◌, ◌⊎◌, ℤ, pos, Bool, true, false, ◌||◌, List, [], ◌∷◌, ◌++◌, length, Option, None, Some, Result, Ok, Err, IsOk, inl, inr, refl, sym, ap, subst, ◌∙◌, arith, append-nil}
use Rattle.std.proofs.lemmas.Bool.{false≢true}
use Rattle.std.specs.Prelude.{nat_lt, nat_le, IsSome}
use Rattle.ig_base.specs.Frames.{Frame, max_body}
use Rattle.ig_link.specs.States.{SourceState, SinkState, SinkAdvances}
use Rattle.ig_link.specs.WritesAs.{SentPart}
use Rattle.ig_caches.specs.declared.Request.{Request}
use Rattle.ig_wire.specs.Limits.{most_pending_calls}
use Rattle.ig_client.specs.PendingState.{PendingState, OrNoMemory, offered, next_after, next_id, last_id, with_call, broken, reply_to}
use Rattle.ig_client.specs.Cutting.{cut, asked}
use Rattle.ig_client.specs.Pairs.{Pair, GotData, sent, first_break, break_of, bytes_of, id_given, body_of, breaks_by, is_read_fault, is_end, is_of_frames, takes, was_taken, closes, was_closed, pumped}
use Rattle.ig_client.specs.LinkSince.{idle}
use Rattle.ig_client.specs.ChannelRun.{Submits, MayFollow, given, least_of, outcome, pending, reply_among, filed_bodies}
use Rattle.ig_client.specs.Stands.{KeepsCalls, Keeps, SourceIs, SinkIs, LinkStands, ChannelStands, Gains, submit_pair}
use Rattle.ig_client.specs.Steps as steps
use Rattle.ig_client.specs.declared.fault.Break.{Break}
use Rattle.ig_client.specs.declared.fault.Break.TheVariants.{WriteFault, Closed}
use Rattle.ig_client.specs.declared.fault.ChannelFault.{ChannelFault}
use Rattle.ig_client.specs.declared.fault.ChannelFault.TheVariants as fault
use Rattle.ig_client.specs.declared.ask.ChannelAsk.{ChannelAsk}
use Rattle.ig_client.specs.declared.ask.ChannelAsk.TheVariants as ask
use Rattle.ig_client.specs.declared.ask.ChannelGot.TheVariants as got
use Rattle.ig_client.specs.declared.ask.ChannelStart.{ChannelStart}
use Rattle.ig_client.proofs.PairLemmas.{sent_more, open_is_unclosed, given_is, each_more}
use Rattle.ig_client.proofs.KeepLemmas.{replies_kept, keeps_call, keeps_alike}
use Rattle.ig_client.proofs.LinkLemmas.{source_same, sink_sent, sink_broke}
use Rattle.ig_client.proofs.StandLemmas.{Quiet, sent_same, first_same, first_now, pumped_same, taken_same, closed_same, given_same, keeps_unbroken, stands_quiet}

-- ---- the next identifier

-- the break that a refused submit or pump answers
abbrev pub broke_by : ChannelFault → Option Break
broke_by (fault.Broke cause) = Some cause
broke_by (fault.Down cause) = None
broke_by (fault.BadReply place) = None
broke_by fault.TooLong = None
broke_by fault.Full = None
broke_by fault.Spent = None
broke_by fault.NoMemory = None

-- a channel on which a call may be made hadn't broken, and the call gets the next identifier
pub offered_open : (body : ℤ → List ℕ) (down : Option Break) (last waiting : ℕ) (id : ℤ) → offered body (next_after down last waiting) ≡ Ok id
    → (down ≡ None) × (id ≡ pos (last + 1))
offered_open body (Some cause) last waiting id is = cc
offered_open body None last waiting id is = (refl, go (nat_lt last last_id) (nat_lt waiting most_pending_calls) is) where
  sized : (g : Bool) → cond g (Ok (pos (last + 1))) (Err fault.TooLong) ≡ Ok id → id ≡ pos (last + 1)
  sized true e = cc
  sized false e = cc

  go : (a b : Bool) → offered body (cond a (cond b (Ok (pos (last + 1))) (Err fault.Full)) (Err fault.Spent)) ≡ Ok id → id ≡ pos (last + 1)
  go true true e = sized (nat_le (length (body (pos (last + 1)))) max_body) e
  go true false e = cc
  go false b e = cc

-- no submit is refused before its frame is written by a break in it
never_broke : (body : ℤ → List ℕ) (down : Option Break) (last waiting : ℕ) (cause : Break) → offered body (next_after down last waiting) ≡ Err (fault.Broke cause) → ⊥
never_broke body (Some other) last waiting cause is = cc
never_broke body None last waiting cause is = go (nat_lt last last_id) (nat_lt waiting most_pending_calls) is where
  sized : (g : Bool) → cond g (Ok (pos (last + 1))) (Err fault.TooLong) ≡ Err (fault.Broke cause) → ⊥
  sized true e = cc
  sized false e = cc

  go : (a b : Bool) → offered body (cond a (cond b (Ok (pos (last + 1))) (Err fault.Full)) (Err fault.Spent)) ≡ Err (fault.Broke cause) → ⊥
  go true true e = sized (nat_le (length (body (pos (last + 1)))) max_body) e
  go true false e = cc
  go false b e = cc

-- what is kept tells what the pairs tell of the next call
pub outcome_is : (start : ChannelStart) (bytes : List ℕ) (ps : List Pair) (asks : ChannelAsk) (c : PendingState) → Keeps start bytes ps c
    → outcome start bytes ps asks ≡ offered (body_of asks) (next_id c)
outcome_is start bytes ps asks c k = ap (offered (body_of asks)) (go (first_break ps) refl) where
  go : (b : Option Break) → first_break ps ≡ b → next_after (first_break ps) (sent ps) (pending start bytes ps) ≡ next_after c.down c.last c.waiting
  go (Some cause) is =
      ap (λ d. next_after d (sent ps) (pending start bytes ps)) is ∙ sym (ap (λ d. next_after d c.last c.waiting) (k.down ∙ is))
  go None is =
      let calls : KeepsCalls (least_of start) (sent ps) (cut (least_of start) bytes) (λ id. was_taken id ps) c = k.calls is in
      let count : pending start bytes ps ≡ c.waiting =
      ap (λ (l : List (List ℕ)). sent ps - length l) calls.all_asked ∙ omega (arith, calls.waiting) in
      ap (λ d. next_after d (sent ps) (pending start bytes ps)) (sym k.down)
      ∙ ap (λ n. next_after c.down n (pending start bytes ps)) (sym calls.last_is)
      ∙ ap (next_after c.down c.last) count

-- what a write leaves as it was is what the link is as a source
pub same_source : {L : Type 0} (source beside : L → SourceState) → ((k : L) → beside k ≡ source k) → (link link' : Option L)
    → steps.SameSource beside link link' → steps.SameSource source link link'
same_source source beside is (Some k) (Some k') same = sym (is k') ∙ same ∙ is k
same_source source beside is (Some k) None same = absurd same
same_source source beside is None (Some k') same = absurd same
same_source source beside is None None same = tt

-- a link that is there is there after a step that leaves what it is as a source
pub still_linked : {L : Type 0} (source : L → SourceState) (link link' : Option L) → steps.SameSource source link link' → IsSome link → IsSome link'
still_linked source (Some k) (Some k') same is = refl
still_linked source (Some k) None same is = absurd same
still_linked source None link' same is = absurd (false≢true is)

-- ---- submits of either kind

-- this asks for a submit, which is refused so
pub record IsSubmit (asks : ChannelAsk) (refused : ChannelFault → GotData) : Type 0 where
  pub sent_may : (start : ChannelStart) (last : List ℕ) (ps : List Pair) (id : ℤ) → Submits start (given last ps) ps asks (Ok id) → MayFollow start last ps asks (got.Sent id)
  pub refused_may : (start : ChannelStart) (last : List ℕ) (ps : List Pair) (cause : ChannelFault) → Submits start (given last ps) ps asks (Err cause)
      → MayFollow start last ps asks (refused cause)
  pub no_id : (cause : ChannelFault) → id_given (refused cause) ≡ None
  pub no_bytes : (cause : ChannelFault) → bytes_of (refused cause) ≡ []
  pub breaks : (cause : ChannelFault) → break_of (refused cause) ≡ broke_by cause
  pub no_close : (cause : ChannelFault) → closes (refused cause) ≡ false
  pub busy : (start : ChannelStart) (ps : List Pair) (cause : ChannelFault) → idle start ps (refused cause) ≡ 0
  pub no_take : (q : ℤ) (answer : GotData) → takes q asks answer ≡ false

pub request_is_submit : (request : Request) → IsSubmit (ask.Submit request) (got.NotSent request)
request_is_submit request = record {
  sent_may = λ start last ps id is. is;
  refused_may = λ start last ps cause is. (refl, is);
  no_id = λ cause. refl;
  no_bytes = λ cause. refl;
  breaks = breaks;
  no_close = λ cause. refl;
  busy = λ start ps cause. refl;
  no_take = λ q answer. refl;
} where
  breaks : (cause : ChannelFault) → break_of (got.NotSent request cause) ≡ broke_by cause
  breaks (fault.Broke cause) = refl
  breaks (fault.Down cause) = refl
  breaks (fault.BadReply place) = refl
  breaks fault.TooLong = refl
  breaks fault.Full = refl
  breaks fault.Spent = refl
  breaks fault.NoMemory = refl

pub parts_are_submit : (caches : List ℤ) → IsSubmit (ask.SubmitParts caches) (got.NotSentParts caches)
parts_are_submit caches = record {
  sent_may = λ start last ps id is. is;
  refused_may = λ start last ps cause is. (refl, is);
  no_id = λ cause. refl;
  no_bytes = λ cause. refl;
  breaks = breaks;
  no_close = λ cause. refl;
  busy = λ start ps cause. refl;
  no_take = λ q answer. refl;
} where
  breaks : (cause : ChannelFault) → break_of (got.NotSentParts caches cause) ≡ broke_by cause
  breaks (fault.Broke cause) = refl
  breaks (fault.Down cause) = refl
  breaks (fault.BadReply place) = refl
  breaks fault.TooLong = refl
  breaks fault.Full = refl
  breaks fault.Spent = refl
  breaks fault.NoMemory = refl

module _ {L : Type 0} (source : L → SourceState) (sink : L → SinkState) (asks : ChannelAsk) (refused : ChannelFault → GotData) (it : IsSubmit asks refused) where
  abbrev Stands : PendingState → Option L → ChannelStart → List Pair → Type 0
  Stands c link = ChannelStands source sink c link

  -- ---- refused before its frame is written

  quiet : (cause : ChannelFault) → broke_by cause ≡ None → Quiet (asks, refused cause)
  quiet cause none = record {
    no_id = it.no_id cause;
    no_bytes = it.no_bytes cause;
    no_break = it.breaks cause ∙ none;
    no_take = λ q. it.no_take q (refused cause);
    no_close = it.no_close cause;
  }

  outcome_over : (c : PendingState) (link : Option L) (start : ChannelStart) (ps : List Pair) (answer : Result ℤ ChannelFault) (s : Stands c link start ps) (last : List ℕ) → s.bytes ≡ given last ps
      → offered (body_of asks) (next_id c) ≡ answer → outcome start (given last ps) ps asks ≡ answer
  outcome_over c link start ps answer s last are is =
      ap (λ (bytes : List ℕ). outcome start bytes ps asks) (sym are) ∙ outcome_is start s.bytes ps asks c s.keeps ∙ is

  stands_refused : (c : PendingState) (link : Option L) (cause : ChannelFault) → broke_by cause ≡ None → ((start : ChannelStart) (last : List ℕ) (ps : List Pair) → outcome start (given last ps) ps asks ≡ Err cause → Submits start (given last ps) ps asks (Err cause))
      → offered (body_of asks) (next_id c) ≡ Err cause → Gains (Stands c link) (Stands c link) (Some (asks, refused cause))
  stands_refused c link cause none so is start ps s =
      stands_quiet source sink start ps (asks, refused cause) c link (quiet cause none) (it.busy start ps cause) s (λ l e.
      it.refused_may start l ps cause (so start l ps (outcome_over c link start ps (Err cause) s l e is)))

  stands_unsent : (c : PendingState) (link : Option L) (cause : ChannelFault) → OrNoMemory (offered (body_of asks) (next_id c)) cause
      → Gains (Stands c link) (Stands c link) (submit_pair asks refused (Err cause))
  stands_unsent c link (fault.Broke cause) is = absurd (never_broke (body_of asks) c.down c.last c.waiting cause is)
  stands_unsent c link (fault.Down cause) is = stands_refused c link (fault.Down cause) refl (λ start l ps e. e) is
  stands_unsent c link (fault.BadReply place) is = stands_refused c link (fault.BadReply place) refl (λ start l ps e. e) is
  stands_unsent c link fault.TooLong is = stands_refused c link fault.TooLong refl (λ start l ps e. e) is
  stands_unsent c link fault.Full is = stands_refused c link fault.Full refl (λ start l ps e. e) is
  stands_unsent c link fault.Spent is = stands_refused c link fault.Spent refl (λ start l ps e. e) is
  stands_unsent c link fault.NoMemory is = λ start ps s. s

  -- ---- its frame is written

  module _ (c : PendingState) (id : ℤ) (is : offered (body_of asks) (next_id c) ≡ Ok id) where
    open_is : (c.down ≡ None) × (id ≡ pos (c.last + 1))
    open_is = offered_open (body_of asks) c.down c.last c.waiting id is

    module _ (link : Option L) (start : ChannelStart) (ps : List Pair) (s : Stands c link start ps) where
      none : first_break ps ≡ None
      none = sym s.keeps.down ∙ open_is.0

      calls : KeepsCalls (least_of start) (sent ps) (cut (least_of start) s.bytes) (λ q. was_taken q ps) c
      calls = s.keeps.calls none

      one_more : KeepsCalls (least_of start) (sent ps + 1) (cut (least_of start) s.bytes) (λ q. was_taken q ps) (with_call c)
      one_more = keeps_call (least_of start) (sent ps) (cut (least_of start) s.bytes) (λ q. was_taken q ps) c calls

    stands_sent : (k k' : L) → SinkAdvances (sink k) (sink k') (Frame (body_of asks id)) → source k' ≡ source k
        → Gains (Stands c (Some k)) (Stands (with_call c) (Some k')) (Some (asks, got.Sent id))
    stands_sent k k' moves same start ps s = record {
      bytes = s.bytes;
      last = s.last;
      given_are = s.given_are ∙ sym (given_same s.last ps (asks, got.Sent id) refl refl);
      each = λ l e.
          let before : s.bytes ≡ given l ps = e ∙ given_same l ps (asks, got.Sent id) refl refl in
          each_more start l [] ps (asks, got.Sent id) (s.each l before) (it.sent_may start l ps id (outcome_over c (Some k) start ps (Ok id) s l before is));
      keeps = keeps_unbroken start s.bytes (ps ++ (asks, got.Sent id) ∷ []) (with_call c) s.keeps.least (s.keeps.down ∙ sym (first_same ps (asks, got.Sent id) refl)) s.keeps.are_bytes
          (keeps_alike (least_of start) (sent (ps ++ (asks, got.Sent id) ∷ [])) (cut (least_of start) s.bytes) (λ q. was_taken q ps) (λ q. was_taken q (ps ++ (asks, got.Sent id) ∷ [])) (with_call c)
          (λ q. taken_same q ps (asks, got.Sent id) (it.no_take q (got.Sent id)))
          (subst (λ n. KeepsCalls (least_of start) n (cut (least_of start) s.bytes) (λ q. was_taken q ps) (with_call c)) (sym (sent_more ps (asks, got.Sent id))) (one_more (Some k) start ps s)));
      link_is = (
        closed_same ps (asks, got.Sent id) refl ∙ s.link_is.0,
        subst (SourceIs start s.bytes (ps ++ (asks, got.Sent id) ∷ [])) (sym same) (source_same start s.bytes ps (asks, got.Sent id) (source k) refl refl refl s.link_is.1),
        sink_sent start ps (asks, got.Sent id) id (sink k) (sink k') (none (Some k) start ps s) refl refl moves s.link_is.2,
      );
    }

    stands_broken : (k k' : L) (count : ℕ) → SentPart count (sink k) (sink k') (Frame (body_of asks id)) → source k' ≡ source k
        → Gains (Stands c (Some k)) (Stands (broken WriteFault (with_call c)) (Some k')) (Some (asks, refused (fault.Broke WriteFault)))
    stands_broken k k' count sends same start ps s = record {
      bytes = s.bytes;
      last = s.last;
      given_are = s.given_are ∙ sym (given_then s.last);
      each = λ l e.
          let before : s.bytes ≡ given l ps = e ∙ given_then l in
          let made : outcome start (given l ps) ps asks ≡ Ok id = outcome_over c (Some k) start ps (Ok id) s l before is in
          each_more start l [] ps (asks, refused (fault.Broke WriteFault)) (s.each l before)
          (it.refused_may start l ps (fault.Broke WriteFault) (subst IsOk (sym made) refl, failed));
      keeps = record {
        least = s.keeps.least;
        down = sym breaks;
        replies = λ q.
            replies_kept (least_of start) (sent ps + 1) (cut (least_of start) s.bytes) (λ i. was_taken i ps) (with_call c) (one_more (Some k) start ps s) q
            ∙ ap (λ (l : List (List ℕ)). reply_among l (was_taken q ps) q) (sym (calls (Some k) start ps s).all_asked)
            ∙ sym (ap (λ n. reply_among (asked n (cut (least_of start) s.bytes).bodies) (was_taken q (ps ++ (asks, refused (fault.Broke WriteFault)) ∷ [])) q) (sent_same ps (asks, refused (fault.Broke WriteFault)) (it.no_id (fault.Broke WriteFault)))
            ∙ ap (λ b. reply_among (filed_bodies start s.bytes ps) b q) (taken_same q ps (asks, refused (fault.Broke WriteFault)) (it.no_take q (refused (fault.Broke WriteFault)))));
        calls = λ still. let both : Some WriteFault ≡ None = sym breaks ∙ still in cc;
        are_bytes = s.keeps.are_bytes;
      };
      link_is = (
        closed_same ps (asks, refused (fault.Broke WriteFault)) (it.no_close (fault.Broke WriteFault)) ∙ s.link_is.0,
        subst (SourceIs start s.bytes (ps ++ (asks, refused (fault.Broke WriteFault)) ∷ [])) (sym same)
            (source_same start s.bytes ps (asks, refused (fault.Broke WriteFault)) (source k) (ap (breaks_by is_read_fault) its_break) (ap (breaks_by is_end) its_break) (it.busy start ps (fault.Broke WriteFault)) s.link_is.1),
        sink_broke start ps (asks, refused (fault.Broke WriteFault)) count (sink k) (sink k') unbroken its_break (it.no_id (fault.Broke WriteFault))
            (subst (λ i. SentPart count (sink k) (sink k') (Frame (body_of asks i))) (open_is.1 ∙ ap (λ n. pos (n + 1)) (calls (Some k) start ps s).last_is) sends) s.link_is.2,
      );
    } where
      unbroken : first_break ps ≡ None
      unbroken = none (Some k) start ps s

      its_break : break_of (refused (fault.Broke WriteFault)) ≡ Some WriteFault
      its_break = it.breaks (fault.Broke WriteFault)

      breaks : first_break (ps ++ (asks, refused (fault.Broke WriteFault)) ∷ []) ≡ Some WriteFault
      breaks = first_now ps (asks, refused (fault.Broke WriteFault)) WriteFault unbroken its_break

      given_then : (l : List ℕ) → given l (ps ++ (asks, refused (fault.Broke WriteFault)) ∷ []) ≡ given l ps
      given_then l =
          given_is l (ps ++ (asks, refused (fault.Broke WriteFault)) ∷ []) (Some WriteFault) (pumped ps) breaks (pumped_same ps (asks, refused (fault.Broke WriteFault)) (it.no_bytes (fault.Broke WriteFault)))
          ∙ sym (given_is l ps None (pumped ps) unbroken refl)

      failed : start.writes_hold ≡ false
      failed = holds_not start.writes_hold s.link_is.2.holds where
        holds_not : (b : Bool) → (b ≡ true → (sink k).holds ≡ true) → b ≡ false
        holds_not true so = absurd (false≢true (sym sends.holds_not ∙ so refl))
        holds_not false so = refl

    -- the link is there while the channel hasn't broken
    stands_retired : Gains (Stands c None) (Stands (with_call c) None) (Some (asks, refused (fault.Down Closed)))
    stands_retired start ps s = absurd (false≢true (sym (open_is_unclosed ps (none None start ps s)) ∙ s.link_is))

    stands_written : (k k' : L) (new : PendingState) (answer : Result ℤ ChannelFault) → source k' ≡ source k
        → steps.Sends id (Frame (body_of asks id)) (with_call c) new (sink k) (sink k') answer
        → Gains (Stands c (Some k)) (Stands new (Some k')) (submit_pair asks refused answer)
    stands_written k k' new (Ok given) same sends =
        subst (λ (n : PendingState). Gains (Stands c (Some k)) (Stands n (Some k')) (Some (asks, got.Sent given))) (sym sends.1)
        (subst (λ i. Gains (Stands c (Some k)) (Stands (with_call c) (Some k')) (Some (asks, got.Sent i))) (sym sends.0) (stands_sent k k' sends.2 same))
    stands_written k k' new (Err cause) same sends =
        subst (λ (n : PendingState). Gains (Stands c (Some k)) (Stands n (Some k')) (submit_pair asks refused (Err cause))) (sym sends.1)
        (subst (λ (f : ChannelFault). Gains (Stands c (Some k)) (Stands (broken WriteFault (with_call c)) (Some k')) (submit_pair asks refused (Err f))) (sym sends.0)
        (stands_broken k k' sends.2.0 sends.2.1 same))

    stands_offered : (link link' : Option L) (new : PendingState) (answer : Result ℤ ChannelFault) → steps.SameSource source link link'
        → steps.LinkSends sink id (Frame (body_of asks id)) (with_call c) new link link' answer
        → Gains (Stands c link) (Stands new link') (submit_pair asks refused answer)
    stands_offered (Some k) (Some k') new answer same sends = stands_written k k' new answer same sends
    stands_offered (Some k) None new answer same sends = absurd sends
    stands_offered None (Some k') new answer same sends = absurd sends
    stands_offered None None new answer same sends =
        subst (λ (n : PendingState). Gains (Stands c None) (Stands n None) (submit_pair asks refused answer)) (sym sends.0)
        (subst (λ (r : Result ℤ ChannelFault). Gains (Stands c None) (Stands (with_call c) None) (submit_pair asks refused r)) (sym sends.1) stands_retired)

  pub stands_submit : (old new : PendingState) (link link' : Option L) (answer : Result ℤ ChannelFault) → steps.SameSource source link link'
      → steps.Submits sink (body_of asks) old new link link' answer → Gains (Stands old link) (Stands new link') (submit_pair asks refused answer)
  stands_submit old new link link' answer same (inl refusal) =
      subst (λ (n : PendingState). Gains (Stands old link) (Stands n link') (submit_pair asks refused answer)) (sym refusal.2)
      (subst (λ (l : Option L). Gains (Stands old link) (Stands old l) (submit_pair asks refused answer)) (sym refusal.3)
      (subst (λ (r : Result ℤ ChannelFault). Gains (Stands old link) (Stands old link) (submit_pair asks refused r)) (sym refusal.1)
      (stands_unsent old link refusal.0 refusal.4)))
  stands_submit old new link link' answer same (inr sends) =
      stands_offered old sends.0 sends.1 link link' new answer same sends.2
