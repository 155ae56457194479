-- What a channel stands for after a pair that leaves its meaning as it was, after a submit, a take and a close.
use Rattle.std.proofs.Common.{◌≡◌, cond, ℕ, ◌+◌, ◌-◌, ◌^◌, ◌≤◌, ◌<◌, ◌⊎◌, ℤ, pos, Bool, true, false, ◌||◌, List, [], ◌∷◌, ◌++◌, length, Option, None, Some, Result, Ok, Err, inl, inr, refl, sym, ap, subst, ◌∙◌, arith, append-nil}
use Rattle.std.proofs.lemmas.Bool.{cond-true, cond-false, cases_Bool, false≢true}
use Rattle.std.proofs.Math.Bool.{or-false}
use Rattle.std.specs.Prelude.{nat_lt, nat_le}
use Rattle.std.specs.Ordering.{int_eq}
use Rattle.std.specs.Option.{option_or}
use Rattle.ig_base.specs.Numbers.{AreBytes}
use Rattle.ig_base.specs.Frames.{Frame, max_body}
use Rattle.ig_link.specs.States.{SourceState, SinkState, SinkAdvances}
use Rattle.ig_link.specs.WritesAs.{SentPart}
use Rattle.ig_link.specs.Shows.{Shows}
use Rattle.ig_link.specs.declared.link.Retired.{Retired}
use Rattle.ig_wire.specs.Limits.{most_pending_calls}
use Rattle.ig_client.specs.PendingState.{PendingState, OrNoMemory, offered, next_after, next_id, last_id, with_call, broken, with_room, after_take, reply_to, left_by}
use Rattle.ig_client.specs.Cutting.{Cutting, cut, asked}
use Rattle.ig_client.specs.Pairs.{Pair, GotData, sent, sent_bytes, pumped, first_break, break_of, bytes_of, id_given, one_if, body_of, breaks_by, is_read_fault, is_write_fault, is_end, is_of_frames, takes, was_taken, closes, was_closed}
use Rattle.ig_client.specs.LinkSince.{ShownSince, idle}
use Rattle.ig_client.specs.ChannelRun.{Submits, MayFollow, EachFollows, given, least_of, outcome, pending, reply_among, filed_bodies}
use Rattle.ig_client.specs.Stands.{KeepsCalls, Keeps, SourceIs, SinkIs, LinkStands, ChannelStands, Gains, submit_pair}
use Rattle.ig_client.specs.Steps as steps
use Rattle.ig_client.specs.declared.fault.Break.{Break}
use Rattle.ig_client.specs.declared.fault.Break.TheVariants.{WriteFault, Closed}
use Rattle.ig_client.specs.declared.fault.ChannelFault.{ChannelFault}
use Rattle.ig_client.specs.declared.fault.ChannelFault.TheVariants as fault
use Rattle.ig_client.specs.declared.ask.ChannelAsk.{ChannelAsk}
use Rattle.ig_client.specs.declared.ask.ChannelAsk.TheVariants as ask
use Rattle.ig_client.specs.declared.ask.ChannelGot.TheVariants as got
use Rattle.ig_client.specs.declared.ask.ChannelStart.{ChannelStart}
use Rattle.ig_client.proofs.PairLemmas.{sent_more, pumped_more, either_none, first_break_more, taken_more, closed_more, open_is_unclosed, given_open, given_is, each_more}
use Rattle.ig_client.proofs.KeepLemmas.{replies_kept, keeps_call, keeps_take, keeps_alike, replies_after}
use Rattle.ig_client.proofs.LinkLemmas.{source_same, sink_same, sink_sent, sink_broke, shown_since}

-- ---- a pair that tells nothing new

pub record Quiet (p : Pair) : Type 0 where
  pub no_id : id_given p.1 ≡ None
  pub no_bytes : bytes_of p.1 ≡ []
  pub no_break : break_of p.1 ≡ None
  pub no_take : (q : ℤ) → takes q p.0 p.1 ≡ false
  pub no_close : closes p.1 ≡ false

pub sent_same : (ps : List Pair) (p : Pair) → id_given p.1 ≡ None → sent (ps ++ p ∷ []) ≡ sent ps
sent_same ps p no_id = sent_more ps p ∙ ap (λ o. sent ps + one_if o) no_id ∙ omega arith

pub first_same : (ps : List Pair) (p : Pair) → break_of p.1 ≡ None → first_break (ps ++ p ∷ []) ≡ first_break ps
first_same ps p no_break = first_break_more ps p ∙ ap (option_or (first_break ps)) no_break ∙ either_none (first_break ps)

pub first_now : (ps : List Pair) (p : Pair) (cause : Break) → first_break ps ≡ None → break_of p.1 ≡ Some cause → first_break (ps ++ p ∷ []) ≡ Some cause
first_now ps p cause none breaks = first_break_more ps p ∙ ap (λ b. option_or b (break_of p.1)) none ∙ breaks

pub pumped_same : (ps : List Pair) (p : Pair) → bytes_of p.1 ≡ [] → pumped (ps ++ p ∷ []) ≡ pumped ps
pumped_same ps p no_bytes = pumped_more ps p ∙ ap (λ (l : List ℕ). pumped ps ++ l) no_bytes ∙ append-nil (pumped ps)

pub taken_same : (q : ℤ) (ps : List Pair) (p : Pair) → takes q p.0 p.1 ≡ false → was_taken q (ps ++ p ∷ []) ≡ was_taken q ps
taken_same q ps p no_take = taken_more q ps p ∙ ap (λ b. was_taken q ps || b) no_take ∙ or-false (was_taken q ps)

pub closed_same : (ps : List Pair) (p : Pair) → closes p.1 ≡ false → was_closed (ps ++ p ∷ []) ≡ was_closed ps
closed_same ps p no_close = closed_more ps p ∙ ap (λ b. was_closed ps || b) no_close ∙ or-false (was_closed ps)

pub given_same : (last : List ℕ) (ps : List Pair) (p : Pair) → break_of p.1 ≡ None → bytes_of p.1 ≡ [] → given last (ps ++ p ∷ []) ≡ given last ps
given_same last ps p no_break no_bytes =
    given_is last (ps ++ p ∷ []) (first_break ps) (pumped ps) (first_same ps p no_break) (pumped_same ps p no_bytes)

-- what is kept until the channel broke
pub keeps_unbroken : (start : ChannelStart) (bytes : List ℕ) (ps : List Pair) (c : PendingState) → c.least ≡ least_of start → c.down ≡ first_break ps → AreBytes bytes
    → KeepsCalls (least_of start) (sent ps) (cut (least_of start) bytes) (λ id. was_taken id ps) c → Keeps start bytes ps c
keeps_unbroken start bytes ps c least down are k = record {
  least = least;
  down = down;
  replies = λ q.
      replies_kept (least_of start) (sent ps) (cut (least_of start) bytes) (λ id. was_taken id ps) c k q
      ∙ ap (λ (l : List (List ℕ)). reply_among l (was_taken q ps) q) (sym k.all_asked);
  calls = λ none. k;
  are_bytes = are;
}

pub keeps_quiet : (start : ChannelStart) (bytes : List ℕ) (ps : List Pair) (p : Pair) (c : PendingState) → Quiet p → Keeps start bytes ps c → Keeps start bytes (ps ++ p ∷ []) c
keeps_quiet start bytes ps p c quiet k = record {
  least = k.least;
  down = k.down ∙ sym (first_same ps p quiet.no_break);
  replies = λ q.
      k.replies q
      ∙ sym (ap (λ n. reply_among (asked n (cut (least_of start) bytes).bodies) (was_taken q (ps ++ p ∷ [])) q) (sent_same ps p quiet.no_id)
      ∙ ap (λ b. reply_among (asked (sent ps) (cut (least_of start) bytes).bodies) b q) (taken_same q ps p (quiet.no_take q)));
  calls = λ none.
      keeps_alike (least_of start) (sent (ps ++ p ∷ [])) (cut (least_of start) bytes) (λ q. was_taken q ps) (λ q. was_taken q (ps ++ p ∷ [])) c
      (λ q. taken_same q ps p (quiet.no_take q))
      (subst (λ n. KeepsCalls (least_of start) n (cut (least_of start) bytes) (λ q. was_taken q ps) c) (sym (sent_same ps p quiet.no_id))
      (k.calls (sym (first_same ps p quiet.no_break) ∙ none)));
  are_bytes = k.are_bytes;
}

-- where there is room for more bytes nothing else changes
pub keeps_room : (start : ChannelStart) (bytes : List ℕ) (ps : List Pair) (c : PendingState) → Keeps start bytes ps c → Keeps start bytes ps (with_room c)
keeps_room start bytes ps c k = record {
  least = k.least;
  down = k.down;
  replies = k.replies;
  calls = λ none.
      let old = k.calls none in
      record {
        last_is = old.last_is;
        waiting = old.waiting;
        calls = old.calls;
        all_asked = old.all_asked;
        took = old.took;
        place = old.place;
        part = old.part;
        missing = old.missing;
      };
  are_bytes = k.are_bytes;
}

module _ {L : Type 0} (source : L → SourceState) (sink : L → SinkState) where
  -- after a quiet pair the link is as it was
  pub link_quiet : (start : ChannelStart) (bytes : List ℕ) (ps : List Pair) (p : Pair) (link : Option L) → Quiet p → idle start ps p.1 ≡ 0
      → LinkStands source sink start bytes ps link → LinkStands source sink start bytes (ps ++ p ∷ []) link
  link_quiet start bytes ps p (Some k) quiet busy is = (
    closed_same ps p quiet.no_close ∙ is.0,
    source_same start bytes ps p (source k) (ap (breaks_by is_read_fault) quiet.no_break) (ap (breaks_by is_end) quiet.no_break) busy is.1,
    sink_same start ps p (sink k) (ap (breaks_by is_write_fault) quiet.no_break) quiet.no_id is.2,
  )
  link_quiet start bytes ps p None quiet busy is = closed_same ps p quiet.no_close ∙ is

  -- a pair that tells nothing new, over whatever the link is now
  pub stands_over : (start : ChannelStart) (ps : List Pair) (p : Pair) (old new : PendingState) (link link' : Option L) → Quiet p
      → (s : ChannelStands source sink old link start ps) → ((l : List ℕ) → s.bytes ≡ given l ps → MayFollow start l ps p.0 p.1)
      → Keeps start s.bytes ps new → LinkStands source sink start s.bytes (ps ++ p ∷ []) link' → ChannelStands source sink new link' start (ps ++ p ∷ [])
  stands_over start ps p old new link link' quiet s may keeps is = record {
    bytes = s.bytes;
    last = s.last;
    given_are = s.given_are ∙ sym (given_same s.last ps p quiet.no_break quiet.no_bytes);
    each = λ l e.
        let before : s.bytes ≡ given l ps = e ∙ given_same l ps p quiet.no_break quiet.no_bytes in
        each_more start l [] ps p (s.each l before) (may l before);
    keeps = keeps_quiet start s.bytes ps p new quiet keeps;
    link_is = is;
  }

  pub stands_quiet : (start : ChannelStart) (ps : List Pair) (p : Pair) (c : PendingState) (link : Option L) → Quiet p → idle start ps p.1 ≡ 0
      → (s : ChannelStands source sink c link start ps) → ((l : List ℕ) → s.bytes ≡ given l ps → MayFollow start l ps p.0 p.1)
      → ChannelStands source sink c link start (ps ++ p ∷ [])
  stands_quiet start ps p c link quiet busy s may =
      stands_over start ps p c c link link quiet s may s.keeps (link_quiet start s.bytes ps p link quiet busy s.link_is)

  -- ---- a take

  pub stands_take : (id : ℤ) (c : PendingState) (link : Option L) (reply : Option (List ℕ)) → reply_to id c ≡ reply
      → Gains (ChannelStands source sink c link) (ChannelStands source sink (after_take id c) link) (Some (ask.Take id, got.Taken reply))
  stands_take id c link None is start ps s =
      let p : Pair = (ask.Take id, got.Taken None) in
      let quiet : Quiet p = record { no_id = refl; no_bytes = refl; no_break = refl; no_take = λ q. refl; no_close = refl } in
      subst (λ (r : Option (List ℕ)). ChannelStands source sink (record c { replies = left_by id r c.replies }) link start (ps ++ p ∷ [])) (sym is)
      (stands_quiet start ps p c link quiet refl s (λ l e.
      sym is ∙ s.keeps.replies id ∙ ap (λ (bytes : List ℕ). reply_among (filed_bodies start bytes ps) (was_taken id ps) id) e))
  stands_take id c link (Some frame) is start ps s = record {
    bytes = s.bytes;
    last = s.last;
    given_are = s.given_are ∙ sym (given_same s.last ps (ask.Take id, got.Taken (Some frame)) refl refl);
    each = λ l e.
        let before : s.bytes ≡ given l ps = e ∙ given_same l ps (ask.Take id, got.Taken (Some frame)) refl refl in
        each_more start l [] ps (ask.Take id, got.Taken (Some frame)) (s.each l before)
        (sym is ∙ s.keeps.replies id ∙ ap (λ (bytes : List ℕ). reply_among (filed_bodies start bytes ps) (was_taken id ps) id) before);
    keeps = record {
      least = s.keeps.least;
      down = s.keeps.down ∙ sym (first_same ps (ask.Take id, got.Taken (Some frame)) refl);
      replies = λ q.
          replies_after (filed_bodies start s.bytes ps) (λ i. was_taken i ps) c id frame is s.keeps.replies q
          ∙ sym (ap (λ n. reply_among (asked n (cut (least_of start) s.bytes).bodies) (was_taken q (ps ++ (ask.Take id, got.Taken (Some frame)) ∷ [])) q) (sent_same ps (ask.Take id, got.Taken (Some frame)) refl)
          ∙ ap (λ b. reply_among (filed_bodies start s.bytes ps) b q) (taken_more q ps (ask.Take id, got.Taken (Some frame))));
      calls = λ none.
          keeps_alike (least_of start) (sent (ps ++ (ask.Take id, got.Taken (Some frame)) ∷ [])) (cut (least_of start) s.bytes) (λ q. was_taken q ps || int_eq id q) (λ q. was_taken q (ps ++ (ask.Take id, got.Taken (Some frame)) ∷ [])) (after_take id c)
          (λ q. taken_more q ps (ask.Take id, got.Taken (Some frame)))
          (subst (λ n. KeepsCalls (least_of start) n (cut (least_of start) s.bytes) (λ q. was_taken q ps || int_eq id q) (after_take id c)) (sym (sent_same ps (ask.Take id, got.Taken (Some frame)) refl))
          (keeps_take (least_of start) (sent ps) (cut (least_of start) s.bytes) (λ q. was_taken q ps) c (s.keeps.calls (sym (first_same ps (ask.Take id, got.Taken (Some frame)) refl) ∙ none)) id frame is));
      are_bytes = s.keeps.are_bytes;
    };
    link_is = link_same link s.link_is;
  } where
    link_same : (link : Option L) → LinkStands source sink start s.bytes ps link → LinkStands source sink start s.bytes (ps ++ (ask.Take id, got.Taken (Some frame)) ∷ []) link
    link_same (Some k) h = (
      closed_same ps (ask.Take id, got.Taken (Some frame)) refl ∙ h.0,
      source_same start s.bytes ps (ask.Take id, got.Taken (Some frame)) (source k) refl refl refl h.1,
      sink_same start ps (ask.Take id, got.Taken (Some frame)) (sink k) refl refl h.2,
    )
    link_same None h = closed_same ps (ask.Take id, got.Taken (Some frame)) refl ∙ h

  -- ---- a close

  -- the first close of a channel retires its link
  pub stands_close : (c new : PendingState) (link : L) (shown : Retired) → Shows (source link) (sink link) shown
      → (c.down ≡ None → new ≡ broken Closed c) → ((cause : Break) → c.down ≡ Some cause → new ≡ c)
      → Gains (ChannelStands source sink c (Some link)) (ChannelStands source sink new None) (Some (ask.Close, got.Closed (Some shown)))
  stands_close c new link shown shows first later start ps s = record {
    bytes = s.bytes;
    last = s.last;
    given_are = s.given_are ∙ sym (given_then s.last);
    each = λ l e.
        let before : s.bytes ≡ given l ps = e ∙ given_then l in
        each_more start l [] ps (ask.Close, got.Closed (Some shown)) (s.each l before) (
          s.link_is.0,
          subst (λ (bytes : List ℕ). ShownSince start shown bytes ps) before
              (shown_since start s.bytes ps (source link) (sink link) shown s.link_is.1 s.link_is.2 shows),
        );
    keeps = kept c.down refl;
    link_is = closed_more ps (ask.Close, got.Closed (Some shown)) ∙ or_true (was_closed ps);
  } where
    or_true : (b : Bool) → (b || true) ≡ true
    or_true true = refl
    or_true false = refl

    of_frames : (b : Option Break) → is_of_frames (option_or b (Some Closed)) ≡ is_of_frames b
    of_frames None = refl
    of_frames (Some cause) = refl

    given_then : (l : List ℕ) → given l (ps ++ (ask.Close, got.Closed (Some shown)) ∷ []) ≡ given l ps
    given_then l =
        given_is l (ps ++ (ask.Close, got.Closed (Some shown)) ∷ []) (option_or (first_break ps) (Some Closed)) (pumped ps) (first_break_more ps (ask.Close, got.Closed (Some shown))) (pumped_same ps (ask.Close, got.Closed (Some shown)) refl)
        ∙ ap (λ b. cond b (pumped ps ++ l) (pumped ps)) (of_frames (first_break ps))

    replies_then : (q : ℤ) → reply_to q c ≡ reply_among (filed_bodies start s.bytes (ps ++ (ask.Close, got.Closed (Some shown)) ∷ [])) (was_taken q (ps ++ (ask.Close, got.Closed (Some shown)) ∷ [])) q
    replies_then q =
        s.keeps.replies q
        ∙ sym (ap (λ n. reply_among (asked n (cut (least_of start) s.bytes).bodies) (was_taken q (ps ++ (ask.Close, got.Closed (Some shown)) ∷ [])) q) (sent_same ps (ask.Close, got.Closed (Some shown)) refl)
        ∙ ap (λ b. reply_among (filed_bodies start s.bytes ps) b q) (taken_same q ps (ask.Close, got.Closed (Some shown)) refl))

    never : (cause : Break) → first_break (ps ++ (ask.Close, got.Closed (Some shown)) ∷ []) ≡ Some cause → first_break (ps ++ (ask.Close, got.Closed (Some shown)) ∷ []) ≡ None
        → KeepsCalls (least_of start) (sent (ps ++ (ask.Close, got.Closed (Some shown)) ∷ [])) (cut (least_of start) s.bytes) (λ id. was_taken id (ps ++ (ask.Close, got.Closed (Some shown)) ∷ [])) new
    never cause some none = let both : Some cause ≡ None = sym some ∙ none in cc

    kept : (d : Option Break) → c.down ≡ d → Keeps start s.bytes (ps ++ (ask.Close, got.Closed (Some shown)) ∷ []) new
    kept None is =
        let now : new ≡ broken Closed c = first is in
        let breaks : first_break (ps ++ (ask.Close, got.Closed (Some shown)) ∷ []) ≡ Some Closed = first_now ps (ask.Close, got.Closed (Some shown)) Closed (sym s.keeps.down ∙ is) refl in
        record {
          least = ap (λ (n : PendingState). n.least) now ∙ s.keeps.least;
          down = ap (λ (n : PendingState). n.down) now ∙ sym breaks;
          replies = λ q. ap (reply_to q) now ∙ replies_then q;
          calls = never Closed breaks;
          are_bytes = s.keeps.are_bytes;
        }
    kept (Some cause) is =
        let now : new ≡ c = later cause is in
        let breaks : first_break (ps ++ (ask.Close, got.Closed (Some shown)) ∷ []) ≡ Some cause = first_break_more ps (ask.Close, got.Closed (Some shown)) ∙ ap (λ b. option_or b (Some Closed)) (sym s.keeps.down ∙ is) in
        record {
          least = ap (λ (n : PendingState). n.least) now ∙ s.keeps.least;
          down = ap (λ (n : PendingState). n.down) now ∙ is ∙ sym breaks;
          replies = λ q. ap (reply_to q) now ∙ replies_then q;
          calls = never cause breaks;
          are_bytes = s.keeps.are_bytes;
        }

  -- a later one finds nothing to retire
  pub stands_closed : (c : PendingState) → Gains (ChannelStands source sink c None) (ChannelStands source sink c None) (Some (ask.Close, got.Closed None))
  stands_closed c start ps s =
      let p : Pair = (ask.Close, got.Closed None) in
      let quiet : Quiet p = record { no_id = refl; no_bytes = refl; no_break = refl; no_take = λ q. refl; no_close = refl } in
      stands_quiet start ps p c None quiet refl s (λ l e. s.link_is)
