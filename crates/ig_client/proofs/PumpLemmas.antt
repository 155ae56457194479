-- What a channel stands for after a pump.
use Rattle.std.proofs.Common.{◌≡◌, cond, ℕ, ◌+◌, ◌-◌, ◌^◌, ◌<◌, ◌≤◌, ◌⊎◌, ℤ, pos, Bool, true, false, ◌||◌, List, [], ◌∷◌, ◌++◌, length, min, take, drop, Option, None, Some, Result, Ok, Err, inl, inr, refl, sym, ap, subst, ◌∙◌, arith, append-nil, length-take-le}
use Rattle.std.proofs.lemmas.Bool.{false≢true, false_from_ne_true, cond-true, cond-false, leb-true, ltb-true}
use Rattle.std.proofs.lemmas.List.{append_cancel_left}
use Rattle.std.specs.Prelude.{nat_lt}
use Rattle.std.proofs.KnownBytes.{Consumes-trans}
use Rattle.std.proofs.Math.Seq.{take-append_seam}
use Rattle.std.specs.Result.{IsErr, IsErrAnd}
use Rattle.std.specs.FinMap as map
use Rattle.std.specs.Io.KnownBytes.{Consumes}
use Rattle.std.specs.List.{flat_map}
use Rattle.ig_base.specs.Numbers.{AreBytes}
use Rattle.ig_base.specs.Frames.{Frame, Front, Body, Bad, Incomplete, front, max_body}
use Rattle.ig_base.proofs.FrameLemmas.{front-reads}
use Rattle.ig_link.specs.States.{SourceState, SinkState, SourceAdvances, Rose}
use Rattle.ig_link.specs.ReadsAs.{ReadSome, ReadEnd, ReadFault}
use Rattle.ig_link.specs.ReadsNowAs.{ReadPause, ReadsNowAs}
use Rattle.ig_link.specs.declared.link.TakeNow.{TakeNow}
use Rattle.ig_link.specs.declared.link.TakeNow.TheVariants as now
use Rattle.ig_client.specs.PendingState.{PendingState, next_read, missing_of, with_room, with_bytes, with_front, with_reply, filed, broken, reply_to, is_waiting, id_of}
use Rattle.ig_client.specs.Cutting.{Cutting, cut, with_rest, asked, is_pending}
use Rattle.ig_client.specs.Pairs.{Pair, sent, pumped, first_break, break_of, id_given, breaks_by, is_read_fault, is_write_fault, is_end, is_of_frames, was_taken, was_closed}
use Rattle.ig_client.specs.LinkSince.{idle}
use Rattle.ig_client.specs.ChannelRun.{AllAsked, IsUnasked, IsNotBad, IsGiven, Waits, PumpBreaks, Pumps, MayFollow, given, least_of, pending, reply_among, filed_bodies}
use Rattle.ig_client.specs.Stands.{KeepsCalls, Keeps, SourceIs, SinkIs, LinkStands, ChannelStands, Gains, pump_pair}
use Rattle.ig_client.specs.Steps as steps
use Rattle.ig_client.specs.declared.fault.Break.{Break}
use Rattle.ig_client.specs.declared.fault.Break.TheVariants as break
use Rattle.ig_client.specs.declared.fault.ChannelFault.{ChannelFault}
use Rattle.ig_client.specs.declared.fault.ChannelFault.TheVariants as fault
use Rattle.ig_client.specs.declared.ask.ChannelAsk.TheVariants as ask
use Rattle.ig_client.specs.declared.ask.ChannelGot.TheVariants as got
use Rattle.ig_client.specs.declared.ask.ChannelStart.{ChannelStart}
use Rattle.ig_client.proofs.BytesLemmas.{are_last, are_both, are_taken}
use Rattle.ig_client.proofs.CutLemmas.{cut_more, ends_whole, cuts_rightly}
use Rattle.ig_client.proofs.AskedLemmas.{asked_stops}
use Rattle.ig_client.proofs.PairLemmas.{pumped_more, open_is_unclosed, given_open, given_is, each_more}
use Rattle.ig_client.proofs.KeepLemmas.{replies_kept, waits_kept, keeps_part, keeps_reply, keeps_alike}
use Rattle.ig_client.proofs.LinkLemmas.{source_read, sink_same, given_of, given_all}
use Rattle.ig_client.proofs.StandLemmas.{Quiet, sent_same, first_same, first_now, pumped_same, taken_same, closed_same, given_same, keeps_unbroken, keeps_room, link_quiet, stands_over, stands_quiet}

-- ---- the bytes of a frame that is being read

-- the front of the bytes after the last frame and a piece more
abbrev front_with : ℕ → Cutting → List ℕ → Front
front_with least stream piece = front least max_body (stream.rest ++ piece)

-- the channel after a frame with this body, if its call waits or if it doesn't
abbrev by_call : Bool → List ℕ → PendingState → PendingState
by_call b body c = cond b (with_reply (id_of body) c) (broken (break.Unasked (id_of body)) c)

-- what is kept then
abbrev Kept : (least n : ℕ) → Cutting → (ℤ → Bool) → PendingState → List ℕ → List ℕ → Bool → List ℕ → Type 0
Kept least n stream taken c piece body b rest =
    KeepsCalls least n (record { bodies = stream.bodies ++ body ∷ []; rest = rest }) taken (by_call b body (with_bytes piece c))

-- where the channel doesn't break by a piece, what it keeps grows as the stream's cut does
filed_calls : (least n : ℕ) (stream : Cutting) (taken : ℤ → Bool) (c : PendingState) (piece : List ℕ) (f : Front) → KeepsCalls least n stream taken c
    → c.down ≡ None → 1 ≤ c.waiting → AreBytes (stream.rest ++ piece)
    → ((body rest : List ℕ) → front_with least stream piece ≡ Body body rest → rest ≡ [])
    → front_with least stream piece ≡ f → (with_front f (with_bytes piece c)).down ≡ None
    → KeepsCalls least n (with_rest stream.bodies (stream.rest ++ piece) f) taken (with_front f (with_bytes piece c))
filed_calls least n stream taken c piece (Incomplete missing) k up some are whole at still = keeps_part least n stream taken c k piece missing at
filed_calls least n stream taken c piece (Bad z) k up some are whole at still = cc
filed_calls least n stream taken c piece (Body body rest) k up some are whole at still = go (is_waiting (map.get c.replies (id_of body))) refl where
  none : rest ≡ []
  none = whole body rest at

  spelled : c.part ++ piece ≡ Frame body
  spelled =
      ap (λ (l : List ℕ). l ++ piece) k.part ∙ (front-reads least max_body (stream.rest ++ piece) body rest are at).1
      ∙ ap (λ (l : List ℕ). Frame body ++ l) none ∙ append-nil (Frame body)

  go : (b : Bool) → is_waiting (map.get c.replies (id_of body)) ≡ b → Kept least n stream taken c piece body (is_waiting (map.get c.replies (id_of body))) rest
  go true waits =
      subst (λ b. Kept least n stream taken c piece body b rest) (sym waits) (subst (Kept least n stream taken c piece body true) (sym none)
      (keeps_reply least n stream taken c k piece body spelled some (sym (waits_kept least n stream taken c k (id_of body)) ∙ waits)))
  go false unasked =
      let broke : Some (break.Unasked (id_of body)) ≡ None =
      sym (ap (λ b. (cond b (with_reply (id_of body) (with_bytes piece c)) (broken (break.Unasked (id_of body)) (with_bytes piece c))).down) unasked) ∙ still in
      cc

module _ {L : Type 0} (source : L → SourceState) (sink : L → SinkState) where
  abbrev Stands : PendingState → Option L → ChannelStart → List Pair → Type 0
  Stands c link = ChannelStands source sink c link

  -- ---- nothing is read

  pub stands_down : (c : PendingState) (link : Option L) (cause : Break) → c.down ≡ Some cause → Gains (Stands c link) (Stands c link) (Some (ask.Pump, got.NotPumped (fault.Down cause)))
  stands_down c link cause is start ps s =
      stands_quiet source sink start ps (ask.Pump, got.NotPumped (fault.Down cause)) c link
      (record { no_id = refl; no_bytes = refl; no_break = refl; no_take = λ q. refl; no_close = refl }) refl s (λ l e. sym s.keeps.down ∙ is)

  pub stands_room : (c : PendingState) (link : Option L) (start : ChannelStart) (ps : List Pair) → Stands c link start ps → Stands (with_room c) link start ps
  stands_room c link start ps s = record {
    bytes = s.bytes;
    last = s.last;
    given_are = s.given_are;
    each = s.each;
    keeps = keeps_room start s.bytes ps c s.keeps;
    link_is = s.link_is;
  }

  nothing_is_quiet : Quiet (ask.Pump, got.Pumped [])
  nothing_is_quiet = record { no_id = refl; no_bytes = refl; no_break = refl; no_take = λ q. refl; no_close = refl }

  may_give_nothing : (c : PendingState) (k : L) (start : ChannelStart) (ps : List Pair) (s : Stands c (Some k) start ps) → c.down ≡ None
      → (l : List ℕ) → s.bytes ≡ given l ps → Pumps start l ps (Ok [])
  may_give_nothing c k start ps s up l e =
      let none : first_break ps ≡ None = sym s.keeps.down ∙ up in
      let calls : KeepsCalls (least_of start) (sent ps) (cut (least_of start) s.bytes) (λ q. was_taken q ps) c = s.keeps.calls none in
      let are : s.bytes ≡ pumped ps ++ [] = e ∙ given_open l ps none ∙ sym (append-nil (pumped ps)) in
      subst (λ (bytes : List ℕ). (first_break ps ≡ None) × (pending start (given l ps) ps ≡ 0 → ◌≡◌ {A = List ℕ} [] []) × AllAsked (sent ps) (cut (least_of start) bytes)
      × IsNotBad (front (least_of start) max_body (cut (least_of start) bytes).rest) × IsGiven start.left bytes) are (
        none,
        λ _. refl,
        calls.all_asked,
        subst IsNotBad (sym calls.missing.1) tt,
        given_of start.left (source k).left s.bytes s.link_is.1.left,
      )

  -- none is read while no call is pending
  pub stands_idle : (c : PendingState) (link : Option L) → c.down ≡ None → c.waiting ≡ 0 → Gains (Stands c link) (Stands c link) (Some (ask.Pump, got.Pumped []))
  stands_idle c None up no_calls start ps s = absurd (false≢true (sym (open_is_unclosed ps (sym s.keeps.down ∙ up)) ∙ s.link_is))
  stands_idle c (Some k) up no_calls start ps s =
      let none : first_break ps ≡ None = sym s.keeps.down ∙ up in
      let calls : KeepsCalls (least_of start) (sent ps) (cut (least_of start) s.bytes) (λ q. was_taken q ps) c = s.keeps.calls none in
      let are : s.bytes ≡ pumped ps = s.given_are ∙ given_open s.last ps none in
      let filed : length (asked (sent ps) (cut (least_of start) (pumped ps)).bodies) ≡ sent ps =
      ap (λ (bytes : List ℕ). length (asked (sent ps) (cut (least_of start) bytes).bodies)) (sym are) ∙ ap length calls.all_asked ∙ omega (arith, calls.waiting, no_calls) in
      let busy : nat_lt (length (asked (sent ps) (cut (least_of start) (pumped ps)).bodies)) (sent ps) ≡ false =
      false_from_ne_true (nat_lt (length (asked (sent ps) (cut (least_of start) (pumped ps)).bodies)) (sent ps)) (λ t. absurd (omega (arith, ltb-true _ _ t, filed))) in
      stands_quiet source sink start ps (ask.Pump, got.Pumped []) c (Some k) nothing_is_quiet (ap (λ b. cond b 1 0) busy) s
      (may_give_nothing c k start ps s up)

  -- ---- a read

  module _ (c : PendingState) (k k' : L) (up : c.down ≡ None) (some : 1 ≤ c.waiting) (start : ChannelStart) (ps : List Pair) (s : Stands c (Some k) start ps) where
    none : first_break ps ≡ None
    none = sym s.keeps.down ∙ up

    abbrev least : ℕ
    least = least_of start

    abbrev stream : Cutting
    stream = cut (least_of start) s.bytes

    calls : KeepsCalls (least_of start) (sent ps) (cut (least_of start) s.bytes) (λ q. was_taken q ps) c
    calls = s.keeps.calls none

    are : s.bytes ≡ pumped ps
    are = s.given_are ∙ given_open s.last ps none

    waits : (l : List ℕ) → s.bytes ≡ given l ps → Waits start (given l ps) ps
    waits l e = (none, subst (λ (bytes : List ℕ). 0 < pending start bytes ps) e (omega (arith, ap length calls.all_asked, calls.waiting, some)))

    -- the piece goes no further than the end of the frame
    fits : (piece : List ℕ) → length piece ≤ next_read c → length piece ≤ calls.missing.0
    fits piece within =
        let front_is : front c.least max_body c.part ≡ Incomplete calls.missing.0 =
        ap (λ n. front n max_body c.part) s.keeps.least ∙ ap (front (least_of start) max_body) calls.part ∙ calls.missing.1 in
        omega (arith, within, ap missing_of front_is)

    grows : (piece : List ℕ) → 1 ≤ length piece → length piece ≤ next_read c
        → cut (least_of start) (s.bytes ++ piece) ≡ with_rest stream.bodies (stream.rest ++ piece) (front_with (least_of start) stream piece)
    grows piece some_bytes within = cut_more (least_of start) s.bytes calls.missing.0 piece calls.missing.1 some_bytes (fits piece within)

    filed_is : (piece : List ℕ) → filed piece c ≡ with_front (front_with (least_of start) stream piece) (with_bytes piece c)
    filed_is piece =
        ap (λ n. with_front (front n max_body (c.part ++ piece)) (with_bytes piece c)) s.keeps.least
        ∙ ap (λ (l : List ℕ). with_front (front (least_of start) max_body (l ++ piece)) (with_bytes piece c)) calls.part

    read_bytes : (piece : List ℕ) → AreBytes piece → AreBytes (stream.rest ++ piece)
    read_bytes piece bytes =
        are_both stream.rest piece
        (are_last (flat_map Frame stream.bodies) stream.rest (subst AreBytes (cuts_rightly (least_of start) s.bytes s.keeps.are_bytes).begins.whole s.keeps.are_bytes)) bytes

    module _ (untold : (source k).stays_untold ≡ true) (same_sink : sink k' ≡ sink k) where
      -- the sink after a pair of a pump
      sink_stays : (p : Pair) → breaks_by is_write_fault (break_of p.1) ≡ false → id_given p.1 ≡ None → SinkIs start (ps ++ p ∷ []) (sink k')
      sink_stays p no_fault no_id = subst (SinkIs start (ps ++ p ∷ [])) (sym same_sink) (sink_same start ps p (sink k) no_fault no_id s.link_is.2)

      -- bytes were read, and the channel didn't break
      stands_pumped : (piece : List ℕ) → AreBytes piece → 1 ≤ length piece → length piece ≤ next_read c → SourceAdvances (source k) (source k') piece
          → (source k').pauses ≡ (source k).pauses → (filed piece c).down ≡ None → Stands (filed piece c) (Some k') start (ps ++ (ask.Pump, got.Pumped piece) ∷ [])
      stands_pumped piece bytes some_bytes within moves steady still = record {
        bytes = s.bytes ++ piece;
        last = s.last;
        given_are = sym (given_then s.last);
        each = λ l e. each_more start l [] ps (ask.Pump, got.Pumped piece) (s.each l (before l)) (may_l l);
        keeps = keeps_unbroken start (s.bytes ++ piece) (ps ++ (ask.Pump, got.Pumped piece) ∷ []) (filed piece c)
            (ap (λ (n : PendingState). n.least) (filed_is piece) ∙ least_stays (front_with (least_of start) stream piece) ∙ s.keeps.least)
            (still ∙ sym none ∙ sym (first_same ps (ask.Pump, got.Pumped piece) refl))
            (are_both s.bytes piece s.keeps.are_bytes bytes)
            (keeps_alike (least_of start) (sent (ps ++ (ask.Pump, got.Pumped piece) ∷ [])) (cut (least_of start) (s.bytes ++ piece)) (λ q. was_taken q ps) (λ q. was_taken q (ps ++ (ask.Pump, got.Pumped piece) ∷ [])) (filed piece c)
            (λ q. taken_same q ps (ask.Pump, got.Pumped piece) refl)
            (subst (λ n. KeepsCalls (least_of start) n (cut (least_of start) (s.bytes ++ piece)) (λ q. was_taken q ps) (filed piece c)) (sym (sent_same ps (ask.Pump, got.Pumped piece) refl)) now_kept));
        link_is = (
          closed_same ps (ask.Pump, got.Pumped piece) refl ∙ s.link_is.0,
          source_after,
          sink_stays (ask.Pump, got.Pumped piece) refl refl,
        );
      } where
        given_then : (l : List ℕ) → given l (ps ++ (ask.Pump, got.Pumped piece) ∷ []) ≡ s.bytes ++ piece
        given_then l =
            given_is l (ps ++ (ask.Pump, got.Pumped piece) ∷ []) None (pumped ps ++ piece) (first_same ps (ask.Pump, got.Pumped piece) refl ∙ none) (pumped_more ps (ask.Pump, got.Pumped piece))
            ∙ ap (λ (b : List ℕ). b ++ piece) (sym are)

        before : (l : List ℕ) → s.bytes ≡ given l ps
        before l = are ∙ sym (given_open l ps none)

        least_stays : (f : Front) → (with_front f (with_bytes piece c)).least ≡ c.least
        least_stays (Incomplete m) = refl
        least_stays (Bad z) = refl
        least_stays (Body body rest) = go (is_waiting (map.get c.replies (id_of body))) where
          go : (b : Bool) → (cond b (with_reply (id_of body) (with_bytes piece c)) (broken (break.Unasked (id_of body)) (with_bytes piece c))).least ≡ c.least
          go true = refl
          go false = refl

        now_kept : KeepsCalls (least_of start) (sent ps) (cut (least_of start) (s.bytes ++ piece)) (λ q. was_taken q ps) (filed piece c)
        now_kept =
            subst (λ (m : Cutting). KeepsCalls (least_of start) (sent ps) m (λ q. was_taken q ps) (filed piece c)) (sym (grows piece some_bytes within))
            (subst (KeepsCalls (least_of start) (sent ps) (with_rest stream.bodies (stream.rest ++ piece) (front_with (least_of start) stream piece)) (λ q. was_taken q ps)) (sym (filed_is piece))
            (filed_calls (least_of start) (sent ps) stream (λ q. was_taken q ps) c piece (front_with (least_of start) stream piece) calls up some (read_bytes piece bytes)
            (λ body rest at. ends_whole (least_of start) stream.rest piece body rest calls.missing.0 calls.missing.1 (fits piece within) at)
            refl (sym (ap (λ (n : PendingState). n.down) (filed_is piece)) ∙ still)))

        not_idle : (piece : List ℕ) → 1 ≤ length piece → idle start ps (got.Pumped piece) ≡ 0
        not_idle [] h = absurd (omega (arith, h))
        not_idle (b ∷ bs) h = refl

        source_after : SourceIs start (s.bytes ++ piece) (ps ++ (ask.Pump, got.Pumped piece) ∷ []) (source k')
        source_after =
            source_read start s.bytes ps (ask.Pump, got.Pumped piece) (source k) (source k') piece none untold moves (λ t. absurd (false≢true t)) (λ t. absurd (false≢true t))
            (inl (omega (arith, steady, not_idle piece some_bytes))) s.link_is.1

        may_l : (l : List ℕ) → Pumps start l ps (Ok piece)
        may_l l =
            subst (λ (all : List ℕ). (first_break ps ≡ None) × (pending start (given l ps) ps ≡ 0 → piece ≡ []) × AllAsked (sent ps) (cut (least_of start) all)
            × IsNotBad (front (least_of start) max_body (cut (least_of start) all).rest) × IsGiven start.left all) (ap (λ (b : List ℕ). b ++ piece) are) (
              none,
              λ zero_left. absurd (omega (arith, zero_left, (waits l (before l)).1)),
              now_kept.all_asked,
              subst IsNotBad (sym now_kept.missing.1) tt,
              given_of start.left (source k').left (s.bytes ++ piece) source_after.left,
            )

      -- bytes were read that broke the channel
      stands_frames_broke : (piece : List ℕ) (cause : Break) (new : PendingState) → AreBytes piece → SourceAdvances (source k) (source k') piece
          → (source k').pauses ≡ (source k).pauses → is_of_frames (Some cause) ≡ true → PumpBreaks start piece ps cause
          → new.least ≡ c.least → new.down ≡ Some cause → ((q : ℤ) → reply_to q new ≡ reply_to q c)
          → asked (sent ps) (cut (least_of start) (s.bytes ++ piece)).bodies ≡ stream.bodies
          → Stands new (Some k') start (ps ++ (ask.Pump, got.NotPumped (fault.Broke cause)) ∷ [])
      stands_frames_broke piece cause new bytes moves steady of_frames why same_least down same_replies same_asked = record {
        bytes = s.bytes ++ piece;
        last = piece;
        given_are = sym (given_then piece);
        each = λ l e.
            let same : piece ≡ l = append_cancel_left s.bytes piece l (e ∙ given_then l) in
            each_more start l [] ps (ask.Pump, got.NotPumped (fault.Broke cause)) (s.each l (before l)) (waits l (before l), subst (λ (m : List ℕ). PumpBreaks start m ps cause) same why);
        keeps = record {
          least = same_least ∙ s.keeps.least;
          down = down ∙ sym breaks;
          replies = λ q.
              same_replies q
              ∙ replies_kept (least_of start) (sent ps) stream (λ i. was_taken i ps) c calls q
              ∙ ap (λ (l : List (List ℕ)). reply_among l (was_taken q ps) q) (sym same_asked)
              ∙ sym (ap (λ n. reply_among (asked n (cut (least_of start) (s.bytes ++ piece)).bodies) (was_taken q (ps ++ (ask.Pump, got.NotPumped (fault.Broke cause)) ∷ [])) q) (sent_same ps (ask.Pump, got.NotPumped (fault.Broke cause)) refl)
              ∙ ap (λ b. reply_among (asked (sent ps) (cut (least_of start) (s.bytes ++ piece)).bodies) b q) (taken_same q ps (ask.Pump, got.NotPumped (fault.Broke cause)) refl));
          calls = λ still. let both : Some cause ≡ None = sym breaks ∙ still in cc;
          are_bytes = are_both s.bytes piece s.keeps.are_bytes bytes;
        };
        link_is = (
          closed_same ps (ask.Pump, got.NotPumped (fault.Broke cause)) refl ∙ s.link_is.0,
          source_read start s.bytes ps (ask.Pump, got.NotPumped (fault.Broke cause)) (source k) (source k') piece none untold moves
              (λ t. absurd (not_read cause of_frames t)) (λ t. absurd (not_end cause of_frames t))
              (inl (omega (arith, steady))) s.link_is.1,
          sink_stays (ask.Pump, got.NotPumped (fault.Broke cause)) (not_write cause of_frames) refl,
        );
      } where
        breaks : first_break (ps ++ (ask.Pump, got.NotPumped (fault.Broke cause)) ∷ []) ≡ Some cause
        breaks = first_now ps (ask.Pump, got.NotPumped (fault.Broke cause)) cause none refl

        before : (l : List ℕ) → s.bytes ≡ given l ps
        before l = are ∙ sym (given_open l ps none)

        given_then : (l : List ℕ) → given l (ps ++ (ask.Pump, got.NotPumped (fault.Broke cause)) ∷ []) ≡ s.bytes ++ l
        given_then l =
            given_is l (ps ++ (ask.Pump, got.NotPumped (fault.Broke cause)) ∷ []) (Some cause) (pumped ps) breaks (pumped_same ps (ask.Pump, got.NotPumped (fault.Broke cause)) refl)
            ∙ cond-true (is_of_frames (Some cause)) (pumped ps ++ l) (pumped ps) of_frames ∙ ap (λ (b : List ℕ). b ++ l) (sym are)

        not_read : (cause : Break) → is_of_frames (Some cause) ≡ true → is_read_fault cause ≡ true → ⊥
        not_read (break.BadFrame place z) of t = cc
        not_read (break.Unasked id) of t = cc
        not_read break.ReadFault of t = cc
        not_read break.WriteFault of t = cc
        not_read break.PeerEnded of t = cc
        not_read break.Closed of t = cc

        not_end : (cause : Break) → is_of_frames (Some cause) ≡ true → is_end cause ≡ true → ⊥
        not_end (break.BadFrame place z) of t = cc
        not_end (break.Unasked id) of t = cc
        not_end break.ReadFault of t = cc
        not_end break.WriteFault of t = cc
        not_end break.PeerEnded of t = cc
        not_end break.Closed of t = cc

        not_write : (cause : Break) → is_of_frames (Some cause) ≡ true → is_write_fault cause ≡ false
        not_write (break.BadFrame place z) of = refl
        not_write (break.Unasked id) of = refl
        not_write break.ReadFault of = refl
        not_write break.WriteFault of = cc
        not_write break.PeerEnded of = refl
        not_write break.Closed of = refl

      -- the link was lost: no bytes were read
      stands_lost : (cause : Break) → is_of_frames (Some cause) ≡ false → is_write_fault cause ≡ false → SourceAdvances (source k) (source k') []
          → (is_read_fault cause ≡ true → Rose (source k).faults (source k').faults) → (is_end cause ≡ true → (source k').ended ≡ true)
          → (source k').pauses ≡ (source k).pauses → ((l : List ℕ) → PumpBreaks start l ps cause)
          → Stands (broken cause c) (Some k') start (ps ++ (ask.Pump, got.NotPumped (fault.Broke cause)) ∷ [])
      stands_lost cause no_frames no_write moves faults ends steady why = record {
        bytes = s.bytes;
        last = s.last;
        given_are = s.given_are ∙ sym (given_then s.last);
        each = λ l e.
            let before : s.bytes ≡ given l ps = e ∙ given_then l in
            each_more start l [] ps (ask.Pump, got.NotPumped (fault.Broke cause)) (s.each l before) (waits l before, why l);
        keeps = record {
          least = s.keeps.least;
          down = sym breaks;
          replies = λ q.
              s.keeps.replies q
              ∙ sym (ap (λ n. reply_among (asked n stream.bodies) (was_taken q (ps ++ (ask.Pump, got.NotPumped (fault.Broke cause)) ∷ [])) q) (sent_same ps (ask.Pump, got.NotPumped (fault.Broke cause)) refl)
              ∙ ap (λ b. reply_among (filed_bodies start s.bytes ps) b q) (taken_same q ps (ask.Pump, got.NotPumped (fault.Broke cause)) refl));
          calls = λ still. let both : Some cause ≡ None = sym breaks ∙ still in cc;
          are_bytes = s.keeps.are_bytes;
        };
        link_is = (
          closed_same ps (ask.Pump, got.NotPumped (fault.Broke cause)) refl ∙ s.link_is.0,
          subst (λ (bytes : List ℕ). SourceIs start bytes (ps ++ (ask.Pump, got.NotPumped (fault.Broke cause)) ∷ []) (source k')) (append-nil s.bytes)
              (source_read start s.bytes ps (ask.Pump, got.NotPumped (fault.Broke cause)) (source k) (source k') [] none untold moves faults ends (inl (omega (arith, steady))) s.link_is.1),
          sink_stays (ask.Pump, got.NotPumped (fault.Broke cause)) no_write refl,
        );
      } where
        breaks : first_break (ps ++ (ask.Pump, got.NotPumped (fault.Broke cause)) ∷ []) ≡ Some cause
        breaks = first_now ps (ask.Pump, got.NotPumped (fault.Broke cause)) cause none refl

        given_then : (l : List ℕ) → given l (ps ++ (ask.Pump, got.NotPumped (fault.Broke cause)) ∷ []) ≡ given l ps
        given_then l =
            given_is l (ps ++ (ask.Pump, got.NotPumped (fault.Broke cause)) ∷ []) (Some cause) (pumped ps) breaks (pumped_same ps (ask.Pump, got.NotPumped (fault.Broke cause)) refl)
            ∙ cond-false (is_of_frames (Some cause)) (pumped ps ++ l) (pumped ps) no_frames ∙ sym (given_open l ps none)

      -- nothing was there yet
      stands_paused : ReadPause (source k) (source k') → Stands c (Some k') start (ps ++ (ask.Pump, got.Pumped []) ∷ [])
      stands_paused paused =
          stands_over source sink start ps (ask.Pump, got.Pumped []) c c (Some k) (Some k') nothing_is_quiet s (may_give_nothing c k start ps s up) s.keeps (
            closed_same ps (ask.Pump, got.Pumped []) refl ∙ s.link_is.0,
            subst (λ (bytes : List ℕ). SourceIs start bytes (ps ++ (ask.Pump, got.Pumped []) ∷ []) (source k')) (append-nil s.bytes)
                (source_read start s.bytes ps (ask.Pump, got.Pumped []) (source k) (source k') [] none untold paused.advances (λ t. absurd (false≢true t)) (λ t. absurd (false≢true t))
                (counted paused.rose (idle start ps (got.Pumped [])) (at_most_one (nat_lt (length (asked (sent ps) (cut (least_of start) (pumped ps)).bodies)) (sent ps)))) s.link_is.1),
            sink_stays (ask.Pump, got.Pumped []) refl refl,
          ) where
            at_most_one : (b : Bool) → cond b 1 0 ≤ 1
            at_most_one true = omega arith
            at_most_one false = omega arith

            counted : Rose (source k).pauses (source k').pauses → (n : ℕ) → n ≤ 1
                → ((source k).pauses + n ≤ (source k').pauses) ⊎ (2 ^ 64 - 1 ≤ (source k').pauses)
            counted (inl rise) n small = inl (omega (arith, rise, small))
            counted (inr top) n small = inr (omega (arith, top))

      -- what the bytes that were read make of the channel, if they break it
      stands_filed_broke : (piece : List ℕ) (cause : Break) → AreBytes piece → 1 ≤ length piece → length piece ≤ next_read c → SourceAdvances (source k) (source k') piece
          → (source k').pauses ≡ (source k).pauses → (filed piece c).down ≡ Some cause
          → Stands (filed piece c) (Some k') start (ps ++ (ask.Pump, got.NotPumped (fault.Broke cause)) ∷ [])
      stands_filed_broke piece cause bytes some_bytes within moves steady down =
          subst (λ (n : PendingState). Stands n (Some k') start (ps ++ (ask.Pump, got.NotPumped (fault.Broke cause)) ∷ [])) (sym (filed_is piece))
          (go (front_with (least_of start) stream piece) refl (sym (ap (λ (n : PendingState). n.down) (filed_is piece)) ∙ down)) where
            given_now : IsGiven start.left (pumped ps ++ piece)
            given_now =
                given_of start.left (source k').left (pumped ps ++ piece) (subst (Consumes start.left (source k').left) (ap (λ (b : List ℕ). b ++ piece) are)
                (Consumes-trans start.left (source k).left (source k').left s.bytes piece s.link_is.1.left moves.left))

            cut_is : (f : Front) → front_with (least_of start) stream piece ≡ f → cut (least_of start) (s.bytes ++ piece) ≡ with_rest stream.bodies (stream.rest ++ piece) f
            cut_is f at = grows piece some_bytes within ∙ ap (with_rest stream.bodies (stream.rest ++ piece)) at

            go : (f : Front) → front_with (least_of start) stream piece ≡ f → (with_front f (with_bytes piece c)).down ≡ Some cause
                → Stands (with_front f (with_bytes piece c)) (Some k') start (ps ++ (ask.Pump, got.NotPumped (fault.Broke cause)) ∷ [])
            go (Incomplete m) at broke = let both : None ≡ Some cause = sym up ∙ broke in cc
            go (Bad z) at broke =
                let is : break.BadFrame c.place z ≡ cause = cc in
                let grown : cut (least_of start) (s.bytes ++ piece) ≡ record { bodies = stream.bodies; rest = stream.rest ++ piece } = cut_is (Bad z) at in
                let why : PumpBreaks start piece ps (break.BadFrame c.place z) =
                subst (λ (all : List ℕ). AllAsked (sent ps) (cut (least_of start) all) × (front (least_of start) max_body (cut (least_of start) all).rest ≡ Bad z)
                × (c.place ≡ min (length (flat_map Frame (cut (least_of start) all).bodies)) (2 ^ 64 - 1)) × IsGiven start.left (pumped ps ++ piece)) (ap (λ (b : List ℕ). b ++ piece) are)
                (subst (λ (m : Cutting). AllAsked (sent ps) m × (front (least_of start) max_body m.rest ≡ Bad z)
                × (c.place ≡ min (length (flat_map Frame m.bodies)) (2 ^ 64 - 1)) × IsGiven start.left (pumped ps ++ piece)) (sym grown)
                (calls.all_asked, at, calls.place, given_now)) in
                subst (λ (b : Break). Stands (with_front (Bad z) (with_bytes piece c)) (Some k') start (ps ++ (ask.Pump, got.NotPumped (fault.Broke b)) ∷ [])) is
                (stands_frames_broke piece (break.BadFrame c.place z) (with_front (Bad z) (with_bytes piece c)) bytes moves steady refl why refl refl (λ q. refl)
                (ap (λ (m : Cutting). asked (sent ps) m.bodies) grown ∙ calls.all_asked))
            go (Body body rest) at broke = decided (is_waiting (map.get c.replies (id_of body))) refl broke where
              decided : (b : Bool) → is_waiting (map.get c.replies (id_of body)) ≡ b → (by_call b body (with_bytes piece c)).down ≡ Some cause → Stands (by_call b body (with_bytes piece c)) (Some k') start (ps ++ (ask.Pump, got.NotPumped (fault.Broke cause)) ∷ [])
              decided true waits broke = let both : None ≡ Some cause = sym up ∙ broke in cc
              decided false unasked broke =
                  let is : break.Unasked (id_of body) ≡ cause = cc in
                  let grown : cut (least_of start) (s.bytes ++ piece) ≡ record { bodies = stream.bodies ++ body ∷ []; rest = rest } = cut_is (Body body rest) at in
                  let stops : asked (sent ps) (stream.bodies ++ body ∷ []) ≡ stream.bodies =
                  asked_stops (sent ps) stream.bodies body calls.all_asked (sym (waits_kept (least_of start) (sent ps) stream (λ q. was_taken q ps) c calls (id_of body)) ∙ unasked) in
                  let why : PumpBreaks start piece ps (break.Unasked (id_of body)) = (
                    subst (λ (all : List ℕ). IsUnasked (sent ps) (cut (least_of start) all) (id_of body)) (ap (λ (b : List ℕ). b ++ piece) are)
                        (subst (λ (m : Cutting). IsUnasked (sent ps) m (id_of body)) (sym grown)
                        (body, [], ap (λ (l : List (List ℕ)). l ++ body ∷ []) (sym stops), refl)),
                    given_now,
                  ) in
                  subst (λ (b : Break). Stands (by_call false body (with_bytes piece c)) (Some k') start (ps ++ (ask.Pump, got.NotPumped (fault.Broke b)) ∷ [])) is
                  (stands_frames_broke piece (break.Unasked (id_of body)) (by_call false body (with_bytes piece c)) bytes moves steady refl why refl refl (λ q. refl)
                  (ap (λ (m : Cutting). asked (sent ps) m.bodies) grown ∙ stops))

  -- ---- a pump that reads

  pub stands_pump : (c new : PendingState) (k k' : L) (answer : TakeNow) (buf : List ℕ) (result : Result (List ℕ) ChannelFault)
      → c.down ≡ None → 1 ≤ c.waiting → length buf ≡ next_read c → AreBytes buf → (source k).stays_untold ≡ true → sink k' ≡ sink k
      → ReadsNowAs answer (source k) (source k') buf → steps.Files answer buf c new result → Gains (Stands c (Some k)) (Stands new (Some k')) (pump_pair result)
  stands_pump c new k k' (now.Bytes n) buf (Ok bytes) up some size bytes_are untold same reads files = λ start ps s.
      let len : length (take n buf) ≡ n = length-take-le n buf reads.fits in
      let is : new ≡ filed (take n buf) c = files.1 ∙ ap (λ (l : List ℕ). filed l c) files.0 in
      subst (λ (m : PendingState). Stands m (Some k') start (ps ++ (ask.Pump, got.Pumped bytes) ∷ [])) (sym is)
      (subst (λ (l : List ℕ). Stands (filed (take n buf) c) (Some k') start (ps ++ (ask.Pump, got.Pumped l) ∷ [])) (sym files.0)
      (stands_pumped c k k' up some start ps s untold same (take n buf) (are_taken n buf bytes_are) (omega (arith, len, reads.some)) (omega (arith, len, reads.fits, size))
      reads.advances reads.pauses (sym (ap (λ (m : PendingState). m.down) is) ∙ files.2)))
  stands_pump c new k k' (now.Bytes n) buf (Err cause) up some size bytes_are untold same reads files =
      let len : length (take n buf) ≡ n = length-take-le n buf reads.fits in
      subst (λ (f : ChannelFault). Gains (Stands c (Some k)) (Stands new (Some k')) (pump_pair (Err f))) (sym files.3)
      (λ start ps s. subst (λ (m : PendingState). Stands m (Some k') start (ps ++ (ask.Pump, got.NotPumped (fault.Broke files.1)) ∷ [])) (sym files.0)
      (stands_filed_broke c k k' up some start ps s untold same (take n buf) files.1 (are_taken n buf bytes_are) (omega (arith, len, reads.some)) (omega (arith, len, reads.fits, size))
      reads.advances reads.pauses (sym (ap (λ (m : PendingState). m.down) files.0) ∙ files.2)))
  stands_pump c new k k' now.NotYet buf result up some size bytes_are untold same reads files =
      subst (λ (r : Result (List ℕ) ChannelFault). Gains (Stands c (Some k)) (Stands new (Some k')) (pump_pair r)) (sym files.0)
      (λ start ps s. subst (λ (m : PendingState). Stands m (Some k') start (ps ++ (ask.Pump, got.Pumped []) ∷ [])) (sym files.1)
      (stands_paused c k k' up some start ps s untold same reads))
  stands_pump c new k k' now.End buf result up some size bytes_are untold same reads files =
      subst (λ (r : Result (List ℕ) ChannelFault). Gains (Stands c (Some k)) (Stands new (Some k')) (pump_pair r)) (sym files.0)
      (λ start ps s. subst (λ (m : PendingState). Stands m (Some k') start (ps ++ (ask.Pump, got.NotPumped (fault.Broke break.PeerEnded)) ∷ [])) (sym files.1)
      (stands_lost c k k' up some start ps s untold same break.PeerEnded refl refl reads.advances (λ t. absurd (false≢true t)) (λ t. reads.ended) reads.pauses
      (λ l held. given_all start.left (source k).left (pumped ps)
      (subst (Consumes start.left (source k).left) (s.given_are ∙ given_open s.last ps (sym s.keeps.down ∙ up)) s.link_is.1.left)
      s.link_is.1.untold (reads.whole (s.link_is.1.holds held)))))
  stands_pump c new k k' now.Failed buf result up some size bytes_are untold same reads files =
      subst (λ (r : Result (List ℕ) ChannelFault). Gains (Stands c (Some k)) (Stands new (Some k')) (pump_pair r)) (sym files.0)
      (λ start ps s. subst (λ (m : PendingState). Stands m (Some k') start (ps ++ (ask.Pump, got.NotPumped (fault.Broke break.ReadFault)) ∷ [])) (sym files.1)
      (stands_lost c k k' up some start ps s untold same break.ReadFault refl refl reads.advances (λ t. reads.rose) (λ t. absurd (false≢true t)) reads.pauses
      (λ l. failed start.reads_hold s.link_is.1.holds))) where
        failed : (b : Bool) → (b ≡ true → (source k).holds ≡ true) → b ≡ false
        failed true so = absurd (false≢true (sym reads.holds_not ∙ so refl))
        failed false so = refl

  -- ---- the steps of a pump together

  -- no room for a read was taken
  pub stands_unread : (old new : PendingState) (link : Option L) (cause : ChannelFault) → steps.TakesRoom old new (Err cause)
      → Gains (Stands old link) (Stands new link) (pump_pair (Err cause))
  stands_unread old new link (fault.Down cause) is =
      subst (λ (m : PendingState). Gains (Stands old link) (Stands m link) (Some (ask.Pump, got.NotPumped (fault.Down cause)))) (sym is.1) (stands_down old link cause is.0)
  stands_unread old new link fault.NoMemory is = λ start ps s. elim is.2 [
    | inl same ↦ subst (λ (m : PendingState). Stands m link start ps) (sym same) s
    | inr room ↦ subst (λ (m : PendingState). Stands m link start ps) (sym room) (stands_room old link start ps s)
  ]
  stands_unread old new link (fault.Broke cause) is = absurd is
  stands_unread old new link (fault.BadReply place) is = absurd is
  stands_unread old new link fault.TooLong is = absurd is
  stands_unread old new link fault.Full is = absurd is
  stands_unread old new link fault.Spent is = absurd is

  -- there is nothing to read
  pub stands_empty : (old new : PendingState) (link : Option L) (piece : List ℕ) → steps.TakesRoom old new (Ok piece) → length piece ≡ 0
      → Gains (Stands old link) (Stands new link) (pump_pair (Ok piece))
  stands_empty old new link piece room empty = elim room.1 [
    | inl idle ↦
        subst (λ (m : PendingState). Gains (Stands old link) (Stands m link) (pump_pair (Ok piece))) (sym idle.2)
        (subst (λ (l : List ℕ). Gains (Stands old link) (Stands old link) (pump_pair (Ok l))) (sym idle.1) (stands_idle old link room.0 idle.0))
    | inr some ↦ absurd (omega (arith, some.2, empty))
  ]

  -- the link is there while the channel hasn't broken
  pub stands_linkless : (old new : PendingState) (piece : List ℕ) (result : Result (List ℕ) ChannelFault) → steps.TakesRoom old new (Ok piece)
      → result ≡ Err (fault.Down break.Closed) → Gains (Stands old None) (Stands new None) (pump_pair result)
  stands_linkless old new piece result room is =
      subst (λ (r : Result (List ℕ) ChannelFault). Gains (Stands old None) (Stands new None) (pump_pair r)) (sym is)
      (λ start ps s. absurd (false≢true (sym (open_is_unclosed ps (sym s.keeps.down ∙ room.0)) ∙ s.link_is)))

  -- the room that was taken
  pub room_is : (old mid : PendingState) (piece : List ℕ) → steps.TakesRoom old mid (Ok piece) → 1 ≤ length piece
      → (1 ≤ old.waiting) × (mid ≡ with_room old) × (length piece ≡ next_read old)
  room_is old mid piece room some = elim room.1 [
    | inl idle ↦ absurd (omega (arith, ap length idle.1, some))
    | inr is ↦ (is.0, is.3, is.1)
  ]

  gains_after : (A B C : ChannelStart → List Pair → Type 0) (pair : Option Pair) → ((start : ChannelStart) (ps : List Pair) → A start ps → B start ps) → Gains B C pair → Gains A C pair
  gains_after A B C None first then = λ start ps a. then start ps (first start ps a)
  gains_after A B C (Some p) first then = λ start ps a. then start ps (first start ps a)

  pub stands_read : (old mid new : PendingState) (k k' : L) (answer : TakeNow) (piece buf : List ℕ) (result : Result (List ℕ) ChannelFault)
      → steps.TakesRoom old mid (Ok piece) → 1 ≤ length piece → length buf ≡ length piece → AreBytes buf → (source k).stays_untold ≡ true → sink k' ≡ sink k
      → ReadsNowAs answer (source k) (source k') buf → steps.Files answer buf mid new result → Gains (Stands old (Some k)) (Stands new (Some k')) (pump_pair result)
  stands_read old mid new k k' answer piece buf result room some size bytes_are untold same reads files =
      let it : (1 ≤ old.waiting) × (mid ≡ with_room old) × (length piece ≡ next_read old) = room_is old mid piece room some in
      gains_after (Stands old (Some k)) (Stands (with_room old) (Some k)) (Stands new (Some k')) (pump_pair result) (stands_room old (Some k))
      (stands_pump (with_room old) new k k' answer buf result room.0 it.0 (size ∙ it.2) bytes_are untold same reads
      (subst (λ (m : PendingState). steps.Files answer buf m new result) it.1 files))

-- ---- what the steps' answers are

-- the bytes of a piece after a read into the whole of it
pub read_into : (piece buf : List ℕ) (len : ℕ) → len ≡ length piece → length buf ≡ length piece → take len (buf ++ drop (length buf) piece) ≡ buf
read_into piece buf len all same =
    let n : len ≡ length buf = omega (arith, all, same) in
    ap (λ m. take m (buf ++ drop (length buf) piece)) n ∙ take-append_seam buf (drop (length buf) piece)

-- a refusal that is handed on
pub handed_on : (result : Result (List ℕ) ChannelFault) (cause : ChannelFault) → IsErr result → IsErrAnd result (λ e. e ≡ cause) → result ≡ Err cause
handed_on (Ok bytes) cause err is = absurd is
handed_on (Err other) cause err is = ap Err is
