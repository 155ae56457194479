-- What `decode` took and wrote until now, and how it ends.
use Rattle.std.proofs.Common.{◌≡◌, ℕ, ◌+◌, ◌<◌, ◌≤◌, ◌⊎◌, Bool, true, false, List, [], ◌++◌, length, Option, Some, None, Result, Ok, Err, refl, sym, ap, subst, ◌∙◌, arith, append_assoc, append-nil, inl, inr}
use Rattle.std.proofs.lemmas.List.{length-append}
use Rattle.ig_link.specs.States.{SourceState, SinkState, Rose, SourceAdvances, SinkAdvances}
use Rattle.ig_link.proofs.StateLemmas.{SourceAdvances-nothing, SourceAdvances-then, SinkAdvances-nothing, SinkAdvances-then}
use Rattle.ig_wire.specs.Limits.{most_session_bytes}
use Rattle.ig_session.specs.Serving.{HasEnded, IsStillOpen, ReadHasFailed, WriteHasFailed, SentFirst}
use Rattle.ig_session.proofs.SinceLemmas.{held_not}
use Rattle.ig_capture.specs.declared.fault.CaptureBad.{CaptureBad}
use Rattle.ig_capture.specs.declared.fault.CaptureFault.{CaptureFault}
use Rattle.ig_capture.specs.declared.fault.CaptureFault.TheVariants as fault
use Rattle.ig_capture.specs.Reading.{Reading, State, Going, Stopped, fresh_state, fed, finished}
use Rattle.ig_capture.specs.CaptureText.{CaptureText, CaptureLines, WrongIn}
use Rattle.ig_capture.specs.CaptureLaws.{FeedsCompose, GivesText, GivesLines, answer_for}
use Rattle.ignite_thin.specs.declared.decode_end.DecodeEnd.{DecodeEnd}
use Rattle.ignite_thin.specs.declared.decode_end.DecodeEnd.TheVariants as ends
use Rattle.ignite_thin.specs.Statuses.{status_of_decode}
use Rattle.ignite_thin.specs.Decodes.{WritesText, Decodes, IsWrongAlready, IsDecodeCaused, CompletesDecode, RunsDecode, TakesText, SendsText, EndsText, EndsTextAs}

-- the capture that was taken and the text that was written, where nothing stopped yet
pub record DecodedSoFar (source source' : SourceState) (sink sink' : SinkState) (state : State) (taken : ℕ) : Type 0 where
  pub capture : List ℕ
  pub text : List ℕ
  pub takes : SourceAdvances source source' capture
  pub writes : SinkAdvances sink sink' text
  pub size : length capture ≡ taken
  pub limit : taken ≤ most_session_bytes
  pub state_is : (fed fresh_state capture).0 ≡ state
  pub text_is : (fed fresh_state capture).1 ≡ text
  pub going : (r : Reading) × (state ≡ Going r)
  pub reads : source'.faults ≡ source.faults
  pub sends : sink'.faults ≡ sink.faults
  pub still : (taken ≡ 0) ⊎ (source'.ended ≡ false)

pub decoded_none : (source : SourceState) (sink : SinkState) (r : Reading) (state : State) → state ≡ fresh_state → fresh_state ≡ Going r
    → DecodedSoFar source source sink sink state 0
decoded_none source sink r state is going = record {
  capture = [];
  text = [];
  takes = SourceAdvances-nothing source;
  writes = SinkAdvances-nothing sink;
  size = refl;
  limit = omega arith;
  state_is = sym is;
  text_is = refl;
  going = (r, is ∙ going);
  reads = refl;
  sends = refl;
  still = inl refl;
}

module _ (cuttings : (s : State) (first second : List ℕ) → FeedsCompose s first second) (texts : (capture : List ℕ) → GivesText capture) (lines : (capture : List ℕ) → GivesLines capture)
    (source s1 : SourceState) (sink k1 : SinkState) (old : State) (taken : ℕ) (so : DecodedSoFar source s1 sink k1 old taken) where
  -- the state and the text after one more piece
  piece_state : (piece : List ℕ) → (fed fresh_state (so.capture ++ piece)).0 ≡ (fed old piece).0
  piece_state piece = (cuttings fresh_state so.capture piece).state ∙ ap (λ (s : State). (fed s piece).0) so.state_is

  piece_text : (piece : List ℕ) → (fed fresh_state (so.capture ++ piece)).1 ≡ so.text ++ (fed old piece).1
  piece_text piece =
      (cuttings fresh_state so.capture piece).text ∙ ap (λ (t : List ℕ). t ++ (fed (fed fresh_state so.capture).0 piece).1) so.text_is
      ∙ ap (λ (s : State). so.text ++ (fed s piece).1) so.state_is

  -- a piece was taken, and its text written
  pub decoded_more : (new : State) (s2 : SourceState) (k2 : SinkState) (text : List ℕ) (taken' : ℕ) → TakesText old new s1 s2 taken text (Ok taken')
      → SinkAdvances k1 k2 text → k2.faults ≡ k1.faults → DecodedSoFar source s2 sink k2 new taken'
  decoded_more new s2 k2 text taken' took sent counts = record {
    capture = so.capture ++ took.piece;
    text = so.text ++ text;
    takes = SourceAdvances-then so.takes took.takes;
    writes = SinkAdvances-then so.writes sent;
    size = length-append so.capture took.piece ∙ ap (λ n. n + length took.piece) so.size ∙ sym took.does.0;
    limit = took.does.2;
    state_is = piece_state took.piece ∙ ap (λ x. x.0) took.does.4;
    text_is = piece_text took.piece ∙ ap (λ x. so.text ++ x.1) took.does.4;
    going = took.does.5;
    reads = took.does.3.counts ∙ so.reads;
    sends = counts ∙ so.sends;
    still = inr took.does.3.ended;
  }

  -- the whole text, of what was taken until now
  whole_text : CaptureText so.capture ≡ so.text ++ (finished old).1
  whole_text = (texts so.capture).text ∙ ap (λ (t : List ℕ). t ++ (finished (fed fresh_state so.capture).0).1) so.text_is ∙ ap (λ (s : State). so.text ++ (finished s).1) so.state_is

  wrong_or_not : (finished old).0 ≡ answer_for (WrongIn so.capture)
  wrong_or_not = ap (λ (s : State). (finished s).0) (sym so.state_is) ∙ (texts so.capture).answer

  same_lines : so.text ≡ CaptureLines so.capture
  same_lines = sym so.text_is ∙ lines so.capture so.going.0 (so.state_is ∙ so.going.1)

  -- as many bytes were taken as may be
  pub decoded_limit : taken ≡ most_session_bytes → Decodes source s1 sink k1 ends.ByteLimit
  decoded_limit all = record {
    capture = so.capture;
    text = so.text;
    takes = so.takes;
    writes = so.writes;
    limit = omega (arith, so.size, so.limit);
    says = same_lines;
    caused = (so.size ∙ all, record { ended = still_open so.still; counts = so.reads }, so.sends);
  }
    where
      still_open : (taken ≡ 0) ⊎ (s1.ended ≡ false) → s1.ended ≡ false
      still_open (inl none) = absurd (omega (arith, none, all))
      still_open (inr e) = e

  -- ---- the ends

  -- nothing more was taken
  none_taken : (s2 : SourceState) (piece : List ℕ) → SourceAdvances s1 s2 piece → piece ≡ [] → SourceAdvances source s2 so.capture
  none_taken s2 piece takes none =
      subst (λ (l : List ℕ). SourceAdvances source s2 l) (ap (λ (l : List ℕ). so.capture ++ l) none ∙ append-nil so.capture) (SourceAdvances-then so.takes takes)

  since_first : (s2 : SourceState) → HasEnded s1 s2 → HasEnded source s2
  since_first s2 end = record {
    ended = end.ended;
    counts = end.counts ∙ so.reads;
    whole = λ holds. end.whole (so.takes.holds holds);
  }

  write_failed : (k2 : SinkState) → WriteHasFailed k1 k2 → WriteHasFailed sink k2
  write_failed k2 failed = record {
    rose = subst (λ (n : ℕ). Rose n k2.faults) so.sends failed.rose;
    holds_not = held_not sink.holds k1.holds so.writes.holds failed.holds_not;
  }

  -- a read failed
  pub decoded_unread : (s2 : SourceState) (piece : List ℕ) → SourceAdvances s1 s2 piece → piece ≡ [] → ReadHasFailed s1 s2 → Decodes source s2 sink k1 ends.ReadFault
  decoded_unread s2 piece takes none failed = record {
    capture = so.capture;
    text = so.text;
    takes = none_taken s2 piece takes none;
    writes = so.writes;
    limit = omega (arith, so.size, so.limit);
    says = same_lines;
    caused = (
      record {
        ended = failed.ended;
        rose = subst (λ (n : ℕ). Rose n s2.faults) so.reads failed.rose;
        holds_not = held_not source.holds s1.holds so.takes.holds failed.holds_not;
      },
      so.sends,
    );
  }

  -- out of memory for a piece that was taken
  pub decoded_no_memory : (s2 : SourceState) (piece : List ℕ) → SourceAdvances s1 s2 piece → taken + length piece ≤ most_session_bytes → Decodes source s2 sink k1 ends.NoMemory
  decoded_no_memory s2 piece takes within = record {
    capture = so.capture ++ piece;
    text = so.text;
    takes = SourceAdvances-then so.takes takes;
    writes = so.writes;
    limit = omega (arith, so.size, within, length-append so.capture piece);
    says = (
      (fed old piece).1 ++ (finished (fed fresh_state (so.capture ++ piece)).0).1,
      (texts (so.capture ++ piece)).text ∙ ap (λ (t : List ℕ). t ++ (finished (fed fresh_state (so.capture ++ piece)).0).1) (piece_text piece)
          ∙ append_assoc so.text (fed old piece).1 (finished (fed fresh_state (so.capture ++ piece)).0).1,
    );
    caused = tt;
  }

  -- a text that was written, or its first bytes, where it is what is left of the capture's text
  module _ (capture : List ℕ) (s2 : SourceState) (takes : SourceAdvances source s2 capture) (limit : length capture ≤ most_session_bytes)
      (text : List ℕ) (whole : CaptureText capture ≡ so.text ++ text) (k2 : SinkState) where
    sent_first : SentFirst text k1 k2 → Decodes source s2 sink k2 ends.WriteFault
    sent_first first = record {
      capture = capture;
      text = so.text ++ first.prefix;
      takes = takes;
      writes = SinkAdvances-then so.writes first.gets;
      limit = limit;
      says = (first.missing, whole ∙ ap (λ (l : List ℕ). so.text ++ l) first.cut ∙ sym (append_assoc so.text first.prefix first.missing));
      caused = write_failed k2 first.fault;
    }

    sent_well : SinkAdvances k1 k2 text → k2.faults ≡ k1.faults → WrongIn capture ≡ None → HasEnded source s2 → Decodes source s2 sink k2 ends.Ended
    sent_well sent counts right ended = record {
      capture = capture;
      text = so.text ++ text;
      takes = takes;
      writes = SinkAdvances-then so.writes sent;
      limit = limit;
      says = (sym whole, right);
      caused = (ended, counts ∙ so.sends);
    }

    sent_wrong : SinkAdvances k1 k2 text → k2.faults ≡ k1.faults → (why : CaptureBad) → WrongIn capture ≡ Some why
        → HasEnded source s2 ⊎ (IsStillOpen source s2 × IsWrongAlready capture) → Decodes source s2 sink k2 ends.Malformed
    sent_wrong sent counts why wrong cause = record {
      capture = capture;
      text = so.text ++ text;
      takes = takes;
      writes = SinkAdvances-then so.writes sent;
      limit = limit;
      says = (sym whole, (why, wrong));
      caused = (cause, counts ∙ so.sends);
    }

  wrong_is : (w : Option CaptureBad) (why : CaptureBad) → Err (fault.Bad why) ≡ answer_for w → w ≡ Some why
  wrong_is None why is = absurd (cc)
  wrong_is (Some first) why is = let same : why ≡ first = cc in ap Some (sym same)

  none_wrong : (w : Option CaptureBad) → Ok tt ≡ answer_for w → w ≡ None
  none_wrong None is = refl
  none_wrong (Some first) is = absurd (cc)

  some_wrong : (w : Option CaptureBad) (e : CaptureFault) → Err e ≡ answer_for w → (why : CaptureBad) × (w ≡ Some why)
  some_wrong None e is = absurd (cc)
  some_wrong (Some why) e is = (why, refl)

  -- something in the piece is malformed
  pub decoded_malformed : (s2 : SourceState) (k2 : SinkState) (piece text : List ℕ) (end : DecodeEnd) → SourceAdvances s1 s2 piece → IsStillOpen s1 s2 → taken + length piece ≤ most_session_bytes
      → (fed old piece).1 ≡ text → (why : CaptureBad) → (fed old piece).0 ≡ Stopped (fault.Bad why) → SendsText text k1 k2 ends.Malformed end → Decodes source s2 sink k2 end
  decoded_malformed s2 k2 piece text end takes still within says why stopped sends = sent sends
    where
      all : List ℕ
      all = so.capture ++ piece

      stops : (fed fresh_state all).0 ≡ Stopped (fault.Bad why)
      stops = piece_state piece ∙ stopped

      whole : CaptureText all ≡ so.text ++ text
      whole =
          (texts all).text ∙ ap (λ (t : List ℕ). t ++ (finished (fed fresh_state all).0).1) (piece_text piece)
          ∙ ap (λ (q : State). (so.text ++ (fed old piece).1) ++ (finished q).1) stops ∙ append-nil (so.text ++ (fed old piece).1)
          ∙ ap (λ (t : List ℕ). so.text ++ t) says

      wrong : WrongIn all ≡ Some why
      wrong = wrong_is (WrongIn all) why (ap (λ (q : State). (finished q).0) (sym stops) ∙ (texts all).answer)

      limit : length all ≤ most_session_bytes
      limit = omega (arith, so.size, within, length-append so.capture piece)

      sent : SendsText text k1 k2 ends.Malformed end → Decodes source s2 sink k2 end
      sent (inl (written, counts, is)) =
          subst (λ (e : DecodeEnd). Decodes source s2 sink k2 e) (sym is)
          (sent_wrong all s2 (SourceAdvances-then so.takes takes) limit text whole k2 written counts why wrong (inr (record { ended = still.ended; counts = still.counts ∙ so.reads }, (why, stops))))
      sent (inr (first, is)) =
          subst (λ (e : DecodeEnd). Decodes source s2 sink k2 e) (sym is)
          (sent_first all s2 (SourceAdvances-then so.takes takes) limit text whole k2 first)

  -- the source has ended
  pub decoded_end : (s2 : SourceState) (k2 : SinkState) (piece : List ℕ) (fin : Result (Unit {0}) CaptureFault × List ℕ) (end : DecodeEnd) → SourceAdvances s1 s2 piece → piece ≡ [] → HasEnded s1 s2
      → finished old ≡ fin → EndsTextAs fin k1 k2 end → Decodes source s2 sink k2 end
  decoded_end s2 k2 piece (Ok done, text) end takes none ended is (inl (written, counts, named)) =
      subst (λ (e : DecodeEnd). Decodes source s2 sink k2 e) (sym named)
      (sent_well so.capture s2 (none_taken s2 piece takes none) (omega (arith, so.size, so.limit)) text (whole_text ∙ ap (λ e. so.text ++ e.1) is) k2 written counts
      (none_wrong (WrongIn so.capture) (ap (λ e. e.0) (sym is) ∙ wrong_or_not)) (since_first s2 ended))
  decoded_end s2 k2 piece (Ok done, text) end takes none ended is (inr (first, named)) =
      subst (λ (e : DecodeEnd). Decodes source s2 sink k2 e) (sym named)
      (sent_first so.capture s2 (none_taken s2 piece takes none) (omega (arith, so.size, so.limit)) text (whole_text ∙ ap (λ e. so.text ++ e.1) is) k2 first)
  decoded_end s2 k2 piece (Err why, text) end takes none ended is (inl (written, counts, named)) =
      let wrong = some_wrong (WrongIn so.capture) why (ap (λ e. e.0) (sym is) ∙ wrong_or_not) in
      subst (λ (e : DecodeEnd). Decodes source s2 sink k2 e) (sym named)
      (sent_wrong so.capture s2 (none_taken s2 piece takes none) (omega (arith, so.size, so.limit)) text (whole_text ∙ ap (λ e. so.text ++ e.1) is) k2 written counts
      wrong.0 wrong.1 (inl (since_first s2 ended)))
  decoded_end s2 k2 piece (Err why, text) end takes none ended is (inr (first, named)) =
      subst (λ (e : DecodeEnd). Decodes source s2 sink k2 e) (sym named)
      (sent_first so.capture s2 (none_taken s2 piece takes none) (omega (arith, so.size, so.limit)) text (whole_text ∙ ap (λ e. so.text ++ e.1) is) k2 first)

  -- the text of a piece that was taken could not be written whole
  pub decoded_unsent : (new : State) (s2 : SourceState) (k2 : SinkState) (text : List ℕ) (taken' : ℕ) → TakesText old new s1 s2 taken text (Ok taken')
      → SentFirst text k1 k2 → Decodes source s2 sink k2 ends.WriteFault
  decoded_unsent new s2 k2 text taken' took first = record {
    capture = all;
    text = so.text ++ first.prefix;
    takes = SourceAdvances-then so.takes took.takes;
    writes = SinkAdvances-then so.writes first.gets;
    limit = omega (arith, so.size, took.does.0, took.does.2, length-append so.capture took.piece);
    says = (
      first.missing ++ fin,
      (texts all).text ∙ ap (λ (t : List ℕ). t ++ fin) (piece_text took.piece) ∙ ap (λ x. (so.text ++ x.1) ++ fin) took.does.4
          ∙ ap (λ (l : List ℕ). (so.text ++ l) ++ fin) first.cut ∙ ap (λ (l : List ℕ). l ++ fin) (sym (append_assoc so.text first.prefix first.missing))
          ∙ append_assoc (so.text ++ first.prefix) first.missing fin,
    );
    caused = write_failed k2 first.fault;
  }
    where
      all : List ℕ
      all = so.capture ++ took.piece

      fin : List ℕ
      fin = (finished (fed fresh_state all).0).1

  -- nothing more can be taken
  pub decoded_stop : (new : State) (s2 : SourceState) (text : List ℕ) (end : DecodeEnd) → TakesText old new s1 s2 taken text (Err end) → (end ≡ ends.Ended → ⊥) → (end ≡ ends.Malformed → ⊥)
      → Decodes source s2 sink k1 end
  decoded_stop new s2 text ends.Ended took goes_on right = absurd (goes_on refl)
  decoded_stop new s2 text ends.Malformed took goes_on right = absurd (right refl)
  decoded_stop new s2 text ends.ReadFault took goes_on right = decoded_unread s2 took.piece took.takes took.does.1 took.does.0
  decoded_stop new s2 text ends.WriteFault took goes_on right = absurd took.does
  decoded_stop new s2 text ends.ByteLimit took goes_on right = subst (λ (s : SourceState). Decodes source s sink k1 ends.ByteLimit) (sym took.does.1) (decoded_limit took.does.0)
  decoded_stop new s2 text ends.NoMemory took goes_on right = decoded_no_memory s2 took.piece took.takes took.does

  -- out of memory for what the end adds
  pub decoded_end_no_memory : (s2 : SourceState) (k2 : SinkState) (piece : List ℕ) → SourceAdvances s1 s2 piece → piece ≡ [] → SinkAdvances k1 k2 [] → Decodes source s2 sink k2 ends.NoMemory
  decoded_end_no_memory s2 k2 piece takes none sent = record {
    capture = so.capture;
    text = so.text ++ [];
    takes = none_taken s2 piece takes none;
    writes = SinkAdvances-then so.writes sent;
    limit = omega (arith, so.size, so.limit);
    says = ((finished old).1, whole_text ∙ ap (λ (t : List ℕ). t ++ (finished old).1) (sym (append-nil so.text)));
    caused = tt;
  }

  -- the end that `finish` gives
  pub decoded_finish : (new : State) (s2 : SourceState) (k2 : SinkState) (text : List ℕ) (end : DecodeEnd) → TakesText old new s1 s2 taken text (Err ends.Ended) → EndsText new k1 k2 end → Decodes source s2 sink k2 end
  decoded_finish new s2 k2 text end took gives = by_end end (subst (λ (s : State). EndsText s k1 k2 end) took.does.2 gives)
    where
      shown : (e : DecodeEnd) → EndsTextAs (finished old) k1 k2 e → Decodes source s2 sink k2 e
      shown e = decoded_end s2 k2 took.piece (finished old) e took.takes took.does.1 took.does.0 refl

      by_end : (e : DecodeEnd) → EndsText old k1 k2 e → Decodes source s2 sink k2 e
      by_end ends.Ended sent = shown ends.Ended sent
      by_end ends.Malformed sent = shown ends.Malformed sent
      by_end ends.ReadFault sent = shown ends.ReadFault sent
      by_end ends.WriteFault sent = shown ends.WriteFault sent
      by_end ends.ByteLimit sent = shown ends.ByteLimit sent
      by_end ends.NoMemory sent = decoded_end_no_memory s2 k2 took.piece took.takes took.does.1 sent

-- ---- before anything was taken

pub decodes_nothing : (source : SourceState) (sink : SinkState) → Decodes source source sink sink ends.NoMemory
decodes_nothing source sink = record {
  capture = [];
  text = [];
  takes = SourceAdvances-nothing source;
  writes = SinkAdvances-nothing sink;
  limit = omega arith;
  says = (CaptureText [], refl);
  caused = tt;
}

-- the status is 0 where nothing stands in the way, memory aside
pub completes : (source source' : SourceState) (sink sink' : SinkState) (end : DecodeEnd) (d : Decodes source source' sink sink' end) → CompletesDecode source source' sink sink' d.capture (status_of_decode end)
completes source source' sink sink' ends.Ended d ended reads sends right = inl refl
completes source source' sink sink' ends.NoMemory d ended reads sends right = inr refl
completes source source' sink sink' ends.Malformed d ended reads sends right =
    let wrong : Some d.says.1.0 ≡ None = sym d.says.1.1 ∙ right in absurd (cc)
completes source source' sink sink' ends.ReadFault d ended reads sends right = absurd (reads d.caused.0.rose)
completes source source' sink sink' ends.WriteFault d ended reads sends right = absurd (sends d.caused.rose)
completes source source' sink sink' ends.ByteLimit d ended reads sends right =
    let still : true ≡ false = sym ended ∙ d.caused.1.ended in absurd (cc)

-- the status that says how it ended
pub runs_decode : (source source' : SourceState) (sink sink' : SinkState) (end : DecodeEnd) (status : ℕ) → Decodes source source' sink sink' end → status ≡ status_of_decode end → RunsDecode source source' sink sink' status
runs_decode source source' sink sink' end status d is = record {
  end = end;
  decodes = d;
  status_is = is;
  completes = subst (CompletesDecode source source' sink sink' d.capture) (sym is) (completes source source' sink sink' end d);
}
