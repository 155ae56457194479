-- The steps of `decode`: taking a piece, writing its text, and the end.
use Rattle.std.proofs.Common.{◌≡◌, ℕ, ◌+◌, ◌<◌, ◌≤◌, ◌⊎◌, true, List, [], ◌++◌, length, length-take-le, take, drop, Option, Some, None, Result, Ok, Err, refl, sym, ap, subst, ◌∙◌, arith, inl, inr}
use Rattle.std.proofs.lemmas.List.{take-append-le, take-append-drop}
use Rattle.std.specs.Io.KnownBytes.{Consumes}
use Rattle.ig_link.specs.States.{SourceState, SinkState, SourceAdvances, SinkAdvances}
use Rattle.ig_link.specs.ReadsAs.{ReadSome, ReadEnd, ReadFault}
use Rattle.ig_link.specs.WritesAs.{SentPart}
use Rattle.ig_link.proofs.StateLemmas.{SourceAdvances-nothing}
use Rattle.ig_wire.specs.Limits.{most_session_bytes}
use Rattle.ig_session.specs.Serving.{HasEnded, SentFirst}
use Rattle.ig_capture.specs.declared.fault.CaptureBad.{CaptureBad}
use Rattle.ig_capture.specs.declared.fault.CaptureFault.{CaptureFault}
use Rattle.ig_capture.specs.declared.fault.CaptureFault.TheVariants as fault
use Rattle.ig_capture.specs.Reading.{Reading, State, Going, Stopped, fed, finished, answer_of}
use Rattle.ig_capture.specs.Feeds.{FeedsPiece, Feeds, Finishes}
use Rattle.ignite_thin.specs.declared.decode_end.DecodeEnd.{DecodeEnd}
use Rattle.ignite_thin.specs.declared.decode_end.DecodeEnd.TheVariants as ends
use Rattle.ignite_thin.specs.Decodes.{TakesText, SendsText, EndsText, EndsTextAs}

-- ---- taking a piece

-- where nothing was left to take, nothing is left
none_left : (old new : Option (List ℕ)) → Consumes old new [] → old ≡ Some [] → new ≡ Some []
none_left None new left e = cc
none_left (Some xs) None left e = absurd left
none_left (Some xs) (Some ys) left e = ap Some (sym left) ∙ e

pub text_at_end : (s : State) (source source' : SourceState) (taken : ℕ) (text : List ℕ) → text ≡ [] → ReadEnd source source' → TakesText s s source source' taken text (Err ends.Ended)
text_at_end s source source' taken text none end = record {
  piece = [];
  takes = end.advances;
  does = (
    record { ended = end.ended; counts = end.counts; whole = λ holds. none_left source.left source'.left end.advances.left (end.whole holds) },
    refl,
    refl,
    none,
  );
}

pub text_at_fault : (s : State) (source source' : SourceState) (taken : ℕ) (text : List ℕ) → ReadFault source source' → TakesText s s source source' taken text (Err ends.ReadFault)
text_at_fault s source source' taken text failed = record {
  piece = [];
  takes = failed.advances;
  does = (record { ended = failed.is_open; rose = failed.rose; holds_not = failed.holds_not }, refl);
}

pub text_at_limit : (s : State) (source : SourceState) (taken : ℕ) (text : List ℕ) → taken ≡ most_session_bytes → TakesText s s source source taken text (Err ends.ByteLimit)
text_at_limit s source taken text all = record { piece = []; takes = SourceAdvances-nothing source; does = (all, refl, refl) }

-- what the answer of a feed says of the state after it
goes_on : (s : State) → Ok tt ≡ answer_of s → (r : Reading) × (s ≡ Going r)
goes_on (Going r) is = (r, refl)
goes_on (Stopped why) is = absurd (cc)

stops_with : (s : State) (e : CaptureFault) → Err e ≡ answer_of s → s ≡ Stopped e
stops_with (Going r) e is = absurd (cc)
stops_with (Stopped why) e is = let same : e ≡ why = cc in ap Stopped (sym same)

-- a piece that was read and fed
module _ (old new : State) (source source' : SourceState) (taken n : ℕ) (buf later out text : List ℕ) (some : ReadSome n source source' buf) (within : taken + n ≤ most_session_bytes) where
  size : length (take n buf) ≡ n
  size = length-take-le n buf some.fits

  as_piece : (answer : Result (Unit {0}) CaptureFault) → Feeds old new out text (take n (buf ++ later)) answer → Feeds old new out text (take n buf) answer
  as_piece answer = subst (λ (l : List ℕ). Feeds old new out text l answer) (take-append-le n buf later some.fits)

  pub text_of_piece : out ≡ [] → Feeds old new out text (take n (buf ++ later)) (Ok tt) → TakesText old new source source' taken text (Ok (taken + n))
  text_of_piece none feeds =
      let fed_as : Feeds old new out text (take n buf) (Ok tt) = as_piece (Ok tt) feeds in
      let state : (fed old (take n buf)).0 ≡ new = sym fed_as.0.state in
      let says : (fed old (take n buf)).1 ≡ text = sym (fed_as.0.text ∙ ap (λ (l : List ℕ). l ++ (fed old (take n buf)).1) none) in
      record {
        piece = take n buf;
        takes = some.advances;
        does = (
          ap (λ (k : ℕ). taken + k) (sym size),
          omega (arith, some.some, size),
          within,
          record { ended = some.is_open; counts = some.counts },
          λ i. (state i, says i),
          goes_on new fed_as.1,
        );
      }

  pub text_of_wrong : (why : CaptureBad) → out ≡ [] → Feeds old new out text (take n (buf ++ later)) (Err (fault.Bad why)) → TakesText old new source source' taken text (Err ends.Malformed)
  text_of_wrong why none feeds =
      let fed_as : Feeds old new out text (take n buf) (Err (fault.Bad why)) = as_piece (Err (fault.Bad why)) feeds in
      record {
        piece = take n buf;
        takes = some.advances;
        does = (
          record { ended = some.is_open; counts = some.counts },
          omega (arith, size, within),
          sym (fed_as.0.text ∙ ap (λ (l : List ℕ). l ++ (fed old (take n buf)).1) none),
          (why, sym fed_as.0.state ∙ stops_with new (fault.Bad why) fed_as.1),
        );
      }

  pub text_without_memory : TakesText old new source source' taken text (Err ends.NoMemory)
  text_without_memory = record { piece = take n buf; takes = some.advances; does = omega (arith, size, within) }

-- ---- writing a text

-- the first bytes of a text
pub first_sent : (text : List ℕ) (sink sink' : SinkState) (n : ℕ) → SentPart n sink sink' text → SentFirst text sink sink'
first_sent text sink sink' n part = record {
  prefix = take n text;
  missing = drop n text;
  cut = sym (take-append-drop n text);
  gets = part.advances;
  fault = record { rose = part.rose; holds_not = part.holds_not };
}

pub sent_part : (text : List ℕ) (sink sink' : SinkState) (n : ℕ) (end : DecodeEnd) → SentPart n sink sink' text → SendsText text sink sink' end ends.WriteFault
sent_part text sink sink' n end part = inr (first_sent text sink sink' n part, refl)

-- ---- the end

ends_as : (s : State) (fin : Result (Unit {0}) CaptureFault × List ℕ) (k1 k2 : SinkState) (end : DecodeEnd) → finished s ≡ fin → (end ≡ ends.NoMemory → ⊥) → EndsTextAs fin k1 k2 end → EndsText s k1 k2 end
ends_as s fin k1 k2 ends.Ended is never shows = subst (λ f. EndsTextAs f k1 k2 ends.Ended) (sym is) shows
ends_as s fin k1 k2 ends.Malformed is never shows = subst (λ f. EndsTextAs f k1 k2 ends.Malformed) (sym is) shows
ends_as s fin k1 k2 ends.ReadFault is never shows = subst (λ f. EndsTextAs f k1 k2 ends.ReadFault) (sym is) shows
ends_as s fin k1 k2 ends.WriteFault is never shows = subst (λ f. EndsTextAs f k1 k2 ends.WriteFault) (sym is) shows
ends_as s fin k1 k2 ends.ByteLimit is never shows = subst (λ f. EndsTextAs f k1 k2 ends.ByteLimit) (sym is) shows
ends_as s fin k1 k2 ends.NoMemory is never shows = absurd (never refl)

-- a text that was written doesn't end out of memory
enough : (text : List ℕ) (k1 k2 : SinkState) (named end : DecodeEnd) → (named ≡ ends.NoMemory → ⊥) → SendsText text k1 k2 named end → end ≡ ends.NoMemory → ⊥
enough text k1 k2 named end other (inl (written, counts, is)) none = other (sym is ∙ none)
enough text k1 k2 named end other (inr (first, is)) none = let clash : ends.WriteFault ≡ ends.NoMemory = sym is ∙ none in absurd (cc)

-- what the end of a capture gives
ending : (s : State) (out text : List ℕ) (answer : Result (Unit {0}) CaptureFault) → out ≡ [] → answer ≡ (finished s).0 → text ≡ out ++ (finished s).1 → finished s ≡ (answer, text)
ending s out text answer none is says =
    let whole : (finished s).1 ≡ text = sym (says ∙ ap (λ (l : List ℕ). l ++ (finished s).1) none) in
    λ i. (sym is i, whole i)

pub ends_well : (s : State) (out text : List ℕ) (k1 k2 : SinkState) (end : DecodeEnd) → out ≡ [] → Finishes s out text (Ok tt) → SendsText text k1 k2 ends.Ended end → EndsText s k1 k2 end
ends_well s out text k1 k2 end none shows sends =
    ends_as s (Ok tt, text) k1 k2 end (ending s out text (Ok tt) none shows.0 shows.1) (enough text k1 k2 ends.Ended end (λ clash. absurd (cc)) sends) sends

pub ends_wrong : (s : State) (out text : List ℕ) (why : CaptureBad) (k1 k2 : SinkState) (end : DecodeEnd) → out ≡ [] → Finishes s out text (Err (fault.Bad why)) → SendsText text k1 k2 ends.Malformed end
    → EndsText s k1 k2 end
ends_wrong s out text why k1 k2 end none shows sends =
    ends_as s (Err (fault.Bad why), text) k1 k2 end (ending s out text (Err (fault.Bad why)) none shows.0 shows.1) (enough text k1 k2 ends.Malformed end (λ clash. absurd (cc)) sends) sends
