-- What the link of a channel is, as pairs are added.
use Rattle.std.proofs.Common.{◌≡◌, cond, ℕ, ◌+◌, ◌-◌, ◌^◌, ◌≤◌, ◌⊎◌, ℤ, pos, Bool, true, false, ◌||◌, List, [], ◌∷◌, ◌++◌, length, take, drop, Option, None, Some, inl, inr, refl, sym, ap, subst, ◌∙◌, arith, append-nil, append_assoc, take-append-drop}
use Rattle.std.proofs.lemmas.Bool.{cond-true, cases_Bool, false≢true}
use Rattle.std.proofs.KnownBytes.{Appends-trans, Consumes-trans}
use Rattle.std.specs.Io.KnownBytes.{Appends, Consumes}
use Rattle.ig_base.specs.Frames.{Frame}
use Rattle.ig_link.specs.States.{SourceState, SinkState, Rose, SourceAdvances, SinkAdvances}
use Rattle.ig_link.specs.WritesAs.{SentPart}
use Rattle.ig_link.specs.Shows.{Shows}
use Rattle.ig_link.specs.declared.link.Retired.{Retired}
use Rattle.ig_link.proofs.StateLemmas.{Rose-after}
use Rattle.ig_client.specs.Pairs.{Pair, sent, sent_bytes, first_break, break_of, id_given, frame_under, body_of, breaks_by, answers_break, is_read_fault, is_write_fault, is_end, broken_frame}
use Rattle.ig_client.specs.LinkSince.{IsWritten, ShownSince, idle, idle_pumps}
use Rattle.ig_client.specs.ChannelRun.{IsGiven}
use Rattle.ig_client.specs.Stands.{SourceIs, SinkIs}
use Rattle.ig_client.specs.declared.fault.Break.{Break}
use Rattle.ig_client.specs.declared.fault.Break.TheVariants.{WriteFault}
use Rattle.ig_client.specs.declared.ask.ChannelStart.{ChannelStart}
use Rattle.ig_client.proofs.PairLemmas.{sent_bytes_more, answers_kept, answers_new, broken_kept, broken_none, broken_last, idle_more}

-- ---- the source

-- a pair that read nothing
pub source_same : (start : ChannelStart) (bytes : List ℕ) (ps : List Pair) (p : Pair) (source : SourceState)
    → breaks_by is_read_fault (break_of p.1) ≡ false → breaks_by is_end (break_of p.1) ≡ false → idle start ps p.1 ≡ 0
    → SourceIs start bytes ps source → SourceIs start bytes (ps ++ p ∷ []) source
source_same start bytes ps p source no_fault no_end busy is = record {
  reads = λ t. is.reads (sym (answers_kept is_read_fault ps p no_fault) ∙ t);
  ended = λ t. is.ended (sym (answers_kept is_end ps p no_end) ∙ t);
  pauses = elim is.pauses [
    | inl below ↦ inl (omega (arith, below, idle_more start [] ps p, busy))
    | inr top ↦ inr top
  ];
  taken = is.taken;
  left = is.left;
  untold = is.untold;
  faults = is.faults;
  holds = is.holds;
}

-- a read that took these bytes, on a channel that hadn't broken
pub source_read : (start : ChannelStart) (bytes : List ℕ) (ps : List Pair) (p : Pair) (old new : SourceState) (more : List ℕ)
    → first_break ps ≡ None → old.stays_untold ≡ true → SourceAdvances old new more
    → (breaks_by is_read_fault (break_of p.1) ≡ true → Rose old.faults new.faults)
    → (breaks_by is_end (break_of p.1) ≡ true → new.ended ≡ true)
    → (old.pauses + idle start ps p.1 ≤ new.pauses) ⊎ (2 ^ 64 - 1 ≤ new.pauses)
    → SourceIs start bytes ps old → SourceIs start (bytes ++ more) (ps ++ p ∷ []) new
source_read start bytes ps p old new more none untold moves faults ends pauses is = record {
  reads = λ t. Rose-after start.read_faults old.faults new.faults is.faults (faults (answers_new is_read_fault ps p none t));
  ended = λ t. ends (answers_new is_end ps p none t);
  pauses = elim is.pauses [
    | inl below ↦ elim pauses [
      | inl rise ↦ inl (omega (arith, below, rise, idle_more start [] ps p))
      | inr top ↦ inr top
    ]
    | inr top ↦ inr (omega (arith, top, moves.pauses))
  ];
  taken = Appends-trans start.taken old.taken new.taken bytes more is.taken moves.taken;
  left = Consumes-trans start.left old.left new.left bytes more is.left moves.left;
  untold = λ e. moves.untold_left untold (is.untold e);
  faults = omega (arith, is.faults, moves.faults);
  holds = λ h. moves.holds (is.holds h);
}

-- what was consumed is the first of what was to come
pub given_of : (left now : Option (List ℕ)) (bytes : List ℕ) → Consumes left now bytes → IsGiven left bytes
given_of None now bytes is = tt
given_of (Some xs) None bytes is = absurd is
given_of (Some xs) (Some ys) bytes is = (ys, is)

-- a source that told that it has no more gave all
pub given_all : (left now : Option (List ℕ)) (bytes : List ℕ) → Consumes left now bytes → (left ≡ None → now ≡ None) → now ≡ Some [] → left ≡ Some bytes
given_all None now bytes is untold none = let never : now ≡ None = untold refl in cc
given_all (Some xs) None bytes is untold none = absurd is
given_all (Some xs) (Some ys) bytes is untold none =
    let nil : ys ≡ [] = cc in
    ap Some (is ∙ ap (λ (l : List ℕ). bytes ++ l) nil ∙ append-nil bytes)

-- ---- the sink

-- a pair that wrote nothing
pub sink_same : (start : ChannelStart) (ps : List Pair) (p : Pair) (sink : SinkState)
    → breaks_by is_write_fault (break_of p.1) ≡ false → id_given p.1 ≡ None → SinkIs start ps sink → SinkIs start (ps ++ p ∷ []) sink
sink_same start ps p sink no_fault no_id is = record {
  writes = λ t. is.writes (sym (answers_kept is_write_fault ps p no_fault) ∙ t);
  written = λ tells.
      let it : (w : List ℕ) × IsWritten ps w × Appends start.written sink.written w = is.written tells in (
        it.0,
        (
          it.1.0,
          it.1.1,
          it.1.2 ∙ ap (λ (l : List ℕ). l ++ it.1.0) (sym (
              sent_bytes_more ps p ∙ ap (λ o. sent_bytes ps ++ frame_under p.0 o) no_id ∙ append-nil (sent_bytes ps))),
          broken_kept 0 ps p no_fault ∙ it.1.3,
        ),
        it.2,
      );
  faults = is.faults;
  holds = is.holds;
}

nil_first : (a b : List ℕ) → [] ≡ a ++ b → a ≡ []
nil_first [] b is = refl
nil_first (x ∷ a) b is = cc

-- until a write fault all that was written are frames that were sent
all_sent : (ps : List Pair) (w : List ℕ) → first_break ps ≡ None → IsWritten ps w → w ≡ sent_bytes ps
all_sent ps w none is =
    is.2 ∙ ap (λ (l : List ℕ). sent_bytes ps ++ l) (nil_first is.0 is.1 (sym (broken_none 0 ps none) ∙ is.3)) ∙ append-nil (sent_bytes ps)

-- a submit that was accepted
pub sink_sent : (start : ChannelStart) (ps : List Pair) (p : Pair) (id : ℤ) (old new : SinkState)
    → first_break ps ≡ None → break_of p.1 ≡ None → id_given p.1 ≡ Some id → SinkAdvances old new (Frame (body_of p.0 id))
    → SinkIs start ps old → SinkIs start (ps ++ p ∷ []) new
sink_sent start ps p id old new none no_break its_id moves is = record {
  writes = λ t. absurd (false≢true (sym (ap (breaks_by is_write_fault) no_break) ∙ answers_new is_write_fault ps p none t));
  written = λ tells.
      let it : (w : List ℕ) × IsWritten ps w × Appends start.written old.written w = is.written (moves.tells tells) in
      let frames : sent_bytes (ps ++ p ∷ []) ≡ it.0 ++ Frame (body_of p.0 id) =
      sent_bytes_more ps p ∙ ap (λ o. sent_bytes ps ++ frame_under p.0 o) its_id
      ∙ ap (λ (l : List ℕ). l ++ Frame (body_of p.0 id)) (sym (all_sent ps it.0 none it.1)) in (
        it.0 ++ Frame (body_of p.0 id),
        (
          [],
          [],
          sym frames ∙ sym (append-nil (sent_bytes (ps ++ p ∷ []))),
          broken_kept 0 ps p (ap (breaks_by is_write_fault) no_break) ∙ broken_none 0 ps none,
        ),
        Appends-trans start.written old.written new.written it.0 (Frame (body_of p.0 id)) it.2 (moves.written tells),
      );
  faults = omega (arith, is.faults, moves.faults);
  holds = λ h. moves.holds (is.holds h);
}

-- a submit that a write fault broke
pub sink_broke : (start : ChannelStart) (ps : List Pair) (p : Pair) (count : ℕ) (old new : SinkState)
    → first_break ps ≡ None → break_of p.1 ≡ Some WriteFault → id_given p.1 ≡ None → SentPart count old new (Frame (body_of p.0 (pos (sent ps + 1))))
    → SinkIs start ps old → SinkIs start (ps ++ p ∷ []) new
sink_broke start ps p count old new none breaks no_id sends is = record {
  writes = λ t. Rose-after start.write_faults old.faults new.faults is.faults sends.rose;
  written = λ tells.
      let it : (w : List ℕ) × IsWritten ps w × Appends start.written old.written w = is.written (sends.advances.tells tells) in
      let zero_more : 0 + sent ps ≡ sent ps = omega arith in
      let frames : sent_bytes (ps ++ p ∷ []) ≡ it.0 =
      sent_bytes_more ps p ∙ ap (λ o. sent_bytes ps ++ frame_under p.0 o) no_id ∙ append-nil (sent_bytes ps) ∙ sym (all_sent ps it.0 none it.1) in (
        it.0 ++ take count (Frame (body_of p.0 (pos (sent ps + 1)))),
        (
          take count (Frame (body_of p.0 (pos (sent ps + 1)))),
          drop count (Frame (body_of p.0 (pos (sent ps + 1)))),
          ap (λ (l : List ℕ). l ++ take count (Frame (body_of p.0 (pos (sent ps + 1))))) (sym frames),
          broken_last 0 ps p none ∙ ap (λ n. broken_frame n (p ∷ [])) zero_more ∙ ap (λ b. cond (breaks_by is_write_fault b) (Frame (body_of p.0 (pos (sent ps + 1)))) []) breaks ∙ sym (take-append-drop count (Frame (body_of p.0 (pos (sent ps + 1))))),
        ),
        Appends-trans start.written old.written new.written it.0 (take count (Frame (body_of p.0 (pos (sent ps + 1))))) it.2 (sends.advances.written tells),
      );
  faults = omega (arith, is.faults, sends.advances.faults);
  holds = λ h. sends.advances.holds (is.holds h);
}

-- ---- a link that is retired

pub shown_since : (start : ChannelStart) (bytes : List ℕ) (ps : List Pair) (source : SourceState) (sink : SinkState) (shown : Retired)
    → SourceIs start bytes ps source → SinkIs start ps sink → Shows source sink shown → ShownSince start shown bytes ps
shown_since start bytes ps source sink shown reads writes shows = record {
  reads = λ t. subst (Rose start.read_faults) (sym shows.read_faults) (reads.reads t);
  writes = λ t. subst (Rose start.write_faults) (sym shows.write_faults) (writes.writes t);
  ended = λ t. shows.ended ∙ reads.ended t;
  pauses = subst (λ n. (start.pauses + idle_pumps start [] ps ≤ n) ⊎ (2 ^ 64 - 1 ≤ n)) (sym shows.pauses) reads.pauses;
  taken = subst (λ (o : Option (List ℕ)). Appends start.taken o bytes) (sym shows.taken) reads.taken;
  written = elim (cases_Bool sink.tells) [
    | inl tells ↦
        let it : (w : List ℕ) × IsWritten ps w × Appends start.written sink.written w = writes.written tells in
        inr (it.0, it.1, subst (λ (o : Option (List ℕ)). Appends start.written o it.0) (sym (shows.told tells)) it.2)
    | inr silent ↦ inl (shows.untold silent)
  ];
}
