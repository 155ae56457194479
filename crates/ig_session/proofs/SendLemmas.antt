-- Writing all that waits, piece by piece.
use Rattle.std.proofs.Common.{◌≡◌, refl, ℕ, ◌+◌, ◌<◌, ◌≤◌, inl, inr, List, [], ◌∷◌, ◌++◌, length, take, drop, sym, ap, ◌∙◌, subst, arith, append_assoc, append-nil}
use Rattle.std.specs.Prelude.{min, nat_lt}
use Rattle.std.proofs.lemmas.Bool.{le-ltb, lt-ltb, cond-true, cond-false, cases_lt}
use Rattle.std.proofs.lemmas.List.{length-append, length-take, drop-drop, drop_all, take_min, take-append-drop}
use Rattle.ig_link.specs.States.{SinkState, SinkAdvances}
use Rattle.ig_link.proofs.StateLemmas.{SinkAdvances-nothing, SinkAdvances-then, Rose-after}
use Rattle.ig_deals.specs.Pieces.{piece_left, piece_at}
use Rattle.ig_deals.specs.Serves.{joined}
use Rattle.ig_replies.specs.Showing.{Waiting, waiting_none, left_of, bytes_left, piece_of, piece_shown, frames_when, after_gone}
use Rattle.ig_session.specs.States.{State}
use Rattle.ig_session.specs.Steps.{written}
use Rattle.ig_session.specs.Serving.{WriteHasFailed, SentFirst}
use Rattle.ig_session.proofs.SinceLemmas.{held_not}

-- ---- pieces

-- frames of which nothing is gone
all_left : (frames : List (List ℕ)) → left_of frames 0 ≡ joined frames
all_left [] = refl
all_left (frame ∷ frames) = refl

-- what is left of a frame is its next piece, and what is left after that
piece_then : (frame : List ℕ) (gone : ℕ) → piece_at frame gone ++ drop (gone + length (piece_at frame gone)) frame ≡ drop gone frame
piece_then frame gone =
    let left : List ℕ = drop gone frame in
    let n : ℕ = length (piece_at frame gone) in
    let len : n ≡ min (piece_left gone) (length left) = length-take (piece_left gone) left in
    let first : piece_at frame gone ≡ take n left = sym (ap (λ (m : ℕ). take m left) len ∙ take_min (piece_left gone) left) in
    ap (λ (l : List ℕ). l ++ drop (gone + n) frame) first ∙ ap (λ (l : List ℕ). take n left ++ l) (sym (drop-drop n gone frame)) ∙ take-append-drop n left

left_after : (frame : List ℕ) (frames : List (List ℕ)) (gone : ℕ) → bytes_left (frames_when (frame ∷ frames) gone) ≡ drop gone frame ++ joined frames
left_after frame frames gone = elim (cases_lt gone (length frame)) [
  | inl lt ↦ ap bytes_left (cond-true (nat_lt gone (length frame)) (record { frames = frame ∷ frames; gone = gone }) (record { frames = frames; gone = 0 }) (lt-ltb gone (length frame) lt))
  | inr over ↦
      ap bytes_left (cond-false (nat_lt gone (length frame)) (record { frames = frame ∷ frames; gone = gone }) (record { frames = frames; gone = 0 }) (le-ltb gone (length frame) over))
      ∙ all_left frames ∙ sym (ap (λ (l : List ℕ). l ++ joined frames) (drop_all gone frame over))
]

piece_of_first : (frames : List (List ℕ)) (gone : ℕ) → piece_of frames gone ++ bytes_left (frames_when frames (gone + length (piece_of frames gone))) ≡ left_of frames gone
piece_of_first [] gone = refl
piece_of_first (frame ∷ frames) gone =
    ap (λ (l : List ℕ). piece_at frame gone ++ l) (left_after frame frames (gone + length (piece_at frame gone)))
    ∙ sym (append_assoc (piece_at frame gone) (drop (gone + length (piece_at frame gone)) frame) (joined frames))
    ∙ ap (λ (l : List ℕ). l ++ joined frames) (piece_then frame gone)

-- the piece that is shown comes first of all that waits
pub piece_first : (w : Waiting) → piece_shown w ++ bytes_left (after_gone w (length (piece_shown w))) ≡ bytes_left w
piece_first w = piece_of_first w.frames w.gone

-- ---- the loop

-- the first of what waits was written, and the rest waits
pub record Sent (old now : State) (sink sink' : SinkState) : Type 0 where
  pub out : List ℕ
  pub gets : SinkAdvances sink sink' out
  pub counts : sink'.faults ≡ sink.faults
  pub rest : out ++ bytes_left now.waiting ≡ bytes_left old.waiting
  pub same : now ≡ record old { waiting = now.waiting }

pub sent_start : (s : State) (sink : SinkState) → Sent s s sink sink
sent_start s sink = record { out = []; gets = SinkAdvances-nothing sink; counts = refl; rest = refl; same = refl }

-- one more piece was written
pub sent_piece : (old now : State) (s0 s1 s2 : SinkState) (piece : List ℕ) → Sent old now s0 s1 → piece ≡ piece_shown now.waiting → SinkAdvances s1 s2 piece → s2.faults ≡ s1.faults
    → Sent old (written now (length piece)) s0 s2
sent_piece old now s0 s1 s2 piece sent is gets counts = record {
  out = sent.out ++ piece;
  gets = SinkAdvances-then sent.gets gets;
  counts = counts ∙ sent.counts;
  rest = append_assoc sent.out piece (bytes_left (after_gone now.waiting (length piece)))
      ∙ ap (λ (l : List ℕ). sent.out ++ (l ++ bytes_left (after_gone now.waiting (length l)))) is ∙ ap (λ (l : List ℕ). sent.out ++ l) (piece_first now.waiting) ∙ sent.rest;
  same = ap (λ (s : State). record s { waiting = after_gone now.waiting (length piece) }) sent.same;
}

-- fewer bytes wait
pub sent_less : (now : State) (piece : List ℕ) → piece ≡ piece_shown now.waiting → 0 < length piece → length (bytes_left (written now (length piece)).waiting) < length (bytes_left now.waiting)
sent_less now piece is some =
    let whole : piece ++ bytes_left (after_gone now.waiting (length piece)) ≡ bytes_left now.waiting =
    ap (λ (l : List ℕ). l ++ bytes_left (after_gone now.waiting (length l))) is ∙ piece_first now.waiting in
    omega (arith, ap length whole, length-append piece (bytes_left (after_gone now.waiting (length piece))), some)

-- nothing waits any more
pub sent_all : (old now : State) (s0 s1 : SinkState) → Sent old now s0 s1 → now.waiting ≡ waiting_none
    → SinkAdvances s0 s1 (bytes_left old.waiting) × (s1.faults ≡ s0.faults) × (now ≡ record old { waiting = waiting_none })
sent_all old now s0 s1 sent none =
    let all : sent.out ≡ bytes_left old.waiting = sym (append-nil sent.out) ∙ sym (ap (λ (w : Waiting). sent.out ++ bytes_left w) none) ∙ sent.rest in
    (subst (SinkAdvances s0 s1) all sent.gets, sent.counts, sent.same ∙ ap (λ (w : Waiting). record old { waiting = w }) none)

-- a write failed, after some bytes of a piece
pub sent_first : (old now : State) (s0 s1 s2 : SinkState) (piece part missing : List ℕ) → Sent old now s0 s1 → piece ≡ piece_shown now.waiting → piece ≡ part ++ missing
    → SinkAdvances s1 s2 part → WriteHasFailed s1 s2 → SentFirst (bytes_left old.waiting) s0 s2
sent_first old now s0 s1 s2 piece part missing sent is cut gets failed = record {
  prefix = sent.out ++ part;
  missing = missing ++ bytes_left (after_gone now.waiting (length (piece_shown now.waiting)));
  cut = sym sent.rest ∙ ap (λ (l : List ℕ). sent.out ++ l) (sym (piece_first now.waiting))
      ∙ ap (λ (l : List ℕ). sent.out ++ (l ++ bytes_left (after_gone now.waiting (length (piece_shown now.waiting))))) (sym is ∙ cut)
      ∙ ap (λ (l : List ℕ). sent.out ++ l) (append_assoc part missing (bytes_left (after_gone now.waiting (length (piece_shown now.waiting)))))
      ∙ sym (append_assoc sent.out part (missing ++ bytes_left (after_gone now.waiting (length (piece_shown now.waiting)))));
  gets = SinkAdvances-then sent.gets gets;
  fault = record {
    rose = Rose-after s0.faults s1.faults s2.faults sent.gets.faults failed.rose;
    holds_not = held_not s0.holds s1.holds sent.gets.holds failed.holds_not;
  };
}
