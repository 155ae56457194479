-- Bytes that are written keep what a session stands for.
use Rattle.std.proofs.Common.{◌≡◌, refl, ℕ, ◌+◌, ◌≤◌, inl, inr, List, [], ◌∷◌, ◌++◌, length, take, drop, sym, ap, ◌∙◌, subst, arith, take-add}
use Rattle.std.specs.Prelude.{min, nat_lt}
use Rattle.std.proofs.lemmas.Bool.{le-ltb, lt-ltb, cond-true, cond-false, cases_lt}
use Rattle.std.proofs.lemmas.List.{append-nil, append_assoc, length-take, take-take, take_all}
use Rattle.ig_caches.specs.declared.call.Call.{Call}
use Rattle.ig_deals.specs.Deals.{Ran, gots}
use Rattle.ig_deals.specs.Telling.{session_manner}
use Rattle.ig_deals.specs.OutFrames.{out_frames}
use Rattle.ig_deals.specs.Pieces.{piece_left, piece_at}
use Rattle.ig_deals.specs.Serves.{joined, ShowsPart}
use Rattle.ig_replies.specs.Showing.{Waiting, piece_of, piece_shown, frames_when}
use Rattle.ig_session.proofs.StandLemmas.{joined-append}
use Rattle.ig_session.specs.declared.phase.Phase.{Phase}
use Rattle.ig_session.specs.declared.phase.Phase.TheVariants.{BeforeHello, Open, Refused, OutOfMemory}
use Rattle.ig_session.specs.States.{State}
use Rattle.ig_session.specs.Steps.{written}
use Rattle.ig_session.specs.StandsFor.{first_gone, ShowsSoFar, ShowsIn, Stands}

-- ---- the output

-- bytes of a piece of the first frame, after those that are gone
more_of : (frame : List ℕ) (gone n : ℕ) → n ≤ length (piece_at frame gone) → take gone frame ++ take n (piece_at frame gone) ≡ take (gone + n) frame
more_of frame gone n le =
    let len : length (piece_at frame gone) ≡ min (piece_left gone) (length (drop gone frame)) = length-take (piece_left gone) (drop gone frame) in
    ap (λ (l : List ℕ). take gone frame ++ l) (take-take n (piece_left gone) (drop gone frame) (omega (arith, len, le))) ∙ sym (take-add gone n frame)

pub written_shows : (frames waiting : List (List ℕ)) (gone n : ℕ) (output : List ℕ) → n ≤ length (piece_of waiting gone)
    → ShowsSoFar frames (record { frames = waiting; gone = gone }) output → ShowsSoFar frames (frames_when waiting (gone + n)) (output ++ take n (piece_of waiting gone))
written_shows frames [] gone n output le so = record {
  shown = so.shown;
  frames_are = so.frames_are;
  output_is = ap (λ (l : List ℕ). output ++ l) (take_all n [] (omega arith)) ∙ append-nil output ∙ so.output_is;
}
written_shows frames (frame ∷ others) gone n output le so =
    let now : output ++ take n (piece_at frame gone) ≡ joined so.shown ++ take (gone + n) frame =
    ap (λ (l : List ℕ). l ++ take n (piece_at frame gone)) so.output_is ∙ append_assoc (joined so.shown) (take gone frame) (take n (piece_at frame gone))
    ∙ ap (λ (l : List ℕ). joined so.shown ++ l) (more_of frame gone n le) in
    elim (cases_lt (gone + n) (length frame)) [
      | inl lt ↦
          let stays = cond-true (nat_lt (gone + n) (length frame)) (record { frames = frame ∷ others; gone = gone + n }) (record { frames = others; gone = 0 }) (lt-ltb (gone + n) (length frame) lt) in
          subst (λ (w : Waiting). ShowsSoFar frames w (output ++ take n (piece_at frame gone))) (sym stays) (record { shown = so.shown; frames_are = so.frames_are; output_is = now })
      | inr over ↦
          let goes = cond-false (nat_lt (gone + n) (length frame)) (record { frames = frame ∷ others; gone = gone + n }) (record { frames = others; gone = 0 }) (le-ltb (gone + n) (length frame) over) in
          subst (λ (w : Waiting). ShowsSoFar frames w (output ++ take n (piece_at frame gone))) (sym goes) (record {
            shown = so.shown ++ frame ∷ [];
            frames_are = so.frames_are ∙ sym (append_assoc so.shown (frame ∷ []) others);
            output_is = now ∙ ap (λ (l : List ℕ). joined so.shown ++ l) (take_all (gone + n) frame over)
                ∙ sym (ap (λ (l : List ℕ). joined (so.shown ++ frame ∷ []) ++ l) (none_gone others) ∙ append-nil (joined (so.shown ++ frame ∷ []))
                ∙ joined-append so.shown (frame ∷ []) ∙ ap (λ (l : List ℕ). joined so.shown ++ l) (append-nil frame));
          })
    ] where
      none_gone : (l : List (List ℕ)) → first_gone l 0 ≡ []
      none_gone [] = refl
      none_gone (f ∷ l) = refl

-- no more frames wait than before
pub fewer_wait : (waiting : List (List ℕ)) (n : ℕ) → length (frames_when waiting n).frames ≤ length waiting
fewer_wait [] n = omega arith
fewer_wait (frame ∷ others) n = elim (cases_lt n (length frame)) [
  | inl lt ↦ let stays = ap (λ (w : Waiting). length w.frames) (cond-true (nat_lt n (length frame)) (record { frames = frame ∷ others; gone = n }) (record { frames = others; gone = 0 }) (lt-ltb n (length frame) lt)) in omega (arith, stays)
  | inr over ↦ let goes = ap (λ (w : Waiting). length w.frames) (cond-false (nat_lt n (length frame)) (record { frames = frame ∷ others; gone = n }) (record { frames = others; gone = 0 }) (le-ltb n (length frame) over)) in omega (arith, goes)
]

written_in : (phase : Phase) (frames waiting : List (List ℕ)) (gone n : ℕ) (output : List ℕ) → n ≤ length (piece_of waiting gone)
    → ShowsIn phase frames (record { frames = waiting; gone = gone }) output → ShowsIn phase frames (frames_when waiting (gone + n)) (output ++ take n (piece_of waiting gone))
written_in BeforeHello frames waiting gone n output le so = written_shows frames waiting gone n output le so
written_in (Open terms) frames waiting gone n output le so = written_shows frames waiting gone n output le so
written_in (Refused fault) frames waiting gone n output le so = written_shows frames waiting gone n output le so
written_in OutOfMemory frames [] gone n output le so =
    (refl, subst (λ (l : List ℕ). ShowsPart frames l) (sym (ap (λ (l : List ℕ). output ++ l) (take_all n [] (omega arith)) ∙ append-nil output)) so.1)
written_in OutOfMemory frames (frame ∷ others) gone n output le so = let none = so.0 in absurd cc

pub written_stands : (s : State) (input : List ℕ) (ran : List Ran) (out : List Call) (output : List ℕ) (n : ℕ) → n ≤ length (piece_shown s.waiting)
    → Stands s input ran out output → Stands (written s n) input ran out (output ++ take n (piece_shown s.waiting))
written_stands s input ran out output n le stood = record {
  bodies = stood.bodies;
  read = stood.read;
  are_bytes = stood.are_bytes;
  settled = stood.settled;
  pending = stood.pending;
  asked = stood.asked;
  handed_out = stood.handed_out;
  awaited = stood.awaited;
  count = stood.count;
  phase = stood.phase;
  shows = written_in s.phase (out_frames s.cfg session_manner stood.bodies (gots ran)) s.waiting.frames s.waiting.gone n output le stood.shows;
  one = omega (arith, stood.one, fewer_wait s.waiting.frames (s.waiting.gone + n));
}
