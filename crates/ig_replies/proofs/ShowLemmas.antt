-- What is left of queues of frames.
use Rattle.std.proofs.Common.{◌≡◌, refl, ℕ, ◌+◌, ◌-◌, ◌<◌, ◌≤◌, inl, inr, List, [], ◌∷◌, ◌++◌, length, take, drop, sym, ap, ◌∙◌, arith}
use Rattle.std.specs.Prelude.{min, nat_lt}
use Rattle.std.proofs.lemmas.Bool.{le-ltb, lt-ltb, cond-true, cond-false, cases_lt}
use Rattle.std.proofs.lemmas.List.{append-nil, append_assoc, length-take, length-drop, drop-drop, drop_all, drop_at, drop-append-le}
use Rattle.std.proofs.lemmas.Grind.{flat_map-append}
use Rattle.ig_deals.specs.Pieces.{piece_left, piece_at, IsNextPiece}
use Rattle.ig_deals.specs.Serves.{joined}
use Rattle.ig_deals.proofs.PieceLemmas.{next_piece}
use Rattle.ig_replies.specs.Showing.{Waiting, bytes_left, left_of, piece_of, piece_shown, frames_when, frames_and, after_gone, after_push}
use Rattle.ig_replies.specs.Laws.{ShowsNext, GoneIsDropped, PushIsLast}

next_of : (frames : List (List ℕ)) (gone : ℕ) → (after : List ℕ) × (piece_of frames gone ++ after ≡ left_of frames gone)
next_of [] gone = ([], refl)
next_of (frame ∷ frames) gone =
    let piece : IsNextPiece frame gone = next_piece frame gone in (
      piece.after ++ joined frames,
      sym (append_assoc (piece_at frame gone) piece.after (joined frames)) ∙ ap (λ (l : List ℕ). l ++ joined frames) piece.next,
    )

pub shows_next : ShowsNext
shows_next w = next_of w.frames w.gone

-- nothing is gone of the frames after the first
all_left : (frames : List (List ℕ)) → left_of frames 0 ≡ joined frames
all_left [] = refl
all_left (frame ∷ frames) = refl

gone_of : (frames : List (List ℕ)) (gone n : ℕ) → n ≤ length (piece_of frames gone)
    → bytes_left (frames_when frames (gone + n)) ≡ drop n (left_of frames gone)
gone_of [] gone n le = sym (drop_all n [] (omega (arith, le)))
gone_of (frame ∷ frames) gone n le =
    let len : length (piece_at frame gone) ≡ min (piece_left gone) (length (drop gone frame)) = length-take (piece_left gone) (drop gone frame) in
    let left : length (drop gone frame) ≡ length frame - gone = length-drop gone frame in
    let further : drop n (drop gone frame) ≡ drop (gone + n) frame = drop-drop n gone frame in
    elim (cases_lt (gone + n) (length frame)) [
      | inl lt ↦
          ap bytes_left (cond-true (nat_lt (gone + n) (length frame)) _ _ (lt-ltb (gone + n) (length frame) lt))
          ∙ ap (λ (l : List ℕ). l ++ joined frames) (sym further)
          ∙ sym (drop-append-le n (drop gone frame) (joined frames) (omega (arith, len, le)))
      | inr over ↦
          ap bytes_left (cond-false (nat_lt (gone + n) (length frame)) _ _ (le-ltb (gone + n) (length frame) over))
          ∙ all_left frames ∙ sym (drop_at (drop gone frame) (joined frames) n (omega (arith, len, left, le, over)))
    ]

pub gone_is_dropped : GoneIsDropped
gone_is_dropped w n le = gone_of w.frames w.gone n le

push_of : (frames : List (List ℕ)) (gone : ℕ) (frame : List ℕ) → bytes_left (frames_and frames gone frame) ≡ left_of frames gone ++ frame
push_of [] gone frame = append-nil frame
push_of (first ∷ frames) gone frame =
    ap (λ (l : List ℕ). drop gone first ++ l) (flat_map-append (λ (f : List ℕ). f) frames (frame ∷ []) ∙ ap (λ (l : List ℕ). joined frames ++ l) (append-nil frame))
    ∙ sym (append_assoc (drop gone first) (joined frames) frame)

pub push_is_last : PushIsLast
push_is_last w frame = push_of w.frames w.gone frame
