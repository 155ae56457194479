-- The pieces of a frame follow each other.
use Rattle.std.specs.Prelude.{◌%◌, min}
use Rattle.std.proofs.Common.{◌≡◌, ℕ, ◌+◌, ◌-◌, ◌<◌, List, length, take, drop, sym, ap, ◌∙◌, arith, take-append-drop}
use Rattle.std.proofs.lemmas.List.{length-take, length-drop, drop-take, drop-drop}
use Rattle.ig_wire.specs.Limits.{piece_bytes}
use Rattle.ig_deals.specs.Pieces.{piece_left, piece_at, IsNextPiece}

pub next_piece : (frame : List ℕ) (gone : ℕ) → IsNextPiece frame gone
next_piece frame gone =
    let len : length (piece_at frame gone) ≡ min (piece_left gone) (length (drop gone frame)) = length-take (piece_left gone) (drop gone frame) in
    let left : length (drop gone frame) ≡ length frame - gone = length-drop gone frame in
    let low : gone % piece_bytes < piece_bytes = omega arith in record {
      after = drop (piece_left gone) (drop gone frame);
      next = take-append-drop (piece_left gone) (drop gone frame);
      some = λ lt. omega (arith, len, left, low, lt);
      most = omega (arith, len);
    }

pub piece_goes_on : (frame : List ℕ) (gone n : ℕ) → n < length (piece_at frame gone) → piece_at frame (gone + n) ≡ drop n (piece_at frame gone)
piece_goes_on frame gone n lt =
    let len : length (piece_at frame gone) ≡ min (piece_left gone) (length (drop gone frame)) = length-take (piece_left gone) (drop gone frame) in
    let small : n < piece_left gone = omega (arith, len, lt) in
    let same : piece_left gone ≡ n + piece_left (gone + n) = omega (arith, small) in
    let shorter : drop n (piece_at frame gone) ≡ drop n (take (n + piece_left (gone + n)) (drop gone frame)) =
    ap (λ (k : ℕ). drop n (take k (drop gone frame))) same in
    let further : drop n (drop gone frame) ≡ drop (gone + n) frame = drop-drop n gone frame ∙ ap (λ (m : ℕ). drop m frame) (omega arith) in
    sym (shorter ∙ drop-take n (piece_left (gone + n)) (drop gone frame) ∙ ap (take (piece_left (gone + n))) further)
