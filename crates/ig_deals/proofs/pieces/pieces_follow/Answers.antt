use Rattle.ig_deals.proofs.PieceLemmas.{next_piece, piece_goes_on}
use Rattle.ig_deals.proofs.pieces.pieces_follow.Goals as goal

pub returns : goal.returns
returns c = record { next = next_piece; on = piece_goes_on }
