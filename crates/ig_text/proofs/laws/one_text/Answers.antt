use Rattle.ig_text.proofs.LevelLemmas.{read_is_text, text_is_read, text_tells_apart}
use Rattle.ig_text.proofs.BoundLemmas.{read_is_bounded}
use Rattle.ig_text.proofs.laws.one_text.Goals as goal

pub returns : goal.returns
returns c = record { read = read_is_text; again = text_is_read; apart = text_tells_apart; bound = read_is_bounded }
