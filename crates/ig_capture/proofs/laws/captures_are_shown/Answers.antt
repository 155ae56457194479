use Rattle.ig_capture.proofs.ReadLemmas.{feeds_compose}
use Rattle.ig_capture.proofs.WholeLemmas.{gives_text, gives_lines}
use Rattle.ig_capture.proofs.laws.captures_are_shown.Goals as goal

pub returns : goal.returns
returns c = record { cuttings = feeds_compose; text = gives_text; lines = gives_lines }
