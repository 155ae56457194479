use Rattle.ig_text.proofs.ReaderStopLemmas.{answers_by}
use Rattle.ig_text.proofs.WholeLemmas.{text_by_levels}
use Rattle.ig_text.proofs.values.ValueReadPart.read.Goals as goal

pub returns : goal.returns
returns c = answers_by _ c.value.result _ _ (text_by_levels c.args.text.now) c.value.ensures
