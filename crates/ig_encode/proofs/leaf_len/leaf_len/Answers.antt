use Rattle.ig_encode.proofs.LengthLemmas.{text_length_if}
use Rattle.ig_encode.proofs.leaf_len.leaf_len.Goals as goal

pub returns-in-Str : goal.returns-in-Str
returns-in-Str c = text_length_if c.args.value.now c.in-Str.text c.text_len.result c.in-Str.is c.text_len.ensures
