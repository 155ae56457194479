use Rattle.ig_lines.proofs.NameLemmas.{word_within, word_there, no_word}
use Rattle.ig_lines.proofs.reader.word.Goals as goal

pub split_at-requires : goal.split_at-requires
split_at-requires c = word_within c.word_len.result c.args.text.now c.word_len.ensures

pub returns-in-Some : goal.returns-in-Some
returns-in-Some c = word_there c.word_len.result c.args.text.now c.split_at.result.0.now c.split_at.result.1.now c.word_of.result c.in-Some.word c.word_len.ensures c.split_at.ensures.front c.split_at.ensures.back c.word_of.ensures c.in-Some.is

pub returns-in-None : goal.returns-in-None
returns-in-None c = no_word c.word_len.result c.args.text.now c.split_at.result.0.now c.word_of.result c.word_len.ensures c.split_at.ensures.front c.word_of.ensures c.in-None.is
