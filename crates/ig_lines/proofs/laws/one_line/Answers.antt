use Rattle.ig_lines.proofs.LineLemmas.{line_is_text, text_is_line, written_is_text, lines_tell_apart}
use Rattle.ig_lines.proofs.laws.one_line.Goals as goal

pub returns : goal.returns
returns c = record { read = line_is_text; again = text_is_line; written = written_is_text; apart = lines_tell_apart }
