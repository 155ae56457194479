use Rattle.std.proofs.Common.{◌≡◌, drop}
use Rattle.std.specs.List.{find}
use Rattle.std.specs.Str.{bytes_eq}
use Rattle.ig_lines.specs.Words as words
use Rattle.ig_lines.proofs.words.first_word.Given as goal

abbrev pub invariant-loop-word : goal.invariant-loop-word
invariant-loop-word l = find (λ w. bytes_eq l.text (words.text_of w)) l.listed ≡ find (λ w. bytes_eq l.text (words.text_of w)) (drop l.word-index l.listed)
