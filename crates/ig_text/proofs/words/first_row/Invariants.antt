use Rattle.std.proofs.Common.{◌≡◌, drop}
use Rattle.std.specs.List.{find}
use Rattle.ig_text.specs.ReadText.{begins_with}
use Rattle.ig_text.specs.Words as words
use Rattle.ig_text.proofs.words.first_row.Given as goal

abbrev pub invariant-loop-row : goal.invariant-loop-row
invariant-loop-row l = find (λ r. begins_with (words.word r) l.text) l.rows ≡ find (λ r. begins_with (words.word r) l.text) (drop l.row-index l.rows)
