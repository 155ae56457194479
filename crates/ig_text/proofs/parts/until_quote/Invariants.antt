use Rattle.std.proofs.Common.{◌≡◌, ◌-◌, length}
use Rattle.ig_text.specs.Tokens.{quote}
use Rattle.ig_text.specs.ReadText.{until_at, char_at}
use Rattle.ig_text.proofs.ReaderLoopLemmas.{with_front}
use Rattle.ig_text.proofs.parts.until_quote.Given as goal

abbrev pub invariant-loop : goal.invariant-loop
invariant-loop l = with_front l.bytes.items (until_at char_at quote (l.most - l.counter) l.rest) ≡ until_at char_at quote (length l.text) l.text
