use Rattle.std.proofs.Common.{rules}
use Rattle.ig_value.proofs.limited.TextLimited.is_limited.Goals as goal

pub returns : goal.returns
returns c = let h = c.are_countable.ensures in let j = c.as_str.utf8 in search rules
