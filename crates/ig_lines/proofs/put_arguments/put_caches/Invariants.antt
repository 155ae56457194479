use Rattle.std.proofs.Common.{◌≡◌, ◌++◌, drop}
use Rattle.ig_lines.specs.Arguments.{numbered_text}
use Rattle.ig_lines.specs.ShownText.{spaced}
use Rattle.ig_lines.proofs.put_arguments.put_caches.Given as goal

abbrev pub invariant-loop-cache : goal.invariant-loop-cache
invariant-loop-cache l = l.out ++ spaced numbered_text (drop l.cache-index l.caches) ≡ l.initial.out ++ spaced numbered_text l.caches
