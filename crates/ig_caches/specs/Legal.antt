-- Histories of calls.
use Rattle.std.specs.Prelude.{◌≡◌, List, [], ◌∷◌}
use Rattle.ig_base.specs.declared.entry.Entry.{Entry}
use Rattle.ig_caches.specs.declared.call.Call.{Call}
use Rattle.ig_caches.specs.declared.answer.Answer.{Answer}
use Rattle.ig_caches.specs.PlainCaches.{PlainCaches}
use Rattle.ig_caches.specs.Answered.{answered, after}

-- each answer is that of plain caches after the calls before it
abbrev pub Legal : PlainCaches → List (Entry Call Answer) → Type 0
Legal start [] = Unit {0}
Legal start (entry ∷ entries) = (entry.got ≡ answered start entry.ask) × Legal (after start entry.ask) entries

-- the caches after the calls of a history
abbrev pub caches_after : PlainCaches → List (Entry Call Answer) → PlainCaches
caches_after start [] = start
caches_after start (entry ∷ entries) = caches_after (after start entry.ask) entries
