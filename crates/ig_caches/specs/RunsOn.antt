-- How a call runs.
use Rattle.std.specs.Prelude.{◌≡◌, Result, Ok, Err}
use Rattle.ig_base.specs.declared.memory.NoRoom.{NoRoom}
use Rattle.ig_caches.specs.declared.call.Call.{Call}
use Rattle.ig_caches.specs.declared.answer.Answer.{Answer}
use Rattle.ig_caches.specs.PlainCaches.{PlainCaches}
use Rattle.ig_caches.specs.Answered.{answered, after}

-- the call answers and leaves what plain caches do, or there is no memory: then it comes back, and nothing changes
abbrev pub RunsOn : Call → PlainCaches → Result Answer (NoRoom Call) → PlainCaches → Type 0
RunsOn call old (Ok answer) new = (answer ≡ answered old call) × (new ≡ after old call)
RunsOn call old (Err e) new = (e.back ≡ call) × (new ≡ old)
