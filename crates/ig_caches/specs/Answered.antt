-- What plain caches answer to a call, and the plain caches after it.
use Rattle.std.specs.Prelude.{ℤ}
use Rattle.std.specs.Option.{option_map_or}
use Rattle.ig_caches.specs.declared.call.Call.{Call}
use Rattle.ig_caches.specs.declared.answer.Why.TheVariants.{NoCache}
use Rattle.ig_caches.specs.declared.answer.Outcome.{Outcome}
use Rattle.ig_caches.specs.declared.answer.Outcome.TheVariants.{Refused}
use Rattle.ig_caches.specs.declared.answer.Answer.{Answer}
use Rattle.ig_caches.specs.Rows.{Rows}
use Rattle.ig_caches.specs.PlainCaches.{PlainCaches, cache_of, caches_with_rows}
use Rattle.ig_caches.specs.Effect.{Effect, on_rows, on_all, effect}

-- the outcome, and the caches of which the one with the identifier has the rows
abbrev pub with_rows_at : PlainCaches → ℤ → Outcome × Rows → Outcome × PlainCaches
with_rows_at c id left = (left.0, record c { caches = caches_with_rows c.caches id left.1 })

-- a call on the rows of a cache is refused if no cache has the identifier
abbrev pub ran : PlainCaches → Effect → Outcome × PlainCaches
ran c (on_rows id f) =
    option_map_or (λ cache. with_rows_at c id (f cache.rows)) (cache_of c.caches id) (Refused NoCache, c)
ran c (on_all f) = f c

-- the caches after a call
abbrev pub after : PlainCaches → Call → PlainCaches
after c call = (ran c (effect call)).1

-- the answer to a call: it counts the creations and destructions up to this call
abbrev pub answered : PlainCaches → Call → Answer
answered c call = record { minor = (after c call).minor; outcome = (ran c (effect call)).0 }
