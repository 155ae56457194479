-- The histories of a caller that owns the object which runs its calls.
use Rattle.std.specs.Prelude.{◌≡◌, List}
use Rattle.ig_base.specs.declared.entry.Entry.{Entry}
use Rattle.ig_caches.specs.declared.call.Call.{Call}
use Rattle.ig_caches.specs.declared.answer.Answer.{Answer}
use Rattle.ig_caches.specs.PlainCaches.{PlainCaches}
use Rattle.ig_caches.specs.Legal.{Legal, caches_after}
use Rattle.ig_session.specs.Histories.{AreUnder}
use Rattle.ig_session.specs.declared.caller.Alone.{Alone}

-- the entries are legal from the start, lead to the object's caches, and have the number 0
pub record StandsAlone {E : Type 0} (caches : E → PlainCaches) (caller : Alone E) (start : PlainCaches) (own : List (Entry Call Answer)) : Type 0 where
  pub legal : Legal start own
  pub leads : caches_after start own ≡ caches caller.exec
  pub under : AreUnder 0 own
