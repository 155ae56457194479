-- The faults that replies tell, with their statuses and texts.
use Rattle.std.specs.Prelude.{ℕ, ◌++◌}
use Rattle.std.specs.Fmt.{decimal}
use Rattle.ig_wire.specs.declared.reason.Reason.{Reason}
use Rattle.ig_wire.specs.declared.reason.Reason.TheVariants as reason
use Rattle.ig_wire.specs.declared.head.Fault.{Fault}
use Rattle.ig_wire.specs.declared.ask.AskFault.{AskFault}
use Rattle.ig_wire.specs.declared.ask.AskFault.TheVariants as ask
use Rattle.ig_wire.specs.Reasons.{reason_status, reason_text}
use Rattle.ig_caches.specs.declared.answer.Why.{Why}
use Rattle.ig_caches.specs.declared.answer.Why.TheVariants as why

-- the fault with the reason's status and text
abbrev pub fault_of : Reason → Fault
fault_of r = record { status = reason_status r; text = reason_text r }

-- the fields don't read: the text ends with the offset at which they stop
abbrev pub malformed_at : ℕ → Fault
malformed_at place = record {
  status = reason_status reason.Malformed;
  text = reason_text reason.Malformed ++ decimal place;
}

-- the fault of a request that is refused before any call
abbrev pub refusal_of : AskFault → Fault
refusal_of ask.NotMine = fault_of reason.InvalidOperation
refusal_of (ask.Unread place) = malformed_at place
refusal_of (ask.Profile profile) = fault_of (reason.Profile profile)
refusal_of ask.NoMemory = fault_of reason.NoMemory

-- why a call was refused, as a reply tells it
abbrev pub reason_of : Why → Reason
reason_of why.NoCache = reason.NoCache
reason_of why.CacheExists = reason.CacheExists
reason_of why.TooManyCaches = reason.TooManyCaches
reason_of why.TooManyChanges = reason.TooManyCacheChanges
reason_of why.NoTypeName = reason.NoTypeName
reason_of (why.Clash clash) = reason.TypeClash
