-- Heads of replies that tell the reason of a fault.
use Rattle.std.proofs.Common.{◌≡◌, ◌<◌, ℤ, pos, List, ℕ, length, refl, ap, arith}
use Rattle.std.specs.Prelude.{◌≢◌, ◌^◌, nat_abs}
use Rattle.ig_wire.specs.declared.ask.Profile.{Profile}
use Rattle.ig_wire.specs.declared.ask.Profile.TheVariants as profile
use Rattle.ig_wire.specs.declared.reason.Reason.{Reason}
use Rattle.ig_wire.specs.declared.reason.Reason.TheVariants as reason
use Rattle.ig_wire.specs.Reasons.{reason_status, reason_text}
use Rattle.ig_wire.specs.Profiles.{profile_text}

not_none : (n : ℕ) → 0 < n → pos n ≢ pos 0
not_none n some e =
    let same : n ≡ 0 = ap nat_abs e in omega (arith, some, same)

-- no fault has the status of a reply without one
pub status_is_fault : (r : Reason) → reason_status r ≢ pos 0
status_is_fault reason.InvalidOperation = not_none 2 (omega arith)
status_is_fault reason.Malformed = not_none 1 (omega arith)
status_is_fault (reason.Profile p) = not_none 1 (omega arith)
status_is_fault reason.NoCache = not_none 1000 (omega arith)
status_is_fault reason.CacheExists = not_none 1001 (omega arith)
status_is_fault reason.TooManyCaches = not_none 1 (omega arith)
status_is_fault reason.TooManyCacheChanges = not_none 1 (omega arith)
status_is_fault reason.NoTypeName = not_none 1 (omega arith)
status_is_fault reason.TypeClash = not_none 1 (omega arith)
status_is_fault reason.NoMemory = not_none 9000 (omega arith)
status_is_fault reason.TooManyCursors = not_none 1010 (omega arith)
status_is_fault reason.NoResource = not_none 1011 (omega arith)
status_is_fault reason.ReplyTooLong = not_none 1 (omega arith)

short : (n : ℕ) (text : List ℕ) → length text ≡ n → n < 100 → length text < 100
short n text is lt = omega (arith, is, lt)

profile_is_short : (p : Profile) → length (profile_text p) < 100
profile_is_short profile.NullItem = short 17 (profile_text profile.NullItem) refl (omega arith)
profile_is_short profile.EmptyName = short 16 (profile_text profile.EmptyName) refl (omega arith)
profile_is_short profile.Filter = short 20 (profile_text profile.Filter) refl (omega arith)
profile_is_short profile.PageSize = short 17 (profile_text profile.PageSize) refl (omega arith)
profile_is_short profile.Partition = short 28 (profile_text profile.Partition) refl (omega arith)

pub text_is_short : (r : Reason) → length (reason_text r) < 100
text_is_short reason.InvalidOperation = short 22 (reason_text reason.InvalidOperation) refl (omega arith)
text_is_short reason.Malformed = short 21 (reason_text reason.Malformed) refl (omega arith)
text_is_short (reason.Profile p) = profile_is_short p
text_is_short reason.NoCache = short 20 (reason_text reason.NoCache) refl (omega arith)
text_is_short reason.CacheExists = short 12 (reason_text reason.CacheExists) refl (omega arith)
text_is_short reason.TooManyCaches = short 15 (reason_text reason.TooManyCaches) refl (omega arith)
text_is_short reason.TooManyCacheChanges = short 22 (reason_text reason.TooManyCacheChanges) refl (omega arith)
text_is_short reason.NoTypeName = short 24 (reason_text reason.NoTypeName) refl (omega arith)
text_is_short reason.TypeClash = short 10 (reason_text reason.TypeClash) refl (omega arith)
text_is_short reason.NoMemory = short 9 (reason_text reason.NoMemory) refl (omega arith)
text_is_short reason.TooManyCursors = short 16 (reason_text reason.TooManyCursors) refl (omega arith)
text_is_short reason.NoResource = short 23 (reason_text reason.NoResource) refl (omega arith)
text_is_short reason.ReplyTooLong = short 14 (reason_text reason.ReplyTooLong) refl (omega arith)

-- an Int32 counts the bytes of the text
pub reason_short : (r : Reason) → length (reason_text r) < 2 ^ 31
reason_short r = omega (arith, text_is_short r)
