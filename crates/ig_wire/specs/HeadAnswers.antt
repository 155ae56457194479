-- The result of reading the head of a reply.
use Rattle.std.specs.Prelude.{◌≡◌, ℕ, ◌≤◌, List, drop, length, Result, Ok, Err}
use Rattle.ig_wire.specs.Fields.{in_frame}
use Rattle.ig_wire.specs.Heads.{head_of}
use Rattle.ig_wire.specs.declared.version.Version.{Version}
use Rattle.ig_wire.specs.declared.head.ReplyHead.{ReplyHead}
use Rattle.ig_wire.specs.declared.unread.ReadFault.{ReadFault}
use Rattle.ig_wire.specs.declared.unread.ReadFault.TheVariants as fault

-- the head, and the offset in the body at which the result begins, or the offset in the frame at
-- which the first wrong item begins, unless memory ran out
abbrev pub HeadAnswers : Version → List ℕ → Result (ReplyHead × ℕ) ReadFault → Type 0
HeadAnswers v body (Ok (head, at)) = (at ≤ length body) × (head_of v body ≡ Ok (head, drop at body))
HeadAnswers v body (Err fault.NoMemory) = Unit {0}
HeadAnswers v body (Err (fault.Unread unread)) = in_frame body (head_of v body) ≡ Err unread.place
