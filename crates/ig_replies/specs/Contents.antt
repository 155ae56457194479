-- What the replies of the code say.
use Rattle.std.specs.Prelude.{List, ℕ, None, Some, Option}
use Rattle.ig_wire.specs.declared.version.Version.{Version}
use Rattle.ig_wire.specs.declared.head.Fault.{Fault}
use Rattle.ig_wire.specs.declared.reason.Reason.TheVariants as reason
use Rattle.ig_wire.specs.Reasons.{reason_status}
use Rattle.ig_wire.specs.Versions.{has_flags}
use Rattle.ig_wire.specs.Heads.{MayTell, HasShortText}
use Rattle.ig_deals.specs.Faults.{fault_of}
use Rattle.ig_deals.specs.Replies.{Content, Reply, fault_in, result_bytes, reply_body}
use Rattle.ig_deals.specs.Replies as said
use Rattle.ig_replies.specs.declared.reply.Content.{Content as HeldContent}
use Rattle.ig_replies.specs.declared.reply.Content.TheVariants as held
use Rattle.ig_replies.specs.declared.reply.Reply.{Reply as HeldReply}

-- a malformed request is told with a text of its own
abbrev pub malformed_by : List ℕ → Fault
malformed_by text = record { status = reason_status reason.Malformed; text = text }

abbrev pub content_said : HeldContent → Content
content_said (held.Shows shown) = said.Shows shown
content_said (held.Maps map) = said.Maps map
content_said (held.Refuses r) = said.Fails (fault_of r)
content_said (held.Malformed text) = said.Fails (malformed_by text)

abbrev pub reply_said : HeldReply → Reply
reply_said reply = record { id = reply.id; told = reply.told; content = content_said reply.content }

-- the result after the head
abbrev pub content_bytes : HeldContent → List ℕ
content_bytes content = result_bytes (content_said content)

-- below 1.4.0 no topology is told, and an Int32 counts the bytes of a text
pub record MayBeShown (v : Version) (reply : HeldReply) : Type 0 where
  pub told : MayTell (has_flags v) reply.told None
  pub text : HasShortText (fault_in (content_said reply.content))
