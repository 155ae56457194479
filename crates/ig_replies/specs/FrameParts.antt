-- The parts of a reply's frame.
use Rattle.std.specs.Prelude.{◌≡◌, ℕ, ◌+◌, ◌≤◌, pos, List, ◌++◌, length}
use Rattle.std.specs.Int.{w32}
use Rattle.ig_base.specs.Numbers.{LE}
use Rattle.ig_base.specs.Frames.{max_body}
use Rattle.ig_wire.specs.declared.version.Version.{Version}
use Rattle.ig_wire.specs.Heads.{head_bytes}
use Rattle.ig_deals.specs.Replies.{head_of, reply_body}
use Rattle.ig_replies.specs.declared.reply.Reply.{Reply}
use Rattle.ig_replies.specs.Contents.{reply_said, MayBeShown}

-- what comes before the result: the length of the body, and the head
abbrev pub lead_bytes : Version → Reply → ℕ → List ℕ
lead_bytes v reply body_len = LE w32 (pos body_len) ++ head_bytes v (head_of (reply_said reply))

-- the lengths are those of the reply's body, which a frame can hold, and of what comes before the result
pub record IsLaidOut (v : Version) (reply : Reply) (body_len lead_len : ℕ) : Type 0 where
  pub may : MayBeShown v reply
  pub body : body_len ≡ length (reply_body v (reply_said reply))
  pub fits : body_len ≤ max_body
  pub lead : lead_len ≡ length (lead_bytes v reply body_len)
