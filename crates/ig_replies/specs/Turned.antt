-- What a call that answers a request gives.
use Rattle.std.specs.Prelude.{◌≡◌, ℕ, ◌<◌, ◌^◌, pos}
use Rattle.ig_deals.specs.Desk.{Desk, cursor_at}
use Rattle.ig_deals.specs.Replies.{reply_frame}
use Rattle.ig_deals.specs.Turns.{Terms, Turn}
use Rattle.ig_deals.specs.Laws.{IsDesk}
use Rattle.ig_replies.specs.Showing.{Showing, showing}

-- the frame is that of the turn's reply, and the desk is the turn's
pub record IsTurned (terms : Terms) (turn : Turn) (frame : Showing) (desk : Desk) : Type 0 where
  pub frame_is : frame ≡ showing (reply_frame terms.version turn.reply)
  pub desk_is : desk ≡ turn.desk

-- no more cursors are open than may be, none has the next number or a later one, and there are numbers left
pub record HasNumbers (desk : Desk) : Type 0 where
  pub kept : IsDesk desk
  pub left : desk.next < 2 ^ 63
