-- The frames and the desks of sessions.
use Rattle.std.proofs.Common.{◌≡◌, ℤ, [], ◌∷◌, Option, sym, ap, subst, ◌∙◌}
use Rattle.std.specs.Prelude.{Result, IfOk}
use Rattle.std.proofs.lemmas.Result.{IfOk-weaker}
use Rattle.ig_wire.specs.declared.head.Fault.{Fault}
use Rattle.ig_caches.specs.declared.request.Request.{Request}
use Rattle.ig_deals.specs.Deals.{Got, Deal}
use Rattle.ig_deals.specs.Desk.{Desk}
use Rattle.ig_deals.specs.Laws.{IsDesk}
use Rattle.ig_deals.specs.Turns.{Terms, Turn, turn_for, turn}
use Rattle.ig_deals.proofs.DeskLemmas.{desks_stay}
use Rattle.ig_replies.specs.Showing.{Showing, showing}
use Rattle.ig_replies.specs.Turned.{IsTurned}

-- nothing is gone of a turn's frame
pub fresh : (terms : Terms) (given : Turn) (frame : Showing) (now : Desk) → IsTurned terms given frame now → frame ≡ showing frame.frame
fresh terms given frame now is = is.frame_is ∙ ap (λ (s : Showing). showing s.frame) (sym is.frame_is)

pub fresh_if : {E : Type 0} → (terms : Terms) (given : Desk → Turn) (desk : Desk) (r : Result Showing E)
    → IfOk r (λ frame. (d : Desk) → IsTurned terms (given d) frame d) → IfOk r (λ frame. frame ≡ showing frame.frame)
fresh_if terms given desk r is =
    IfOk-weaker r (λ frame. (d : Desk) → IsTurned terms (given d) frame d) (λ frame. frame ≡ showing frame.frame)
    (λ frame turned. fresh terms (given desk) frame desk (turned desk)) is

-- the desk after a turn is one
pub stays : (terms : Terms) (desk now : Desk) (id : ℤ) (request : Result Request Fault) (got : Option Got) (frame : Showing)
    → IsTurned terms (turn_for terms desk id request got) frame now → IsDesk desk → IsDesk now
unfolding turn
stays terms desk now id request got frame is kept =
    let deal : Deal = record { asked = record { id = id; request = request }; got = got } in
    subst IsDesk (sym is.desk_is) (desks_stay terms desk (deal ∷ []) kept)

pub stays_if : {E : Type 0} → (terms : Terms) (desk now : Desk) (id : ℤ) (request : Result Request Fault) (got : Option Got) (r : Result Showing E)
    → IfOk r (λ frame. IsTurned terms (turn_for terms desk id request got) frame now) → IsDesk desk → IfOk r (λ frame. IsDesk now)
stays_if terms desk now id request got r is kept =
    IfOk-weaker r (λ frame. IsTurned terms (turn_for terms desk id request got) frame now) (λ frame. IsDesk now)
    (λ frame turned. stays terms desk now id request got frame turned kept) is
