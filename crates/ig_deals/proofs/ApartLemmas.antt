-- A request that looks at no cursor gets the same reply at every desk, and leaves the desk as it is.
use Rattle.std.proofs.Common.{None, Some, ◌≡◌, ◌≢◌, ℤ, List, [], ◌∷◌, ◌++◌, Option, Result, Ok, Err, refl, ap}
use Rattle.ig_wire.specs.declared.version.Version.{Version}
use Rattle.ig_wire.specs.declared.head.Fault.{Fault}
use Rattle.ig_caches.specs.declared.call.Call.{Call}
use Rattle.ig_caches.specs.declared.request.Request.{Request}
use Rattle.ig_caches.specs.declared.request.Request.TheVariants.{Run, Scan, NextPage, Close}
use Rattle.ig_deals.specs.declared.cfg.SessionCfg.{SessionCfg}
use Rattle.ig_deals.specs.declared.manner.Manner.{Manner}
use Rattle.ig_deals.specs.declared.manner.Manner.TheVariants.{Never, AtChanges, Always}
use Rattle.ig_deals.specs.Deals.{Got, Had, NoMemory, Deal}
use Rattle.ig_deals.specs.Desk.{Desk, fresh_desk}
use Rattle.ig_deals.specs.Replies.{Reply}
use Rattle.ig_deals.specs.Turns.{Terms, Turn, run_turn, turn_for, turn}
use Rattle.ig_deals.specs.OutFrames.{replies, desk_after}
use Rattle.ig_deals.specs.Laws.{IsApart}

-- the terms of these parts
abbrev terms_of : Manner → Version → SessionCfg → Terms
terms_of manner v cfg = record { version = v; manner = manner; cfg = cfg }

-- the turn at a fresh desk, but with this desk
abbrev left_at : Desk → Turn → Turn
left_at desk t = record { reply = t.reply; desk = desk }

apart_call : (manner : Manner) (v : Version) (cfg : SessionCfg) (desk : Desk) (id : ℤ) (call : Call) (got : Option Got) → manner ≢ AtChanges
    → run_turn (terms_of manner v cfg) desk id call got ≡ left_at desk (run_turn (terms_of manner v cfg) fresh_desk id call got)
apart_call Never v cfg desk id call None n = refl
apart_call Never v cfg desk id call (Some NoMemory) n = refl
apart_call Never v cfg desk id call (Some (Had answer)) n = refl
apart_call Always v cfg desk id call None n = refl
apart_call Always v cfg desk id call (Some NoMemory) n = refl
apart_call Always v cfg desk id call (Some (Had answer)) n = refl
apart_call AtChanges v cfg desk id call got n = absurd (n refl)

apart_request : (terms : Terms) (desk : Desk) (id : ℤ) (request : Result Request Fault) (got : Option Got) → terms.manner ≢ AtChanges → IsApart request
    → turn_for terms desk id request got ≡ left_at desk (turn_for terms fresh_desk id request got)
apart_request terms desk id (Ok (Run call)) got n is = apart_call terms.manner terms.version terms.cfg desk id call got n
apart_request terms desk id (Ok (Scan cache page)) got n is = absurd is
apart_request terms desk id (Ok (NextPage cursor)) got n is = absurd is
apart_request terms desk id (Ok (Close resource)) got n is = absurd is
apart_request terms desk id (Err fault) got n is = refl

apart_turn : (terms : Terms) (desk : Desk) (deal : Deal) → terms.manner ≢ AtChanges → IsApart deal.asked.request
    → turn terms desk deal ≡ left_at desk (turn terms fresh_desk deal)
unfolding turn
apart_turn terms desk deal n is = apart_request terms desk deal.asked.id deal.asked.request deal.got n is

pub own_reply : (terms : Terms) (desk : Desk) (before after : List Deal) (deal : Deal) → terms.manner ≢ AtChanges → IsApart deal.asked.request
    → replies terms desk (before ++ deal ∷ after) ≡ replies terms desk before ++ (turn terms fresh_desk deal).reply ∷ replies terms (desk_after terms desk before) after
own_reply terms desk [] after deal n is = ap (λ (t : Turn). t.reply ∷ replies terms t.desk after) (apart_turn terms desk deal n is)
own_reply terms desk (d ∷ before) after deal n is = ap (λ (l : List Reply). (turn terms desk d).reply ∷ l) (own_reply terms (turn terms desk d).desk before after deal n is)
