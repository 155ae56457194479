-- A request that looks at no cursor leaves the desk as it is, and its reply depends on no desk.
use Rattle.std.proofs.Common.{None, Some, ◌≡◌, ◌≢◌, ℤ, Bool, true, false, if◌then◌else◌, List, ◌∷◌, ◌++◌, Option, Result, Ok, Err, refl, ap, ◌∙◌}
use Rattle.ig_wire.specs.declared.version.Version.{Version}
use Rattle.ig_wire.specs.declared.head.Fault.{Fault}
use Rattle.ig_wire.specs.Versions.{has_flags}
use Rattle.ig_caches.specs.declared.call.Call.{Call}
use Rattle.ig_caches.specs.declared.request.Request.{Request}
use Rattle.ig_caches.specs.declared.request.Request.TheVariants.{Run, Scan, NextPage, Close}
use Rattle.ig_deals.specs.declared.cfg.SessionCfg.{SessionCfg}
use Rattle.ig_deals.specs.declared.manner.Manner.{Manner}
use Rattle.ig_deals.specs.declared.manner.Manner.TheVariants.{Never, AtChanges, Always}
use Rattle.ig_deals.specs.Deals.{Got, Had, NoMemory, Deal}
use Rattle.ig_deals.specs.Desk.{Desk, fresh_desk}
use Rattle.ig_deals.specs.Telling.{crew_manner}
use Rattle.ig_deals.specs.Turns.{Terms, Turn, run_turn, turn_for, turn}
use Rattle.ig_deals.specs.OutFrames.{desk_after}
use Rattle.ig_deals.specs.Laws.{IsApart}
use Rattle.ig_deals.proofs.ReplyLemmas.{replies-append}

-- the turn at a fresh desk, but with this desk
abbrev pub left_at : Desk → Turn → Turn
left_at desk t = record { reply = t.reply; desk = desk }

apart_call : (manner : Manner) (v : Version) (cfg : SessionCfg) (desk : Desk) (id : ℤ) (call : Call) (got : Option Got) → manner ≢ AtChanges
    → run_turn (record { version = v; manner = manner; cfg = cfg }) desk id call got ≡ left_at desk (run_turn (record { version = v; manner = manner; cfg = cfg }) fresh_desk id call got)
apart_call Never v cfg desk id call None n = refl
apart_call Never v cfg desk id call (Some NoMemory) n = refl
apart_call Never v cfg desk id call (Some (Had answer)) n = refl
apart_call Always v cfg desk id call None n = refl
apart_call Always v cfg desk id call (Some NoMemory) n = refl
apart_call Always v cfg desk id call (Some (Had answer)) n = refl
apart_call AtChanges v cfg desk id call got n = absurd (n refl)

apart_request : (terms : Terms) (desk : Desk) (id : ℤ) (request : Result Request Fault) (got : Option Got) → terms.manner ≢ AtChanges → IsApart request
    → turn_for terms desk id request got ≡ left_at desk (turn_for terms fresh_desk id request got)
apart_request terms desk id (Ok (Run call)) got n is = apart_call terms.manner terms.version terms.cfg desk id call got n
apart_request terms desk id (Ok (Scan cache page)) got n is = absurd is
apart_request terms desk id (Ok (NextPage cursor)) got n is = absurd is
apart_request terms desk id (Ok (Close resource)) got n is = absurd is
apart_request terms desk id (Err fault) got n is = refl

pub apart_turn : (terms : Terms) (desk : Desk) (deal : Deal) → terms.manner ≢ AtChanges → IsApart deal.asked.request
    → turn terms desk deal ≡ left_at desk (turn terms fresh_desk deal)
unfolding turn
apart_turn terms desk deal n is = apart_request terms desk deal.asked.id deal.asked.request deal.got n is

-- the desk after more deals doesn't depend on it
pub desk_apart : (terms : Terms) (desk : Desk) (before after : List Deal) (deal : Deal) → terms.manner ≢ AtChanges → IsApart deal.asked.request
    → desk_after terms desk (before ++ deal ∷ after) ≡ desk_after terms (desk_after terms desk before) after
desk_apart terms desk before after deal n is =
    (replies-append terms desk before (deal ∷ after)).1 ∙ ap (λ (t : Turn). desk_after terms t.desk after) (apart_turn terms (desk_after terms desk before) deal n is)

-- a crew tells the topology with each answer, or never
pub crew_tells : (v : Version) → crew_manner v ≢ AtChanges
crew_tells v = by_flags (has_flags v) where
  by_flags : (b : Bool) → (if b then Always else Never) ≢ AtChanges
  by_flags true e = cc
  by_flags false e = cc
