-- Calls that are out, and what is remembered of their requests: all that their replies depend on.
use Rattle.std.specs.Prelude.{◌==◌, ℕ, Bool, true, false, List, [], ◌∷◌, find, Option, Some, Result, Ok, Err, if◌then◌else◌}
use Rattle.std.specs.List.{position}
use Rattle.ig_caches.specs.declared.call.Call.TheVariants.{Names, Affinity}
use Rattle.ig_caches.specs.declared.request.Request.{Request}
use Rattle.ig_caches.specs.declared.request.Request.TheVariants as request
use Rattle.ig_wire.specs.declared.head.Fault.{Fault}
use Rattle.ig_deals.specs.Asks.{Asked}
use Rattle.ig_deals.specs.Deals.{Got, Deal}
use Rattle.ig_session.specs.declared.awaited.Awaits.{Awaits}
use Rattle.ig_session.specs.declared.awaited.Awaits.TheVariants as await
use Rattle.ig_session.specs.declared.awaited.Awaited.{Awaited}

-- a request whose call is out: of a call for partition maps the caches are remembered, of a scan its cache and
-- its page, and of another call nothing
abbrev pub awaits_of : Request → Awaits
awaits_of (request.Run (Affinity caches)) = await.Maps caches
awaits_of (request.Scan cache page) = await.Scan cache page
awaits_of other = await.Answer

-- a request that is replied as the remembered one is
abbrev pub request_of : Awaits → Request
request_of await.Answer = request.Run Names
request_of (await.Maps caches) = request.Run (Affinity caches)
request_of (await.Scan cache page) = request.Scan cache page

abbrev pub awaits_in : Result Request Fault → Awaits
awaits_in (Ok r) = awaits_of r
awaits_in (Err fault) = await.Answer

-- the call of this request is out, with this number
abbrev pub awaited_of : ℕ → Asked → Awaited
awaited_of nth asked = record { nth = nth; id = asked.id; awaits = awaits_in asked.request }

-- what was given for a call that is out
abbrev pub deal_of : Awaited → Got → Deal
deal_of awaited got = record {
  asked = record { id = awaited.id; request = Ok (request_of awaited.awaits) };
  got = Some got;
}

abbrev pub has_nth : ℕ → Awaited → Bool
has_nth nth awaited = awaited.nth == nth

-- the call with a number, if it is out
abbrev pub awaited_at : List Awaited → ℕ → Option Awaited
awaited_at out nth = find (has_nth nth) out

-- its place among them
unfoldable pub place_of_nth : List Awaited → ℕ → Option ℕ
place_of_nth out nth = position (has_nth nth) out

-- the other calls that are out: no two have one number
abbrev pub without_nth : List Awaited → ℕ → List Awaited
without_nth [] nth = []
without_nth (awaited ∷ out) nth = if has_nth nth awaited then out else awaited ∷ without_nth out nth

abbrev pub is_scan : Awaits → Bool
is_scan (await.Scan cache page) = true
is_scan other = false
