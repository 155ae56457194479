-- The calls that requests ask for, and what the grid gave for them.
use Rattle.std.specs.Prelude.{ℕ, List, [], ◌∷◌, map, Option, None, Some, Result, Ok, Err}
use Rattle.std.specs.List.{flat_map, filter_map}
use Rattle.ig_base.specs.declared.entry.Entry.{Entry}
use Rattle.ig_wire.specs.declared.head.Fault.{Fault}
use Rattle.ig_caches.specs.declared.call.Call.{Call}
use Rattle.ig_caches.specs.declared.call.Call.TheVariants as call
use Rattle.ig_caches.specs.declared.answer.Answer.{Answer}
use Rattle.ig_caches.specs.declared.request.Request.{Request}
use Rattle.ig_caches.specs.declared.request.Request.TheVariants.{Run, Scan, NextPage, Close}
use Rattle.ig_deals.specs.Asks.{Asked}

-- ---- calls

-- a call is run, and a scan is the call for all rows; pages and closing are no calls
abbrev pub call_in : Request → Option Call
call_in (Run c) = Some c
call_in (Scan cache page) = Some (call.Scan cache)
call_in (NextPage cursor) = None
call_in (Close resource) = None

abbrev pub call_for : Result Request Fault → Option Call
call_for (Ok request) = call_in request
call_for (Err fault) = None

-- the calls that are asked for, in order
abbrev pub calls : List Asked → List Call
calls asked = filter_map (λ (a : Asked). call_for a.request) asked

-- ---- what the grid gave

-- the answer to a call, or out of memory
pub data Got : Type 0 where
  Had : Answer → Got
  NoMemory : Got

-- a call that was handed out, and what the grid gave for it
pub record Ran : Type 0 where
  pub call : Call
  pub got : Got

-- the calls that were handed out
abbrev pub handed : List Ran → List Call
handed ran = map (λ (r : Ran). r.call) ran

-- what the grid gave for them
abbrev pub gots : List Ran → List Got
gots ran = map (λ (r : Ran). r.got) ran

-- the entry of a call that was answered, under the number of a seat
abbrev pub entry_of : ℕ → Call → Got → List (Entry Call Answer)
entry_of seat c (Had answer) = record { seat = seat; ask = c; got = answer } ∷ []
entry_of seat c NoMemory = []

abbrev pub entries_of : ℕ → List Ran → List (Entry Call Answer)
entries_of seat ran = flat_map (λ (r : Ran). entry_of seat r.call r.got) ran

-- ---- deals

-- a request, with what the grid gave for its call where it has one
pub record Deal : Type 0 where
  pub asked : Asked
  pub got : Option Got

-- the deal of a request with this call, if it has one, and the later deals
abbrev pub deal_next : Asked → Option Call → List Got → (List Got → List Deal) → List Deal
deal_next a None given later = record { asked = a; got = None } ∷ later given
deal_next a (Some c) [] later = []
deal_next a (Some c) (got ∷ given) later = record { asked = a; got = Some got } ∷ later given

-- each request that has a call gets the next result, up to the first for which there is none
abbrev pub dealt : List Asked → List Got → List Deal
dealt [] given = []
dealt (a ∷ more) given = deal_next a (call_for a.request) given (dealt more)
