-- The operations of all crates in one table: what the fields of each ask, and the bytes of what replies
-- show.
use Rattle.std.specs.Prelude.{ℕ, ℤ, List, Option, option_map}
use Rattle.std.specs.Option.{option_or}
use Rattle.ig_wire.specs.declared.operation.Operation.{Operation}
use Rattle.ig_fields.specs.Ask.{Ask}
use Rattle.ig_caches.specs.declared.call.Call.TheVariants.{Affinity}
use Rattle.ig_caches.specs.declared.answer.Outcome.{Outcome}
use Rattle.ig_caches.specs.declared.answer.Outcome.TheVariants as outcome
use Rattle.ig_caches.specs.declared.request.Request.{Request}
use Rattle.ig_caches.specs.declared.request.Request.TheVariants.{Run}
use Rattle.ig_caches.specs.declared.request.Shown.{Shown}
use Rattle.ig_caches.specs.declared.request.Shown.TheVariants.{Out, Page}
use Rattle.ig_ops.specs.Requests as ops_requests
use Rattle.ig_ops.specs.Results as ops_results
use Rattle.ig_meta.specs.Requests as meta_requests
use Rattle.ig_meta.specs.Results as meta_results
use Rattle.ig_parts.specs.PartsMessages as parts

-- a request for partition maps is a call that asks for the types' affinity fields
abbrev pub parts_request : Ask (List ℤ) → Ask Request
parts_request ask = record {
  format = ask.format;
  request = λ x. Run (Affinity (ask.request x));
  profile = ask.profile;
}

-- what an operation's fields ask
abbrev pub ask_of : Operation → Option (Ask Request)
ask_of operation =
    option_or (ops_requests.ask_of operation)
    (option_or (meta_requests.ask_of operation) (option_map parts_request (parts.ask_of operation)))

-- names and descriptions of types have their own bytes, and so have rows and counts; what both show, a
-- truth value or nothing, has the same bytes
abbrev pub outcome_bytes : Outcome → List ℕ
outcome_bytes (outcome.Names names) = meta_results.shown_bytes (Out (outcome.Names names))
outcome_bytes (outcome.Name name) = meta_results.shown_bytes (Out (outcome.Name name))
outcome_bytes (outcome.Meta meta) = meta_results.shown_bytes (Out (outcome.Meta meta))
outcome_bytes o = ops_results.shown_bytes (Out o)

-- the bytes of a result
abbrev pub shown_bytes : Shown → List ℕ
shown_bytes (Out o) = outcome_bytes o
shown_bytes (Page page) = ops_results.shown_bytes (Page page)
