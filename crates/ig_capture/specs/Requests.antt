-- The requests of a session that have no reply yet.
use Rattle.std.specs.Prelude.{◌≡◌, ℤ, List, [], ◌∷◌, ◌++◌, Option, Some, None, unwrap_or}
use Rattle.std.specs.Ordering.{int_cmp}
use Rattle.std.specs.Coded.{Coded, coded_ℤ}
use Rattle.std.specs.FinMap as map
use Rattle.std.specs.FinMap.{FinMap}
use Rattle.ig_wire.specs.declared.operation.Operation.{Operation}
use Rattle.ig_capture.specs.Operations.{Operations, coded_operations}

-- for each identifier the operations of its requests without a reply
abbrev pub Unanswered : Type 0
Unanswered = FinMap int_cmp Operations

abbrev pub coded_unanswered : Coded Unanswered
coded_unanswered = map.code coded_ℤ coded_operations

-- one more request with this identifier, after the others
abbrev pub with_request : ℤ → Option Operation → Unanswered → Unanswered
with_request id operation us = map.insert us id (unwrap_or (map.get us id) [] ++ operation ∷ [])

-- the first of these requests, and the others where there are some
abbrev pub taken_first : ℤ → Unanswered → Option Operations → Option (Option Operation × Unanswered)
taken_first id us (Some (operation ∷ [])) = Some (operation, map.remove us id)
taken_first id us (Some (operation ∷ (next ∷ operations))) = Some (operation, map.insert us id (next ∷ operations))
taken_first id us _ = None

-- the first request with this identifier that has no reply yet, and the others
abbrev pub taken : ℤ → Unanswered → Option (Option Operation × Unanswered)
taken id us = taken_first id us (map.get us id)

-- the answer of a call that takes this request away
abbrev pub TakesFirst : ℤ → Unanswered → Unanswered → Option (Option Operation) → Type 0
TakesFirst id old new None = (taken id old ≡ None) × (new ≡ old)
TakesFirst id old new (Some operation) = taken id old ≡ Some (operation, new)
