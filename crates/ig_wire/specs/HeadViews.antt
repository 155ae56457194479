-- Heads of replies whose texts are lent.
use Rattle.std.specs.Prelude.{Option, None, Some}
use Rattle.ig_wire.specs.declared.head.Fault.{Fault}
use Rattle.ig_wire.specs.declared.head.ReplyHead.{ReplyHead}
use Rattle.ig_wire.specs.declared.head_view.FaultView.{FaultView}
use Rattle.ig_wire.specs.declared.head_view.HeadView.{HeadView}

-- the fault with a text of its own
abbrev pub owned_fault : FaultView → Fault
owned_fault view = record { status = view.status; text = view.text.now }

abbrev pub owned_faults : Option FaultView → Option Fault
owned_faults None = None
owned_faults (Some view) = Some (owned_fault view)

-- the head with a text of its own
abbrev pub owned_head : HeadView → ReplyHead
owned_head view = record { id = view.id; told = view.told; fault = owned_faults view.fault }
