use Rattle.std.proofs.Common.{◌≡◌, ℕ, ◌<◌, pos, take, length, get_or, Option}
use Rattle.std.specs.List.{list_any}
use Rattle.std.specs.Ordering.{int_eq}
use Rattle.ig_base.specs.declared.NodeId.{NodeId}
use Rattle.ig_parts.specs.NodeTable.{owner_beside}
use Rattle.ig_parts.proofs.tables.add_owner.Given as goal

abbrev pub invariant-loop-part : goal.invariant-loop-part
invariant-loop-part l =
    (k : ℕ) (d : Option NodeId) → k < length l.initial.table → get_or l.table k d ≡ owner_beside (get_or l.initial.table k d) (list_any (int_eq (pos k)) (take l.part-index l.part-items)) l.fn.node.node
