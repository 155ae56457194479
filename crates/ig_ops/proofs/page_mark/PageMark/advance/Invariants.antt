use Rattle.std.proofs.Common.{◌≡◌, ◌≤◌, ◌⊎◌, ◌-◌, ℤ, Option, length}
use Rattle.ig_ops.specs.PageMarks.{IsPageMark}
use Rattle.ig_ops.proofs.page_mark.PageMark.advance.Given as goal

abbrev pub invariant-loop-row : goal.invariant-loop-row
invariant-loop-row l = record {
  mark : (cursor : Option ℤ) → IsPageMark cursor l.rows l.initial.self → IsPageMark cursor l.rows l.self;
  onward : l.initial.self.row ≤ l.self.row;
  within : l.self.row ≡ l.initial.self.row ⊎ l.self.before ≤ l.to;
}

abbrev pub decreases-loop-row : goal.decreases-loop-row
decreases-loop-row l = length l.rows - l.self.row
