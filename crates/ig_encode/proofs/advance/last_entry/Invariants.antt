use Rattle.std.proofs.Common.{◌+◌, ◌-◌, ◌≤◌, length}
use Rattle.ig_encode.specs.Spans.{least_entries}
use Rattle.ig_encode.specs.Marks.{IsStep}
use Rattle.ig_encode.proofs.advance.last_entry.Given as goal

abbrev pub invariant-loop-step : goal.invariant-loop-step
invariant-loop-step l = record {
  field : IsStep 24 l.fields l.offset l.step;
  reached : l.end + length (least_entries l.shape l.fields l.step.index) ≤ l.offset;
}

abbrev pub decreases-loop-step : goal.decreases-loop-step
decreases-loop-step l = l.last - l.step.index
