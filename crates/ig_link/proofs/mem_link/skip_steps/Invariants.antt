use Rattle.std.proofs.Common.{length, ◌-◌, ◌≡◌, ◌≤◌, drop}
use Rattle.ig_link.specs.Script.{after_skipped}
use Rattle.ig_link.specs.ScriptOffset.{steps_from_offset}
use Rattle.ig_link.proofs.mem_link.skip_steps.Given as goal

-- the steps before the place are is_skipped over
abbrev pub invariant-loop-next : goal.invariant-loop-next
invariant-loop-next l = record {
  within : l.next ≤ length l.reads;
  steps : after_skipped l.written_count l.waits (steps_from_offset l.offset (drop l.next l.reads)) ≡ after_skipped l.written_count l.waits (steps_from_offset l.fn.offset (drop l.fn.next l.reads));
}

abbrev pub decreases-loop-next : goal.decreases-loop-next
decreases-loop-next l = length l.reads - l.next
