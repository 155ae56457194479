-- How a `MemLink` holds the state of its script.
use Rattle.std.specs.Prelude.{◌≡◌, true, false, [], ◌+◌, ◌≤◌, List, length, drop, vec_len, vec_capacity}
use Rattle.std.specs.List.{list_any}
use Rattle.ig_link.specs.declared.mem_link.ReadStep.{ReadStep}
use Rattle.ig_link.specs.declared.mem_link.MemLink.TheInside.{Inside}
use Rattle.ig_link.specs.Script.{Script, bytes_of, may_stop}
use Rattle.ig_link.specs.ScriptOffset.{steps_from_offset}

-- the read steps from the next one on, without the bytes of it that were taken
abbrev pub reads_left : Inside → List ReadStep
reads_left m = steps_from_offset m.offset (drop m.next_read m.reads.items)

-- the state of its script
abbrev pub script : Inside → Script
script m = record {
  room = m.room;
  reads = reads_left m;
  writes = drop m.next_write m.writes.items;
  taken = m.taken.items;
  written = m.written.items;
  written_count = m.written_count;
  overrun = m.overrun;
  read_faults = m.read_faults;
  write_faults = m.write_faults;
  pauses = m.pauses;
  ended = m.ended;
}

-- the next steps lie within the steps, an ended link whose reads hold has no byte left to give, and the
-- memory for all bytes still to be taken, and for all written bytes that there is room for, is there
-- already
pub record IsPrepared (m : Inside) : Type 0 where
  pub reads_within : m.next_read ≤ length m.reads.items
  pub writes_within : m.next_write ≤ length m.writes.items
  pub at_end : m.ended ≡ true → list_any may_stop (reads_left m) ≡ false → bytes_of (reads_left m) ≡ []
  pub taken_room : vec_len m.taken + length (bytes_of (reads_left m)) ≤ vec_capacity m.taken
  pub written_room : m.room ≤ vec_capacity m.written
  pub written_within : vec_len m.written ≤ m.room
