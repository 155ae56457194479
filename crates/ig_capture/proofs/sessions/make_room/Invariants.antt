use Rattle.std.proofs.Common.{◌≡◌, ℕ, ◌-◌, ◌≤◌, suc, length, replicate, ◌++◌}
use Rattle.ig_capture.specs.Sessions.{fresh_session}
use Rattle.ig_capture.proofs.sessions.make_room.Given as goal

-- as many were added as are missing, or fewer
abbrev pub invariant-rooms : goal.invariant-rooms
invariant-rooms l = record {
  added : l.sessions.items ≡ l.fn.sessions.items ++ replicate (length l.sessions.items - length l.fn.sessions.items) fresh_session;
  longer : length l.fn.sessions.items ≤ length l.sessions.items;
  missing : length l.sessions.items - length l.fn.sessions.items ≤ suc l.fn.number - length l.fn.sessions.items;
}

abbrev pub decreases-rooms : goal.decreases-rooms
decreases-rooms l = suc l.fn.number - length l.sessions.items
