use Rattle.std.proofs.Common.{◌≡◌, ◌++◌, drop}
use Rattle.ig_capture.specs.EndText.{cuts_from, cuts_of}
use Rattle.ig_capture.proofs.cuts.put_cuts.Given as goal

-- the cuts of the sessions so far were appended
abbrev pub invariant-loop-number : goal.invariant-loop-number
invariant-loop-number l = l.out ++ cuts_from l.number (drop l.number l.sessions) ≡ l.initial.out ++ cuts_of l.sessions
