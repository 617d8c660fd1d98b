use Rattle.std.proofs.Common.{length, ◌-◌, ◌+◌, ◌≤◌}
use Rattle.clock.proofs.print.Given as goal

-- A row has room behind the rows that are not written yet, and no line is counted before a byte of it.
abbrev pub invariant-loop-i : goal.invariant-loop-i
invariant-loop-i l = (l.at ≤ 3968) × (l.n ≤ l.i + 1)

abbrev pub decreases-loop-i : goal.decreases-loop-i
decreases-loop-i l = length l.text - l.i
