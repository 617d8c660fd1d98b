use Rattle.std.proofs.Common.{◌≤◌}
use Rattle.extent.specs.declared.Line.TheVariants.{Request}
use Rattle.extent.specs.Line.{cap_of}
use Rattle.quiet.proofs.run.Given as goal

-- No more is held than a request line's rule waits with.
abbrev pub invariant-loop : goal.invariant-loop
invariant-loop g l = l.watch.held ≤ cap_of Request
