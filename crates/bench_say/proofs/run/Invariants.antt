use Rattle.std.proofs.Common.{◌≡◌, length, drop}
use Rattle.bench_say.specs.Said.{run_of}
use Rattle.lent.specs.Behind.{Rest}
use Rattle.bench_say.proofs.run.Given as goal

abbrev pub invariant-loop-b : goal.invariant-loop-b
invariant-loop-b l = (length l.out ≡ length l.initial.out) × Rest (run_of l.s) l.initial.out l.initial.e (run_of (drop l.b-index l.s)) l.out l.e
