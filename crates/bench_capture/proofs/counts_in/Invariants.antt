use Rattle.std.specs.Prelude.{◌≡◌, length, take}
use Rattle.bench_capture.specs.Carried.{counts_at}
use Rattle.bench_capture.proofs.counts_in.Given as goal

abbrev pub invariant-loop-i : goal.invariant-loop-i
invariant-loop-i l = (length l.counts ≡ 11) × (take l.i l.counts ≡ counts_at l.i l.s)
