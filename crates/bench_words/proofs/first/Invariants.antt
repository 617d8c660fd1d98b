use Rattle.std.proofs.Common.{◌+◌, ◌≡◌, drop}
use Rattle.bench_words.specs.Words.{blanks}
use Rattle.bench_words.proofs.first.Given as goal

abbrev pub invariant-loop-i : goal.invariant-loop-i
invariant-loop-i l = l.i + blanks (drop l.i l.s) ≡ blanks l.s
