use Rattle.std.proofs.Common.{◌+◌, ◌≡◌, drop}
use Rattle.words.specs.Words.{before}
use Rattle.words.proofs.until.Given as goal

abbrev pub invariant-loop-i : goal.invariant-loop-i
invariant-loop-i l = l.i + before l.b (drop l.i l.s) ≡ l.from + before l.b (drop l.from l.s)
