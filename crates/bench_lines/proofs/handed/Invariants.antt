use Prim.Native.Nat.{◌≤◌}
use mathlib.Core.Path.{◌≡◌}
use lib.ListN.{length, take}
use Rattle.bench_words.specs.Words.{front_of}
use Rattle.bench_lines.proofs.handed.Given as goal

abbrev pub invariant-loop-i : goal.invariant-loop-i
invariant-loop-i l = (l.i ≤ 67) × (length l.bytes ≡ 67) × (take l.i l.bytes ≡ front_of l.i l.s)
