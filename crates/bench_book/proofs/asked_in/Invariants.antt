use Prim.Native.Nat.{◌≤◌}
use mathlib.Core.Path.{◌≡◌}
use lib.ListN.{length, take}
use Rattle.bench_words.specs.Words.{front_of}
use Rattle.bench_book.proofs.asked_in.Given as goal

abbrev pub invariant-loop-i : goal.invariant-loop-i
invariant-loop-i l = (l.i ≤ 256) × (length l.asked ≡ 256) × (take l.i l.asked ≡ front_of l.i l.s)
