use Prim.Native.Nat.{◌≤◌}
use mathlib.Core.Path.{◌≡◌}
use lib.ListN.{length, take}
use Rattle.bench_words.specs.Words.{made_by}
use Rattle.bench_book.specs.Pages.{tick_in}
use Rattle.bench_book.proofs.ticks_in.Given as goal

abbrev pub invariant-loop-i : goal.invariant-loop-i
invariant-loop-i l = (l.i ≤ 256) × (length l.ticks ≡ 256) × (take l.i l.ticks ≡ made_by (tick_in l.s) l.i)
