use Prim.Native.Nat.{◌-◌, ◌≤◌}
use mathlib.Core.Path.{◌≡◌}
use lib.ListN.{length}
use Rattle.lent.specs.Behind.{Rest}
use Rattle.bench_book.specs.Pages.{entries_texts}
use Rattle.bench_book.proofs.entries.Given as goal

abbrev pub invariant-loop-i : goal.invariant-loop-i
invariant-loop-i l = (l.i ≤ 256) × (length l.out ≡ length l.initial.out) × Rest (entries_texts 256 0 l.asked l.ticks) l.initial.out l.initial.e (entries_texts (256 - l.i) l.i l.asked l.ticks) l.out l.e
