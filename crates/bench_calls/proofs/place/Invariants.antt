use Prim.Native.Nat.{◌+◌, ◌-◌, ◌≤◌}
use mathlib.Core.Path.{◌≡◌}
use lib.ListN.{length}
use Rattle.bench_words.specs.Words.{words_at}
use Rattle.bench_calls.specs.Table.{place_in}
use Rattle.bench_calls.proofs.place.Given as goal

abbrev pub invariant-loop-i : goal.invariant-loop-i
invariant-loop-i l = (l.k ≤ l.i) × (l.k + place_in l.name (words_at l.i l.names) ≡ place_in l.name (words_at 0 l.names))

abbrev pub decreases-loop-i : goal.decreases-loop-i
decreases-loop-i l = length l.names + 1 - l.i
