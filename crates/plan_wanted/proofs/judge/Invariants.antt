use Prim.Native.Nat.{◌-◌, ◌≤◌}
use mathlib.Core.Path.{◌≡◌}
use lib.ListN.{length}
use Rattle.plan_wanted.specs.Wanted.{told_by}
use Rattle.plan_wanted.specs.Turns.{rest_of, tally}
use Rattle.plan_wanted.proofs.judge.Given as goal

abbrev pub invariant-loop-i : goal.invariant-loop-i
invariant-loop-i l = (l.events ≤ l.lines) × (l.lines ≤ l.i) × (tally l.lines l.events (rest_of l.text l.i) ≡ tally 0 0 (told_by l.text))

abbrev pub decreases-loop-i : goal.decreases-loop-i
decreases-loop-i l = length l.text - l.i
