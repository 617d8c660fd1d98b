use Prim.Native.Nat.{◌+◌}
use mathlib.Core.Path.{◌≡◌}
use lib.ListN.{drop}
use Rattle.plan_wanted.specs.Places.{is_kind, ahead}
use Rattle.plan_wanted.proofs.next.Given as goal

abbrev pub invariant-loop-i : goal.invariant-loop-i
invariant-loop-i l = l.i + ahead (is_kind l.blank) (drop l.i l.s) ≡ l.from + ahead (is_kind l.blank) (drop l.from l.s)
