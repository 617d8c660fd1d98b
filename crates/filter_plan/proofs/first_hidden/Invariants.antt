use Prim.Native.Nat.{◌*◌, ◌≤◌}
use mathlib.Core.Path.{◌≡◌}
use lib.ListN.{length, drop}
use Rattle.filter_plan.specs.Table.{list_of}
use Rattle.filter_plan.specs.Runs.{Shown}
use Rattle.filter_plan.proofs.first_hidden.Given as goal

abbrev pub invariant-loop-j : goal.invariant-loop-j
invariant-loop-j l =
    let i = l.j-iterator in
    (goal.iterator-loop-j).can_next i × (goal.iterator-loop-j).is_finite i
    × Shown (list_of l.t) l.wanted i.count × (i.iter.rest.now ≡ drop (3 * i.count) l.wanted) × (i.iter.size ≡ 3) × (3 * i.count ≤ length l.wanted)
