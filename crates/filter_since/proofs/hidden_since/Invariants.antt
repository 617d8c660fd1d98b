use Prim.Native.Nat.{◌+◌, ◌*◌, ◌≤◌}
use mathlib.Core.Path.{◌≡◌}
use lib.ListN.{length, drop}
use Rattle.filter_since.specs.Traced.{Traced}
use Rattle.filter_since.proofs.hidden_since.Given as goal

abbrev pub invariant-loop-k : goal.invariant-loop-k
invariant-loop-k l =
    let i = l.k-iterator in
    (goal.iterator-loop-k).can_next i × (goal.iterator-loop-k).is_finite i
    × Traced l.plan l.event.address l.event.instance l.event.kind i.count l.since × (i.iter.rest.now ≡ drop (8 * i.count) l.plan) × (i.iter.size ≡ 8) × (8 * i.count ≤ length l.plan + 7)
