use Prim.Native.Nat.{◌+◌, ◌*◌, ◌≤◌}
use mathlib.Core.Path.{◌≡◌}
use lib.ListN.{length, take}
use Rattle.lent.specs.Puts.{over}
use Rattle.printed.specs.Text.{hexes}
use Rattle.printed.proofs.put_bytes.Given as goal

abbrev pub invariant-loop-i : goal.invariant-loop-i
invariant-loop-i l = (l.i ≤ length l.s) × (l.at + 2 * length l.s ≤ length l.initial.out) × (length l.out ≡ length l.initial.out) × (l.out ≡ over (hexes (take l.i l.s)) l.initial.out l.at)
