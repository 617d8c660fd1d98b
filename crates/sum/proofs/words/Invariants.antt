use Prim.Native.Nat.{◌-◌, ◌%◌, ◌≤◌}
use mathlib.Core.Path.{◌≡◌}
use lib.Bits.{bit_xor}
use lib.ListN.{take}
use Rattle.sum.specs.Sum.{sum_of}
use Rattle.sum.specs.Lanes.{lanes}
use Rattle.sum.proofs.words.Given as goal

abbrev pub invariant-loop-i : goal.invariant-loop-i
invariant-loop-i l = (l.i ≤ l.e) × (l.i % 32 ≡ l.e % 32) × (lanes 8 (bit_xor l.w l.v) ≡ sum_of (take l.i l.s))

abbrev pub decreases-loop-i : goal.decreases-loop-i
decreases-loop-i l = l.e - l.i
