use Prim.Native.Nat.{◌+◌, ◌≤◌}
use mathlib.Core.Path.{◌≡◌}
use lib.ListN.{length}
use Rattle.text.specs.Text.{decimal_of}
use Rattle.text.specs.Digits.{last_digits}
use Rattle.lent.specs.Puts.{over}
use Rattle.text.proofs.decimal.Given as goal

abbrev pub invariant-loop-i : goal.invariant-loop-i
invariant-loop-i l = (l.k ≡ length (decimal_of l.n)) × (l.at + l.k ≤ length l.initial.out) × (length l.out ≡ length l.initial.out) × (over (last_digits l.i l.rest) l.out l.at ≡ over (decimal_of l.n) l.initial.out l.at)
