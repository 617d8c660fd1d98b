use Prim.Native.Nat.{◌-◌, ◌≤◌}
use mathlib.Core.Path.{◌≡◌}
use lib.ListN.{length}
use Rattle.lent.specs.Behind.{Rest}
use Rattle.filter_text.specs.Told.{types_texts, types_of}
use Rattle.filter_text.specs.Putting.{left_from}
use Rattle.filter_text.proofs.types.Given as goal

abbrev pub invariant-loop-t : goal.invariant-loop-t
invariant-loop-t l = (length l.out ≡ length l.initial.out) × Rest (types_texts (types_of l.mask)) l.initial.out l.at (left_from l.mask l.some l.t) l.out l.e
