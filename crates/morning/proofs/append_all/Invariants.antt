use Rattle.std.specs.Prelude.{◌-◌, ◌≡◌, length}
use Rattle.morning.specs.Going.{Going}
use Rattle.morning.proofs.append_all.Given as goal

abbrev pub invariant-loop-n : goal.invariant-loop-n
invariant-loop-n l =
    Going l.initial.buf l.fn.mark l.fn.x l.seconds l.run l.i (record { entered = l.entered; refused = l.refused; kept = l.kept; buffer = l.buf })
    × (length l.buf ≡ length l.initial.buf)

abbrev pub decreases-loop-n : goal.decreases-loop-n
decreases-loop-n l = length l.run - l.i
