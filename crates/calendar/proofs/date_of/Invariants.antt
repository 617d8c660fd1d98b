use Rattle.std.proofs.Common.{◌-◌, ◌≤◌, ◌≡◌}
use Rattle.calendar.specs.Calendar.{year_from, date_of}
use Rattle.calendar.proofs.date_of.Given as goal

abbrev pub invariant-loop-y : goal.invariant-loop-y
invariant-loop-y l = (l.left ≤ 49710) × (year_from (2106 - l.y) l.y l.left ≡ date_of l.seconds)
