use Rattle.std.proofs.Common.{◌≤◌, ◌≡◌}
use Rattle.calendar.specs.Calendar.{days_of_years}
use Rattle.calendar.proofs.days_of_years.Given as goal

abbrev pub invariant-loop-y : goal.invariant-loop-y
invariant-loop-y l = (l.year ≤ 2106) × (l.total ≡ days_of_years l.y)
