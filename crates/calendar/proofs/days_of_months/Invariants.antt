use Rattle.std.proofs.Common.{◌≡◌}
use Rattle.calendar.specs.Calendar.{days_of_months}
use Rattle.calendar.proofs.days_of_months.Given as goal

abbrev pub invariant-loop-m : goal.invariant-loop-m
invariant-loop-m l = l.total ≡ days_of_months l.year l.m
