use Rattle.std.proofs.Common.{◌-◌, ◌≤◌, ◌≡◌, drop}
use Rattle.calendar.specs.Calendar.{months, month_from, date_in}
use Rattle.calendar.proofs.date_in.Given as goal

abbrev pub invariant-loop-month : goal.invariant-loop-month
invariant-loop-month l = (l.left ≤ 49710) × (month_from (drop (l.month - 1) (months l.year)) l.year l.month l.left ≡ date_in l.year l.days)
