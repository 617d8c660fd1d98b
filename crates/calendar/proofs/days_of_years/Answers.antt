use Rattle.std.proofs.Common.{◌-◌, refl, arith}
use Rattle.calendar.specs.Calendar.{days_of_first}
use Rattle.calendar.specs.Lengths.{year_most, years_next, years_most}
use Rattle.calendar.proofs.days_of_years.Goals as goal

pub loop-y-init : goal.loop-y-init
unfolding days_of_first
loop-y-init c = (omega arith, refl)

pub overflow_add-total : goal.overflow_add-total
overflow_add-total c = omega (arith, year_most c.loop-y.y, years_most (c.loop-y.y - 1970))

pub loop-y-preserved : goal.loop-y-preserved
loop-y-preserved c = (omega arith, omega (arith, years_next c.loop-y.y))
