use Rattle.std.proofs.Common.{◌+◌, refl, arith}
use Rattle.calendar.specs.Calendar.{sum}
use Rattle.calendar.specs.Lengths.{months_next, months_most}
use Rattle.calendar.proofs.days_of_months.Goals as goal

pub loop-m-init : goal.loop-m-init
unfolding sum
loop-m-init c = refl

pub overflow_add-total : goal.overflow_add-total
overflow_add-total c =
    let m = c.loop-m.m in
    omega (arith, months_next c.args.year m, months_most c.args.year (m + 1))

pub loop-m-preserved : goal.loop-m-preserved
loop-m-preserved c = omega (arith, months_next c.args.year c.loop-m.m)
