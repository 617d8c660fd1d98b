use Rattle.std.proofs.Common.{◌-◌, ◌≤◌, arith}
use Rattle.calendar.specs.Calendar.{days_in}
use Rattle.calendar.specs.Lengths.{month_there, months_most, month_most, years_most, no_day, no_date, too_early, year_late, too_late, in_time_lem}
use Rattle.calendar.proofs.midnight_of.Goals.{then-d-eq0-via-then-d-eq0, then-d-eq0-via-else-d-eq0+then-days_in-d, then-d-lt-FIRST_YEAR-via-then-d-lt-FIRST_YEAR, then-d-lt-FIRST_YEAR-via-else-d-lt-FIRST_YEAR+then-d-gt-LAST_YEAR}
use Rattle.calendar.proofs.midnight_of.Goals as goal

pub returns-then-d-eq0 : goal.returns-then-d-eq0
returns-then-d-eq0 c =
    elim c.then-d-eq0.branch [
      | then-d-eq0-via-then-d-eq0 w ↦ no_day c.args.d w.if-d-eq0.true
      | then-d-eq0-via-else-d-eq0+then-days_in-d w ↦ no_date c.args.d (rw (← w.days_in.ensures) w.if-days_in-d.true)
    ]

pub returns-then-d-lt-FIRST_YEAR : goal.returns-then-d-lt-FIRST_YEAR
returns-then-d-lt-FIRST_YEAR c =
    let d = c.args.d in
    let most : d.day ≤ days_in d.year d.month = omega (arith, c.days_in.ensures, c.if-days_in-d.false) in
    elim c.then-d-lt-FIRST_YEAR.branch [
      | then-d-lt-FIRST_YEAR-via-then-d-lt-FIRST_YEAR w ↦ too_early d (omega (arith, c.if-d-eq0.false)) most w.if-d-lt-FIRST_YEAR.true
      | then-d-lt-FIRST_YEAR-via-else-d-lt-FIRST_YEAR+then-d-gt-LAST_YEAR w ↦ year_late d (omega (arith, c.if-d-eq0.false)) most w.if-d-gt-LAST_YEAR.true
    ]

pub days_of_months-requires : goal.days_of_months-requires
days_of_months-requires c =
    let d = c.args.d in
    month_there d.year d.month (omega (arith, c.days_in.ensures, c.if-days_in-d.false, c.if-d-eq0.false))

pub overflow_add-days : goal.overflow_add-days
overflow_add-days c =
    let d = c.args.d in
    omega (arith, years_most (d.year - 1970), months_most d.year d.month)

pub overflow_add-days-2 : goal.overflow_add-days-2
overflow_add-days-2 c =
    let d = c.args.d in
    omega (arith, years_most (d.year - 1970), months_most d.year d.month, month_most d.year d.month, c.days_in.ensures, c.if-days_in-d.false)

pub returns-then-days-gt-LAST_DAY : goal.returns-then-days-gt-LAST_DAY
returns-then-days-gt-LAST_DAY c =
    let d = c.args.d in
    let most : d.day ≤ days_in d.year d.month = omega (arith, c.days_in.ensures, c.if-days_in-d.false) in
    too_late d (omega (arith, c.if-d-eq0.false)) most c.if-d-lt-FIRST_YEAR.false (omega (arith, c.days_of_years.ensures, c.days_of_months.ensures, c.if-days-gt-LAST_DAY.true))

pub returns : goal.returns
returns c =
    let d = c.args.d in
    let most : d.day ≤ days_in d.year d.month = omega (arith, c.days_in.ensures, c.if-days_in-d.false) in
    in_time_lem d (omega (arith, c.if-d-eq0.false)) most c.if-d-lt-FIRST_YEAR.false (omega (arith, c.days_of_years.ensures, c.days_of_months.ensures)) c.if-days-gt-LAST_DAY.false
