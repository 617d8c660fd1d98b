-- What is known of a day that is given.
use Rattle.std.specs.Prelude.{◌≤◌, ◌≡◌, Bool, true, ◌&&◌, leb}
use borrow.Author.Tests.{leb-true}
use Rattle.refusal.specs.Test.{both_left}
use Rattle.calendar.specs.Calendar.{days_in}
use Rattle.clock_day.specs.declared.Given.{Given}
use Rattle.clock_day.specs.Day.{is_given}

-- its weekday is one
pub given_weekday : (g : Given) → is_given g ≡ true → g.weekday ≤ 6
unfolding is_given
given_weekday g e =
    let years : Bool = leb 2000 g.year && leb g.year 2099 in
    let days : Bool = leb 1 g.day && leb g.day (days_in g.year g.month) in
    leb-true g.weekday 6 (both_left (leb g.weekday 6) years (both_left (leb g.weekday 6 && years) days e))
