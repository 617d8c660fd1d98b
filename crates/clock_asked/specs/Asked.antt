-- docs/CLOCK.md, "The date": the day that the program clock is asked of.
use Rattle.std.specs.Prelude.{ℕ, Result, Ok, Err, ◌+◌, ◌/◌, ◌%◌, Bool, ◌&&◌, List, length, get_or, eqb, leb}
use Rattle.refusal.specs.Test.{pick}
use Rattle.calendar.specs.Calendar.{date_of}
use Rattle.asked.specs.declared.NoBoundary.{NoBoundary}
use Rattle.asked.specs.declared.NoBoundary.TheVariants.{Neither, NoSuchDate, Outside}
use Rattle.asked.specs.Asked.{by_date}
use Rattle.clock_day.specs.declared.Given.{Given}
use Rattle.clock_asked.specs.declared.NoDay.{NoDay}
use Rattle.clock_asked.specs.declared.NoDay.TheVariants.{NotADate, NoSuchDate as No-such-date, Outside as Out-of-years}

-- "four digits, `-`, two digits, `-`, two digits": ten bytes with two `-` (45) in their places; `by_date` of crate asked reads the digits between them
abbrev pub is_parted : List ℕ → Bool
is_parted s = eqb (length s) 10 && eqb (get_or s 4 0) 45 && eqb (get_or s 7 0) 45

-- "2000-01-01 to 2099-12-31"
abbrev pub in_years : ℕ → Bool
in_years t = leb 2000 (date_of t).year && leb (date_of t).year 2099

-- "a date of the Gregorian calendar": what crate asked says of the date, the years narrowed
abbrev pub no_day : NoBoundary → NoDay
no_day Neither = NotADate
no_day NoSuchDate = No-such-date
no_day Outside = Out-of-years

abbrev pub within : Result ℕ NoBoundary → Result ℕ NoDay
within (Ok t) = pick (in_years t) (Ok t) (Err Out-of-years)
within (Err b) = Err (no_day b)

unfoldable pub day_of : List ℕ → Result ℕ NoDay
day_of s = pick (is_parted s) (within (by_date s)) (Err NotADate)

-- "Its weekday is reckoned from it", 0 to 6 from Sunday: 1970-01-01 was a Thursday
abbrev pub weekday_of : ℕ → ℕ
weekday_of t = (t / 86400 + 4) % 7

-- the date of a midnight in seconds since 1970, and its weekday
unfoldable pub given_of : ℕ → Given
given_of t = record { year = (date_of t).year; month = (date_of t).month; day = (date_of t).day; weekday = weekday_of t }
