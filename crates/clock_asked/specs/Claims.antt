-- What is claimed of the day: weekdays go round, the day is one that clocks are asked of; and worked examples.
use Rattle.std.specs.Prelude.{ℕ, Option, Some, None, Result, Ok, Err, suc, ◌+◌, ◌-◌, ◌/◌, ◌≤◌, ◌<◌, ◌≡◌, refl, Bool, true, false, ◌&&◌, List, take, drop, eqb, leb}
use Rattle.std.proofs.Common.{leb-true, le-leb, eqb-true, mod-lt, arith}
use Rattle.std.proofs.lemmas.Bool.{eqb-false}
use Rattle.refusal.specs.Test.{pick, pick_elim, clash, both_left, both_right}
use Rattle.words.specs.Words.{text}
use Rattle.text.specs.Decimal.{value_from}
use Rattle.calendar.specs.declared.Date.{Date}
use Rattle.calendar.specs.declared.NoMidnight.{NoMidnight}
use Rattle.calendar.specs.Calendar.{is_leap, days_in, sum, days_of, is_date, days_of_first, midnight_of, month_from, year_from, date_of}
use Rattle.calendar.specs.Lengths.{months_most, month_most, years_least, years_most}
use Rattle.calendar.specs.Counts.{Lies}
use Rattle.calendar.specs.Back.{date_there, lies, lies_at}
use Rattle.asked.specs.declared.NoBoundary.{NoBoundary}
use Rattle.asked.specs.Asked.{all_digits, number_of, as_boundary, on_date, by_date}
use Rattle.clock_day.specs.Day.{is_given}
use Rattle.clock_asked.specs.declared.NoDay.TheVariants.{NotADate, NoSuchDate, Outside}
use Rattle.clock_asked.specs.Asked.{is_parted, in_years, within, day_of, weekday_of, given_of}

-- WEEKDAYS. There are seven, and a day's is one up from that of the day before, round from 6 to 0
pub weekday_most : (t : ℕ) → weekday_of t ≤ 6
weekday_most t = omega (arith, mod-lt (t / 86400 + 4) {m = 7} (omega arith))

pub weekday_next : (t : ℕ) → weekday_of (t + 86400) ≡ pick (eqb (weekday_of t) 6) 0 (suc (weekday_of t))
weekday_next t = go (eqb (weekday_of t) 6) refl
  where
    go : (x : Bool) → eqb (weekday_of t) 6 ≡ x → weekday_of (t + 86400) ≡ pick x 0 (suc (weekday_of t))
    go true e = omega (arith, eqb-true (weekday_of t) 6 e)
    go false e = omega (arith, mod-lt (t / 86400 + 4) {m = 7} (omega arith), eqb-false (weekday_of t) 6 e)

-- THE DAY. A midnight whose year is one of those has a date that clocks may be asked of
pub years_given : (t : ℕ) → t < 4294967296 → in_years t ≡ true → is_given (given_of t) ≡ true
unfolding is_given given_of
years_given t h e = rw (le-leb (weekday_of t) 6 (weekday_most t), e, date_there t h)

-- a date's midnight is a number of 32 bits
date_fits : (y m d : Option ℕ) (t : ℕ) → on_date y m d ≡ Ok t → t < 4294967296
date_fits (Some y) (Some m) (Some d) t e = go (midnight_of (record { year = y; month = m; day = d })) refl e
  where
    go : (x : Result ℕ NoMidnight) → midnight_of (record { year = y; month = m; day = d }) ≡ x → as_boundary x ≡ Ok t → t < 4294967296
    go (Ok u) p q = let z : u ≡ t = cc in omega (arith, (lies_at (record { year = y; month = m; day = d }) u p).0)
    go (Err n) p q = clash (cc)
date_fits (Some y) (Some m) None t e = clash (cc)
date_fits (Some y) None d t e = clash (cc)
date_fits None m d t e = clash (cc)

-- so a day that is asked of is one that no clock refuses
pub day_given : (s : List ℕ) (t : ℕ) → day_of s ≡ Ok t → is_given (given_of t) ≡ true
unfolding day_of by_date
day_given s t h =
    pick_elim (is_parted s)
    (λ p q. go (by_date s) (date_fits (number_of 9999 (take 4 s)) (number_of 99 (take 2 (drop 5 s))) (number_of 99 (take 2 (drop 8 s)))) q)
    (λ p q. clash (cc))
    h
  where
    go : (b : Result ℕ NoBoundary) → ((u : ℕ) → b ≡ Ok u → u < 4294967296) → within b ≡ Ok t → is_given (given_of t) ≡ true
    go (Ok u) f e =
        pick_elim (in_years u)
        (λ p q. let z : u ≡ t = cc in rw z at (years_given u (f u refl) p))
        (λ p q. clash (cc))
        e
    go (Err n) f e = clash (cc)

-- and of such a day, two days before it and two days behind it are numbers of 32 bits too
pub given_between : (t : ℕ) → t < 4294967296 → is_given (given_of t) ≡ true → (172800 ≤ t) × (t + 172800 < 4294967296)
unfolding is_given given_of
given_between t h e =
    let d : Date = date_of t in
    let w : Bool = leb (weekday_of t) 6 in
    let a : Bool = leb 2000 d.year in
    let b : Bool = leb d.year 2099 in
    let p : w && (a && b) ≡ true = both_left (w && (a && b)) (is_date d) e in
    let q : a && b ≡ true = both_right w (a && b) p in
    go d (lies t h) (leb-true 2000 d.year (both_left a b q)) (leb-true d.year 2099 (both_right a b q))
  where
    go : (d : Date) → Lies d (t / 86400) → 2000 ≤ d.year → d.year ≤ 2099 → (172800 ≤ t) × (t + 172800 < 4294967296)
    go d r f l = (
      omega (arith, r.whole, years_least (d.year - 1970)),
      omega (arith, r.whole, r.most, years_most (d.year - 1970), months_most d.year d.month, month_most d.year d.month),
    )

-- EXAMPLES. A Sunday, and a Saturday
pub spring : day_of (text "2026-03-01") ≡ Ok 1772323200
unfolding day_of number_of all_digits value_from by_date is_leap days_in sum days_of days_of_first midnight_of month_from year_from
spring = refl

pub a_sunday : given_of 1772323200 ≡ record { year = 2026; month = 3; day = 1; weekday = 0 }
unfolding given_of is_leap sum days_of month_from year_from
a_sunday = refl

pub first_day : day_of (text "2000-01-01") ≡ Ok 946684800
unfolding day_of number_of all_digits value_from by_date is_leap days_in sum days_of days_of_first midnight_of month_from year_from
first_day = refl

pub a_saturday : given_of 946684800 ≡ record { year = 2000; month = 1; day = 1; weekday = 6 }
unfolding given_of is_leap sum days_of month_from year_from
a_saturday = refl

-- the last day, and those outside
pub last_day : day_of (text "2099-12-31") ≡ Ok 4102358400
unfolding day_of number_of all_digits value_from by_date is_leap days_in sum days_of days_of_first midnight_of month_from year_from
last_day = refl

pub too_late : day_of (text "2100-01-01") ≡ Err Outside
unfolding day_of number_of all_digits value_from by_date is_leap days_in sum days_of days_of_first midnight_of month_from year_from
too_late = refl

pub too_early : day_of (text "1999-12-31") ≡ Err Outside
unfolding day_of number_of all_digits value_from by_date is_leap days_in sum days_of days_of_first midnight_of month_from year_from
too_early = refl

-- a date that does not exist is none of another year either; and a number of seconds is no date
pub no_such_day : day_of (text "1999-02-30") ≡ Err NoSuchDate
unfolding day_of number_of all_digits value_from by_date is_leap days_in midnight_of
no_such_day = refl

pub no_seconds : day_of (text "1772323200") ≡ Err NotADate
unfolding day_of
no_seconds = refl

pub no_digit : day_of (text "2026-3 -01") ≡ Err NotADate
unfolding day_of number_of all_digits value_from by_date
no_digit = refl
