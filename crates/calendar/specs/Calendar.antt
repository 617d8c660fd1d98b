-- The Gregorian calendar, and seconds since 1970-01-01 00:00:00, UTC, where every day has 86400 of them. docs/SHEET.md, "Arguments": "a date
-- of the Gregorian calendar, and mean its midnight, UTC: 1970-01-01 to 2106-02-07, the last whose midnight is such a number".
use Rattle.std.specs.Prelude.{ℕ, Result, Ok, Err, zero, suc, ◌+◌, ◌-◌, ◌*◌, ◌/◌, ◌%◌, Bool, ◌&&◌, ◌||◌, not, List, [], ◌∷◌, ◌++◌, get_or, take, eqb, ltb, leb}
use Rattle.refusal.specs.Test.{pick}
use Rattle.calendar.specs.declared.Date.{Date}
use Rattle.calendar.specs.declared.NoMidnight.{NoMidnight}
use Rattle.calendar.specs.declared.NoMidnight.TheVariants.{NoSuchDate, Outside}

-- LENGTHS. A year is a leap year where 4 divides it, but for those that 100 divides and 400 does not
unfoldable pub is_leap : ℕ → Bool
is_leap y = eqb (y % 4) 0 && (not (eqb (y % 100) 0) || eqb (y % 400) 0)

-- the days of January to December
abbrev pub months : ℕ → List ℕ
months y = 31 ∷ pick (is_leap y) 29 28 ∷ 31 ∷ 30 ∷ 31 ∷ 30 ∷ 31 ∷ 31 ∷ 30 ∷ 31 ∷ 30 ∷ 31 ∷ []

-- the days of a month, from 1 on; none of a month that is not there
unfoldable pub days_in : ℕ → ℕ → ℕ
days_in y m = get_or (0 ∷ months y) m 0

unfoldable pub sum : List ℕ → ℕ
sum [] = 0
sum (n ∷ ns) = n + sum ns

-- the days of a year
unfoldable pub days_of : ℕ → ℕ
days_of y = sum (months y)

-- MIDNIGHTS. A date that is there
abbrev pub is_date : Date → Bool
is_date d = leb 1 d.day && leb d.day (days_in d.year d.month)

-- the days of k years from 1970 on, of the years before a year, and of the months before a month
unfoldable pub days_of_first : ℕ → ℕ
days_of_first zero = 0
days_of_first (suc k) = days_of_first k + days_of (1970 + k)

abbrev pub days_of_years : ℕ → ℕ
days_of_years y = days_of_first (y - 1970)

abbrev pub days_of_months : ℕ → ℕ → ℕ
days_of_months y m = sum (take (m - 1) (months y))

-- the days from 1970-01-01 to a date
abbrev pub days_since1970 : Date → ℕ
days_since1970 d = days_of_years d.year + days_of_months d.year d.month + (d.day - 1)

-- its midnight, where the date is there and the midnight is a number of 32 bits
unfoldable pub midnight_of : Date → Result ℕ NoMidnight
midnight_of d =
    pick (is_date d)
    (pick (leb 1970 d.year && leb (days_since1970 d * 86400) 4294967295) (Ok (days_since1970 d * 86400)) (Err Outside))
    (Err NoSuchDate)

-- DATES. The date n days behind the first day of month m of year y, where the months from m on have these days
unfoldable pub month_from : List ℕ → ℕ → ℕ → ℕ → Date
month_from [] y m n = record { year = y; month = m; day = n + 1 }
month_from (l ∷ ls) y m n = pick (ltb n l) (record { year = y; month = m; day = n + 1 }) (month_from ls y (m + 1) (n - l))

abbrev pub date_in : ℕ → ℕ → Date
date_in y n = month_from (months y) y 1 n

-- the date n days behind the first day of year y, in that year or one of the k behind it
unfoldable pub year_from : ℕ → ℕ → ℕ → Date
year_from zero y n = date_in y n
year_from (suc k) y n = pick (ltb n (days_of y)) (date_in y n) (year_from k (y + 1) (n - days_of y))

-- the date of a second since 1970 that is a number of 32 bits: it lies in 1970 or in one of the 136 years behind it
abbrev pub date_of : ℕ → Date
date_of t = year_from 136 1970 (t / 86400)

-- TEXT. The last decimal digit of a number, and the last two
abbrev pub figure : ℕ → ℕ
figure n = 48 + n % 10

abbrev pub two : ℕ → List ℕ
two n = figure (n / 10) ∷ figure n ∷ []

-- `2026-03-01`, and `00:00:00`: `-` is 45, `:` is 58
abbrev pub date_text : Date → List ℕ
date_text d = figure (d.year / 1000) ∷ figure (d.year / 100) ∷ two d.year ++ (45 ∷ two d.month) ++ (45 ∷ two d.day)

abbrev pub clock_text : ℕ → List ℕ
clock_text t = two (t / 3600 % 24) ++ (58 ∷ two (t / 60 % 60)) ++ (58 ∷ two (t % 60))

-- "A time is written `2026-03-01 00:00:00`, which has 19 bytes"; the blank is 32
abbrev pub time_text : ℕ → List ℕ
time_text t = date_text (date_of t) ++ (32 ∷ clock_text t)
