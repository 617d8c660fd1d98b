-- "a given date that does not exist or lies outside those years is out of range": the dates of 2000 to 2099 against a count of days. They are
-- the 36,525 dates that one comes to by counting on from 2000-01-01 day by day (`given_exactly`, `first_number`, `next_number`), and every fourth year
-- of them is a leap year.
use Rattle.std.specs.Prelude.{ℕ, zero, suc, ◌+◌, ◌-◌, ◌*◌, ◌/◌, ◌%◌, ◌<◌, ◌≤◌, ◌≡◌, refl, Bool, true, false, not, ◌&&◌, ◌||◌, ◌↔◌, List, [], ◌∷◌, length, get_or, eqb, ltb, leb}
use Rattle.std.proofs.Common.{sym, ap, ◌∙◌, leb-true, leb-false, ltb-true, ltb-false, le-leb, eqb-true, ne_eqb, arith}
use Rattle.std.proofs.lemmas.Bool.{eqb-false}
use Rattle.refusal.specs.Test.{pick, both_left, both_right}
use Rattle.calendar.specs.declared.Date.{Date}
use Rattle.calendar.specs.Calendar.{is_leap, days_in, sum, days_of, is_date, days_of_first, days_of_years, days_of_months, days_since1970, month_from, year_from, date_of}
use Rattle.calendar.specs.Lengths.{february_leap, february_common, other_month, month_there, months_next, years_next, in_time_lem}
use Rattle.calendar.specs.Counts.{Lies, years_rise, before_year, one_date}
use Rattle.calendar.specs.Back.{date_there, lies, midnight_date}
use Rattle.clock_day.specs.declared.Given.{Given}
use Rattle.clock_day.specs.Day.{is_given}

-- the date that is given
abbrev pub date_given : Given → Date
date_given g = record { year = g.year; month = g.month; day = g.day }

-- the n-th date from 2000-01-01 on, which is 10,957 days behind 1970-01-01
abbrev pub date_number : ℕ → Date
date_number n = date_of ((10957 + n) * 86400)

-- the days before 2000, and before 2100
before_2000 : days_of_first 30 ≡ 10957
unfolding days_of_first days_of sum is_leap
before_2000 = refl

before_2100 : days_of_first 130 ≡ 47482
unfolding days_of_first days_of sum is_leap
before_2100 = refl

-- a date of these years lies so many days behind 1970-01-01, and no other does
in_years_lem : (d : Date) (n : ℕ) → Lies d n → ((2000 ≤ d.year) × (d.year ≤ 2099)) ↔ ((10957 ≤ n) × (n < 47482))
in_years_lem d n r = (there, from)
  where
    there : (2000 ≤ d.year) × (d.year ≤ 2099) → (10957 ≤ n) × (n < 47482)
    there (h, l) = (
      omega (arith, r.whole, before_2000, years_rise 30 (d.year - 1970) (omega arith)),
      omega (arith, before_year r, before_2100, years_rise (d.year + 1 - 1970) 130 (omega arith)),
    )

    least : (t : Bool) → leb 2000 d.year ≡ t → 10957 ≤ n → 2000 ≤ d.year
    least true e h = leb-true 2000 d.year e
    least false e h = absurd (omega (arith, before_year r, before_2000, leb-false 2000 d.year e, years_rise (d.year + 1 - 1970) 30 (omega (arith, leb-false 2000 d.year e))))

    most : (t : Bool) → leb d.year 2099 ≡ t → n < 47482 → d.year ≤ 2099
    most true e h = leb-true d.year 2099 e
    most false e h = absurd (omega (arith, r.whole, before_2100, years_rise 130 (d.year - 1970) (omega (arith, leb-false d.year 2099 e))))

    from : (10957 ≤ n) × (n < 47482) → (2000 ≤ d.year) × (d.year ≤ 2099)
    from (h, l) = (least (leb 2000 d.year) refl h, most (leb d.year 2099) refl l)

-- another way to say a date and its number
moved : {d e : Date} {m n : ℕ} → d ≡ e → m ≡ n → Lies e m → Lies d n
moved p q r = rw (p, ← q) r

-- THE DATES THERE ARE
pub given_exactly : (g : Given) → (is_given g ≡ true) ↔ ((g.weekday ≤ 6) × ((n : ℕ) × ((n < 36525) × (date_given g ≡ date_number n))))
unfolding is_given
given_exactly g = (there, from)
  where
    week : Bool
    week = leb g.weekday 6

    years : Bool
    years = leb 2000 g.year && leb g.year 2099

    there : is_given g ≡ true → (g.weekday ≤ 6) × ((n : ℕ) × ((n < 36525) × (date_given g ≡ date_number n)))
    there e =
        let d : Date = date_given g in
        let days : Bool = is_date d in
        let a = both_left (week && years) days e in
        let b = both_right (week && years) days e in
        let y = both_right week years a in
        let one = leb-true 1 g.day (both_left (leb 1 g.day) (leb g.day (days_in g.year g.month)) b) in
        let most = leb-true g.day (days_in g.year g.month) (both_right (leb 1 g.day) (leb g.day (days_in g.year g.month)) b) in
        let first = leb-true 2000 g.year (both_left (leb 2000 g.year) (leb g.year 2099) y) in
        let last = leb-true g.year 2099 (both_right (leb 2000 g.year) (leb g.year 2099) y) in
        let n : ℕ = days_since1970 d in
        let r : Lies d n = record { from = omega arith; one = one; most = most; whole = refl } in
        let k = (in_years_lem d n r).0 (first, last) in
        let at = sym (in_time_lem d one most {n = n} (omega arith) refl (omega (arith, k.1))) in
        let f : (10957 + (n - 10957)) * 86400 ≡ n * 86400 = omega (arith, k.0) in (
          leb-true g.weekday 6 (both_left week years a),
          (n - 10957, (omega (arith, k.0, k.1), sym (ap date_of f ∙ midnight_date d (n * 86400) at))),
        )

    from : (g.weekday ≤ 6) × ((n : ℕ) × ((n < 36525) × (date_given g ≡ date_number n))) → is_given g ≡ true
    from (w, (n, (h, e))) =
        let t : ℕ = (10957 + n) * 86400 in
        let l : t < 4294967296 = omega arith in
        let q : t / 86400 ≡ 10957 + n = omega arith in
        let r : Lies (date_given g) (10957 + n) = moved e q (lies t l) in
        let y = (in_years_lem (date_given g) (10957 + n) r).1 (omega arith, omega arith) in
        let d : is_date (date_given g) ≡ true = ap is_date e ∙ date_there t l in
        rw (le-leb g.weekday 6 w, le-leb 2000 g.year y.0, le-leb g.year 2099 y.1, d)

-- COUNTED. Number 0 is 2000-01-01, and each number's date is the day behind that of the number before: the next of its month, or the first of the next
-- month, or the first of January
pub first_number : date_number 0 ≡ record { year = 2000; month = 1; day = 1 }
unfolding is_leap sum days_of month_from year_from
first_number = refl

abbrev pub tomorrow : Date → Date
tomorrow d =
    pick (ltb d.day (days_in d.year d.month)) (record { year = d.year; month = d.month; day = d.day + 1 })
    (pick (ltb d.month 12) (record { year = d.year; month = d.month + 1; day = 1 }) (record { year = d.year + 1; month = 1; day = 1 }))

-- a month has days
all_some : List ℕ → Bool
all_some [] = true
all_some (n ∷ ns) = leb 1 n && all_some ns

some_at : (ns : List ℕ) (i : ℕ) → i < length ns → all_some ns ≡ true → 1 ≤ get_or ns i 0
unfolding all_some
some_at [] i h e = absurd (omega arith)
some_at (n ∷ ns) zero h e = leb-true 1 n (both_left (leb 1 n) (all_some ns) e)
some_at (n ∷ ns) (suc i) h e = some_at ns i (omega arith) (both_right (leb 1 n) (all_some ns) e)

abbrev common : List ℕ
common = 31 ∷ 28 ∷ 31 ∷ 30 ∷ 31 ∷ 30 ∷ 31 ∷ 31 ∷ 30 ∷ 31 ∷ 30 ∷ 31 ∷ []

common_some : all_some common ≡ true
unfolding all_some
common_some = refl

has_days : (y m : ℕ) → 1 ≤ m → m ≤ 12 → 1 ≤ days_in y m
has_days y zero h l = absurd (omega arith)
has_days y (suc k) h l = go (eqb (suc k) 2) refl (is_leap y) refl
  where
    go : (t : Bool) → eqb (suc k) 2 ≡ t → (u : Bool) → is_leap y ≡ u → 1 ≤ days_in y (suc k)
    go true e true f = omega (arith, february_leap y (suc k) (eqb-true (suc k) 2 e) f)
    go true e false f = omega (arith, february_common y (suc k) (eqb-true (suc k) 2 e) f)
    go false e u f = omega (arith, other_month y (suc k) (eqb-false (suc k) 2 e), some_at common k (omega arith) common_some)

-- there are none before January, and the days of all months are those of the year
no_months : (y : ℕ) → days_of_months y 1 ≡ 0
unfolding sum
no_months y = refl

all_months : (y : ℕ) → days_of_months y 13 ≡ days_of y
unfolding days_of
all_months y = refl

next_day : (d : Date) (n : ℕ) → Lies d n → Lies (tomorrow d) (n + 1)
next_day d n r = go (ltb d.day (days_in d.year d.month)) refl (ltb d.month 12) refl
  where
    there : (1 ≤ d.month) × (d.month ≤ 12)
    there = month_there d.year d.month (omega (arith, r.one, r.most))

    go : (t : Bool) → ltb d.day (days_in d.year d.month) ≡ t → (u : Bool) → ltb d.month 12 ≡ u
        → Lies (pick t (record { year = d.year; month = d.month; day = d.day + 1 })
        (pick u (record { year = d.year; month = d.month + 1; day = 1 }) (record { year = d.year + 1; month = 1; day = 1 }))) (n + 1)
    go true e u f = record {
      from = r.from;
      one = omega arith;
      most = omega (arith, ltb-true d.day (days_in d.year d.month) e);
      whole = omega (arith, r.whole, r.one);
    }
    go false e true f = record {
      from = r.from;
      one = omega arith;
      most = has_days d.year (d.month + 1) (omega arith) (omega (arith, ltb-true d.month 12 f));
      whole = omega (arith, r.whole, r.one, r.most, ltb-false d.day (days_in d.year d.month) e, months_next d.year d.month there.0);
    }
    go false e false f =
        let m : d.month ≡ 12 = omega (arith, there.1, ltb-false d.month 12 f) in
        let k : days_of_months d.year d.month + days_in d.year d.month ≡ days_of d.year = rw m (months_next d.year 12 (omega arith) ∙ all_months d.year) in
        let w : days_of_years (d.year + 1) + days_of_months (d.year + 1) 1 + (1 - 1) ≡ n + 1 =
        omega (arith, r.whole, r.one, r.most, ltb-false d.day (days_in d.year d.month) e, k, years_next d.year r.from, no_months (d.year + 1)) in
        record { from = omega (arith, r.from); one = omega arith; most = has_days (d.year + 1) 1 (omega arith) (omega arith); whole = w }

number_lies : (n : ℕ) → n < 36525 → Lies (date_number n) (10957 + n)
number_lies n h = let q : (10957 + n) * 86400 / 86400 ≡ 10957 + n = omega arith in moved refl q (lies ((10957 + n) * 86400) (omega arith))

pub next_number : (n : ℕ) → n + 1 < 36525 → date_number (n + 1) ≡ tomorrow (date_number n)
next_number n h =
    let e : 10957 + (n + 1) ≡ 10957 + n + 1 = omega arith in
    one_date (moved refl e (number_lies (n + 1) h)) (next_day (date_number n) (10957 + n) (number_lies n (omega arith)))

-- every fourth year, and no other
pub leap_fourth : (y : ℕ) → 2000 ≤ y → y ≤ 2099 → is_leap y ≡ eqb (y % 4) 0
unfolding is_leap
leap_fourth y h l = go (eqb y 2000) refl
  where
    and-true : (t : Bool) → t && true ≡ t
    and-true true = refl
    and-true false = refl

    go : (t : Bool) → eqb y 2000 ≡ t → eqb (y % 4) 0 && (not (eqb (y % 100) 0) || eqb (y % 400) 0) ≡ eqb (y % 4) 0
    go true e = rw (eqb-true y 2000 e)
    go false e =
        let m : y ≡ 2000 → ⊥ = eqb-false y 2000 e in
        let n : y % 100 ≡ 0 → ⊥ = λ z. m (omega arith) in
        rw (ne_eqb (y % 100) 0 n) (and-true (eqb (y % 4) 0))
