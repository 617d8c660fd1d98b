-- From seconds to a date and back.
use Rattle.std.specs.Prelude.{ℕ, Ok, Err, ◌+◌, ◌-◌, ◌*◌, ◌/◌, ◌%◌, ◌≤◌, ◌<◌, ◌≡◌, refl, true, ◌&&◌, [], ◌∷◌, length, leb}
use Rattle.std.proofs.Common.{sym, ap, ◌∙◌, leb-true, le-leb, arith}
use Rattle.refusal.specs.Test.{pick_elim, both_left, both_right}
use Rattle.calendar.specs.declared.Date.{Date}
use Rattle.calendar.specs.declared.NoMidnight.TheVariants.{NoSuchDate, Outside}
use Rattle.calendar.specs.Calendar.{is_leap, days_in, sum, days_of, is_date, days_of_first, days_since1970, midnight_of, month_from, year_from, date_of, time_text}
use Rattle.calendar.specs.Lengths.{years_least, in_time_lem}
use Rattle.calendar.specs.Counts.{Lies, counted, one_date}

-- the date of a number of 32 bits lies as many days behind 1970-01-01 as the number has whole days
no_years : days_of_first 0 ≡ 0
unfolding days_of_first
no_years = refl

pub lies : (t : ℕ) → t < 4294967296 → Lies (date_of t) (t / 86400)
lies t h =
    let e : days_of_first 0 + t / 86400 ≡ t / 86400 = omega (arith, no_years) in
    rw e at (counted 136 1970 (t / 86400) (omega arith) (omega (arith, years_least 137, no_years)))

-- it is there
pub date_there : (t : ℕ) → t < 4294967296 → is_date (date_of t) ≡ true
date_there t h = there (date_of t) (lies t h)
  where
    there : (d : Date) {n : ℕ} → Lies d n → is_date d ≡ true
    there d r = rw (le-leb 1 d.day r.one, le-leb d.day (days_in d.year d.month) r.most)

-- its midnight is the last one at or before the number
pub date_midnight : (t : ℕ) → t < 4294967296 → midnight_of (date_of t) ≡ Ok (t - t % 86400)
date_midnight t h = go (date_of t) (lies t h)
  where
    go : (d : Date) → Lies d (t / 86400) → midnight_of d ≡ Ok (t - t % 86400)
    go d r =
        let e : t / 86400 * 86400 ≡ t - t % 86400 = omega arith in
        sym (in_time_lem d r.one r.most r.from (sym r.whole) (omega arith)) ∙ ap Ok e

-- and a date is the date of its midnight
pub lies_at : (d : Date) (t : ℕ) → midnight_of d ≡ Ok t → (t < 4294967296) × Lies d (t / 86400)
unfolding midnight_of
lies_at d t h =
    pick_elim (is_date d)
    (λ p q.
    pick_elim (leb 1970 d.year && leb (days_since1970 d * 86400) 4294967295)
    (λ r s.
    let e : days_since1970 d * 86400 ≡ t = cc in
    let most : days_since1970 d * 86400 ≤ 4294967295 = leb-true (days_since1970 d * 86400) 4294967295 (both_right (leb 1970 d.year) (leb (days_since1970 d * 86400) 4294967295) r) in (
      omega arith,
      record {
        from = leb-true 1970 d.year (both_left (leb 1970 d.year) (leb (days_since1970 d * 86400) 4294967295) r);
        one = leb-true 1 d.day (both_left (leb 1 d.day) (leb d.day (days_in d.year d.month)) p);
        most = leb-true d.day (days_in d.year d.month) (both_right (leb 1 d.day) (leb d.day (days_in d.year d.month)) p);
        whole = omega arith;
      },
    ))
    (λ r s. let z : ◌≡◌ {A = ℕ} 0 1 = cc in absurd (omega arith))
    q)
    (λ p q. let z : ◌≡◌ {A = ℕ} 0 1 = cc in absurd (omega arith))
    h

pub midnight_date : (d : Date) (t : ℕ) → midnight_of d ≡ Ok t → date_of t ≡ d
midnight_date d t h = one_date (lies t (lies_at d t h).0) (lies_at d t h).1

-- "A time is written `2026-03-01 00:00:00`, which has 19 bytes"
pub time_length : (t : ℕ) → length (time_text t) ≡ 19
time_length t = refl

-- "1970-01-01 to 2106-02-07, the last whose midnight is such a number"; a day that a leap year has more, and one that 2100 has not
abbrev at : ℕ → ℕ → ℕ → Date
at y m d = record { year = y; month = m; day = d }

pub first_date : midnight_of (at 1970 1 1) ≡ Ok 0
unfolding is_leap days_in sum days_of_first midnight_of
first_date = refl

pub last_date : midnight_of (at 2106 2 7) ≡ Ok 4294944000
unfolding is_leap days_in sum days_of days_of_first midnight_of
last_date = refl

pub behind_last : midnight_of (at 2106 2 8) ≡ Err Outside
unfolding is_leap days_in sum days_of days_of_first midnight_of
behind_last = refl

pub before_first : midnight_of (at 1969 12 31) ≡ Err Outside
unfolding is_leap days_in sum days_of days_of_first midnight_of
before_first = refl

pub leap_day : midnight_of (at 2000 2 29) ≡ Ok 951782400
unfolding is_leap days_in sum days_of days_of_first midnight_of
leap_day = refl

pub no_leap_day : midnight_of (at 2100 2 29) ≡ Err NoSuchDate
unfolding is_leap days_in sum days_of days_of_first midnight_of
no_leap_day = refl

-- `2026-03-01 13:00:07`
pub spring_text : time_text 1772370007 ≡ 50 ∷ 48 ∷ 50 ∷ 54 ∷ 45 ∷ 48 ∷ 51 ∷ 45 ∷ 48 ∷ 49 ∷ 32 ∷ 49 ∷ 51 ∷ 58 ∷ 48 ∷ 48 ∷ 58 ∷ 48 ∷ 55 ∷ []
unfolding is_leap sum days_of month_from year_from
spring_text = refl
