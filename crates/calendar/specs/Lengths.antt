-- Laws of the lengths of years and months, of sums of them, and of midnights told by what the code has found.
use Rattle.std.specs.Prelude.{ℕ, Ok, Err, zero, suc, ◌+◌, ◌-◌, ◌*◌, ◌≤◌, ◌<◌, ◌≡◌, refl, Bool, true, false, List, [], ◌∷◌, get_or, take, leb}
use Rattle.std.proofs.Common.{sym}
use Rattle.std.proofs.Math.ListN.{get_or-eq_default}
use Rattle.std.proofs.Math.Seq.{take-nil}
use borrow.Author.Tests.{leb-true, leb-false, le-leb, lt-leb}
use native.Mathlib.Omega.{arith}
use Rattle.calendar.specs.declared.Date.{Date}
use Rattle.calendar.specs.declared.NoMidnight.TheVariants.{NoSuchDate, Outside}
use Rattle.calendar.specs.Calendar.{is_leap, months, days_in, sum, days_of, days_of_first, days_of_years, days_of_months, days_since1970, midnight_of}

-- a year, and its February
pub year_leap : (y : ℕ) → is_leap y ≡ true → 366 ≡ days_of y
unfolding days_of sum
year_leap y e = rw e

pub year_common : (y : ℕ) → is_leap y ≡ false → 365 ≡ days_of y
unfolding days_of sum
year_common y e = rw e

pub year_least : (y : ℕ) → 365 ≤ days_of y
year_least y = go (is_leap y) refl
  where
    go : (t : Bool) → is_leap y ≡ t → 365 ≤ days_of y
    go true e = omega (arith, year_leap y e)
    go false e = omega (arith, year_common y e)

pub year_most : (y : ℕ) → days_of y ≤ 366
year_most y = go (is_leap y) refl
  where
    go : (t : Bool) → is_leap y ≡ t → days_of y ≤ 366
    go true e = omega (arith, year_leap y e)
    go false e = omega (arith, year_common y e)

pub february_leap : (y m : ℕ) → m ≡ 2 → is_leap y ≡ true → 29 ≡ days_in y m
unfolding days_in
february_leap y m h e = rw (h, e)

pub february_common : (y m : ℕ) → m ≡ 2 → is_leap y ≡ false → 28 ≡ days_in y m
unfolding days_in
february_common y m h e = rw (h, e)

-- another month, by the table of a common year, and one that is not there
pub other_month : (y m : ℕ) → (m ≡ 2 → ⊥) → get_or (0 ∷ 31 ∷ 28 ∷ 31 ∷ 30 ∷ 31 ∷ 30 ∷ 31 ∷ 31 ∷ 30 ∷ 31 ∷ 30 ∷ 31 ∷ []) m 0 ≡ days_in y m
unfolding days_in
other_month y zero h = refl
other_month y (suc zero) h = refl
other_month y (suc (suc zero)) h = absurd (h refl)
other_month y (suc (suc (suc k))) h = refl

pub no_month : (y m : ℕ) → 12 < m → 0 ≡ days_in y m
unfolding days_in
no_month y m h = sym (get_or-eq_default (0 ∷ months y) 0 h)

first_month : (y m : ℕ) → 1 ≤ days_in y m → 1 ≤ m
unfolding days_in
first_month y zero h = h
first_month y (suc k) h = omega arith

last_month : (y m : ℕ) → 1 ≤ days_in y m → m ≤ 12
last_month y m h = go (leb m 12) refl
  where
    go : (t : Bool) → leb m 12 ≡ t → m ≤ 12
    go true e = leb-true m 12 e
    go false e = absurd (omega (arith, no_month y m (leb-false m 12 e)))

pub month_there : (y m : ℕ) → 1 ≤ days_in y m → (1 ≤ m) × (m ≤ 12)
month_there y m h = (first_month y m h, last_month y m h)

-- sums: of one more, of a part, and of one
pub sum_next : (ls : List ℕ) (i : ℕ) → sum (take (suc i) ls) ≡ sum (take i ls) + get_or ls i 0
unfolding sum
sum_next [] i = rw (take-nil i)
sum_next (l ∷ ls) zero = omega arith
sum_next (l ∷ ls) (suc i) = omega (arith, sum_next ls i)

pub sum_part : (ls : List ℕ) (i : ℕ) → sum (take i ls) ≤ sum ls
unfolding sum
sum_part [] i = rw (take-nil i) (omega arith)
sum_part (l ∷ ls) zero = omega arith
sum_part (l ∷ ls) (suc i) = omega (arith, sum_part ls i)

-- the months before the next month
pub months_next : (y m : ℕ) → 1 ≤ m → days_of_months y m + days_in y m ≡ days_of_months y (m + 1)
unfolding days_in
months_next y zero h = absurd (omega arith)
months_next y (suc k) h =
    let e : suc k - 1 ≡ k = omega arith in
    let f : suc k + 1 - 1 ≡ suc k = omega arith in
    rw (e, f) (sym (sum_next (months y) k))

pub months_most : (y m : ℕ) → days_of_months y m ≤ 366
unfolding days_of
months_most y m = omega (arith, year_most y, sum_part (months y) (m - 1))

pub month_most : (y m : ℕ) → days_in y m ≤ 366
unfolding days_in
month_most y zero = omega arith
month_most y (suc k) = omega (arith, sum_next (months y) k, sum_part (months y) (suc k), months_most y 13)

-- the years before the next year
pub years_next : (y : ℕ) → 1970 ≤ y → days_of_years y + days_of y ≡ days_of_years (y + 1)
unfolding days_of_first
years_next y h =
    let e : y + 1 - 1970 ≡ suc (y - 1970) = omega arith in
    let f : 1970 + (y - 1970) ≡ y = omega arith in
    rw (e, f)

pub years_least : (k : ℕ) → 365 * k ≤ days_of_first k
unfolding days_of_first
years_least zero = omega arith
years_least (suc k) = omega (arith, years_least k, year_least (1970 + k))

pub years_most : (k : ℕ) → days_of_first k ≤ 366 * k
unfolding days_of_first
years_most zero = omega arith
years_most (suc k) = omega (arith, years_most k, year_most (1970 + k))

-- midnights
pub no_day : (d : Date) → d.day ≡ 0 → Err NoSuchDate ≡ midnight_of d
unfolding midnight_of
no_day d e = rw e

pub no_date : (d : Date) → days_in d.year d.month < d.day → Err NoSuchDate ≡ midnight_of d
unfolding midnight_of
no_date d h =
    let l : 1 ≤ d.day = omega arith in
    rw (le-leb 1 d.day l, lt-leb d.day (days_in d.year d.month) h)

module _ (d : Date) (one : 1 ≤ d.day) (most : d.day ≤ days_in d.year d.month) where
  pub too_early : d.year < 1970 → Err Outside ≡ midnight_of d
  unfolding midnight_of
  too_early h = rw (le-leb 1 d.day one, le-leb d.day (days_in d.year d.month) most, lt-leb 1970 d.year h)

  pub too_late : 1970 ≤ d.year → 49710 < days_since1970 d → Err Outside ≡ midnight_of d
  unfolding midnight_of
  too_late h l =
      let m : 4294967295 < days_since1970 d * 86400 = omega arith in
      rw (le-leb 1 d.day one, le-leb d.day (days_in d.year d.month) most, le-leb 1970 d.year h, lt-leb (days_since1970 d * 86400) 4294967295 m)

  pub year_late : 2106 < d.year → Err Outside ≡ midnight_of d
  year_late h = too_late (omega arith) (omega (arith, years_least (d.year - 1970)))

  pub in_time_lem : {n : ℕ} → 1970 ≤ d.year → n ≡ days_since1970 d → n ≤ 49710 → Ok (n * 86400) ≡ midnight_of d
  unfolding midnight_of
  in_time_lem {n} h e l =
      let m : days_since1970 d * 86400 ≤ 4294967295 = omega arith in
      rw (e, le-leb 1 d.day one, le-leb d.day (days_in d.year d.month) most, le-leb 1970 d.year h, le-leb (days_since1970 d * 86400) 4294967295 m)
