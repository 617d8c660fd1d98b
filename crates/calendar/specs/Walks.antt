-- How the search for a date goes: month by month, and year by year.
use Prim.Native.Nat.{ℕ, zero, suc, ◌+◌, ◌-◌, ◌≤◌, ◌<◌}
use Rattle.std.specs.Prelude.{◌≡◌, ◌∷◌, drop}
use Rattle.std.proofs.Math.ListN.{length}
use Rattle.std.proofs.Common.{drop_of_length-le, drop-cons}
use borrow.Author.Tests.{lt-ltb, le-ltb}
use native.Mathlib.Omega.{arith}
use Rattle.calendar.specs.declared.Date.{Date}
use Rattle.calendar.specs.Calendar.{months, days_in, days_of, month_from, date_in, year_from}

-- a date in month m, from the day from 0 on
abbrev pub day_of : ℕ → ℕ → ℕ → Date
day_of y m n = record { year = y; month = m; day = n + 1 }

-- a search that has come to month m: it is there, or goes on to the next, or has none left
months_from : (y m : ℕ) → 1 ≤ m → m ≤ 12 → drop (m - 1) (months y) ≡ days_in y m ∷ drop m (months y)
unfolding days_in
months_from y zero h l = absurd (omega arith)
months_from y (suc k) h l =
    let e : suc k - 1 ≡ k = omega arith in
    rw e (drop-cons (months y) k 0 l)

module _ (y m n : ℕ) where
  pub month_found : 1 ≤ m → m ≤ 12 → n < days_in y m → month_from (drop (m - 1) (months y)) y m n ≡ day_of y m n
  unfolding month_from
  month_found h l s = rw (months_from y m h l, lt-ltb n (days_in y m) s)

  pub month_turn : 1 ≤ m → m ≤ 12 → days_in y m ≤ n → month_from (drop (m - 1) (months y)) y m n ≡ month_from (drop (m + 1 - 1) (months y)) y (m + 1) (n - days_in y m)
  unfolding month_from
  month_turn h l s =
      let e : m + 1 - 1 ≡ m = omega arith in
      rw (e, months_from y m h l, le-ltb n (days_in y m) s)

  pub month_end : 12 < m → month_from (drop (m - 1) (months y)) y m n ≡ day_of y m n
  unfolding month_from
  month_end h =
      let l : length (months y) ≤ m - 1 = omega arith in
      rw (drop_of_length-le (months y) l)

-- and one that has come to year y
module _ (y n : ℕ) where
  pub year_found : y < 2106 → n < days_of y → year_from (2106 - y) y n ≡ date_in y n
  unfolding year_from
  year_found h s =
      let e : 2106 - y ≡ suc (2106 - (y + 1)) = omega arith in
      rw (e, lt-ltb n (days_of y) s)

  pub year_turn : y < 2106 → days_of y ≤ n → year_from (2106 - y) y n ≡ year_from (2106 - (y + 1)) (y + 1) (n - days_of y)
  unfolding year_from
  year_turn h s =
      let e : 2106 - y ≡ suc (2106 - (y + 1)) = omega arith in
      rw (e, le-ltb n (days_of y) s)

  pub year_end : 2106 ≤ y → year_from (2106 - y) y n ≡ date_in y n
  unfolding year_from
  year_end h =
      let e : 2106 - y ≡ 0 = omega arith in
      rw e
