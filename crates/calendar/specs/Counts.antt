-- The days counted off in a search for a date, and that no two dates lie as many days behind 1970-01-01.
use Rattle.std.specs.Prelude.{ℕ, zero, suc, ◌+◌, ◌-◌, ◌≤◌, ◌<◌, ◌≡◌, refl, Bool, true, false, List, [], ◌∷◌, get_or, take, ltb, leb}
use Rattle.std.proofs.Common.{sym, ap, ltb-true, ltb-false, leb-true, leb-false, arith}
use Rattle.refusal.specs.Test.{pick}
use Rattle.calendar.specs.declared.Date.{Date}
use Rattle.calendar.specs.Calendar.{months, days_in, sum, days_of, days_of_first, days_of_years, days_of_months, days_since1970, month_from, date_in, year_from}
use Rattle.calendar.specs.Lengths.{month_there, sum_part, months_next, years_next}

-- a date that is there, not before 1970, n days behind 1970-01-01
pub record Lies (d : Date) (n : ℕ) : Type 0 where
  pub from : 1970 ≤ d.year
  pub one : 1 ≤ d.day
  pub most : d.day ≤ days_in d.year d.month
  pub whole : days_since1970 d ≡ n

-- MONTHS. What the search among months finds: the month in place i
record Found (ls : List ℕ) (y m n : ℕ) (d : Date) : Type 0 where
  i : ℕ
  year : d.year ≡ y
  month : d.month ≡ m + i
  one : 1 ≤ d.day
  most : d.day ≤ get_or ls i 0
  whole : sum (take i ls) + (d.day - 1) ≡ n

found : (ls : List ℕ) (y m n : ℕ) → n < sum ls → Found ls y m n (month_from ls y m n)
unfolding sum month_from
found [] y m n h = absurd (omega arith)
found (l ∷ ls) y m n h = go (ltb n l) refl (found ls y (m + 1) (n - l))
  where
    go : (t : Bool) → ltb n l ≡ t → (n - l < sum ls → Found ls y (m + 1) (n - l) (month_from ls y (m + 1) (n - l)))
        → Found (l ∷ ls) y m n (pick t (record { year = y; month = m; day = n + 1 }) (month_from ls y (m + 1) (n - l)))
    go true e f =
        record { i = 0; year = refl; month = omega arith; one = omega arith; most = omega (arith, ltb-true n l e); whole = omega arith }
    go false e f =
        let r = f (omega (arith, ltb-false n l e)) in
        record { i = suc r.i; year = r.year; month = omega (arith, r.month); one = r.one; most = r.most; whole = omega (arith, r.whole, ltb-false n l e) }

-- the date that lies n days behind the first of January of a year, in this year
in_year : (y n : ℕ) → 1970 ≤ y → n < days_of y → Lies (date_in y n) (days_of_years y + n)
unfolding days_of days_in
in_year y n h l = go (date_in y n) (found (months y) y 1 n l)
  where
    go : (d : Date) → Found (months y) y 1 n d → Lies d (days_of_years y + n)
    go d r =
        let m : d.month ≡ suc r.i = omega (arith, r.month) in
        let k : suc r.i - 1 ≡ r.i = omega arith in
        record {
          from = omega (arith, r.year);
          one = r.one;
          most = rw (r.year, m) r.most;
          whole = rw (r.year, m, k) (omega (arith, r.whole));
        }

-- YEARS
pub counted : (k y n : ℕ) → 1970 ≤ y → days_of_years y + n < days_of_years (y + k + 1) → Lies (year_from k y n) (days_of_years y + n)
unfolding year_from
counted zero y n h l =
    let e : y + 0 + 1 ≡ y + 1 = omega arith in
    let m : days_of_years y + n < days_of_years (y + 1) = rw e at l in
    in_year y n h (omega (arith, years_next y h))
counted (suc k) y n h l = go (ltb n (days_of y)) refl (counted k (y + 1) (n - days_of y))
  where
    go : (t : Bool) → ltb n (days_of y) ≡ t
        → (1970 ≤ y + 1 → days_of_years (y + 1) + (n - days_of y) < days_of_years (y + 1 + k + 1) → Lies (year_from k (y + 1) (n - days_of y)) (days_of_years (y + 1) + (n - days_of y)))
        → Lies (pick t (date_in y n) (year_from k (y + 1) (n - days_of y))) (days_of_years y + n)
    go true e f = in_year y n h (ltb-true n (days_of y) e)
    go false e f =
        let s : y + 1 + k + 1 ≡ y + suc k + 1 = omega arith in
        let w : days_of_years (y + 1) + (n - days_of y) ≡ days_of_years y + n = omega (arith, years_next y h, ltb-false n (days_of y) e) in
        rw w at (f (omega arith) (rw (w, s) l))

-- ONE DATE. Sums rise
sum_rise : (ls : List ℕ) (i j : ℕ) → i ≤ j → sum (take i ls) ≤ sum (take j ls)
unfolding sum
sum_rise ls zero j h = omega arith
sum_rise ls (suc i) zero h = absurd (omega arith)
sum_rise [] (suc i) (suc j) h = omega arith
sum_rise (l ∷ ls) (suc i) (suc j) h = omega (arith, sum_rise ls i j (omega arith))

pub years_rise : (i j : ℕ) → i ≤ j → days_of_first i ≤ days_of_first j
unfolding days_of_first
years_rise i zero h = let e : i ≡ 0 = omega arith in rw e (omega arith)
years_rise i (suc j) h = go (leb i j) refl (years_rise i j)
  where
    go : (t : Bool) → leb i j ≡ t → (i ≤ j → days_of_first i ≤ days_of_first j) → days_of_first i ≤ days_of_first j + days_of (1970 + j)
    go true e f = omega (arith, f (leb-true i j e))
    go false e f = let g : i ≡ suc j = omega (arith, leb-false i j e) in rw g (omega arith)

-- a date lies before the next month, and so before the next year
before_month : (y m d : ℕ) → 1 ≤ d → d ≤ days_in y m → days_of_months y m + (d - 1) < days_of_months y (m + 1)
before_month y m d h l = omega (arith, months_next y m (month_there y m (omega arith)).0)

pub before_year : {d : Date} {n : ℕ} → Lies d n → n < days_of_years (d.year + 1)
unfolding days_of
before_year {d} r =
    omega (arith, r.whole, before_month d.year d.month d.day r.one r.most, sum_part (months d.year) (d.month + 1 - 1), years_next d.year r.from)

year_same : {a b : Date} {n : ℕ} → Lies a n → Lies b n → a.year ≤ b.year
year_same {a} {b} r s = go (leb a.year b.year) refl
  where
    go : (t : Bool) → leb a.year b.year ≡ t → a.year ≤ b.year
    go true e = leb-true a.year b.year e
    go false e =
        let h : b.year + 1 - 1970 ≤ a.year - 1970 = omega (arith, leb-false a.year b.year e) in
        absurd (omega (arith, before_year s, years_rise (b.year + 1 - 1970) (a.year - 1970) h, r.whole))

month_same : (y m d m' d' : ℕ) → 1 ≤ d → d ≤ days_in y m → 1 ≤ d' → d' ≤ days_in y m' → days_of_months y m + (d - 1) ≡ days_of_months y m' + (d' - 1) → m ≤ m'
month_same y m d m' d' one most one' most' h = go (leb m m') refl
  where
    go : (t : Bool) → leb m m' ≡ t → m ≤ m'
    go true e = leb-true m m' e
    go false e =
        let l : m' + 1 - 1 ≤ m - 1 = omega (arith, leb-false m m' e) in
        absurd (omega (arith, before_month y m' d' one' most', sum_rise (months y) (m' + 1 - 1) (m - 1) l))

same_year : {y m d m' d' n : ℕ} → Lies (record { year = y; month = m; day = d }) n → Lies (record { year = y; month = m'; day = d' }) n → (m ≡ m') × (d ≡ d')
same_year {y} {m} {d} {m'} {d'} r s =
    let h : days_of_months y m + (d - 1) ≡ days_of_months y m' + (d' - 1) = omega (arith, r.whole, s.whole) in
    let e : m ≡ m' = omega (arith, month_same y m d m' d' r.one r.most s.one s.most h, month_same y m' d' m d s.one s.most r.one r.most (sym h)) in
    let f : days_of_months y m ≡ days_of_months y m' = ap (λ (x : ℕ). days_of_months y x) e in
    (e, omega (arith, h, r.one, s.one))

pub one_date : {a b : Date} {n : ℕ} → Lies a n → Lies b n → a ≡ b
one_date {a} {b} {n} r s =
    let e : a.year ≡ b.year = omega (arith, year_same r s, year_same s r) in
    let t : Lies (record { year = b.year; month = a.month; day = a.day }) n = rw e at r in
    let q = same_year t s in
    λ i. record { year = e i; month = q.0 i; day = q.1 i }
