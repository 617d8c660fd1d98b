-- What is known of the date of a second, and of a date of ten bytes.
use Rattle.std.specs.Prelude.{ℕ, None, Ok, Err, zero, suc, ◌-◌, ◌/◌, ◌≤◌, ◌<◌, ◌≡◌, Bool, ◌&&◌, List, [], ◌∷◌, length, get_or, eqb, ltb, leb}
use Rattle.std.proofs.Math.Path.{refl}
use Rattle.std.proofs.Math.Bool.{true, false}
use borrow.Author.Tests.{leb-true, le-leb, lt-leb, eq-eqb, ne_eqb, eqb-true}
use Rattle.std.proofs.Common.{arith}
use Rattle.refusal.specs.Test.{pick, not_both, both_left, both_right}
use Rattle.calendar.specs.declared.Date.{Date}
use Rattle.calendar.specs.Calendar.{is_leap, days_in, date_of}
use Rattle.calendar.specs.Lengths.{february_leap, february_common, other_month, month_there, years_least}
use Rattle.calendar.specs.Counts.{Lies}
use Rattle.calendar.specs.Back.{lies}
use Rattle.asked.specs.declared.NoBoundary.TheVariants.{Neither}
use Rattle.asked.specs.Asked.{is_digit, all_digits, is_number, number_of, by_date, boundary_of}
use Rattle.clock_day.specs.declared.Given.{Given}
use Rattle.clock_asked.specs.declared.NoDay.TheVariants.{NotADate, Outside}
use Rattle.clock_asked.specs.Asked.{within, day_of, weekday_of, given_of}

-- DATES. No month has more than 31 days
all_most : List ℕ → Bool
all_most [] = true
all_most (n ∷ ns) = leb n 31 && all_most ns

most : (ns : List ℕ) (i : ℕ) → all_most ns ≡ true → get_or ns i 0 ≤ 31
unfolding all_most
most [] i e = omega arith
most (n ∷ ns) zero e = leb-true n 31 (both_left (leb n 31) (all_most ns) e)
most (n ∷ ns) (suc i) e = most ns i (both_right (leb n 31) (all_most ns) e)

abbrev common : List ℕ
common = 0 ∷ 31 ∷ 28 ∷ 31 ∷ 30 ∷ 31 ∷ 30 ∷ 31 ∷ 31 ∷ 30 ∷ 31 ∷ 30 ∷ 31 ∷ []

common_most : all_most common ≡ true
unfolding all_most
common_most = refl

days_most : (y m : ℕ) → days_in y m ≤ 31
days_most y m = go (eqb m 2) refl (is_leap y) refl
  where
    other : (eqb m 2 ≡ false) → (m ≡ 2 → ⊥)
    other e h = not_both (eq-eqb m 2 h) e

    go : (t : Bool) → eqb m 2 ≡ t → (u : Bool) → is_leap y ≡ u → days_in y m ≤ 31
    go true e true f = omega (arith, february_leap y m (eqb-true m 2 e) f)
    go true e false f = omega (arith, february_common y m (eqb-true m 2 e) f)
    go false e u f = omega (arith, other_month y m (other e), most common m common_most)

-- its year, month and day are numbers of 16 and of 8 bits
pub record Small (d : Date) : Type 0 where
  pub year : d.year ≤ 65535
  pub month : d.month ≤ 255
  pub day : d.day ≤ 255

pub small : {t : ℕ} {d : Date} → d ≡ date_of t → t < 4294967296 → Small d
small {t} {d} e h = go (rw (← e) at (lies t h))
  where
    go : Lies d (t / 86400) → Small d
    go r = record {
      year = omega (arith, r.whole, years_least (d.year - 1970));
      month = omega (arith, (month_there d.year d.month (omega (arith, r.one, r.most))).1);
      day = omega (arith, r.most, days_most d.year d.month);
    }

pub given : (t : ℕ) {d : Date} → d ≡ date_of t → ◌≡◌ {A = Given} (record { year = d.year; month = d.month; day = d.day; weekday = weekday_of t }) (given_of t)
unfolding given_of
given t e = rw e

-- BYTES. A digit is no `-`, so bytes with a `-` in front of their end are no number
digit_least : (s : List ℕ) (i : ℕ) → all_digits s ≡ true → i < length s → 48 ≤ get_or s i 0
unfolding all_digits
digit_least [] i e h = absurd (omega arith)
digit_least (c ∷ s) zero e h = leb-true 48 c (both_left (leb 48 c) (leb c 57) (both_left (is_digit c) (all_digits s) e))
digit_least (c ∷ s) (suc i) e h = digit_least s i (both_right (is_digit c) (all_digits s) e) (omega arith)

dashed : (s : List ℕ) (i : ℕ) → i < length s → get_or s i 0 ≡ 45 → is_number s ≡ false
dashed s i h e = go (is_number s) refl
  where
    go : (t : Bool) → is_number s ≡ t → t ≡ false
    go true f = absurd (omega (arith, digit_least s i (both_right (ltb 0 (length s)) (all_digits s) f) h))
    go false f = refl

no_number : (n : ℕ) (s : List ℕ) (i : ℕ) → i < length s → get_or s i 0 ≡ 45 → number_of n s ≡ None
unfolding number_of
no_number n s i h e = rw (dashed s i h e)

-- what the code finds
module _ (s : List ℕ) where
  pub not_ten : (length s ≡ 10 → ⊥) → Err NotADate ≡ day_of s
  unfolding day_of
  not_ten h = rw (ne_eqb (length s) 10 h)

  pub not_dash : length s ≡ 10 → (get_or s 4 0 ≡ 45 → ⊥) → Err NotADate ≡ day_of s
  unfolding day_of
  not_dash l h = rw (eq-eqb (length s) 10 l, ne_eqb (get_or s 4 0) 45 h)

  pub dated : length s ≡ 10 → get_or s 4 0 ≡ 45 → within (boundary_of s) ≡ day_of s
  unfolding boundary_of day_of
  dated l e = rw (no_number 4294967295 s 4 (omega arith) e, eq-eqb (length s) 10 l, eq-eqb (get_or s 4 0) 45 e) (go (eqb (get_or s 7 0) 45))
    where
      go : (t : Bool) → within (pick t (by_date s) (Err Neither)) ≡ pick t (within (by_date s)) (Err NotADate)
      go true = refl
      go false = refl

module _ (t : ℕ) where
  pub too_early : (date_of t).year < 2000 → Err Outside ≡ within (Ok t)
  too_early h = rw (lt-leb 2000 (date_of t).year h)

  pub too_late : 2000 ≤ (date_of t).year → 2099 < (date_of t).year → Err Outside ≡ within (Ok t)
  too_late h l = rw (le-leb 2000 (date_of t).year h, lt-leb (date_of t).year 2099 l)

  pub in_time_lem : 2000 ≤ (date_of t).year → (date_of t).year ≤ 2099 → Ok t ≡ within (Ok t)
  in_time_lem h l = rw (le-leb 2000 (date_of t).year h, le-leb (date_of t).year 2099 l)
