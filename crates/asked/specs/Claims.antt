-- What is claimed of the words of a command line: zeros in front do not matter, digits that say too much say nothing; and the sheet's own
-- examples.
use Rattle.std.specs.Prelude.{ℕ, Some, None, Ok, Err, zero, suc, ◌+◌, ◌/◌, ◌%◌, ◌^◌, ◌≤◌, ◌<◌, ◌≡◌, refl, Bool, true, false, ◌&&◌, List, [], ◌∷◌, ◌++◌, length, get_or, eqb, ltb, leb}
use Rattle.std.proofs.Common.{eqb-true, leb-true, le-leb, lt-ltb, mod-lt, arith}
use Rattle.std.proofs.lemmas.Bool.{lt-leb}
use Rattle.refusal.specs.Test.{pick, both_left, both_right}
use Rattle.words.specs.Words.{text}
use Rattle.text.specs.Text.{digit, decimal_in, decimal_of}
use Rattle.text.specs.Decimal.{value_from, decimal_digit, decimal_cases, decimal_value, decimal_some}
use Rattle.calendar.specs.Calendar.{is_leap, days_in, sum, days_of, days_of_first, midnight_of}
use Rattle.asked.specs.declared.NoBoundary.TheVariants.{Neither, NoSuchDate, Outside}
use Rattle.asked.specs.Asked.{is_digit, all_digits, is_number, value_of, number_of, pair_of, parted, mac_of, by_date, boundary_of}

-- "Leading zeros of a number do not matter"
pub zero_front : (most : ℕ) (s : List ℕ) → 0 < length s → number_of most (48 ∷ s) ≡ number_of most s
unfolding number_of all_digits value_from
zero_front most s h = rw (lt-ltb 0 (length s) h, lt-ltb 0 (suc (length s)) (omega arith))

-- digits that say more than the most say no number, however many they are; and digits only are no date
pub too_great : (most : ℕ) (s : List ℕ) → most < value_of s → number_of most s ≡ None
unfolding number_of
too_great most s h = rw (lt-leb (value_of s) most h) (go (is_number s))
  where
    go : (t : Bool) → pick (t && false) (Some (value_of s)) None ≡ None
    go true = refl
    go false = refl

-- a number written in decimal is read back
one_digit : (d : ℕ) → d < 10 → all_digits ((48 + d) ∷ []) ≡ true
unfolding all_digits
one_digit d h =
    let l : 48 ≤ 48 + d = omega arith in
    let m : 48 + d ≤ 57 = omega arith in
    rw (le-leb 48 (48 + d) l, le-leb (48 + d) 57 m)

digits_snoc : (s : List ℕ) (d : ℕ) → d < 10 → all_digits s ≡ true → all_digits (s ++ (digit d ∷ [])) ≡ true
unfolding all_digits
digits_snoc [] d h e = rw (decimal_digit d h) (one_digit d h)
digits_snoc (c ∷ s) d h e = rw (both_left (is_digit c) (all_digits s) e) (digits_snoc s d h (both_right (is_digit c) (all_digits s) e))

digits_decimal : (k n : ℕ) → all_digits (decimal_in k n) ≡ true
unfolding decimal_in all_digits
digits_decimal zero n = refl
digits_decimal (suc k) n =
    decimal_cases n
    (λ h e. rw e (one_digit n h))
    (λ h e. rw e (digits_snoc (decimal_in k (n / 10)) (n % 10) (mod-lt n (omega arith)) (digits_decimal k (n / 10))))

pub decimal_read : (most n : ℕ) → n ≤ most → n < 10 ^ 20 → number_of most (decimal_of n) ≡ Some n
unfolding number_of
decimal_read most n h l = rw (lt-ltb 0 (length (decimal_of n)) (decimal_some 19 n), digits_decimal 20 n, decimal_value 20 n l, le-leb n most h)

digit_least : (s : List ℕ) (i : ℕ) → all_digits s ≡ true → i < length s → 48 ≤ get_or s i 0
unfolding all_digits
digit_least [] i e h = absurd (omega arith)
digit_least (c ∷ s) zero e h = leb-true 48 c (both_left (leb 48 c) (leb c 57) (both_left (is_digit c) (all_digits s) e))
digit_least (c ∷ s) (suc i) e h = digit_least s i (both_right (is_digit c) (all_digits s) e) (omega arith)

pub digits_no_date : (s : List ℕ) → is_number s ≡ true → 4294967295 < value_of s → boundary_of s ≡ Err Neither
unfolding boundary_of
digits_no_date s e h = rw (too_great 4294967295 s h) (go (eqb (length s) 10) refl (eqb (get_or s 4 0) 45) refl)
  where
    go : (t : Bool) → eqb (length s) 10 ≡ t → (u : Bool) → eqb (get_or s 4 0) 45 ≡ u → pick (t && u && eqb (get_or s 7 0) 45) (by_date s) (Err Neither) ≡ Err Neither
    go false p u q = refl
    go true p false q = refl
    go true p true q =
        absurd (omega (arith, eqb-true (get_or s 4 0) 45 q, digit_least s 4 (both_right (ltb 0 (length s)) (all_digits s) e) (omega (arith, eqb-true (length s) 10 p))))

-- numbers
pub small_number : number_of 255 (text "000255") ≡ Some 255
unfolding number_of all_digits value_from
small_number = refl

pub great_number : number_of 255 (text "256") ≡ None
unfolding number_of all_digits value_from
great_number = refl

pub no_digits : number_of 255 (text "") ≡ None
unfolding number_of all_digits value_from
no_digits = refl

pub signed : number_of 255 (text "+1") ≡ None
unfolding number_of all_digits value_from
signed = refl

-- MAC addresses
pub capitals : mac_of (text "7C:BA:CC:2F:40:2E") ≡ Some (record { 0 = 0x7C; 1 = 0xBA; 2 = 0xCC; 3 = 0x2F; 4 = 0x40; 5 = 0x2E })
unfolding mac_of parted pair_of
capitals = refl

pub small_letters : mac_of (text "7c-ba-cc-2f-40-2e") ≡ mac_of (text "7C:BA:CC:2F:40:2E")
unfolding mac_of parted pair_of
small_letters = refl

pub no_hexadecimal : mac_of (text "7C:BA:CC:2F:40:2G") ≡ None
unfolding mac_of parted pair_of
no_hexadecimal = refl

-- boundaries
pub spring : boundary_of (text "2026-03-01") ≡ Ok 1772323200
unfolding number_of all_digits value_from by_date boundary_of is_leap days_in sum days_of days_of_first midnight_of
spring = refl

pub no_such_day : boundary_of (text "2026-02-29") ≡ Err NoSuchDate
unfolding number_of all_digits value_from by_date boundary_of is_leap days_in sum days_of days_of_first midnight_of
no_such_day = refl

pub too_late : boundary_of (text "2106-02-08") ≡ Err Outside
unfolding number_of all_digits value_from by_date boundary_of is_leap days_in sum days_of days_of_first midnight_of
too_late = refl

pub last_second : boundary_of (text "4294967295") ≡ Ok 4294967295
unfolding number_of all_digits value_from by_date boundary_of
last_second = refl

pub no_seconds : boundary_of (text "4294967296") ≡ Err Neither
unfolding number_of all_digits value_from by_date boundary_of
no_seconds = refl

pub short_year : boundary_of (text "26-03-01") ≡ Err Neither
unfolding number_of all_digits value_from by_date boundary_of
short_year = refl
