-- docs/SHEET.md, "Arguments": what the words of a command line say, as bytes in ASCII.
use Rattle.std.specs.Prelude.{ℕ, Option, Some, None, Result, Ok, Err, ◌+◌, ◌*◌, Bool, true, ◌&&◌, ◌||◌, List, [], ◌∷◌, length, get_or, take, drop, eqb, ltb, leb}
use Rattle.refusal.specs.Test.{pick}
use Rattle.text.specs.Text.{digit_of}
use Rattle.text.specs.Decimal.{value_from}
use Rattle.event.specs.declared.Mac.{Mac}
use Rattle.calendar.specs.declared.NoMidnight.{NoMidnight}
use Rattle.calendar.specs.declared.NoMidnight.TheVariants.{NoSuchDate as No-such-date, Outside as Outside-of-numbers}
use Rattle.calendar.specs.Calendar.{midnight_of}
use Rattle.asked.specs.declared.NoBoundary.{NoBoundary}
use Rattle.asked.specs.declared.NoBoundary.TheVariants.{Neither, NoSuchDate, Outside}

-- NUMBERS. "in decimal digits only": `0` to `9` are 48 to 57
abbrev pub is_digit : ℕ → Bool
is_digit c = leb 48 c && leb c 57

unfoldable pub all_digits : List ℕ → Bool
all_digits [] = true
all_digits (c ∷ s) = is_digit c && all_digits s

abbrev pub is_number : List ℕ → Bool
is_number s = ltb 0 (length s) && all_digits s

-- what digits say (`value_from` of crate text: ten times what those in front say, and the digit), a number of any size. "Leading zeros of a
-- number do not matter"
abbrev pub value_of : List ℕ → ℕ
value_of s = value_from 0 s

-- a number that is no greater than the most
unfoldable pub number_of : ℕ → List ℕ → Option ℕ
number_of most s = pick (is_number s && leb (value_of s) most) (Some (value_of s)) None

-- MAC. "six bytes of two hexadecimal digits each, capitals or not, a `:` or a `-` between two of them"
-- the byte that two digits say, where both are digits
unfoldable pub pair_of : ℕ → ℕ → Option ℕ
pair_of h l = pick (ltb (digit_of h) 16 && ltb (digit_of l) 16) (Some (digit_of h * 16 + digit_of l)) None

abbrev pub byte_at : List ℕ → ℕ → Option ℕ
byte_at s i = pair_of (get_or s i 0) (get_or s (i + 1) 0)

-- `:` is 58, `-` is 45
abbrev pub is_parting : ℕ → Bool
is_parting c = eqb c 58 || eqb c 45

unfoldable pub parted : List ℕ → Bool
parted s = is_parting (get_or s 2 0) && is_parting (get_or s 5 0) && is_parting (get_or s 8 0) && is_parting (get_or s 11 0) && is_parting (get_or s 14 0)

-- six bytes, where each of them is there
abbrev pub address_of : Option ℕ → Option ℕ → Option ℕ → Option ℕ → Option ℕ → Option ℕ → Option Mac
address_of (Some a) (Some b) (Some c) (Some d) (Some e) (Some f) = Some (record { 0 = a; 1 = b; 2 = c; 3 = d; 4 = e; 5 = f })
address_of (Some a) (Some b) (Some c) (Some d) (Some e) None = None
address_of (Some a) (Some b) (Some c) (Some d) None f = None
address_of (Some a) (Some b) (Some c) None e f = None
address_of (Some a) (Some b) None d e f = None
address_of (Some a) None c d e f = None
address_of None b c d e f = None

-- 17 bytes: six pairs in the places 0, 3, 6, 9, 12 and 15, and a byte that parts them behind each but the last
unfoldable pub mac_of : List ℕ → Option Mac
mac_of s =
    pick (eqb (length s) 17 && parted s)
    (address_of (byte_at s 0) (byte_at s 3) (byte_at s 6) (byte_at s 9) (byte_at s 12) (byte_at s 15))
    None

-- BOUNDARIES. "Four digits, `-`, two digits, `-`, two digits are a date of the Gregorian calendar, and mean its midnight"
abbrev pub no_boundary : NoMidnight → NoBoundary
no_boundary No-such-date = NoSuchDate
no_boundary Outside-of-numbers = Outside

abbrev pub as_boundary : Result ℕ NoMidnight → Result ℕ NoBoundary
as_boundary (Ok t) = Ok t
as_boundary (Err m) = Err (no_boundary m)

abbrev pub on_date : Option ℕ → Option ℕ → Option ℕ → Result ℕ NoBoundary
on_date (Some y) (Some m) (Some d) = as_boundary (midnight_of (record { year = y; month = m; day = d }))
on_date (Some y) (Some m) None = Err Neither
on_date (Some y) None d = Err Neither
on_date None m d = Err Neither

-- four digits say no more than 9999, and two no more than 99
unfoldable pub by_date : List ℕ → Result ℕ NoBoundary
by_date s = on_date (number_of 9999 (take 4 s)) (number_of 99 (take 2 (drop 5 s))) (number_of 99 (take 2 (drop 8 s)))

-- "Decimal digits only are seconds since 1970, 0 to 4294967295": a number of seconds, or else ten bytes with two `-` in their places
abbrev pub or_date : Option ℕ → List ℕ → Result ℕ NoBoundary
or_date (Some n) s = Ok n
or_date None s = pick (eqb (length s) 10 && eqb (get_or s 4 0) 45 && eqb (get_or s 7 0) 45) (by_date s) (Err Neither)

unfoldable pub boundary_of : List ℕ → Result ℕ NoBoundary
boundary_of s = or_date (number_of 4294967295 s) s
