-- Document 02, W-214: "Read the legacy clock text of source document 000, section 4.5.b, from its time field on: time, two hexadecimal weekday
-- symbols, day/month/year with 00 for no restriction, and an offset for astronomical clocks, which may be negative."
use Rattle.std.specs.Prelude.{ℕ, ◌+◌, ◌-◌, ◌*◌, Bool, true, false, not, ◌&&◌, ◌||◌, List, [], ◌∷◌, ◌++◌, length, get_or, drop, eqb, leb}
use Rattle.refusal.specs.Test.{pick}
use Rattle.refusal.specs.Answer.{Answer, full, demand}
use Rattle.words.specs.Words.{text}
use Rattle.text.specs.Text.{hex_of}
use Rattle.calendar.specs.Calendar.{two}
use Rattle.clock_text.specs.declared.Time.{Time}
use Rattle.clock_text.specs.declared.Offset.{Offset}
use Rattle.clock_text.specs.declared.Offset.TheVariants.{Absent, Later, Earlier}
use Rattle.clock_text.specs.declared.Clock.{Clock}

-- FORM. A decimal digit, `0` to `9`, is 48 to 57. "two hexadecimal weekday symbols", "Weekday symbols are capitals": `A` to `F` are 65 to 70
abbrev pub is_digit : ℕ → Bool
is_digit c = leb 48 c && leb c 57

abbrev pub is_symbol : ℕ → Bool
is_symbol c = is_digit c || (leb 65 c && leb c 70)

-- what may stand where a form has a byte: a digit for `0`, a symbol for `F`, the byte itself for any other
unfoldable pub stands : ℕ → ℕ → Bool
stands f c = pick (eqb f 48) (is_digit c) (pick (eqb f 70) (is_symbol c) (eqb c f))

unfoldable pub has_form : List ℕ → List ℕ → Bool
has_form [] [] = true
has_form [] (c ∷ s) = false
has_form (f ∷ fs) [] = false
has_form (f ∷ fs) (c ∷ s) = stands f c && has_form fs s

-- source 000: "Pattern : HH:MM:SS WD DD/MM/YY HH':MM':ss'", "(nothing) = postpone the execution time", "- = anticipate the execution time";
-- document 02: "an offset stands exactly where the clock is astronomical"
unfoldable pub is_text : Bool → List ℕ → Bool
is_text false s = has_form (text "00:00:00 FF 00/00/00") s
is_text true s = has_form (text "00:00:00 FF 00/00/00 00:00:00") s || has_form (text "00:00:00 FF 00/00/00 -00:00:00") s

-- FIELDS. What a symbol says; 0 for a byte that is none
abbrev pub symbol_of : ℕ → ℕ
symbol_of c = pick (is_digit c) (c - 48) (pick (leb 65 c && leb c 70) (c - 55) 0)

-- what the first two bytes of a run say: as decimal digits, as hexadecimal ones
unfoldable pub number_in : List ℕ → ℕ
number_in s = symbol_of (get_or s 0 0) * 10 + symbol_of (get_or s 1 0)

unfoldable pub byte_in : List ℕ → ℕ
byte_in s = symbol_of (get_or s 0 0) * 16 + symbol_of (get_or s 1 0)

-- `HH:MM:SS`
unfoldable pub time_in : List ℕ → Time
time_in s = record { hour = number_in s; minute = number_in (drop 3 s); second = number_in (drop 6 s) }

-- by the lengths of the three forms, 20, 29 and 30 bytes: behind the blank, or behind the blank and the `-`
unfoldable pub offset_in : List ℕ → Offset
offset_in s = pick (eqb (length s) 29) (Later (time_in (drop 21 s))) (pick (eqb (length s) 30) (Earlier (time_in (drop 22 s))) Absent)

unfoldable pub clock_in : List ℕ → Clock
clock_in s = record {
  time = time_in (drop 0 s);
  weekdays = byte_in (drop 9 s);
  day = number_in (drop 12 s);
  month = number_in (drop 15 s);
  year = number_in (drop 18 s);
  offset = offset_in s;
}

-- RANGES. "hours reach 23, minutes and seconds 59": of the time and of the offset
abbrev pub is_time : Time → Bool
is_time t = (leb t.hour 23 && leb t.minute 59) && leb t.second 59

abbrev pub is_none : Time → Bool
is_none t = (eqb t.hour 0 && eqb t.minute 0) && eqb t.second 0

-- "-00:00:00 .. is out of range"
abbrev pub is_offset : Offset → Bool
is_offset Absent = true
is_offset (Later t) = is_time t
is_offset (Earlier t) = is_time t && not (is_none t)

-- "days 31, months 12, years mean 2000 to 2099": of a year the last two digits
unfoldable pub in_range : Clock → Bool
in_range c = (((is_time c.time && leb c.day 31) && leb c.month 12) && leb c.year 99) && is_offset c.offset

-- READING. "Refusals: 21 text not of this form, 22 a field out of range, in that order"
unfoldable pub read_clock : Bool → List ℕ → Answer Clock
read_clock a s = demand (is_text a s) 21 (demand (in_range (clock_in s)) 22 (full (clock_in s)))

-- TEXT. "Write clocks back too": `:` is 58, `/` is 47, a blank is 32, `-` is 45
abbrev pub three : ℕ → ℕ → ℕ → ℕ → List ℕ
three parting x y z = two x ++ (parting ∷ two y) ++ (parting ∷ two z)

abbrev pub time_text : Time → List ℕ
time_text t = three 58 t.hour t.minute t.second

abbrev pub days_text : ℕ → List ℕ
days_text w = (32 ∷ hex_of w) ++ (32 ∷ [])

abbrev pub date_text : Clock → List ℕ
date_text c = three 47 c.day c.month c.year

abbrev pub offset_text : Offset → List ℕ
offset_text Absent = []
offset_text (Later t) = (32 ∷ []) ++ time_text t
offset_text (Earlier t) = (32 ∷ 45 ∷ []) ++ time_text t

unfoldable pub text_of : Clock → List ℕ
text_of c = time_text c.time ++ days_text c.weekdays ++ date_text c ++ offset_text c.offset
