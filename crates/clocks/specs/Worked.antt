-- Worked by computation, as a single list under a single claim: the examples of source 000, section 4.5.b, and what W-214 names.
use Prim.Native.String.{String}
use Rattle.std.specs.Prelude.{◌≡◌, refl, Bool, true, false, List, [], ◌∷◌, pos, negsuc}
use Rattle.refusal.specs.Answer.{Answer, refused, full}
use Rattle.words.specs.Words.{text}
use Rattle.maps.specs.Bit.{bit}
use Rattle.calendar.specs.Calendar.{is_leap, days_in}
use Rattle.clock_text.specs.Clock.{stands, has_form, is_text, number_in, byte_in, time_in, offset_in, clock_in, in_range, read_clock}
use Rattle.clock_day.specs.declared.Given.{Given}
use Rattle.clock_day.specs.Day.{is_given, runs_on, second_of, Day, idle, second, on_day, runs_at}

-- a case: whether the clock is astronomical, the date with its weekday, the text, and what is answered
pub data Case : Type 0 where
  case : Bool → Given → String → Answer Day → Case

abbrev pub AllHold : List Case → Type 0
AllHold [] = Unit {0}
AllHold (case a g s x ∷ xs) = (runs_at a g (text s) ≡ x) × AllHold xs

-- a Sunday, the first of March, a Monday, and a date that is none
abbrev sunday : Given
sunday = record { year = 2026; month = 3; day = 1; weekday = 0 }

abbrev monday : Given
monday = record { year = 2026; month = 3; day = 2; weekday = 1 }

abbrev none : Given
none = record { year = 2023; month = 2; day = 29; weekday = 3 }

abbrev pub cases : List Case
cases =
    -- "Example 1: 14:00:00 7F 01/00/00", "at 14h00m00 each first day of the month whatever the day of the week"
    case false sunday "14:00:00 7F 01/00/00" (full (second (pos 50400)))
    ∷ case false monday "14:00:00 7F 01/00/00" (full idle)
    -- "Example 2: 20:38:49 7F 00/00/00 00:30:00": "arithmetic decides, 21:08:49", which is second 21 * 3600 + 8 * 60 + 49
    ∷ case true sunday "20:38:49 7F 00/00/00 00:30:00" (full (second (pos 76129)))
    -- "Example 3: 07:14:23 41 00/00/00 -00:10:00", "only the week-end at 7h14m23 - 10 min = 7h04m23"
    ∷ case true sunday "07:14:23 41 00/00/00 -00:10:00" (full (second (pos 25463)))
    ∷ case true monday "07:14:23 41 00/00/00 -00:10:00" (full idle)
    -- "14:00:00 FF 00/00/00", "at 14h00m00 everyday but the clock is disabled"
    ∷ case false sunday "14:00:00 FF 00/00/00" (full idle)
    -- "an offset may carry it below 0 or past 86,399": -300 and 87,000
    ∷ case true sunday "00:05:00 7F 00/00/00 -00:10:00" (full (second (negsuc 299)))
    ∷ case true sunday "23:50:00 7F 00/00/00 00:20:00" (full (second (pos 87000)))
    -- small letters, 24:00:00, -00:00:00, a date that does not exist; and where two are wrong, 21 comes first
    ∷ case false sunday "14:00:00 7f 00/00/00" (refused 21)
    ∷ case false sunday "24:00:00 7F 00/00/00" (refused 22)
    ∷ case true sunday "14:00:00 7F 00/00/00 -00:00:00" (refused 22)
    ∷ case false none "14:00:00 7F 00/00/00" (refused 22)
    ∷ case false none "24:00:00 7f 00/00/00" (refused 21)
    -- "00/00/23 : Clock will only be executed on year 2023"; 00 is no restriction, and not the year 2000
    ∷ case false sunday "14:00:00 7F 00/00/23" (full idle)
    ∷ case false sunday "14:00:00 7F 00/00/26" (full (second (pos 50400)))
    ∷ case false sunday "14:00:00 7F 00/00/00" (full (second (pos 50400)))
    -- an offset where the clock is not astronomical, and none where it is; an impossible date of a clock, which never comes
    ∷ case false sunday "20:38:49 7F 00/00/00 00:30:00" (refused 21)
    ∷ case true sunday "14:00:00 7F 01/00/00" (refused 21)
    ∷ case false sunday "14:00:00 7F 31/02/00" (full idle)
    ∷ []

pub worked : AllHold cases
unfolding bit is_leap days_in stands has_form is_text number_in byte_in time_in offset_in clock_in in_range read_clock is_given runs_on second_of on_day
worked = (refl, (refl, (refl, (refl, (refl, (refl, (refl, (refl, (refl, (refl, (refl, (refl, (refl, (refl, (refl, (refl, (refl, (refl, (refl, tt)))))))))))))))))))
