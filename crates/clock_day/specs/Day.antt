-- Document 02, W-214: "Given a date, its weekday (0 to 6 from Sunday, as given) and whether the clock is astronomical, say whether it runs that day and
-- at which second from midnight; an offset may carry it below 0 or past 86,399, and it is reported so."
use Rattle.std.specs.Prelude.{ℕ, ◌+◌, ◌*◌, Bool, Option, Some, None, ◌&&◌, ◌||◌, List, eqb, leb, ℤ, pos, neg_ℤ, ◌+ℤ◌}
use Rattle.refusal.specs.Test.{pick}
use Rattle.refusal.specs.Answer.{Answer, refused, full, demand}
use Rattle.maps.specs.Bit.{bit}
use Rattle.calendar.specs.Calendar.{days_in}
use Rattle.clock_text.specs.declared.Time.{Time}
use Rattle.clock_text.specs.declared.Offset.{Offset}
use Rattle.clock_text.specs.declared.Offset.TheVariants.{Absent, Later, Earlier}
use Rattle.clock_text.specs.declared.Clock.{Clock}
use Rattle.clock_text.specs.Clock.{read_clock}
use Rattle.clock_day.specs.declared.Given.{Given}

-- THE DAY. "a weekday over 6 or a given date that does not exist or lies outside those years is out of range": the years 2000 to 2099
unfoldable pub is_given : Given → Bool
is_given g =
    (leb g.weekday 6 && (leb 2000 g.year && leb g.year 2099))
    && (leb 1 g.day && leb g.day (days_in g.year g.month))

-- "Bit 80 switches a clock off"; source 000: "0x01 = Sunday" to "0x40 = Saturday"
abbrev pub is_on : ℕ → ℕ → Bool
is_on weekdays weekday = eqb (bit weekdays 7) 0 && eqb (bit weekdays weekday) 1

-- "day/month/year with 00 for no restriction"
abbrev pub is_free : ℕ → ℕ → Bool
is_free x y = eqb x 0 || eqb x y

-- "years mean 2000 to 2099"
abbrev pub is_free_year : ℕ → ℕ → Bool
is_free_year x y = eqb x 0 || eqb (2000 + x) y

unfoldable pub runs_on : Clock → Given → Bool
runs_on c g =
    ((is_on c.weekdays g.weekday && is_free c.day g.day) && is_free c.month g.month) && is_free_year c.year g.year

-- THE SECOND. Of a time from midnight, and of an offset
abbrev pub seconds_in : Time → ℕ
seconds_in t = t.hour * 3600 + t.minute * 60 + t.second

-- source 000: "(nothing) = postpone the execution time", "- = anticipate the execution time"
abbrev pub shift : Offset → ℤ
shift Absent = pos 0
shift (Later t) = pos (seconds_in t)
shift (Earlier t) = neg_ℤ (pos (seconds_in t))

unfoldable pub second_of : Clock → ℤ
second_of c = pos (seconds_in c.time) +ℤ shift c.offset

-- WHAT IT DOES on a day
pub data Day : Type 0 where
  idle : Day
  second : ℤ → Day

-- what an answer says, of whether there is a second at which it runs
abbrev pub day_said : Option ℤ → Day
day_said (Some z) = second z
day_said None = idle

-- of a clock that was read
unfoldable pub on_day : Given → Answer Clock → Answer Day
on_day g (refused k) = refused k
on_day g (full c) = demand (is_given g) 22 (full (pick (runs_on c g) (second (second_of c)) idle))

abbrev pub runs_at : Bool → Given → List ℕ → Answer Day
runs_at a g s = on_day g (read_clock a s)
