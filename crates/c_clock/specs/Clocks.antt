-- Clocks as include/wickanchor.h declares them. Of a refused call every field but the refusal is 0; where there is no offset its span is, and where a clock does
-- not run the second is.
use Rattle.std.specs.Prelude.{ℕ, eqb, pos}
use Rattle.refusal.specs.Test.{pick}
use Rattle.refusal.specs.Answer.{Answer, refused, full}
use Rattle.clock_text.specs.declared.Time.{Time}
use Rattle.clock_text.specs.declared.Offset.{Offset}
use Rattle.clock_text.specs.declared.Offset.TheVariants.{Absent, Later, Earlier}
use Rattle.clock_text.specs.declared.Clock.{Clock}
use Rattle.clock_day.specs.Day.{Day, idle, second}
use Rattle.c_clock.specs.declared.WickClock.{WickClock}
use Rattle.c_clock.specs.declared.WickClockRead.{WickClockRead}
use Rattle.c_clock.specs.declared.WickClockRuns.{WickClockRuns}

abbrev pub no_time : Time
no_time = record { hour = 0; minute = 0; second = 0 }

-- the number of an offset, and its span
abbrev pub offset_no : Offset → ℕ
offset_no Absent = 0
offset_no (Later t) = 1
offset_no (Earlier t) = 2

abbrev pub offset_by : Offset → Time
offset_by Absent = no_time
offset_by (Later t) = t
offset_by (Earlier t) = t

-- what is handed over has the fields of a clock in the order of its text
abbrev pub wick : Time → ℕ → ℕ → ℕ → ℕ → ℕ → Time → WickClock
wick t weekdays day month year offset by =
    record {
      hour = t.hour;
      minute = t.minute;
      second = t.second;
      weekdays = weekdays;
      day = day;
      month = month;
      year = year;
      offset = offset;
      offset_hour = by.hour;
      offset_minute = by.minute;
      offset_second = by.second;
    }

abbrev pub clock_out : Clock → WickClock
clock_out c = wick c.time c.weekdays c.day c.month c.year (offset_no c.offset) (offset_by c.offset)

abbrev pub read_out : Answer Clock → WickClockRead
read_out (refused k) = record { refusal = k; clock = wick no_time 0 0 0 0 0 no_time }
read_out (full c) = record { refusal = 0; clock = clock_out c }

-- a clock handed in: every number of an offset but 0 and 1 is that of an earlier one, and where there is none its span counts for nothing
abbrev pub offset_in : ℕ → Time → Offset
offset_in n by = pick (eqb n 0) Absent (pick (eqb n 1) (Later by) (Earlier by))

abbrev pub clock_in : WickClock → Clock
clock_in w =
    record {
      time = record { hour = w.hour; minute = w.minute; second = w.second };
      weekdays = w.weekdays;
      day = w.day;
      month = w.month;
      year = w.year;
      offset = offset_in w.offset (record { hour = w.offset_hour; minute = w.offset_minute; second = w.offset_second });
    }

-- what a clock does on a day
abbrev pub not_running : ℕ → WickClockRuns
not_running k = record { refusal = k; runs = 0; second = pos 0 }

abbrev pub runs_out : Answer Day → WickClockRuns
runs_out (refused k) = not_running k
runs_out (full idle) = not_running 0
runs_out (full (second z)) = record { refusal = 0; runs = 1; second = z }
