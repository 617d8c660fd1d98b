-- docs/BENCH.md, "Clocks": what is handed in, byte by byte. A byte that is not there is 0.
use Rattle.std.specs.Prelude.{ℕ, Bool, not, List, get_or, eqb}
use Rattle.refusal.specs.Test.{pick}
use Rattle.bench_words.specs.Words.{part_of, wide_of}
use Rattle.clock_text.specs.declared.Time.{Time}
use Rattle.clock_text.specs.declared.Offset.{Offset}
use Rattle.clock_text.specs.declared.Offset.TheVariants.{Absent, Later, Earlier}
use Rattle.clock_text.specs.declared.Clock.{Clock}
use Rattle.clock_day.specs.declared.Given.{Given}

-- "flag: astronomical"; "A flag of 00 is no, every other byte is yes"
abbrev pub flag_in : List ℕ → Bool
flag_in s = not (eqb (get_or s 0 0) 0)

-- behind the flag: "year in 2, month, day, weekday"
abbrev pub given_in : List ℕ → Given
given_in s = record { year = wide_of 2 (part_of s 1 3); month = get_or s 3 0; day = get_or s 4 0; weekday = get_or s 5 0 }

-- "Kind 00 is no offset (the three behind it count for nothing), 01 later, every other byte earlier"
abbrev pub offset_by : ℕ → Time → Offset
offset_by k t = pick (eqb k 0) Absent (pick (eqb k 1) (Later t) (Earlier t))

-- "hour, minute, second, weekdays, day, month, year, kind, hour, minute, second"
abbrev pub clock_in : List ℕ → Clock
clock_in s = record {
  time = record { hour = get_or s 0 0; minute = get_or s 1 0; second = get_or s 2 0 };
  weekdays = get_or s 3 0;
  day = get_or s 4 0;
  month = get_or s 5 0;
  year = get_or s 6 0;
  offset = offset_by (get_or s 7 0) (record { hour = get_or s 8 0; minute = get_or s 9 0; second = get_or s 10 0 });
}
