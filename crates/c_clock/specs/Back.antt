-- A clock that is handed over and handed in again is what it was: so what a program in C has read it writes again.
use Rattle.std.specs.Prelude.{◌≡◌, refl}
use Rattle.clock_text.specs.declared.Offset.{Offset}
use Rattle.clock_text.specs.declared.Offset.TheVariants.{Absent, Later, Earlier}
use Rattle.clock_text.specs.declared.Clock.{Clock}
use Rattle.c_clock.specs.Clocks.{offset_no, offset_by, clock_out, offset_in, clock_in}

offset_back : (o : Offset) → offset_in (offset_no o) (offset_by o) ≡ o
offset_back Absent = refl
offset_back (Later t) = refl
offset_back (Earlier t) = refl

pub clock_back : (c : Clock) → clock_in (clock_out c) ≡ c
clock_back c =
    let o = offset_back c.offset in
    λ i.
    record { time = c.time; weekdays = c.weekdays; day = c.day; month = c.month; year = c.year; offset = o i }
