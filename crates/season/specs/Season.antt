-- Document 02, W-213: "From a capture, one controller MAC, one target and one instance, plus three rising season boundaries in seconds,
-- report for each of the four seasons: occupied events (type 6), button presses (0), holds (1), and the longest gap in seconds from one
-- occupied event to the next, both lying in it (absent if there are fewer than two)." One season, and one event more in it.
use Rattle.std.specs.Prelude.{ℕ, ◌+◌, ◌-◌, Bool, false, ◌&&◌, Option, Some, None, leb, ltb, eqb}
use Rattle.refusal.specs.Test.{pick}
use Rattle.event.specs.declared.Mac.{Mac}
use Rattle.event.specs.Reading.{Told}
use Rattle.season.specs.declared.Corridor.{Corridor}
use Rattle.season.specs.declared.Boundaries.{Boundaries}
use Rattle.season.specs.declared.Season.{Season}

-- WHOSE EVENTS. "one controller MAC, one target and one instance"
abbrev pub is_mac : Mac → Mac → Bool
is_mac m k = eqb m.0 k.0 && eqb m.1 k.1 && eqb m.2 k.2 && eqb m.3 k.3 && eqb m.4 k.4 && eqb m.5 k.5

abbrev pub is_instance : ℕ → Option ℕ → Bool
is_instance i (Some j) = eqb i j
is_instance i None = false

unfoldable pub is_of : Corridor → Told → Bool
is_of c e = is_mac c.mac e.mac && eqb c.target e.target && is_instance c.instance e.instance

-- THE SEASONS. "three rising season boundaries": equal ones do not rise
abbrev pub rises : Boundaries → Bool
rises b = ltb b.first b.second && ltb b.second b.third

-- "A time equal to a boundary belongs to the later season": the seasons by their places, from 0
unfoldable pub season_of : Boundaries → ℕ → ℕ
season_of b t = pick (ltb t b.first) 0 (pick (ltb t b.second) 1 (pick (ltb t b.third) 2 3))

-- "occupied events (type 6), button presses (0), holds (1)"
abbrev pub type_occupied : ℕ
type_occupied = 6

abbrev pub type_press : ℕ
type_press = 0

abbrev pub type_hold : ℕ
type_hold = 1

-- ONE SEASON. Its numbers have 64 bits, and one that is full stays so: no capture comes so far (`report_is`, crate seasons)
abbrev pub full64 : ℕ
full64 = 18446744073709551615

unfoldable pub plus : ℕ → ℕ → ℕ
plus a b = pick (leb (a + b) full64) (a + b) full64

abbrev pub count_if : Bool → ℕ → ℕ
count_if t n = pick t (plus n 1) n

-- a gap more, or none: the longest, the total and the number of gaps
abbrev pub longer : Option ℕ → Option ℕ → Option ℕ
longer l None = l
longer None (Some g) = Some g
longer (Some l) (Some g) = Some (pick (leb l g) g l)

abbrev pub with_gap : ℕ → Option ℕ → ℕ
with_gap n None = n
with_gap n (Some g) = plus n g

abbrev pub one_gap : ℕ → Option ℕ → ℕ
one_gap n None = n
one_gap n (Some g) = plus n 1

-- "absent if there are fewer than two", "0 and 0 if none"
abbrev pub no_events : Season
no_events = record { occupied = 0; presses = 0; holds = 0; longest = None; total = 0; gaps = 0 }

-- one more event of type k, and the gap that it ends, if it ends one
unfoldable pub with_event : Season → ℕ → Option ℕ → Season
with_event s k gap =
    record {
      occupied = count_if (eqb k type_occupied) s.occupied;
      presses = count_if (eqb k type_press) s.presses;
      holds = count_if (eqb k type_hold) s.holds;
      longest = longer s.longest gap;
      total = with_gap s.total gap;
      gaps = one_gap s.gaps gap;
    }

-- THE FOUR. "from one occupied event to the next, both lying in it": the gap between one at l and the next at t, and from the last one, if
-- there was one
unfoldable pub gap_between : Boundaries → ℕ → ℕ → Option ℕ
gap_between b l t = pick (eqb (season_of b l) (season_of b t)) (Some (t - l)) None

abbrev pub gap_to : Boundaries → Option ℕ → ℕ → Option ℕ
gap_to b None t = None
gap_to b (Some l) t = gap_between b l t

-- an event of type k at t ends a gap where it is an occupied one, and is then the last of them
abbrev pub gap_by : Boundaries → Option ℕ → ℕ → ℕ → Option ℕ
gap_by b last t k = pick (eqb k type_occupied) (gap_to b last t) None

abbrev pub last_by : Option ℕ → ℕ → ℕ → Option ℕ
last_by last t k = pick (eqb k type_occupied) (Some t) last
