-- A corridor, boundaries and seasons as another language hands them in and is handed them, and what a report answers, beside a refusal.
use Rattle.std.specs.Prelude.{ℕ, ◌≡◌, refl, map, List, [], ◌∷◌}
use Rattle.refusal.specs.Answer.{Answer, refused, full}
use Rattle.season.specs.declared.Corridor.{Corridor}
use Rattle.season.specs.declared.Boundaries.{Boundaries}
use Rattle.season.specs.declared.Season.{Season}
use Rattle.tally.specs.Tally.{no_tally}
use Rattle.c_datagrams.specs.Events.{mac_in, mac_out}
use Rattle.c_capture.specs.Times.{time_in, time_is, time_no}
use Rattle.c_seasons.specs.declared.WickCorridor.{WickCorridor}
use Rattle.c_seasons.specs.declared.WickBoundaries.{WickBoundaries}
use Rattle.c_seasons.specs.declared.WickSeason.{WickSeason}
use Rattle.c_seasons.specs.declared.WickSeasons.{WickSeasons}

abbrev pub corridor_in : WickCorridor → Corridor
corridor_in w = record { mac = mac_in w.mac; target = w.target; instance = w.instance }

abbrev pub corridor_out : Corridor → WickCorridor
corridor_out c = record { mac = mac_out c.mac; target = c.target; instance = c.instance }

abbrev pub boundaries_in : WickBoundaries → Boundaries
boundaries_in w = record { first = w.first; second = w.second; third = w.third }

abbrev pub boundaries_out : Boundaries → WickBoundaries
boundaries_out b = record { first = b.first; second = b.second; third = b.third }

-- the longest gap is told as a time is, by a flag and a number
abbrev pub season_in : WickSeason → Season
season_in w =
    record {
      occupied = w.occupied;
      presses = w.presses;
      holds = w.holds;
      longest = time_in w.has_longest w.longest;
      total = w.total;
      gaps = w.gaps;
    }

abbrev pub season_out : Season → WickSeason
season_out s =
    record {
      occupied = s.occupied;
      presses = s.presses;
      holds = s.holds;
      has_longest = time_is s.longest;
      longest = time_no s.longest;
      total = s.total;
      gaps = s.gaps;
    }

-- what a report answers: the seasons, or the refusal beside those that are handed here
abbrev pub seasons_out : Answer (List Season) → List Season → WickSeasons
seasons_out (full s) x = record { refusal = 0; seasons = map season_out s }
seasons_out (refused k) x = record { refusal = k; seasons = map season_out x }

-- those of no records: beside a refusal all else is 0
abbrev pub no_season : WickSeason
no_season = record { occupied = 0; presses = 0; holds = 0; has_longest = 0; longest = 0; total = 0; gaps = 0 }

pub seasons_refused : (k : ℕ) → seasons_out (refused k) no_tally.seasons ≡ record { refusal = k; seasons = no_season ∷ no_season ∷ no_season ∷ no_season ∷ [] }
seasons_refused k = refl
