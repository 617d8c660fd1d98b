-- Document 02, W-213: "report for each of the four seasons". The tally of one record more, and its fold over the records.
use Rattle.std.specs.Prelude.{ℕ, List, [], ◌∷◌, get_or, set, Option, None}
use Rattle.refusal.specs.Test.{pick}
use Rattle.event_type.specs.Types.{kind_number}
use Rattle.event.specs.Reading.{Told}
use Rattle.record.specs.Record.{Entry}
use Rattle.season.specs.declared.Corridor.{Corridor}
use Rattle.season.specs.declared.Boundaries.{Boundaries}
use Rattle.season.specs.declared.Season.{Season}
use Rattle.season.specs.Season.{is_of, season_of, no_events, with_event, gap_by, last_by}
use Rattle.tally.specs.declared.Tally.{Tally}

-- an event of the corridor at t, of type k: it counts in the season in which it lies
abbrev pub changed : List Season → ℕ → ℕ → Option ℕ → List Season
changed s n k gap = set s n (with_event (get_or s n no_events) k gap)

unfoldable pub noted : Boundaries → Tally → ℕ → ℕ → Tally
noted b x t k = record { seasons = changed x.seasons (season_of b t) k (gap_by b x.last t k); last = last_by x.last t k }

-- THE TALLY OF ONE RECORD MORE, of these seconds and this event: no other event counts
unfoldable pub one_more : Corridor → Boundaries → Tally → ℕ → Told → Tally
one_more c b x t e = pick (is_of c e) (noted b x t (kind_number e.kind)) x

-- AND OF SOME RECORDS, one by one
unfoldable pub tallied : Corridor → Boundaries → Tally → List Entry → Tally
tallied c b x [] = x
tallied c b x (r ∷ rs) = tallied c b (one_more c b x r.seconds r.event) rs

-- of none
abbrev pub no_tally : Tally
no_tally = record { seasons = no_events ∷ no_events ∷ no_events ∷ no_events ∷ []; last = None }

-- THE REPORT over some records
abbrev pub seasons_in : Corridor → Boundaries → List Entry → List Season
seasons_in c b rs = (tallied c b no_tally rs).seasons
