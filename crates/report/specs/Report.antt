-- Document 02, W-213: the report of a capture. "Refusals: 14 and 15 as before, then 20 for boundaries that do not rise."
use Rattle.std.specs.Prelude.{ℕ, List}
use Rattle.refusal.specs.Answer.{Answer, refused, full, demand}
use Rattle.capture.specs.declared.Mark.{Mark}
use Rattle.capture.specs.Capture.{opened}
use Rattle.year.specs.Whole.{records_of}
use Rattle.season.specs.declared.Corridor.{Corridor}
use Rattle.season.specs.declared.Boundaries.{Boundaries}
use Rattle.season.specs.declared.Season.{Season}
use Rattle.season.specs.Season.{rises}
use Rattle.tally.specs.Tally.{seasons_in}

-- "14 and 15 as before": as a capture is opened
abbrev pub on_opened : Answer Mark → Answer (List Season) → Answer (List Season)
on_opened (refused k) then = refused k
on_opened (full m) then = then

-- the four seasons of its records
unfoldable pub reported : List ℕ → ℕ → Corridor → Boundaries → Answer (List Season)
reported b u c bounds = on_opened (opened b u) (demand (rises bounds) 20 (full (seasons_in c bounds (records_of b u))))
