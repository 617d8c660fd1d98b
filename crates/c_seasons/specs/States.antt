-- A report between two parts of a capture, as another language hands it in and is handed it back.
use Rattle.std.specs.Prelude.{ℕ, map, eqb}
use Rattle.refusal.specs.Test.{pick}
use Rattle.refusal.specs.Refusals.{number_of}
use Rattle.event.specs.declared.Layout.{Layout}
use Rattle.event.specs.declared.Layout.TheVariants.{Three, Two}
use Rattle.passing.specs.declared.Passed.{Passed}
use Rattle.by_parts.specs.declared.Stage.{Stage}
use Rattle.by_parts.specs.declared.Stage.TheVariants.{Fresh, Of, Refused}
use Rattle.by_parts.specs.declared.SoFar.{SoFar}
use Rattle.by_parts.specs.Numbered.{refusal_of}
use Rattle.c_capture.specs.Times.{time_in, time_is, time_no}
use Rattle.c_seasons.specs.Seasons.{corridor_in, corridor_out, boundaries_in, boundaries_out, season_in, season_out}
use Rattle.c_seasons.specs.declared.WickSeasonsState.{WickSeasonsState}

-- a stage by its number: 0 before any byte, 1 and 2 the version byte of a capture of only good records, and every other number that the
-- capture is refused, with the number beside it
abbrev pub stage_in : ℕ → ℕ → Stage
stage_in n k = pick (eqb n 0) Fresh (pick (eqb n 1) (Of Three) (pick (eqb n 2) (Of Two) (Refused (refusal_of k))))

abbrev pub version_no : Layout → ℕ
version_no Three = 1
version_no Two = 2

abbrev pub stage_no : Stage → ℕ
stage_no Fresh = 0
stage_no (Of l) = version_no l
stage_no (Refused k) = 3

abbrev pub stage_refusal : Stage → ℕ
stage_refusal Fresh = 0
stage_refusal (Of l) = 0
stage_refusal (Refused k) = number_of k

-- the good records passed, with the tally of them
abbrev pub passed_in : WickSeasonsState → Passed
passed_in w =
    record {
      records = w.records;
      bytes = w.bytes;
      last = time_in w.has_last w.last;
      tally = record { seasons = map season_in w.seasons; last = time_in w.has_occupied w.occupied };
    }

-- whatever stands in the struct: what it claims to hold is judged by crate by_parts (`held_of`)
abbrev pub state_in : WickSeasonsState → SoFar
state_in w =
    record {
      who = corridor_in w.who;
      bounds = boundaries_in w.boundaries;
      stage = stage_in w.stage w.refusal;
      passed = passed_in w;
      held = record { bytes = w.held; len = w.len };
    }

abbrev pub state_out : SoFar → WickSeasonsState
state_out x =
    record {
      who = corridor_out x.who;
      boundaries = boundaries_out x.bounds;
      stage = stage_no x.stage;
      refusal = stage_refusal x.stage;
      records = x.passed.records;
      bytes = x.passed.bytes;
      has_last = time_is x.passed.last;
      last = time_no x.passed.last;
      seasons = map season_out x.passed.tally.seasons;
      has_occupied = time_is x.passed.tally.last;
      occupied = time_no x.passed.tally.last;
      held = x.held.bytes;
      len = x.held.len;
    }
