-- Document 02, W-213, of a capture that comes in parts: what is known of it behind each part, and the report in the end.
use Rattle.std.specs.Prelude.{ℕ, ◌+◌, Bool, not, ◌&&◌, ◌||◌, List, [], ◌∷◌, ◌++◌, length, take, drop, replicate, leb, ltb, eqb}
use Rattle.refusal.specs.Test.{pick}
use Rattle.refusal.specs.Answer.{Answer, refused, full, demand}
use Rattle.refusal.specs.Refusals.{number_of}
use Rattle.refusal.specs.declared.Refusal.{Refusal}
use Rattle.refusal.specs.declared.Refusal.TheVariants.{BadRecord}
use Rattle.lead.specs.Lead.{event_data}
use Rattle.lent.specs.Puts.{over}
use Rattle.event.specs.declared.Layout.{Layout}
use Rattle.event.specs.Layout.{width_of, least}
use Rattle.led.specs.Led.{length_in}
use Rattle.capture.specs.Capture.{front_of}
use Rattle.season.specs.declared.Corridor.{Corridor}
use Rattle.season.specs.declared.Boundaries.{Boundaries}
use Rattle.season.specs.declared.Season.{Season}
use Rattle.season.specs.Season.{rises}
use Rattle.passing.specs.declared.Passed.{Passed}
use Rattle.passing.specs.declared.Pass.{Pass}
use Rattle.passing.specs.Passing.{none_passed, passed_over}
use Rattle.by_parts.specs.declared.Held.{Held}
use Rattle.by_parts.specs.declared.Stage.{Stage}
use Rattle.by_parts.specs.declared.Stage.TheVariants.{Fresh, Of, Refused}
use Rattle.by_parts.specs.declared.SoFar.{SoFar}
use Rattle.by_parts.specs.Numbered.{refusal_of}

-- WHAT IS HELD. The most bytes behind a record's length: four of seconds, and the longest event of the layout
abbrev pub longest_rest : ℕ → ℕ
longest_rest w = 4 + least w + event_data

-- whether some bytes tell how the record that begins with them stands: its length is there, and no record is so long or all of it is there
unfoldable pub is_settled : ℕ → List ℕ → Bool
is_settled w s = leb 2 (length s) && (ltb (longest_rest w) (length_in s) || leb (2 + length_in s) (length s))

-- a record of the longer layout, less a byte
abbrev pub room : ℕ
room = 67

-- bytes held, zeros behind them
abbrev pub holding : List ℕ → Held
holding s = record { bytes = over s (replicate room 0) 0; len = length s }

-- the bytes that a state holds: none where it claims more than can be, or bytes that tell how their record stands
unfoldable pub held_of : Layout → Held → List ℕ
held_of l h = pick (leb h.len room && not (is_settled (width_of l) (take h.len h.bytes))) (take h.len h.bytes) []

-- A PART. The capture is refused, and nothing is held
abbrev pub stopped : Corridor → Boundaries → Passed → Refusal → SoFar
stopped c b x k = record { who = c; bounds = b; stage = Refused k; passed = x; held = holding [] }

-- behind the good records: the rest is held, unless it tells that the next is bad
abbrev pub leaving : Layout → Corridor → Boundaries → Passed → List ℕ → SoFar
leaving l c b x s =
    pick (is_settled (width_of l) s) (stopped c b x BadRecord)
    (record { who = c; bounds = b; stage = Of l; passed = x; held = holding s })

-- from the place of a record on: the good records are passed, then the rest
abbrev pub leaving_by : Layout → Corridor → Boundaries → Pass → List ℕ → SoFar
leaving_by l c b p s = leaving l c b p.passed (drop p.at s)

unfoldable pub onward : Layout → Corridor → Boundaries → Passed → List ℕ → SoFar
onward l c b x s = leaving_by l c b (passed_over (width_of l) s c b x) s

-- before any byte: "14 and 15 as before", by the version byte
abbrev pub begun : Corridor → Boundaries → SoFar
begun c b = record { who = c; bounds = b; stage = Fresh; passed = none_passed; held = holding [] }

abbrev pub versioned : Answer Layout → SoFar → List ℕ → SoFar
versioned (refused k) x s = stopped x.who x.bounds x.passed (refusal_of k)
versioned (full l) x s = onward l x.who x.bounds x.passed (drop 1 s)

-- a part of any bytes: behind a refusal no byte matters
abbrev pub parted_in : Stage → SoFar → List ℕ → SoFar
parted_in Fresh x s = pick (eqb (length s) 0) x (versioned (front_of s (length s)) x s)
parted_in (Of l) x s = onward l x.who x.bounds x.passed (held_of l x.held ++ s)
parted_in (Refused k) x s = x

unfoldable pub parted : SoFar → List ℕ → SoFar
parted x s = parted_in x.stage x s

-- one after the other
unfoldable pub parted_all : SoFar → List (List ℕ) → SoFar
parted_all x [] = x
parted_all x (p ∷ ps) = parted_all (parted x p) ps

-- THE END. 15: no version byte, or a record cut short; then 20
abbrev pub ended_in : Stage → SoFar → Answer (List Season)
ended_in Fresh x = refused 15
ended_in (Refused k) x = refused (number_of k)
ended_in (Of l) x = demand (eqb (length (held_of l x.held)) 0) 15 (demand (rises x.bounds) 20 (full x.passed.tally.seasons))

unfoldable pub ended : SoFar → Answer (List Season)
ended x = ended_in x.stage x
