-- docs/BENCH.md, "The capture": what is carried at first, what is handed in, and for each call what it moves and what it tells.
use Rattle.std.specs.Prelude.{ℕ, Option, Some, None, Result, Ok, Err, zero, suc, ◌+◌, ◌*◌, List, [], ◌∷◌, ◌++◌, get_or, eqb}
use Rattle.refusal.specs.Test.{pick}
use Rattle.refusal.specs.declared.Refusal.{Refusal}
use Rattle.record.specs.declared.Stored.{Stored}
use Rattle.bench_words.specs.Words.{part_of, wide_of}
use Rattle.summary.specs.declared.Summary.{Summary}
use Rattle.summary.specs.Summary.{counted_in}
use Rattle.capture.specs.declared.Mark.{Mark}
use Rattle.capture.specs.declared.Kept.{Kept}
use Rattle.append.specs.declared.Appended.{Appended}
use Rattle.morning.specs.declared.Ran.{Ran}
use Rattle.morning.specs.declared.RanAt.{RanAt}
use Rattle.bench_capture.specs.declared.Carried.{Carried}
use Rattle.bench_capture.specs.declared.Moved.{Moved}
use Rattle.bench_capture.specs.declared.Head.{Head}
use Rattle.bench_capture.specs.declared.Head.TheVariants.{Done, Used, Ran as head·Ran, Open, At as head·At, Refused}
use Rattle.bench_capture.specs.declared.Tail.{Tail}
use Rattle.bench_capture.specs.declared.Tail.TheVariants.{Nothing, Counted, Next as tail·Next, All}

-- "At first: a buffer of no bytes, 0 in use, the summary of an empty capture, mark 0 with last absent."
abbrev pub at_first : Carried
at_first = record { size = 0; used = 0; mark = record { used = 0; last = None }; summary = counted_in [] }

-- WHAT IS HANDED IN. A number in 4 bytes from a place of a group on
abbrev pub number_at : List ℕ → ℕ → ℕ
number_at s i = wide_of 4 (part_of s i (i + 4))

-- "A flag byte: 00 is no (absent), every other byte is yes. What stands behind a flag of 00 counts for nothing."
abbrev pub seconds_at : List ℕ → ℕ → Option ℕ
seconds_at s i = pick (eqb (get_or s i 0) 0) None (Some (number_at s (i + 1)))

-- the first n of "eleven counts in 4", behind 14 bytes
unfoldable pub counts_at : ℕ → List ℕ → List ℕ
counts_at zero s = []
counts_at (suc n) s = counts_at n s ++ (number_at s (14 + n * 4) ∷ [])

-- "records in 4; flag and first in 4; flag and last in 4; eleven counts in 4"
abbrev pub handed_summary : List ℕ → Summary
handed_summary s = record { records = number_at s 0; first = seconds_at s 4; last = seconds_at s 9; counts = counts_at 11 s }

-- "bytes in use in 8; flag and last in 4"
abbrev pub handed_mark : List ℕ → Mark
handed_mark s = record { used = wide_of 8 s; last = seconds_at s 8 }

-- WHAT A CALL MOVES AND TELLS. Nothing is moved but what is said here; a summary that is shown is the one that is carried
abbrev pub tells : Carried → Head → Tail → Moved
tells c h t = record { carried = c; head = h; tail = t; summary = c.summary }

-- "A refused call changes nothing that is carried."
abbrev pub refuses : Carried → Refusal → Moved
refuses c k = tells c (Refused k) Nothing

-- "sets buffer and bytes in use; summary and mark stay"
abbrev pub capture_set : Carried → ℕ → ℕ → Moved
capture_set c n u = tells (record { size = n; used = u; mark = c.mark; summary = c.summary }) Done Nothing

-- "sets the summary", "sets the mark"
abbrev pub summary_set : Carried → List ℕ → Moved
summary_set c s = tells (record { size = c.size; used = c.used; mark = c.mark; summary = handed_summary s }) Done Nothing

abbrev pub mark_set : Carried → List ℕ → Moved
mark_set c s = tells (record { size = c.size; used = c.used; mark = handed_mark s; summary = c.summary }) Done Nothing

-- `capture_empty`, `capture_append_at`, and `capture_prefix`, which shows its summary: bytes in use, mark and summary become those that
-- were found
abbrev pub becomes : Carried → Kept → Carried
becomes c k = record { size = c.size; used = k.mark.used; mark = k.mark; summary = k.summary }

abbrev pub on_found : Result Kept Refusal → Carried → Tail → Moved
on_found (Ok k) c more = tells (becomes c k) (Used k.mark.used) more
on_found (Err n) c more = refuses c n

-- `capture_append`: "the mark stays, so it is stale"
abbrev pub on_appended : Result Appended Refusal → Carried → Moved
on_appended (Ok a) c = tells (record { size = c.size; used = a.used; mark = c.mark; summary = a.summary }) (Used a.used) Nothing
on_appended (Err n) c = refuses c n

-- `capture_run`: "reads and moves what `capture_append` does (the mark stays)"
abbrev pub on_ran : Result Ran Refusal → Carried → Moved
on_ran (Ok r) c =
    tells (record { size = c.size; used = r.used; mark = c.mark; summary = r.summary }) (head·Ran r.entered r.refused r.used) Nothing
on_ran (Err n) c = refuses c n

-- `capture_run_at`: "the same from the mark"; "bytes in use and the mark's become N"
abbrev pub on_ran_at : Result RanAt Refusal → Carried → Moved
on_ran_at (Ok r) c = tells (becomes c r.kept) (head·Ran r.entered r.refused r.kept.mark.used) Nothing
on_ran_at (Err n) c = refuses c n

-- `capture_open`: "the mark becomes what is said; summary stays"
abbrev pub on_opening : Result Mark Refusal → Carried → Moved
on_opening (Ok m) c = tells (record { size = c.size; used = c.used; mark = m; summary = c.summary }) (Open m) Nothing
on_opening (Err n) c = refuses c n

-- `capture_count`: "SUMMARY, counted afresh", "moves nothing"
abbrev pub on_counting : Result Summary Refusal → Carried → Moved
on_counting (Ok x) c = record { carried = c; head = Done; tail = Counted; summary = x }
on_counting (Err n) c = refuses c n

-- `capture_record`: its seconds, and the place behind it
abbrev pub on_step : Result Stored Refusal → Carried → Moved
on_step (Ok x) c = tells c (head·At x.seconds) (tail·Next x.next)
on_step (Err n) c = refuses c n

-- `capture_show`
abbrev pub on_show : Carried → Moved
on_show c = tells c (Used c.used) (All c.mark)
