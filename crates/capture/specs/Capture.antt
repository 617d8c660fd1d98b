-- Document 02, W-207: "Keep accepted events in a lent buffer with a count of its bytes in use: a version byte at the front (1 for three
-- target bytes, 2 for two), then records".
use Rattle.std.specs.Prelude.{ℕ, Option, Some, None, zero, suc, ◌+◌, Bool, not, ◌||◌, List, [], ◌∷◌, length, take, drop, leb, eqb}
use Rattle.refusal.specs.Test.{pick}
use Rattle.refusal.specs.Answer.{Answer, refused, full, demand}
use Rattle.frame.specs.Frame.{byte}
use Rattle.event.specs.declared.Layout.{Layout}
use Rattle.event.specs.declared.Layout.TheVariants.{Three, Two}
use Rattle.event.specs.Layout.{width_of}
use Rattle.record.specs.Record.{Entry, record_size, record_at, Stood, standing}
use Rattle.summary.specs.declared.Summary.{Summary}
use Rattle.summary.specs.Summary.{last_from, not_before, counted_in, most}
use Rattle.capture.specs.declared.Mark.{Mark}
use Rattle.capture.specs.declared.Kept.{Kept}

-- THE FRONT. "1 for three target bytes, 2 for two", "14 unknown version"
abbrev pub is_version : ℕ → Bool
is_version v = eqb v 1 || eqb v 2

abbrev pub layout_by : ℕ → Layout
layout_by v = pick (eqb v 2) Two Three

-- the layout by the version byte; "15 also for no version byte"
unfoldable pub version_in : List ℕ → ℕ → Answer Layout
version_in b u =
    demand (leb 1 (length b)) 15
    (demand (leb 1 u) 15
    (demand (is_version (byte 0 b)) 14
    (full (layout_by (byte 0 b)))))

-- ".. or more in use than there is"
abbrev pub with_claim : Answer Layout → List ℕ → ℕ → Answer Layout
with_claim (refused k) b u = refused k
with_claim (full l) b u = demand (leb u (length b)) 15 (full l)

abbrev pub front_of : List ℕ → ℕ → Answer Layout
front_of b u = with_claim (version_in b u) b u

-- THE RECORDS. The one at the front of some bytes, behind one of these seconds; 15: ".. of seconds below the one before"
abbrev pub in_time : Option ℕ → Answer Entry → Answer Entry
in_time last (refused k) = refused k
in_time last (full r) = demand (not_before last r.seconds) 15 (full r)

unfoldable pub next_at : ℕ → Option ℕ → List ℕ → Answer Entry
next_at w last s = in_time last (record_at w s)

-- a record taken, and then others
abbrev pub takes : Answer Entry → List Entry → List Entry
takes (refused k) rs = []
takes (full r) rs = r ∷ rs

abbrev pub size_at : Answer Entry → ℕ
size_at (refused k) = 0
size_at (full r) = record_size r.datagram

abbrev pub last_at : Answer Entry → Option ℕ → Option ℕ
last_at (refused k) last = last
last_at (full r) last = Some r.seconds

-- the good records at the front of some bytes, one behind the other, up to the end or to the first that is bad; at most n are looked for
unfoldable pub records_up_to : ℕ → ℕ → Option ℕ → List ℕ → List Entry
records_up_to w zero last s = []
records_up_to w (suc n) last s =
    let x = next_at w last s in
    takes x (records_up_to w n (last_at x last) (drop (size_at x) s))

-- each has a byte, so there are no more than bytes
abbrev pub records_from : ℕ → Option ℕ → List ℕ → List Entry
records_from w last s = records_up_to w (length s) last s

-- how many bytes some records take
abbrev pub sizes_of : List Entry → ℕ
sizes_of [] = 0
sizes_of (r ∷ rs) = record_size r.datagram + sizes_of rs

-- from a mark on over some bytes: the place behind the last good record, and its seconds
abbrev pub behind : Mark → List Entry → Mark
behind m rs = record { used = m.used + sizes_of rs; last = last_from m.last rs }

abbrev pub walked : ℕ → List ℕ → Mark → Mark
walked w s m = behind m (records_from w m.last (drop m.used s))

-- behind the version byte
abbrev pub start : Mark
start = record { used = 1; last = None }

-- the good records of some bytes with a version byte in front
abbrev pub records_in : ℕ → List ℕ → List Entry
records_in w s = records_from w None (drop 1 s)

-- OPENING: the bytes in use are a capture where its good records are all of them, else 15; its mark
unfoldable pub opened_all : ℕ → List ℕ → Answer Mark
opened_all w s = demand (leb (length s) (walked w s start).used) 15 (full (walked w s start))

abbrev pub opened_in : Answer Layout → List ℕ → ℕ → Answer Mark
opened_in (refused k) b u = refused k
opened_in (full l) b u = opened_all (width_of l) (take u b)

unfoldable pub opened : List ℕ → ℕ → Answer Mark
opened b u = opened_in (front_of b u) b u

-- COUNTING AFRESH: 14 and 15; then 8 where a count of 32 bits has no room
unfoldable pub counted_all : ℕ → List ℕ → Answer Summary
counted_all w s =
    demand (leb (length s) (walked w s start).used) 15
    (demand (leb (length (records_in w s)) most) 8
    (full (counted_in (records_in w s))))

abbrev pub counted_by : Answer Layout → List ℕ → ℕ → Answer Summary
counted_by (refused k) b u = refused k
counted_by (full l) b u = counted_all (width_of l) (take u b)

unfoldable pub counted : List ℕ → ℕ → Answer Summary
counted b u = counted_by (front_of b u) b u

-- THE LONGEST GOOD PREFIX of the bytes that are there: its mark and its summary, which counts no more records than it has room for
unfoldable pub at_most : ℕ → List Entry → List Entry
at_most n rs = take n rs

abbrev pub first_records : ℕ → List ℕ → List Entry
first_records w s = at_most most (records_in w s)

abbrev pub kept : List Entry → Kept
kept rs = record { mark = behind start rs; summary = counted_in rs }

abbrev pub kept_in : Answer Layout → List ℕ → ℕ → Answer Kept
kept_in (refused k) b u = refused k
kept_in (full l) b u = full (kept (first_records (width_of l) (take u b)))

unfoldable pub prefixed : List ℕ → ℕ → Answer Kept
prefixed b u = kept_in (version_in b u) b u

-- nothing in use, nothing counted
abbrev pub nothing_kept : Kept
nothing_kept = record { mark = record { used = 0; last = None }; summary = counted_in [] }

-- ONE STEP of a walk: the record that begins at a place; 12 at the end of the bytes in use
abbrev pub entry_in : Answer Layout → List ℕ → ℕ → ℕ → Answer Entry
entry_in (refused k) b u p = refused k
entry_in (full l) b u p =
    demand (not (eqb p u)) 12
    (demand (leb 1 p) 15
    (record_at (width_of l) (drop p (take u b))))

unfoldable pub entry_at : List ℕ → ℕ → ℕ → Answer Entry
entry_at b u p = entry_in (front_of b u) b u p

-- its seconds, its event, and the place of the next
abbrev pub step_at : List ℕ → ℕ → ℕ → Answer Stood
step_at b u p = standing p (entry_at b u p)

-- its datagram, and the place of the buffer where this begins; empty where there is no record
abbrev pub part_of : Answer Entry → List ℕ
part_of (refused k) = []
part_of (full r) = r.datagram

abbrev pub datagram_at : List ℕ → ℕ → ℕ → List ℕ
datagram_at b u p = part_of (entry_at b u p)

abbrev pub start_of : Answer Entry → ℕ → ℕ
start_of (refused k) p = 0
start_of (full r) p = p + 6

abbrev pub datagram_start : List ℕ → ℕ → ℕ → ℕ
datagram_start b u p = start_of (entry_at b u p) p
