-- Marks and summaries as another language hands them in and is handed them back, beside a refusal.
use Rattle.std.specs.Prelude.{ℕ, None, ◌≡◌, List}
use Rattle.refusal.specs.Answer.{Answer, refused, full}
use Rattle.summary.specs.declared.Summary.{Summary}
use Rattle.capture.specs.declared.Mark.{Mark}
use Rattle.capture.specs.declared.Kept.{Kept}
use Rattle.capture.specs.Capture.{nothing_kept}
use Rattle.append.specs.declared.Appended.{Appended}
use Rattle.append.specs.Append.{emptied, empty_left, verdict_at, handed, verdict, appended_to, left_by, stands_after}
use Rattle.morning.specs.declared.Ran.{Ran}
use Rattle.morning.specs.declared.RanAt.{RanAt}
use Rattle.morning.specs.Morning.{ran, ran_out, ran_left, ran_at, ran_at_out, ran_at_left}
use Rattle.c_capture.specs.Times.{time_in, time_is, time_no}
use Rattle.c_capture.specs.declared.WickSummary.{WickSummary}
use Rattle.c_capture.specs.declared.WickMark.{WickMark}
use Rattle.c_capture.specs.declared.WickCapture.{WickCapture}
use Rattle.c_capture.specs.declared.WickAppended.{WickAppended}
use Rattle.c_capture.specs.declared.WickRan.{WickRan}
use Rattle.c_capture.specs.declared.WickRanAt.{WickRanAt}
use Rattle.c_capture.specs.declared.WickOpened.{WickOpened}
use Rattle.c_capture.specs.declared.WickCounted.{WickCounted}

abbrev pub summary_in : WickSummary → Summary
summary_in w =
    record { records = w.records; first = time_in w.has_first w.first; last = time_in w.has_last w.last; counts = w.counts }

abbrev pub summary_out : Summary → WickSummary
summary_out x =
    record {
      records = x.records;
      has_first = time_is x.first;
      has_last = time_is x.last;
      first = time_no x.first;
      last = time_no x.last;
      counts = x.counts;
    }

abbrev pub mark_in : WickMark → Mark
mark_in w = record { used = w.used; last = time_in w.has_last w.last }

abbrev pub mark_out : Mark → WickMark
mark_out m = record { used = m.used; has_last = time_is m.last; last = time_no m.last }

-- the number of a refusal, 0 where there is none
abbrev pub went_no : {A : Type 0} → Answer A → ℕ
went_no (full y) = 0
went_no (refused k) = k

-- what stands beside it: what was answered, or, beside a refusal, what is handed here: mark and summary,
abbrev pub found_out : Answer Kept → Kept → WickCapture
found_out a x =
    let k = stands_after a x in
    record { refusal = went_no a; mark = mark_out k.mark; summary = summary_out k.summary }

-- bytes in use and summary,
abbrev pub appended_out : Answer Appended → ℕ → Summary → WickAppended
appended_out a u x =
    let k = stands_after a (record { used = u; summary = x }) in
    record { refusal = went_no a; used = k.used; summary = summary_out k.summary }

-- of a run, beside how many went in and how many were refused,
abbrev pub run_out : Answer Ran → Ran → WickRan
run_out a x =
    let r = stands_after a x in
    record { refusal = went_no a; entered = r.entered; refused = r.refused; used = r.used; summary = summary_out r.summary }

abbrev pub run_at_out : Answer RanAt → RanAt → WickRanAt
run_at_out a x =
    let r = stands_after a x in
    record {
      refusal = went_no a;
      entered = r.entered;
      refused = r.refused;
      mark = mark_out r.kept.mark;
      summary = summary_out r.kept.summary;
    }

-- a mark, beside a refusal one of nothing, and the summary of a count
abbrev pub opened_out : Answer Mark → WickOpened
opened_out a = record { refusal = went_no a; mark = mark_out (stands_after a (record { used = 0; last = None })) }

abbrev pub counted_out : Answer Summary → Summary → WickCounted
counted_out a x = record { refusal = went_no a; summary = summary_out (stands_after a x) }

-- beside the refusal of a whole run none went in and none was refused, and what was handed in stands
abbrev pub ran_none : ℕ → Summary → Ran
ran_none u x = record { entered = 0; refused = 0; used = u; summary = x }

abbrev pub ran_at_none : Mark → Summary → RanAt
ran_at_none m x = record { entered = 0; refused = 0; kept = record { mark = m; summary = x } }

-- the contract of emptying: what is handed over, and every byte of the buffer
pub record EmptiesOut (b : List ℕ) (v : ℕ) (w : WickCapture) (b' : List ℕ) : Type 0 where
  pub says : w ≡ found_out (emptied b v) nothing_kept
  pub leaves : b' ≡ empty_left (emptied b v) b v

-- of an append by a mark and by the letter, of what was handed in
pub record AppendsAtOut (b : List ℕ) (m : Mark) (x : Summary) (t : ℕ) (d : List ℕ) (w : WickCapture) (b' : List ℕ) : Type 0 where
  pub says : w ≡ found_out (handed (verdict_at b m x t d) m.used t d) (record { mark = m; summary = x })
  pub leaves : b' ≡ left_by (verdict_at b m x t d) b m.used t d

pub record AppendsOut (b : List ℕ) (u : ℕ) (x : Summary) (t : ℕ) (d : List ℕ) (w : WickAppended) (b' : List ℕ) : Type 0 where
  pub says : w ≡ appended_out (appended_to (verdict b u x t d) u d) u x
  pub leaves : b' ≡ left_by (verdict b u x t d) b u t d

-- of a run by the letter and by a mark
pub record RunsOut (b : List ℕ) (u : ℕ) (x : Summary) (t : ℕ) (run : List ℕ) (w : WickRan) (b' : List ℕ) : Type 0 where
  pub says : w ≡ run_out (ran_out (ran b u x t run)) (ran_none u x)
  pub leaves : b' ≡ ran_left (ran b u x t run) b

pub record RunsAtOut (b : List ℕ) (m : Mark) (x : Summary) (t : ℕ) (run : List ℕ) (w : WickRanAt) (b' : List ℕ) : Type 0 where
  pub says : w ≡ run_at_out (ran_at_out (ran_at b m x t run)) (ran_at_none m x)
  pub leaves : b' ≡ ran_at_left (ran_at b m x t run) b
