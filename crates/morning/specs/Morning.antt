-- Document 02, W-208: "The collector hands us a run of event datagrams, each led by a two-byte big-endian length. Read and append them all
-- under one time given with it."
use Rattle.std.specs.Prelude.{ℕ, Result, ◌+◌, ◌≡◌, List, [], ◌∷◌}
use Rattle.std.proofs.Common.{sym, ◌∙◌}
use Rattle.refusal.specs.declared.Refusal.{Refusal}
use Rattle.refusal.specs.Answer.{Answer, refused, full, determined, said, said_one}
use Rattle.led.specs.Led.{parts_of}
use Rattle.summary.specs.declared.Summary.{Summary}
use Rattle.capture.specs.declared.Mark.{Mark}
use Rattle.capture.specs.declared.Kept.{Kept}
use Rattle.capture.specs.Capture.{front_of, opened}
use Rattle.append.specs.declared.Appended.{Appended}
use Rattle.append.specs.Append.{verdict, verdict_at, handed, left_by, appended_to, stands_after}
use Rattle.morning.specs.declared.Ran.{Ran}
use Rattle.morning.specs.declared.RanAt.{RanAt}

-- "how many went in and how many were refused", by one append
abbrev pub entered_by : {A : Type 0} → Answer A → ℕ
entered_by (full y) = 1
entered_by (refused k) = 0

abbrev pub refused_by : {A : Type 0} → Answer A → ℕ
refused_by (full y) = 0
refused_by (refused k) = 1

-- SINGLY, BY THE LETTER: what stands after some datagrams
pub record Stand : Type 0 where
  pub entered : ℕ
  pub refused : ℕ
  pub used : ℕ
  pub summary : Summary
  pub buffer : List ℕ

-- one datagram, as `append` answers and what it leaves; "refused ones skipped" and counted
abbrev pub single : ℕ → Stand → List ℕ → Stand
single t z d =
    let v = verdict z.buffer z.used z.summary t d in
    let a = appended_to v z.used d in
    let s = stands_after a (record { used = z.used; summary = z.summary }) in
    record {
      entered = z.entered + entered_by a;
      refused = z.refused + refused_by a;
      used = s.used;
      summary = s.summary;
      buffer = left_by v z.buffer z.used t d;
    }

-- "as if each had been appended singly in order"
unfoldable pub singles : ℕ → Stand → List (List ℕ) → Stand
singles t z [] = z
singles t z (d ∷ ds) = singles t (single t z d) ds

abbrev pub begins : List ℕ → ℕ → Summary → Stand
begins b u x = record { entered = 0; refused = 0; used = u; summary = x; buffer = b }

-- SINGLY, BY MARKS: the same, as `append_at` answers
pub record StandAt : Type 0 where
  pub entered : ℕ
  pub refused : ℕ
  pub kept : Kept
  pub buffer : List ℕ

abbrev pub single_at : ℕ → StandAt → List ℕ → StandAt
single_at t z d =
    let m = z.kept.mark in
    let v = verdict_at z.buffer m z.kept.summary t d in
    let a = handed v m.used t d in
    record {
      entered = z.entered + entered_by a;
      refused = z.refused + refused_by a;
      kept = stands_after a z.kept;
      buffer = left_by v z.buffer m.used t d;
    }

unfoldable pub singles_at : ℕ → StandAt → List (List ℕ) → StandAt
singles_at t z [] = z
singles_at t z (d ∷ ds) = singles_at t (single_at t z d) ds

abbrev pub begins_at : List ℕ → Mark → Summary → StandAt
begins_at b m x = record { entered = 0; refused = 0; kept = record { mark = m; summary = x }; buffer = b }

-- THE CALL. "A run that ends inside a length or whose last length reaches past its end is refused whole with 15 before anything is
-- appended; a capture that gives 14 or 15 refuses the call with that": the lower where both apply, so the capture's comes first
abbrev pub judged : {A S : Type 0} → Answer A → Answer (List (List ℕ)) → (List (List ℕ) → S) → Answer S
judged (refused k) ds then = refused k
judged (full a) (refused k) then = refused k
judged (full a) (full ds) then = full (then ds)

-- by the letter the whole capture is judged
unfoldable pub ran : List ℕ → ℕ → Summary → ℕ → List ℕ → Answer Stand
ran b u x t run = judged (opened b u) (parts_of run) (singles t (begins b u x))

-- by a mark its front
unfoldable pub ran_at : List ℕ → Mark → Summary → ℕ → List ℕ → Answer StandAt
ran_at b m x t run = judged (front_of b m.used) (parts_of run) (singles_at t (begins_at b m x))

-- what is answered
abbrev pub ran_out : Answer Stand → Answer Ran
ran_out (refused k) = refused k
ran_out (full z) = full (record { entered = z.entered; refused = z.refused; used = z.used; summary = z.summary })

abbrev pub ran_at_out : Answer StandAt → Answer RanAt
ran_at_out (refused k) = refused k
ran_at_out (full z) = full (record { entered = z.entered; refused = z.refused; kept = z.kept })

-- what stands after the call, on a refusal what was handed in: bytes in use and summary, mark and summary, and the buffer
abbrev pub ran_stands : Answer Stand → Appended → Appended
ran_stands (refused k) x = x
ran_stands (full z) x = record { used = z.used; summary = z.summary }

abbrev pub ran_at_stands : Answer StandAt → Kept → Kept
ran_at_stands (refused k) x = x
ran_at_stands (full z) x = z.kept

abbrev pub ran_left : Answer Stand → List ℕ → List ℕ
ran_left (refused k) b = b
ran_left (full z) b = z.buffer

abbrev pub ran_at_left : Answer StandAt → List ℕ → List ℕ
ran_at_left (refused k) b = b
ran_at_left (full z) b = z.buffer

-- the contract of a run by the letter: what it answers, and every byte of the buffer
pub record Runs (a : Answer Stand) (b : List ℕ) (r : Result Ran Refusal) (b' : List ℕ) : Type 0 where
  pub says : said r ≡ ran_out a
  pub leaves : b' ≡ ran_left a b

-- and of one by a mark
pub record RunsAt (a : Answer StandAt) (b : List ℕ) (r : Result RanAt Refusal) (b' : List ℕ) : Type 0 where
  pub says : said r ≡ ran_at_out a
  pub leaves : b' ≡ ran_at_left a b

-- they leave no choice
pub runs_one : {a : Answer Stand} {b p q : List ℕ} {r s : Result Ran Refusal} → Runs a b r p → Runs a b s q → (r ≡ s) × (p ≡ q)
runs_one {r = r} {s = s} x y = (determined said said_one r s x.says y.says, x.leaves ∙ sym y.leaves)

pub runs_at_one : {a : Answer StandAt} {b p q : List ℕ} {r s : Result RanAt Refusal} → RunsAt a b r p → RunsAt a b s q → (r ≡ s) × (p ≡ q)
runs_at_one {r = r} {s = s} x y = (determined said said_one r s x.says y.says, x.leaves ∙ sym y.leaves)
