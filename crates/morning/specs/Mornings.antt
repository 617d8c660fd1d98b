-- Mornings one after the other: by marks as by the letter, call by call; and behind any mix of appends and runs from an empty capture the
-- summary is the one counted afresh, and the records are what went in.
use Rattle.std.specs.Prelude.{ℕ, ◌<◌, List, [], ◌∷◌, ◌++◌}
use Rattle.refusal.specs.Answer.{Answer, refused, full}
use Rattle.sum.specs.Bytes.{Bytes}
use Rattle.summary.specs.declared.Summary.{Summary}
use Rattle.capture.specs.declared.Mark.{Mark}
use Rattle.capture.specs.declared.Kept.{Kept}
use Rattle.append.specs.declared.Appended.{Appended}
use Rattle.append.specs.Append.{verdict, appended_to}
use Rattle.year.specs.Runs.{Call, goes_in, in_use}
use Rattle.morning.specs.declared.Ran.{Ran}
use Rattle.morning.specs.declared.RanAt.{RanAt}
use Rattle.morning.specs.Morning.{Stand, single, ran, ran_out, ran_stands, ran_left, ran_at, ran_at_out, ran_at_stands, ran_at_left}

-- a morning: seconds and a run, in 32 bits and bytes
pub record Morning : Type 0 where
  pub seconds : ℕ
  pub run : List ℕ

pub record Sound (c : Morning) : Type 0 where
  pub short : c.seconds < 4294967296
  pub bytes : Bytes c.run

abbrev pub AllSound : List Morning → Type 0
AllSound [] = Unit {0}
AllSound (c ∷ cs) = Sound c × AllSound cs

-- what a call by the letter leaves: what it answers, and behind it the bytes in use, the summary and the buffer; and what one by a mark leaves
pub record Left : Type 0 where
  pub says : Answer Ran
  pub stands : Appended
  pub buffer : List ℕ

abbrev pub leaves : List ℕ → ℕ → Summary → Morning → Left
leaves b u x c =
    let a = ran b u x c.seconds c.run in
    record { says = ran_out a; stands = ran_stands a (record { used = u; summary = x }); buffer = ran_left a b }

pub record LeftAt : Type 0 where
  pub says : Answer RanAt
  pub stands : Kept
  pub buffer : List ℕ

abbrev pub leaves_at : List ℕ → Mark → Summary → Morning → LeftAt
leaves_at b m x c =
    let a = ran_at b m x c.seconds c.run in
    record { says = ran_at_out a; stands = ran_at_stands a (record { mark = m; summary = x }); buffer = ran_at_left a b }

-- without the mark's last seconds
abbrev pub plain_ran : RanAt → Ran
plain_ran r = record { entered = r.entered; refused = r.refused; used = r.kept.mark.used; summary = r.kept.summary }

abbrev pub says_plain : Answer RanAt → Answer Ran
says_plain (refused k) = refused k
says_plain (full r) = full (plain_ran r)

abbrev pub plain : LeftAt → Left
plain l = record { says = says_plain l.says; stands = in_use l.stands; buffer = l.buffer }

-- MORNINGS, each with what the one before left: what each leaves
unfoldable pub by_letter : List ℕ → ℕ → Summary → List Morning → List Left
by_letter b u x [] = []
by_letter b u x (c ∷ cs) =
    let l = leaves b u x c in
    l ∷ by_letter l.buffer l.stands.used l.stands.summary cs

unfoldable pub by_marks : List ℕ → Mark → Summary → List Morning → List LeftAt
by_marks b m x [] = []
by_marks b m x (c ∷ cs) =
    let l = leaves_at b m x c in
    l ∷ by_marks l.buffer l.stands.mark l.stands.summary cs

-- WHAT WENT IN by a run, in its order: the datagrams that were not refused, under its time
abbrev pub went : ℕ → Stand → List ℕ → Answer Appended
went t z d = appended_to (verdict z.buffer z.used z.summary t d) z.used d

unfoldable pub went_in : ℕ → Stand → List (List ℕ) → List Call
went_in t z [] = []
went_in t z (d ∷ ds) = goes_in (went t z d) (record { seconds = t; datagram = d }) ++ went_in t (single t z d) ds
