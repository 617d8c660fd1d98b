-- What is claimed of a run, over the definitions that the contracts cite: it is its datagrams appended singly; what went in and what was
-- refused are all of them; and by marks it is what it is by the letter.
use Rattle.std.specs.Prelude.{ℕ, ◌+◌, ◌≡◌, List, [], ◌∷◌}
use Rattle.refusal.specs.Answer.{Answer, refused, full}
use Rattle.sum.specs.Bytes.{Bytes}
use Rattle.summary.specs.declared.Summary.{Summary}
use Rattle.capture.specs.declared.Mark.{Mark}
use Rattle.year.specs.Marks.{Marks}
use Rattle.year.specs.Runs.{Call, Left}
use Rattle.morning.specs.Morning.{entered_by, refused_by, Stand, singles, StandAt, singles_at, ran, ran_at}

-- A RUN IS ITS DATAGRAMS APPENDED SINGLY. As calls of `append`
abbrev pub calls : ℕ → List (List ℕ) → List Call
calls t [] = []
calls t (d ∷ ds) = record { seconds = t; datagram = d } ∷ calls t ds

-- what stands behind others after an append, and after some
abbrev pub behind : ℕ → ℕ → Left → Stand
behind e r l =
    record {
      entered = e + entered_by l.says;
      refused = r + refused_by l.says;
      used = l.stands.used;
      summary = l.stands.summary;
      buffer = l.buffer;
    }

unfoldable pub after : Stand → List Left → Stand
after z [] = z
after z (l ∷ ls) = after (behind z.entered z.refused l) ls

-- ONE BY ONE, BY MARKS AS BY THE LETTER. What stands by marks, without the mark's last seconds
abbrev pub plain : StandAt → Stand
plain z =
    record {
      entered = z.entered;
      refused = z.refused;
      used = z.kept.mark.used;
      summary = z.kept.summary;
      buffer = z.buffer;
    }

-- a stand that is marked: its mark says of its buffer what opening it says
pub record Marked (z : StandAt) : Type 0 where
  pub marks : Marks z.buffer z.kept.mark
  pub bytes : Bytes z.buffer

pub record Alike (t : ℕ) (z : StandAt) (ds : List (List ℕ)) : Type 0 where
  pub same : plain (singles_at t z ds) ≡ singles t (plain z) ds
  pub marked : Marked (singles_at t z ds)

-- A CALL BY A MARK that marks the buffer answers what the call by the letter answers, and hands out a mark that marks the buffer left
abbrev pub plainly : Answer StandAt → Answer Stand
plainly (refused k) = refused k
plainly (full z) = full (plain z)

pub record AsLetter (b : List ℕ) (m : Mark) (x : Summary) (t : ℕ) (run : List ℕ) : Type 0 where
  pub same : plainly (ran_at b m x t run) ≡ ran b m.used x t run
  pub marked : (z : StandAt) → ran_at b m x t run ≡ full z → Marked z
