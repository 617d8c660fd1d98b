-- What the program quiet does next after a read.
use Rattle.std.specs.Prelude.{ℕ, zero, suc, ◌+◌, ◌≡◌, false, List, length, take, drop, ℤ, pos, negsuc, Ok, Err, Result}
use Rattle.std.proofs.Common.{sym, ◌∙◌}
use Rattle.lent.specs.All.{place_all, buffer_all}
use Rattle.turns.specs.Turn.{in_front}
use Rattle.quiet_run.specs.declared.Loud.{Loud}
use Rattle.quiet_run.specs.Scan.{scanned}
use Rattle.quiet_turns.specs.declared.Watch.{Watch}
use Rattle.quiet_turns.specs.declared.Act.{Act}
use Rattle.quiet_turns.specs.declared.Act.TheVariants.{Failed, Read, Says}
use Rattle.quiet_told.specs.Answer.{plus, loud_texts, closed_texts}

-- a run begins with nothing passed and nothing held
abbrev pub start : Watch
start = record { passed = 0; held = 0 }

-- what is done next: nothing, since the read failed; more is read, where so many bytes are passed and these are held; or this is said
pub data Doing : Type 0 where
  fails : Doing
  reads : ℕ → List ℕ → Doing
  says : List (List ℕ) → Doing

-- with the bytes s there, behind so many that are passed, and more to come: they are passed over as far as they are quiet items
abbrev pub scanning : ℕ → List ℕ → Result ℕ Loud → Doing
scanning passed s (Ok j) = reads (plus passed j) (drop j s)
scanning passed s (Err x) = says (loud_texts (plus passed x.place) x.number (take x.size (drop x.place s)))

abbrev pub going : ℕ → List ℕ → Doing
going passed s = scanning passed s (scanned false s)

-- By what the read answered: a negative number is a failure; no byte is the end of the run, and the answer is for what is held; else so many
-- bytes more are there, behind those that are held.
abbrev pub doing : Watch → ℤ → List ℕ → Doing
doing w (negsuc k) buf = fails
doing w (pos zero) buf = says (closed_texts w.passed (take w.held buf))
doing w (pos (suc n)) buf = going w.passed (take (w.held + suc n) buf)

-- the code's answer, and both buffers afterwards: what is held stands in front of the first, and what is said in front of the second
abbrev pub act_of : Doing → List ℕ → Act
act_of fails out = Failed
act_of (reads n h) out = Read (record { passed = n; held = length h })
act_of (says ts) out = Says (place_all ts out 0)

abbrev pub buffer_after : Doing → List ℕ → List ℕ
buffer_after fails buf = buf
buffer_after (reads n h) buf = in_front h buf
buffer_after (says ts) buf = buf

abbrev pub out_after : Doing → List ℕ → List ℕ
out_after fails out = out
out_after (reads n h) out = out
out_after (says ts) out = buffer_all ts out 0

-- its answer and every byte of both buffers, where this is to be done
pub record Does (d : Doing) (buf out : List ℕ) (r : Act) (buf' out' : List ℕ) : Type 0 where
  pub answers : r ≡ act_of d out
  pub keeps : buf' ≡ buffer_after d buf
  pub leaves : out' ≡ out_after d out

-- the contract of `onward`, and that of `turn`
abbrev pub Onward : ℕ → ℕ → List ℕ → List ℕ → Act → List ℕ → List ℕ → Type 0
Onward passed end buf out r buf' out' = Does (going passed (take end buf)) buf out r buf' out'

abbrev pub Turns : Watch → ℤ → List ℕ → List ℕ → Act → List ℕ → List ℕ → Type 0
Turns w got buf out r buf' out' = Does (doing w got buf) buf out r buf' out'

-- it leaves no choice
pub turn_one : {d : Doing} {buf out a b o p : List ℕ} {r q : Act} → Does d buf out r a o → Does d buf out q b p → (r ≡ q) × (a ≡ b) × (o ≡ p)
turn_one x y = (x.answers ∙ sym y.answers, x.keeps ∙ sym y.keeps, x.leaves ∙ sym y.leaves)
