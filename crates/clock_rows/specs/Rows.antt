-- docs/CLOCK.md, "Lines" and "The rows".
use Rattle.std.specs.Prelude.{ℕ, ◌+◌, ◌-◌, ◌≡◌, Bool, List, [], ◌∷◌, ◌++◌, length, get_or, take, drop, eqb, ltb, ℤ, pos, nat_abs, ◌+ℤ◌}
use Rattle.std.proofs.Common.{sym, ◌∙◌}
use Rattle.refusal.specs.Test.{pick}
use Rattle.refusal.specs.Answer.{Answer, refused, full}
use Rattle.lent.specs.All.{PutsAll, puts_all_one}
use Rattle.words.specs.Words.{text, before, first_in}
use Rattle.text.specs.Text.{decimal_of}
use Rattle.calendar.specs.Calendar.{time_text}
use Rattle.signed.specs.Signed.{signed_texts}
use Rattle.clock_day.specs.Day.{Day, idle, second, runs_at}
use Rattle.clock_told.specs.Told.{feed, refusal_text, refused_texts}
use Rattle.clock_asked.specs.Asked.{given_of}
use Rattle.clock_rows.specs.declared.Step.{Step}

-- LINES. "A carriage return at the end of a line (one, the byte 0D) is no part of it"
unfoldable pub length_of : List ℕ → ℕ
length_of l = pick (eqb (get_or l (length l - 1) 0) 0x0D) (length l - 1) (length l)

abbrev pub trimmed : List ℕ → List ℕ
trimmed l = take (length_of l) l

-- "A line of more than 20 bytes, its carriage return not counted, is read as that of an astronomical clock, and any other as that of a clock which is none": what its clock does on
-- the day with this midnight
abbrev pub is_long : List ℕ → Bool
is_long l = ltb 20 (length l)

unfoldable pub answered : ℕ → List ℕ → Answer Day
answered m l = runs_at (is_long l) (given_of m) l

-- THE HEADER. "line,answer,second,at,clock"
abbrev pub header_text : List ℕ
header_text = text "line,answer,second,at,clock" ++ feed

-- THE ROW. "the date and the time of that second": the second of the day with this midnight, as one since 1970
abbrev pub second_at : ℕ → ℤ → ℕ
second_at m z = nat_abs (pos m +ℤ z)

-- "where it runs, the second counted from the midnight .. then it has a `-` in front", and its time
abbrev pub runs_texts : ℕ → ℤ → List (List ℕ)
runs_texts m z = (text "runs," ∷ []) ++ signed_texts z ++ (text "," ∷ time_text (second_at m z) ∷ text "," ∷ [])

-- "the line where it is a clock, whether it runs or not"
abbrev pub clock_texts : List ℕ → List (List ℕ)
clock_texts l = l ∷ feed ∷ []

-- "Else empty": the second, the time and the line where there is none to tell
unfoldable pub answer_texts : ℕ → List ℕ → Answer Day → List (List ℕ)
answer_texts m l (full (second z)) = runs_texts m z ++ clock_texts l
answer_texts m l (full idle) = text "idle,,," ∷ clock_texts l
answer_texts m l (refused k) = refusal_text k ∷ (text ",,," ++ feed) ∷ []

-- "its number, decimal"; "A line without a byte is passed over"
unfoldable pub row_texts : ℕ → ℕ → List ℕ → List (List ℕ)
row_texts m n l = pick (eqb (length l) 0) [] (decimal_of n ∷ text "," ∷ answer_texts m l (answered m l))

-- STANDARD ERROR: what is told of it, where it is not passed over
unfoldable pub told_texts : ℕ → ℕ → List ℕ → List (List ℕ)
told_texts m n l = pick (eqb (length l) 0) [] (refused_texts n (answered m l))

-- what a line puts: its row behind what stands in the one buffer, and what is told of it at the start of the other
pub record Put (m : ℕ) (l : List ℕ) (behind n : ℕ) (out : List ℕ) (at : ℕ) (err : List ℕ) (r : Step) (out' err' : List ℕ) : Type 0 where
  pub next : r.next ≡ behind
  pub row : PutsAll (row_texts m n l) out at r.at out'
  pub told : PutsAll (told_texts m n l) err 0 r.told err'

-- A TURN. "The input is cut at each line feed": the line that begins at a place of a text, and where the next begins
abbrev pub line_at : List ℕ → ℕ → List ℕ
line_at s i = trimmed (first_in 0x0A (drop i s))

abbrev pub next_at : List ℕ → ℕ → ℕ
next_at s i = pick (ltb i (length s)) (i + before 0x0A (drop i s) + 1) i

-- the contract of a turn
abbrev pub Turned : ℕ → List ℕ → ℕ → ℕ → List ℕ → ℕ → List ℕ → Step → List ℕ → List ℕ → Type 0
Turned m s i n out at err r out' err' = Put m (line_at s i) (next_at s i) n out at err r out' err'

-- it leaves no choice
pub put_one : {m : ℕ} {l : List ℕ} {behind n : ℕ} {out : List ℕ} {at : ℕ} {err : List ℕ} {r q : Step} {o p e f : List ℕ}
    → Put m l behind n out at err r o e → Put m l behind n out at err q p f → (r ≡ q) × (o ≡ p) × (e ≡ f)
put_one a b =
    let x = puts_all_one a.row b.row in
    let y = puts_all_one a.told b.told in
    let z = a.next ∙ sym b.next in
    ((λ i. record { next = z i; at = x.0 i; told = y.0 i }), x.1, y.1)
