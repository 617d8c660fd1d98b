-- docs/CLOCK.md: what the row of a refused line says, and the first two of "Lines on standard error".
use Rattle.std.specs.Prelude.{ℕ, List, [], ◌∷◌, eqb}
use Rattle.refusal.specs.Test.{pick}
use Rattle.refusal.specs.Answer.{Answer, refused, full}
use Rattle.words.specs.Words.{text}
use Rattle.text.specs.Text.{decimal_of}
use Rattle.clock_day.specs.Day.{Day}

-- a line feed
abbrev pub feed : List ℕ
feed = 0x0A ∷ []

-- "`21 NOT_A_CLOCK` for a text that is not of this form, `22 OUT_OF_RANGE` for a field out of range"
abbrev pub refusal_text : ℕ → List ℕ
refusal_text k = pick (eqb k 21) (text "21 NOT_A_CLOCK") (text "22 OUT_OF_RANGE")

-- "a line is no clock", and "a field of one is out of range"
abbrev pub not_a_clock : List ℕ
not_a_clock = text ": a clock is HH:MM:SS WD DD/MM/YY, WD in capitals, and where it is astronomical behind a blank HH:MM:SS or -HH:MM:SS"

abbrev pub out_of_range : List ℕ
out_of_range = text ": hours reach 23, minutes and seconds 59, days 31 and months 12, and no offset is -00:00:00"

abbrev pub reason_text : ℕ → List ℕ
reason_text k = pick (eqb k 21) not_a_clock out_of_range

-- "For each row with `21 NOT_A_CLOCK` or `22 OUT_OF_RANGE` there is one of the first two, in the order of the rows, N being the line's number"
unfoldable pub refused_texts : ℕ → Answer Day → List (List ℕ)
refused_texts n (refused k) = text "clock: line " ∷ decimal_of n ∷ text ": " ∷ refusal_text k ∷ reason_text k ∷ feed ∷ []
refused_texts n (full d) = []
