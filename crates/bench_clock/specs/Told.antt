-- docs/BENCH.md, "Clocks": the answers, case by case. A refusal is its number alone.
use Rattle.std.specs.Prelude.{ℕ, List, [], ◌∷◌, ◌++◌}
use Rattle.refusal.specs.Answer.{Answer, refused, full}
use Rattle.words.specs.Words.{text}
use Rattle.text.specs.Text.{hex_of, decimal_of}
use Rattle.signed.specs.Signed.{signed_texts}
use Rattle.clock_text.specs.declared.Time.{Time}
use Rattle.clock_text.specs.declared.Offset.{Offset}
use Rattle.clock_text.specs.declared.Offset.TheVariants.{Absent, Later, Earlier}
use Rattle.clock_text.specs.declared.Clock.{Clock}
use Rattle.clock_day.specs.Day.{Day, idle, second}

-- "`N N N`": hour, minute and second
abbrev pub time_texts : Time → List (List ℕ)
time_texts t = decimal_of t.hour ∷ text " " ∷ decimal_of t.minute ∷ text " " ∷ decimal_of t.second ∷ []

-- "`offset absent`, or `offset later N N N`, or `offset earlier N N N`"
abbrev pub offset_texts : Offset → List (List ℕ)
offset_texts Absent = text " offset absent" ∷ []
offset_texts (Later t) = text " offset later " ∷ time_texts t
offset_texts (Earlier t) = text " offset earlier " ∷ time_texts t

-- "`weekdays CC day N month N year N`": "the year 0 to 99 as it stands"
abbrev pub days_texts : Clock → List (List ℕ)
days_texts c =
    text " weekdays " ∷ hex_of c.weekdays ∷ text " day " ∷ decimal_of c.day ∷ text " month " ∷ decimal_of c.month ∷ text " year " ∷ decimal_of c.year ∷ []

-- the answer of `clock`
abbrev pub clock_texts : Answer Clock → List (List ℕ)
clock_texts (full c) = text "0 time " ∷ (time_texts c.time ++ (days_texts c ++ offset_texts c.offset))
clock_texts (refused k) = decimal_of k ∷ []

-- the answer of `clock_runs`: "`second N`, below 0 with a `-` in front, or `idle`"
abbrev pub day_texts : Answer Day → List (List ℕ)
day_texts (full (second z)) = text "0 second " ∷ signed_texts z
day_texts (full idle) = text "0 idle" ∷ []
day_texts (refused k) = decimal_of k ∷ []
