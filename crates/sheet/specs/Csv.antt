-- docs/SHEET.md, "CSV": "Lines end in a line feed. The header, then one row for each season".
use Rattle.std.specs.Prelude.{ℕ, ◌+◌, List, [], ◌∷◌, ◌++◌, get_or, Option, Some, None}
use Rattle.words.specs.Words.{text}
use Rattle.text.specs.Text.{decimal_of}
use Rattle.season.specs.declared.Boundaries.{Boundaries}
use Rattle.season.specs.declared.Season.{Season}
use Rattle.season.specs.Season.{no_events}
use Rattle.figures.specs.Figures.{begin_of, end_of}

abbrev pub feed : List ℕ
feed = 10 ∷ []

abbrev pub header_text : List ℕ
header_text = text "season,from,to,occupied,presses,holds,longest gap,total,gaps" ++ feed

-- a field behind its comma. "All numbers are decimal, with no zero in front"; where it is absent, "the field is empty"
abbrev pub number_field : ℕ → List (List ℕ)
number_field n = text "," ∷ decimal_of n ∷ []

abbrev pub seconds_field : Option ℕ → List (List ℕ)
seconds_field None = text "," ∷ []
seconds_field (Some t) = text "," ∷ decimal_of t ∷ []

-- the row of a season, its place g from 0: its number and its boundaries, its counts, its gaps
abbrev pub when_texts : Boundaries → ℕ → List (List ℕ)
when_texts b g = decimal_of (g + 1) ∷ [] ++ seconds_field (begin_of b g) ++ seconds_field (end_of b g)

abbrev pub count_texts : Season → List (List ℕ)
count_texts s = number_field s.occupied ++ number_field s.presses ++ number_field s.holds

abbrev pub gap_texts : Season → List (List ℕ)
gap_texts s = seconds_field s.longest ++ number_field s.total ++ number_field s.gaps

abbrev pub row_texts : Boundaries → ℕ → Season → List (List ℕ)
row_texts b g s = when_texts b g ++ count_texts s ++ gap_texts s ++ (feed ∷ [])

abbrev pub csv_texts : Boundaries → List Season → List (List ℕ)
csv_texts b ss =
    header_text ∷ []
    ++ row_texts b 0 (get_or ss 0 no_events)
    ++ row_texts b 1 (get_or ss 1 no_events)
    ++ row_texts b 2 (get_or ss 2 no_events)
    ++ row_texts b 3 (get_or ss 3 no_events)
