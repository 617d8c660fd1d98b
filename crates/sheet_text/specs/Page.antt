-- docs/SHEET.md, "`--text`": the page, by the numbers of its list.
use Rattle.std.specs.Prelude.{ℕ, ◌+◌, ◌/◌, List, [], ◌∷◌, ◌++◌, get_or, eqb}
use Rattle.refusal.specs.Test.{pick}
use Rattle.words.specs.Words.{text}
use Rattle.text.specs.Text.{decimal_of}
use Rattle.season.specs.declared.Corridor.{Corridor}
use Rattle.season.specs.declared.Boundaries.{Boundaries}
use Rattle.season.specs.declared.Season.{Season}
use Rattle.season.specs.Season.{no_events}
use Rattle.figures.specs.Figures.{greatest_of, whole, span_text, span_or, time_or, title_texts, begin_of, end_of}
use Rattle.sheet_text.specs.Layout.{feed, left, right, bar}

-- "five blanks and the season's number", its place g from 0
abbrev pub season_texts : ℕ → List (List ℕ)
season_texts g = text "     " ∷ decimal_of (g + 1) ∷ []

-- 3. "`season`, two blanks, `from` left in 19, two blanks, `to` left in 19, `occupied`, `presses` and `holds`, each right in 11"
abbrev pub counts_head : List ℕ
counts_head =
    whole
    (text "season" ∷ text "  " ∷ left 19 (text "from")
    ++ text "  " ∷ left 19 (text "to")
    ++ right 11 (text "occupied") ++ right 11 (text "presses") ++ right 11 (text "holds") ++ feed ∷ [])

-- 4. ".. two blanks, the time of `from` left in 19, two blanks, the time of `to` left in 19, the three counts, each right in 11"
abbrev pub when_texts : Boundaries → ℕ → List (List ℕ)
when_texts b g = season_texts g ++ text "  " ∷ left 19 (time_or (begin_of b g)) ++ text "  " ∷ left 19 (time_or (end_of b g))

abbrev pub count_texts : Season → List (List ℕ)
count_texts s = right 11 (decimal_of s.occupied) ++ right 11 (decimal_of s.presses) ++ right 11 (decimal_of s.holds) ++ feed ∷ []

abbrev pub counts_row : Boundaries → ℕ → Season → List (List ℕ)
counts_row b g s = when_texts b g ++ count_texts s

-- 2 to 4. "An empty line", the head, "Four rows"
abbrev pub counts_texts : Boundaries → List Season → List (List ℕ)
counts_texts b ss =
    feed ∷ counts_head ∷ []
    ++ counts_row b 0 (get_or ss 0 no_events)
    ++ counts_row b 1 (get_or ss 1 no_events)
    ++ counts_row b 2 (get_or ss 2 no_events)
    ++ counts_row b 3 (get_or ss 3 no_events)

-- 6. "`season`, `longest gap` right in 19, `mean gap` right in 19, `total seconds` right in 21, `gaps` right in 11"
abbrev pub gaps_head : List ℕ
gaps_head =
    whole
    (text "season" ∷ right 19 (text "longest gap") ++ right 19 (text "mean gap") ++ right 21 (text "total seconds") ++ right 11 (text "gaps")
    ++ feed ∷ [])

-- "the span of the mean gap (total divided by gaps, rounded down; none where there are no gaps)"
abbrev pub mean_or : Season → List ℕ
mean_or s = pick (eqb s.gaps 0) (text "-") (span_text (s.total / s.gaps))

-- 7. ".. the span of the longest gap right in 19, the span of the mean gap right in 19, the total right in 21, the gaps right in 11"
abbrev pub gaps_row : ℕ → Season → List (List ℕ)
gaps_row g s =
    season_texts g ++ right 19 (span_or s.longest) ++ right 19 (mean_or s) ++ right 21 (decimal_of s.total) ++ right 11 (decimal_of s.gaps)
    ++ feed ∷ []

-- 5 to 7. "An empty line", the head, "Four rows"
abbrev pub gaps_texts : List Season → List (List ℕ)
gaps_texts ss =
    feed ∷ gaps_head ∷ []
    ++ gaps_row 0 (get_or ss 0 no_events)
    ++ gaps_row 1 (get_or ss 1 no_events)
    ++ gaps_row 2 (get_or ss 2 no_events)
    ++ gaps_row 3 (get_or ss 3 no_events)

-- 8. ".. five blanks and the season's number, two blanks, the bar, two blanks, the count"
abbrev pub bar_row : ℕ → ℕ → ℕ → List (List ℕ)
bar_row g n most = season_texts g ++ text "  " ∷ bar n most ++ text "  " ∷ decimal_of n ∷ feed ∷ []

-- "The greatest count of this name among the four seasons has them all"
abbrev pub bar_rows : ℕ → ℕ → ℕ → ℕ → ℕ → List (List ℕ)
bar_rows most k l m n = bar_row 0 k most ++ bar_row 1 l most ++ bar_row 2 m most ++ bar_row 3 n most

-- "an empty line; its name; four rows"
abbrev pub bars_of : List ℕ → ℕ → ℕ → ℕ → ℕ → List (List ℕ)
bars_of name k l m n = feed ∷ name ∷ feed ∷ [] ++ bar_rows (greatest_of k l m n) k l m n

-- "For each of occupied, presses and holds", the four seasons one by one
abbrev pub bars_texts : Season → Season → Season → Season → List (List ℕ)
bars_texts s t u v =
    bars_of (text "occupied") s.occupied t.occupied u.occupied v.occupied
    ++ bars_of (text "presses") s.presses t.presses u.presses v.presses
    ++ bars_of (text "holds") s.holds t.holds u.holds v.holds

-- 1 to 8
abbrev pub page_texts : Corridor → Boundaries → List Season → List (List ℕ)
page_texts who b ss =
    title_texts who
    ++ feed ∷ []
    ++ counts_texts b ss
    ++ gaps_texts ss
    ++ bars_texts (get_or ss 0 no_events) (get_or ss 1 no_events) (get_or ss 2 no_events) (get_or ss 3 no_events)
