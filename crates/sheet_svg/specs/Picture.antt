-- docs/SHEET.md, `--svg`, line by line. "Lines end in a line feed": each line's last text has it.
use Rattle.std.specs.Prelude.{ℕ, ◌+◌, ◌*◌, ◌/◌, List, [], ◌∷◌, ◌++◌, get_or, Option, Some, None}
use Rattle.words.specs.Words.{text}
use Rattle.text.specs.Text.{decimal_of}
use Rattle.season.specs.declared.Corridor.{Corridor}
use Rattle.season.specs.declared.Boundaries.{Boundaries}
use Rattle.season.specs.declared.Season.{Season}
use Rattle.season.specs.Season.{no_events, longer}
use Rattle.figures.specs.Figures.{share_of, greatest_of, span_or, time_or, title_texts, begin_of, end_of}
use Rattle.sheet_bars.specs.Bars.{bar_texts, above_texts}
use Rattle.sheet_svg.specs.declared.Scale.{Scale}

-- THE FIRST LINES
abbrev pub head_texts : Corridor → List (List ℕ)
head_texts who =
    text "<svg xmlns=\"http://www.w3.org/2000/svg\" width=\"820\" height=\"370\" viewBox=\"0 0 820 370\" font-family=\"sans-serif\" font-size=\"12\">\n"
    ∷ text "<rect width=\"820\" height=\"370\" fill=\"#ffffff\"/>\n"
    ∷ text "<text x=\"60\" y=\"24\" font-size=\"14\">" ∷ title_texts who ++ (text "</text>\n" ∷ [])

abbrev pub legend_texts : List (List ℕ)
legend_texts =
    text "<rect x=\"60\" y=\"34\" width=\"12\" height=\"12\" fill=\"#1f77b4\"/><text x=\"76\" y=\"44\">occupied</text>\n"
    ∷ text "<rect x=\"180\" y=\"34\" width=\"12\" height=\"12\" fill=\"#ff7f0e\"/><text x=\"196\" y=\"44\">presses</text>\n"
    ∷ text "<rect x=\"300\" y=\"34\" width=\"12\" height=\"12\" fill=\"#2ca02c\"/><text x=\"316\" y=\"44\">holds</text>\n"
    ∷ text "<rect x=\"420\" y=\"34\" width=\"12\" height=\"12\" fill=\"#7f7f7f\"/><text x=\"436\" y=\"44\">longest gap (right axis)</text>\n"
    ∷ []

-- "`most` is the greatest of the twelve counts"; "the longest of the longest gaps", and none where all are absent
abbrev pub most_in : Season → ℕ
most_in s = greatest_of s.occupied s.presses s.holds 0

abbrev pub most_of : List Season → ℕ
most_of ss = greatest_of (most_in (get_or ss 0 no_events)) (most_in (get_or ss 1 no_events)) (most_in (get_or ss 2 no_events)) (most_in (get_or ss 3 no_events))

abbrev pub longest_of : List Season → Option ℕ
longest_of ss =
    longer (longer (get_or ss 0 no_events).longest (get_or ss 1 no_events).longest)
    (longer (get_or ss 2 no_events).longest (get_or ss 3 no_events).longest)

abbrev pub scale_of : List Season → Scale
scale_of ss = record { most = most_of ss; longest = longest_of ss }

abbrev pub left_texts : ℕ → List (List ℕ)
left_texts most =
    text "<path d=\"M60 70H700M60 190H700\" stroke=\"#cccccc\"/>\n"
    ∷ text "<text x=\"54\" y=\"74\" text-anchor=\"end\">" ∷ decimal_of most ∷ text "</text>\n"
    ∷ text "<text x=\"54\" y=\"314\" text-anchor=\"end\">0</text>\n"
    ∷ []

abbrev pub right_texts : Option ℕ → List (List ℕ)
right_texts longest =
    text "<text x=\"706\" y=\"74\">" ∷ span_or longest ∷ text "</text>\n"
    ∷ text "<text x=\"706\" y=\"314\">0</text>\n"
    ∷ []

-- THE LINE OF A BAR, which ends in a value
abbrev pub bar_line : ℕ → ℕ → List ℕ → List (List ℕ) → List (List ℕ)
bar_line x h colour value = bar_texts x h colour ++ above_texts x h ++ value ++ (text "</text>\n" ∷ [])

-- of a count: "h the share of the count of 240 among the twelve counts", "The value is the count"
abbrev pub count_line : ℕ → ℕ → ℕ → List ℕ → List (List ℕ)
count_line x n most colour = bar_line x (share_of n most 240) colour (decimal_of n ∷ [])

-- of a longest gap: "among the longest gaps; 0 where it is absent", "its whole hours, rounded down, ` h` behind them, or `-` where it is absent"
abbrev pub gap_height : Option ℕ → Option ℕ → ℕ
gap_height None longest = 0
gap_height (Some g) None = 0
gap_height (Some g) (Some l) = share_of g l 240

abbrev pub hours_texts : Option ℕ → List (List ℕ)
hours_texts None = text "-" ∷ []
hours_texts (Some g) = decimal_of (g / 3600) ∷ text " h" ∷ []

abbrev pub gap_line : ℕ → Option ℕ → Option ℕ → List (List ℕ)
gap_line x gap longest = bar_line x (gap_height gap longest) (text "#7f7f7f") (hours_texts gap)

-- A SEASON, its place g from 0. "x is 60 + 160 g + 12, + 46, + 80, + 114", "the colour that of its name above"
abbrev pub place_of : ℕ → ℕ → ℕ
place_of g d = 60 + 160 * g + d

abbrev pub bars_texts : Scale → ℕ → Season → List (List ℕ)
bars_texts m g s =
    count_line (place_of g 12) s.occupied m.most (text "#1f77b4")
    ++ count_line (place_of g 46) s.presses m.most (text "#ff7f0e")
    ++ count_line (place_of g 80) s.holds m.most (text "#2ca02c")
    ++ gap_line (place_of g 114) s.longest m.longest

-- "where c is 60 + 160 g + 77"
abbrev pub name_line : ℕ → List (List ℕ)
name_line g = text "<text x=\"" ∷ decimal_of (place_of g 77) ∷ text "\" y=\"328\" text-anchor=\"middle\">season " ∷ decimal_of (g + 1) ∷ text "</text>\n" ∷ []

abbrev pub time_line : ℕ → List ℕ → Option ℕ → List (List ℕ)
time_line g s t = text "<text x=\"" ∷ decimal_of (place_of g 77) ∷ s ∷ time_or t ∷ text "</text>\n" ∷ []

abbrev pub season_texts : Boundaries → Scale → ℕ → Season → List (List ℕ)
season_texts b m g s =
    bars_texts m g s
    ++ name_line g
    ++ time_line g (text "\" y=\"344\" text-anchor=\"middle\" font-size=\"10\">from ") (begin_of b g)
    ++ time_line g (text "\" y=\"358\" text-anchor=\"middle\" font-size=\"10\">to ") (end_of b g)

abbrev pub four_texts : Boundaries → Scale → List Season → List (List ℕ)
four_texts b m ss =
    season_texts b m 0 (get_or ss 0 no_events)
    ++ season_texts b m 1 (get_or ss 1 no_events)
    ++ season_texts b m 2 (get_or ss 2 no_events)
    ++ season_texts b m 3 (get_or ss 3 no_events)

-- "And at the end"
abbrev pub end_texts : List (List ℕ)
end_texts = text "<path d=\"M60 70V310H700V70\" fill=\"none\" stroke=\"#000000\"/>\n" ∷ text "</svg>\n" ∷ []

-- THE PICTURE
abbrev pub picture_texts : Corridor → Boundaries → List Season → List (List ℕ)
picture_texts who b ss =
    head_texts who ++ legend_texts ++ left_texts (most_of ss) ++ right_texts (longest_of ss) ++ four_texts b (scale_of ss) ss ++ end_texts
