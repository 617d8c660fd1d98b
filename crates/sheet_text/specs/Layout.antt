-- docs/SHEET.md, "`--text`": how a line is laid out.
use Rattle.std.specs.Prelude.{ℕ, ◌-◌, List, [], ◌∷◌, length, replicate}
use Rattle.figures.specs.Figures.{greater_of}
use Rattle.sheet_bars.specs.Bars.{bar_length}

-- "Lines end in a line feed"
abbrev pub feed : List ℕ
feed = 10 ∷ []

abbrev pub blanks : ℕ → List ℕ
blanks n = replicate n 32

-- "*Right in w* means behind so many blanks that it is w wide, and behind one at least"
abbrev pub right : ℕ → List ℕ → List (List ℕ)
right w t = blanks (greater_of 1 (w - length t)) ∷ t ∷ []

-- "*Left in w* means in front of so many blanks that it is w wide"
abbrev pub left : ℕ → List ℕ → List (List ℕ)
left w t = t ∷ blanks (w - length t) ∷ []

-- "A bar is as many `#` as the count's *share* of 40, and one at least where the count is not 0; blanks behind them make it 40 wide"
abbrev pub marks : ℕ → List ℕ
marks n = replicate n 35

abbrev pub bar : ℕ → ℕ → List (List ℕ)
bar n most = left 40 (marks (bar_length n most))
