-- docs/SHEET.md, "`--text`" and `--svg`: a bar.
use Rattle.std.specs.Prelude.{ℕ, ◌+◌, ◌-◌, List, [], ◌∷◌, eqb}
use Rattle.refusal.specs.Test.{pick}
use Rattle.words.specs.Words.{text}
use Rattle.text.specs.Text.{decimal_of}
use Rattle.figures.specs.Figures.{greater_of, share_of}

-- ON THE PAGE. "A bar is as many `#` as the count's *share* of 40, and one at least where the count is not 0"
abbrev pub bar_length : ℕ → ℕ → ℕ
bar_length n most = pick (eqb n 0) (share_of n most 40) (greater_of 1 (share_of n most 40))

-- IN THE PICTURE, by its x, its height h and its colour: "c is x + 14", "y is 310 - h, and v is y - 4"
abbrev pub bar_texts : ℕ → ℕ → List ℕ → List (List ℕ)
bar_texts x h colour =
    text "<rect x=\"" ∷ decimal_of x ∷ text "\" y=\"" ∷ decimal_of (310 - h)
    ∷ text "\" width=\"28\" height=\"" ∷ decimal_of h ∷ text "\" fill=\"" ∷ colour ∷ text "\"/>" ∷ []

abbrev pub above_texts : ℕ → ℕ → List (List ℕ)
above_texts x h =
    text "<text x=\"" ∷ decimal_of (x + 14) ∷ text "\" y=\"" ∷ decimal_of (310 - h - 4)
    ∷ text "\" text-anchor=\"middle\" font-size=\"10\">" ∷ []
