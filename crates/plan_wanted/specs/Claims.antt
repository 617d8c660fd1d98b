-- What is claimed of a text: worked examples.
use Rattle.std.specs.Prelude.{ℕ, Ok, Err, ◌≡◌, refl, List, [], ◌∷◌, ◌++◌}
use Rattle.words.specs.Words.{text}
use Rattle.text.specs.Decimal.{value_from}
use Rattle.asked.specs.Asked.{all_digits, number_of}
use Rattle.plan_wanted.specs.declared.Line.TheVariants.{Nothing, Says, Bad}
use Rattle.plan_wanted.specs.declared.NotWanted.TheVariants.{BadLine, Full}
use Rattle.plan_wanted.specs.Wanted.{cut_at, lines_of, words_of, line_of, event, events, all_of, told_by, answer_of, left_by}

-- an empty text has no line, one line feed ends a line without a byte, and a byte behind the last line feed makes a line
pub no_line : lines_of [] ≡ []
unfolding cut_at
no_line = refl

pub empty_line : lines_of (10 ∷ []) ≡ [] ∷ []
unfolding cut_at
empty_line = refl

pub last_line : lines_of (text "1" ++ 10 ∷ text "2") ≡ text "1" ∷ text "2" ∷ []
unfolding cut_at
last_line = refl

-- a tab (9), two spaces, and a carriage return (13)
pub words : words_of (9 ∷ text "64  007" ++ 13 ∷ []) ≡ text "64" ∷ text "007" ∷ []
unfolding cut_at
words = refl

-- lines by themselves
pub remark : line_of (text "  #64 0 1") ≡ Nothing
unfolding line_of cut_at
remark = refl

pub zeros : line_of (text "064 0000 00255") ≡ Says 64 0 255
unfolding line_of cut_at number_of all_digits value_from
zeros = refl

pub too_great : line_of (text "64 0 256") ≡ Bad
unfolding line_of cut_at number_of all_digits value_from
too_great = refl

pub four_words : line_of (text "64 0 1 2") ≡ Bad
unfolding line_of cut_at
four_words = refl

pub late_remark : line_of (text "64 0 1 # lobby") ≡ Bad
unfolding line_of cut_at
late_remark = refl

-- a text with a remark, a line of blanks, tabs and carriage returns, and no line feed at its end
unfoldable pub lobby : List ℕ
lobby = text "# lobby" ++ 13 ∷ 10 ∷ text " " ++ 9 ∷ 10 ∷ text "64 0 2" ++ 13 ∷ 10 ∷ 9 ∷ text "5" ++ 9 ∷ text "255  15"

pub lobby_told : told_by lobby ≡ events (event 64 0 2 ∷ event 5 255 15 ∷ [])
unfolding lobby cut_at all_of line_of number_of all_digits value_from
lobby_told = refl

-- its answer over seven bytes, of which the last stays; and over five, which are too few
pub lobby_put : (answer_of (told_by lobby) (1 ∷ 1 ∷ 1 ∷ 1 ∷ 1 ∷ 1 ∷ 1 ∷ []) ≡ Ok 6) × (left_by (told_by lobby) (1 ∷ 1 ∷ 1 ∷ 1 ∷ 1 ∷ 1 ∷ 1 ∷ []) ≡ 64 ∷ 0 ∷ 2 ∷ 5 ∷ 255 ∷ 15 ∷ 1 ∷ [])
lobby_put = rw lobby_told (refl, refl)

pub lobby_full : (answer_of (told_by lobby) (1 ∷ 1 ∷ 1 ∷ 1 ∷ 1 ∷ []) ≡ Err Full) × (left_by (told_by lobby) (1 ∷ 1 ∷ 1 ∷ 1 ∷ 1 ∷ []) ≡ 1 ∷ 1 ∷ 1 ∷ 1 ∷ 1 ∷ [])
lobby_full = rw lobby_told (refl, refl)

-- the second line is bad, and so is the third, which does not matter
pub second_bad : answer_of (told_by (text "64 0 2" ++ 10 ∷ text "64 0 x" ++ 10 ∷ text "64" ++ 10 ∷ [])) [] ≡ Err (BadLine 2)
unfolding cut_at all_of line_of number_of all_digits value_from
second_bad = refl

-- an empty text wants nothing
pub nothing_wanted : answer_of (told_by []) [] ≡ Ok 0
unfolding cut_at all_of
nothing_wanted = refl
