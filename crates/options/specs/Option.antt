-- docs/SHEET.md: "corridor [--text | --svg] ..", "with `--help`, it prints its help"; "a first argument of two bytes or more that begins with
-- `--` and is no option".
use Rattle.std.specs.Prelude.{ℕ, Bool, true, false, ◌&&◌, List, [], ◌∷◌, length, get_or, eqb, leb}
use Rattle.refusal.specs.Test.{pick}
use Rattle.words.specs.Words.{text}
use Rattle.options.specs.declared.Asked.{Asked}
use Rattle.options.specs.declared.Asked.TheVariants.{Help, Text, Svg, NoOption, NoSuch}

-- the same bytes
unfoldable pub is_same : List ℕ → List ℕ → Bool
is_same [] [] = true
is_same [] (d ∷ t) = false
is_same (c ∷ s) [] = false
is_same (c ∷ s) (d ∷ t) = eqb c d && is_same s t

-- two bytes at least, of which the first are `-`
unfoldable pub is_option : List ℕ → Bool
is_option s = leb 2 (length s) && (eqb (get_or s 0 0) 45 && eqb (get_or s 1 0) 45)

unfoldable pub option_of : List ℕ → Asked
option_of s =
    pick (is_same s (text "--help")) Help
    (pick (is_same s (text "--text")) Text
    (pick (is_same s (text "--svg")) Svg
    (pick (is_option s) NoSuch NoOption)))
