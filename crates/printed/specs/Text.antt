-- Document 01, "A small program": "It .. prints one line for each item: item number, byte count, the item's bytes in hexadecimal
-- capitals, one blank between fields, line feed at the end, no header."
use Rattle.std.specs.Prelude.{ℕ, ◌+◌, List, [], ◌∷◌, ◌++◌, length}
use Rattle.text.specs.Text.{hex_of, decimal_of}
use Rattle.stream.specs.Stream.{Item, reading}

abbrev pub blank : ℕ
blank = 32

abbrev pub line_feed : ℕ
line_feed = 10

-- bytes in hexadecimal capitals
unfoldable pub hexes : List ℕ → List ℕ
hexes [] = []
hexes (b ∷ s) = hex_of b ++ hexes s

-- the line of an item
abbrev pub line_of : Item → List ℕ
line_of (reading k s) = decimal_of k ++ (blank ∷ (decimal_of (length s) ++ (blank ∷ (hexes s ++ (line_feed ∷ [])))))

-- the lines of items, one after the other
unfoldable pub text_of : List Item → List ℕ
text_of [] = []
text_of (i ∷ is) = line_of i ++ text_of is

-- what stands in front of an item's bytes, by its number and how many they are
abbrev pub head_of : ℕ → ℕ → List ℕ
head_of k n = decimal_of k ++ (blank ∷ (decimal_of n ++ (blank ∷ [])))

-- the most that it takes: two numbers of 20 digits, with a blank behind each
abbrev pub head_most : ℕ
head_most = 20 + 1 + 20 + 1
