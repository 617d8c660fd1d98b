-- Pieces of an answer by value. The last hexadecimal digit of a piece's kind says what it is, and the digits before it are the place of its
-- name among some names that are parted by commas (44).
use Rattle.std.specs.Prelude.{ℕ, ◌/◌, ◌%◌, List, [], ◌∷◌, ◌++◌, eqb}
use Rattle.refusal.specs.Test.{pick}
use Rattle.text.specs.Text.{hex_of, decimal_of}
use Rattle.words.specs.Words.{word_in}
use Rattle.bench_say.specs.declared.Pieces.{Pieces}

-- 0 nothing at all, 4 the number, 2 a name and the number, 3 a name and the byte, and every other (1 is the one in use) a name
abbrev pub piece_texts : List ℕ → ℕ → ℕ → ℕ → List (List ℕ)
piece_texts names k n b =
    pick (eqb (k % 16) 0) []
    (pick (eqb (k % 16) 4) (decimal_of n ∷ [])
    (pick (eqb (k % 16) 2) (word_in 44 (k / 16) names ∷ decimal_of n ∷ [])
    (pick (eqb (k % 16) 3) (word_in 44 (k / 16) names ∷ hex_of b ∷ [])
    (word_in 44 (k / 16) names ∷ []))))

abbrev pub pieces_texts : List ℕ → Pieces → List (List ℕ)
pieces_texts names p = piece_texts names p.0 p.1 p.6 ++ (piece_texts names p.2 p.3 p.6 ++ piece_texts names p.4 p.5 p.6)

-- three pieces, without a byte and with one
abbrev pub three : ℕ → ℕ → ℕ → ℕ → ℕ → ℕ → Pieces
three a x b y c z = record { 0 = a; 1 = x; 2 = b; 3 = y; 4 = c; 5 = z; 6 = 0 }

abbrev pub byted : ℕ → ℕ → ℕ → ℕ → ℕ → ℕ → ℕ → Pieces
byted a x b y c z h = record { 0 = a; 1 = x; 2 = b; 3 = y; 4 = c; 5 = z; 6 = h }
