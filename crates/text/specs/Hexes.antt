-- The bytes of a run in hexadecimal, put one after the other.
use Rattle.std.specs.Prelude.{ℕ, ◌+◌, ◌<◌, ◌≤◌, ◌≡◌, List, [], ◌∷◌, ◌++◌, length, get_or, drop}
use Rattle.std.proofs.Common.{drop_of_length-le, drop-cons, add-one}
use Rattle.text.specs.Text.{hex_of, hex_texts}

-- a byte more, and the end
pub hex_next : (l : List ℕ) (i : ℕ) → i < length l → hex_texts (drop i l) ≡ (hex_of (get_or l i 0) ∷ []) ++ hex_texts (drop (i + 1) l)
unfolding hex_texts
hex_next l i h = rw (add-one, drop-cons l i 0 h)

pub hex_end : (l : List ℕ) (i : ℕ) → length l ≤ i → hex_texts (drop i l) ≡ []
unfolding hex_texts
hex_end l i h = rw (drop_of_length-le l h)
