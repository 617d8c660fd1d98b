-- A run of bytes as the bench says it.
use Rattle.std.specs.Prelude.{ℕ, List, [], ◌∷◌}
use Rattle.text.specs.Text.{hex_of}

-- a run of bytes: each in hexadecimal behind a blank
unfoldable pub run_of : List ℕ → List (List ℕ)
run_of [] = []
run_of (b ∷ s) = (32 ∷ []) ∷ hex_of b ∷ run_of s
