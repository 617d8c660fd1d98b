-- The bytes of a number, high byte first, over any width: what a writer lays out.
use Rattle.std.specs.Prelude.{ℕ, zero, suc, ◌/◌, ◌%◌, List, [], ◌∷◌, ◌++◌}

-- the w bytes of a number
abbrev pub big_bytes : ℕ → ℕ → List ℕ
big_bytes zero n = []
big_bytes (suc w) n = big_bytes w (n / 256) ++ (n % 256 ∷ [])
