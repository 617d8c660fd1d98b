-- A run is cut into what it was joined of, and only such a run is whole.
use Rattle.std.specs.Prelude.{ℕ, ◌<◌, List, [], ◌∷◌, ◌++◌, length}
use Rattle.order.specs.Big.{big_bytes}

-- some parts, each behind its length
unfoldable pub joined : List (List ℕ) → List ℕ
joined [] = []
joined (p ∷ ps) = big_bytes 2 (length p) ++ (p ++ joined ps)

-- of which the length has room
abbrev pub Short : List (List ℕ) → Type 0
Short [] = Unit {0}
Short (p ∷ ps) = (length p < 65536) × Short ps
