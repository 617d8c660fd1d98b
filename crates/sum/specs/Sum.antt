-- Document 01, "Frames": "Sum: the exclusive-or of all bytes of a frame, the sum included, is 0."
use Rattle.std.specs.Prelude.{ℕ, List, [], ◌∷◌}
use Rattle.std.specs.Int.Bits.{bit_xor}

-- the exclusive-or of x and of the bytes of a run, one after the other
unfoldable pub sum_from : ℕ → List ℕ → ℕ
sum_from x [] = x
sum_from x (b ∷ s) = sum_from (bit_xor x b) s

-- the exclusive-or of the bytes of a run
abbrev pub sum_of : List ℕ → ℕ
sum_of s = sum_from 0 s
