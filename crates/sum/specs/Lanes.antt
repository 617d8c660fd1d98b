-- The exclusive-or of the bytes of a number: bytes laid side by side in one number, its lanes, and the number folded.
use Rattle.std.specs.Prelude.{ℕ, zero, suc, ◌+◌, ◌*◌, ◌/◌, ◌%◌, List, [], ◌∷◌}
use Rattle.std.specs.Int.Bits.{bit_xor}

-- the number of a run of bytes, low byte first
unfoldable pub low : List ℕ → ℕ
low [] = 0
low (b ∷ s) = b + 256 * low s

-- the exclusive-or of the n low bytes of a number
unfoldable pub lanes : ℕ → ℕ → ℕ
lanes zero x = 0
lanes (suc n) x = bit_xor (x % 256) (lanes n (x / 256))
