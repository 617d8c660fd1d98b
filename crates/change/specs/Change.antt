-- Document 02, W-211: "take an accepted datagram and change exactly one byte to another value". The words for what was changed between two runs
-- of one length.
use Rattle.std.specs.Prelude.{ℕ, zero, suc, ◌+◌, ◌-◌, ◌/◌, ◌%◌, ◌≤◌, ◌<◌, ◌≡◌, Bool, true, ◌&&◌, List, [], ◌∷◌, length, get_or, set, eqb}
use Rattle.std.specs.Int.Bits.{bit_xor}
use Rattle.refusal.specs.Test.{pick}
use Rattle.sum.specs.Sum.{sum_of}
use Rattle.frame.specs.Frame.{unsealed}
use Rattle.order.specs.Order.{Order, place_of}
use Rattle.maps.specs.Bit.{bit}

-- a datagram with the right sum in place of its last byte: accepted exactly if nothing but the sum is wrong
abbrev pub mended : List ℕ → List ℕ
mended d = set d (length d - 1) (sum_of (unsealed d))

-- of each byte that was changed to another value, which of its bits were, byte after byte
unfoldable pub changed : List ℕ → List ℕ → List ℕ
changed [] t = []
changed (a ∷ s) [] = []
changed (a ∷ s) (b ∷ t) = pick (eqb a b) (changed s t) (bit_xor a b ∷ changed s t)

-- in how many of these bytes bit k was
unfoldable pub times : ℕ → List ℕ → ℕ
times k [] = 0
times k (m ∷ l) = bit m k + times k l

-- each of the w lowest bits in an even number of them
unfoldable pub evenly : ℕ → List ℕ → Bool
evenly zero l = true
evenly (suc w) l = eqb (times w l % 2) 0 && evenly w l

-- bit q of a run, its bytes one after the other, each from its lowest bit on, as a serial line sends them, or from its highest
abbrev pub bit_at : Order → List ℕ → ℕ → ℕ
bit_at o d q = bit (get_or d (q / 8) 0) (place_of o 8 (q % 8))

-- some bit was changed, and each that was is one of the eight from p on
pub record Burst (o : Order) (p : ℕ) (d d' : List ℕ) : Type 0 where
  pub at : ℕ
  pub some : bit_at o d at ≡ bit_at o d' at → ⊥
  pub near : (q : ℕ) → (bit_at o d q ≡ bit_at o d' q → ⊥) → (p ≤ q) × (q < p + 8)
