-- A number in some bytes, "high byte first" or "low byte first", over any width. Document 01, "Four orders in reply data"; the
-- arguments of requests and the target of an event are numbers high byte first too.
use Rattle.std.specs.Prelude.{ℕ, zero, suc, ◌+◌, ◌-◌, ◌*◌, List, get_or}

-- which byte of a number comes first
pub data Order : Type 0 where
  high_first : Order
  low_first : Order

-- where byte j of a number of n bytes stands in its run; byte 0 is the lowest, it has the bits 0 to 7
abbrev pub place_of : Order → ℕ → ℕ → ℕ
place_of high_first n j = n - 1 - j
place_of low_first n j = j

-- byte j of the number that the n bytes of a run hold in an order
abbrev pub byte_of : Order → ℕ → List ℕ → ℕ → ℕ
byte_of o n s j = get_or s (place_of o n j) 0

-- the number of n bytes whose byte j is f j
unfoldable pub number_by : (ℕ → ℕ) → ℕ → ℕ
number_by f zero = 0
number_by f (suc n) = f 0 + 256 * number_by (λ j. f (suc j)) n

-- the number that the n bytes of a run hold in an order
abbrev pub number_in : Order → ℕ → List ℕ → ℕ
number_in o n s = number_by (byte_of o n s) n
