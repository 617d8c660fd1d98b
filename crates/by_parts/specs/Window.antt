-- Bytes put into the arrays of a state and of a window: those held, and behind them as many of the part as a record can need.
use Rattle.std.specs.Prelude.{ℕ, ◌+◌, ◌-◌, ◌≡◌, List, ◌++◌, length, take}
use Rattle.std.proofs.Math.Seq.{take-append_seam}
use Rattle.lent.specs.Puts.{over}
use Rattle.by_parts.specs.Parts.{room}

abbrev pub joined : List ℕ → List ℕ → List ℕ
joined h p = h ++ take (room + 1 - length h) p

-- bytes put over zeros stand in front
pub over_front : (s out : List ℕ) → take (length s) (over s out 0) ≡ s
over_front s out = take-append_seam s _
