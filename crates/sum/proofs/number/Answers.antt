use Rattle.std.proofs.Common.{arith}
use Rattle.sum.specs.Lanes.{low}
use Rattle.sum.proofs.number.Goals as goal

pub returns : goal.returns
unfolding low
returns c = omega (arith, c.from_le_bytes.ensures)
