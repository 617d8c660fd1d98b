use native.Mathlib.Omega.{arith}
use Rattle.record.specs.Found.{part_bad, part_good}
use Rattle.record.proofs.read_part.Goals as goal

pub returns-in_default : goal.returns-in_default
returns-in_default c = part_bad _ c.args.s.now c.args.at c.args.n (omega arith) c.in_default.ensures

pub returns : goal.returns
returns c = part_good _ c.args.s.now c.args.at c.args.n (omega arith) _ _ c.in-Ok.ensures (omega arith) c.seconds_at.ensures
