use Rattle.std.proofs.Common.{arith}
use Rattle.words.specs.Places.{until_within}
use Rattle.corridor.proofs.said.Goals as goal

-- Both places lie within the text.
pub returns-then-n-gt0 : goal.returns-then-n-gt0
returns-then-n-gt0 c = omega (arith, until_within 40 c.args.text.now 0 c.until-n.result (omega arith) c.until-n.ensures)

pub returns-else-n-end : goal.returns-else-n-end
returns-else-n-end c = omega (arith, until_within 0 c.args.text.now 0 c.until-end.result (omega arith) c.until-end.ensures)
