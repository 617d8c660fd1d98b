use native.Mathlib.Omega.{arith}
use Rattle.text.specs.Digits.{decimal_one, decimal_two}
use Rattle.printed.proofs.short_length.Goals as goal

pub returns-then-n-lt10 : goal.returns-then-n-lt10
returns-then-n-lt10 c = rw (decimal_one c.args.n c.if-n-lt10.true) (omega arith)

pub returns-else-n-lt10 : goal.returns-else-n-lt10
returns-else-n-lt10 c = rw (decimal_two c.args.n c.if-n-lt10.false (omega arith)) (omega arith)
