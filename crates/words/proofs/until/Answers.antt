use Rattle.std.proofs.Common.{arith, rules}
use Rattle.words.specs.Places.{before_on, before_here, before_end}
use Rattle.words.proofs.until.Goals as goal

pub returns-then-s-i : goal.returns-then-s-i
returns-then-s-i c =
    omega (arith, c.loop-i.invariant, before_here c.args.b c.args.s.now c.loop-i.i (search rules) c.if-s-i.true)

pub loop-i-preserved : goal.loop-i-preserved
loop-i-preserved c =
    omega (arith, c.loop-i.invariant, before_on c.args.b c.args.s.now c.loop-i.i (search rules) c.if-s-i.false)

pub returns : goal.returns
returns c = grind (arith, c.loop-i.invariant, before_end c.args.b c.args.s.now c.loop-i.i, before_end c.args.b c.args.s.now c.args.from)
