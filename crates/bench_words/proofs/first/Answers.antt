use native.Mathlib.Omega.{arith}
use borrow.Author.Rules.{rules}
use Rattle.bench_words.specs.Places.{blanks_on, blanks_here, blanks_end}
use Rattle.bench_words.proofs.first.Goals as goal

pub returns-then-s-i-ne32 : goal.returns-then-s-i-ne32
returns-then-s-i-ne32 c =
    let s = c.args.s.now in
    omega (arith, c.loop-i.invariant, blanks_here s c.loop-i.i (search rules) c.if-s-i-ne32.true)

pub loop-i-preserved : goal.loop-i-preserved
loop-i-preserved c =
    let s = c.args.s.now in
    omega (arith, c.loop-i.invariant, blanks_on s c.loop-i.i (search rules) c.if-s-i-ne32.false)

pub returns : goal.returns
returns c =
    let s = c.args.s.now in
    omega (arith, c.loop-i.invariant, blanks_end s c.loop-i.i (search rules))
