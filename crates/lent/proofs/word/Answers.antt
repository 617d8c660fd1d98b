use lib.ListN.{length-set}
use lib.Seq.{paste-suc}
use native.Mathlib.Numerals.{add-one}
use native.Mathlib.Omega.{arith}
use Rattle.lent.proofs.word.Goals as goal

pub loop-i-preserved : goal.loop-i-preserved
loop-i-preserved c =
    let a = c.args in
    let l = c.loop-i in (
      omega arith,
      l.invariant.1,
      l.invariant.2,
      simp length-set l.invariant.3,
      rw (l.invariant.4, add-one) (paste-suc a.out.now a.at a.s.now l.i 0 (omega arith) (omega arith)),
    )
