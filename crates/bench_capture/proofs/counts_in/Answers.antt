use Rattle.std.proofs.Common.{rules, length-set}
use Rattle.bench_capture.specs.Carried.{counts_at}
use Rattle.bench_capture.specs.Pieces.{counts_turn}
use Rattle.bench_capture.proofs.counts_in.Goals as goal

pub loop-i-init : goal.loop-i-init
unfolding counts_at
loop-i-init c = search rules

pub loop-i-preserved : goal.loop-i-preserved
loop-i-preserved c =
    let l = c.loop-i in
    let s = c.args.s.now in
    (simp length-set l.invariant.0, rw c.number_at.ensures (counts_turn l.i s l.counts (search rules) l.invariant.1))
