use Rattle.std.proofs.Common.{◌+◌, ◌-◌, rules}
use Rattle.lent.specs.Behind.{rest_less, rest_none}
use Rattle.bench_capture.specs.Told.{numbers_texts}
use Rattle.bench_capture.specs.Pieces.{numbers_turn, numbers_done}
use Rattle.bench_capture.proofs.numbers.Goals as goal

pub loop-k-preserved : goal.loop-k-preserved
loop-k-preserved c =
    let l = c.loop-k in
    let s = c.args.n.now in
    (search rules, rest_less (numbers_texts (11 - (l.k-index + 1)) (l.k-index + 1) s) (rw (numbers_turn s l.k-index (search rules)) at l.invariant.1) c.number-e.ensures)

pub returns : goal.returns
returns c = rest_none (numbers_done c.args.n.now c.loop-k.k-index (search rules)) c.loop-k.invariant.1
