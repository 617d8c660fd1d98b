use Rattle.std.proofs.Common.{◌+◌, drop, rules}
use Rattle.bench_say.specs.Said.{run_of}
use Rattle.lent.specs.Behind.{puts_next, rest_less, rest_none}
use Rattle.bench_say.specs.Laws.{run_turn, run_done}
use Rattle.bench_say.proofs.run.Goals as goal

pub loop-b-preserved : goal.loop-b-preserved
loop-b-preserved c =
    let l = c.loop-b in
    let s = c.args.s.now in
    (search rules, rest_less (run_of (drop (l.b-index + 1) s)) (rw (run_turn s l.b-index (search rules)) at l.invariant.1) c.blank_hex-e.ensures)

pub returns : goal.returns
returns c =
    let l = c.loop-b in
    puts_next c.word-e.ensures (rest_none (run_done c.args.s.now l.b-index (search rules)) l.invariant.1)
