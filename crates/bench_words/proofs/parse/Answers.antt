use Rattle.std.proofs.Common.{rules, arith}
use Rattle.words.specs.Places.{until_within}
use Rattle.bench_words.specs.Turns.{under_turn, under_other, under_done}
use Rattle.bench_words.proofs.parse.Goals as goal

pub slice_bounds-grown-end : goal.slice_bounds-grown-end
slice_bounds-grown-end c =
    let w = until_within 32 c.args.line.now c.loop-i.i c.until-e.result (search rules) c.until-e.ensures in
    omega arith

pub returns-in_err-g : goal.returns-in_err-g
returns-in_err-g c =
    let l = c.loop-i in
    rw c.from_residual.ensures
    (under_other c.args.line.now c.args.from c.args.bytes.now l.bytes l.g l.i l.invariant c.until-e.result (search rules) c.until-e.ensures c.grown.new.bytes c.in_err-g.ensures)

pub loop-i-preserved : goal.loop-i-preserved
loop-i-preserved c =
    let l = c.loop-i in
    under_turn c.args.line.now c.args.from c.args.bytes.now l.bytes l.g l.i l.invariant c.until-e.result (search rules) c.until-e.ensures c.grown.new.bytes c.in_ok-g.g c.in_ok-g.ensures

pub returns : goal.returns
returns c =
    let l = c.loop-i in
    under_done c.args.line.now c.args.from c.args.bytes.now l.bytes l.g l.i l.invariant (omega arith)
