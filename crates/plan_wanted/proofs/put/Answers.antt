use native.Mathlib.Omega.{arith}
use borrow.Author.Rules.{rules}
use Rattle.words.specs.Places.{until_within}
use Rattle.plan_wanted.specs.Turns.{under_turn, under_done}
use Rattle.plan_wanted.proofs.put.Goals as goal

pub slice_bounds-line_of-end : goal.slice_bounds-line_of-end
slice_bounds-line_of-end c =
    let l = c.loop-i in
    let a = c.args in
    let u = c.until-e in
    let w = until_within 10 a.text.now l.i u.result (search rules) u.ensures in
    omega arith

pub loop-i-preserved : goal.loop-i-preserved
loop-i-preserved c =
    let l = c.loop-i in
    let a = c.args in
    let u = c.until-e in
    let n = c.line_of-l in
    let p = c.put_line-at in
    under_turn a.text.now a.out.now l.out l.i l.at l.invariant u.result n.result (search rules) u.ensures n.ensures p.result p.new.out p.ensures

pub returns : goal.returns
returns c =
    let l = c.loop-i in
    let a = c.args in
    under_done a.text.now a.out.now l.out l.i l.at l.invariant (search rules)
