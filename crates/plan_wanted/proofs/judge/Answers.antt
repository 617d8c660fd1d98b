use Rattle.plan_wanted.proofs.judge.Goals.{in-Nothing, in-Says}
use Rattle.plan_wanted.specs.Turns.{rest_turn, rest_done, tally_bad, tally_nothing, tally_says, tally_done}
use mathlib.Core.Path.{◌∙◌}
use mathlib.Core.Path.{◌∙◌}
use native.Mathlib.Omega.{arith}
use borrow.Author.Rules.{rules}
use Rattle.words.specs.Places.{until_within}
use Rattle.plan_wanted.specs.Turns.{rest_turn, rest_done, tally_bad, tally_done}
use Rattle.plan_wanted.proofs.judge.Goals as goal

pub slice_bounds-line_of-end : goal.slice_bounds-line_of-end
slice_bounds-line_of-end c =
    let l = c.loop-i in
    let a = c.args in
    let u = c.until-e in
    let w = until_within 10 a.text.now l.i u.result (search rules) u.ensures in
    omega arith

pub returns-in-Bad : goal.returns-in-Bad
returns-in-Bad c =
    let l = c.loop-i in
    let a = c.args in
    let u = c.until-e in
    let n = c.line_of-l in
    let t = rest_turn a.text.now l.i u.result n.result (search rules) u.ensures n.ensures in
    tally_bad l.lines l.events _ _ n.result t c.in-Bad.is ∙ l.invariant.2

pub returns : goal.returns
returns c =
    let l = c.loop-i in
    let a = c.args in
    tally_done l.lines l.events _ (rest_done a.text.now l.i (search rules)) ∙ l.invariant.2

pub loop-i-preserved : goal.loop-i-preserved
loop-i-preserved c =
    let l = c.loop-i in
    let a = c.args in
    let u = c.until-e in
    let n = c.line_of-l in
    let t = rest_turn a.text.now l.i u.result n.result (search rules) u.ensures n.ensures in
    let w = until_within 10 a.text.now l.i u.result (search rules) u.ensures in
    elim c.match-l.branch [
      | in-Nothing x ↦ (omega arith, omega arith, tally_nothing l.lines l.events _ _ n.result t _ x.in-Nothing.is x.events-is ∙ l.invariant.2)
      | in-Says x ↦ (omega arith, omega arith, tally_says l.lines l.events _ _ n.result t _ _ _ _ x.in-Says.is x.events-is ∙ l.invariant.2)
    ]
