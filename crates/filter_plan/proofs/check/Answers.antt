use mathlib.Core.Path.{sym, ap, ◌∙◌}
use mathlib.Core.List.{List}
use Rattle.filter_asked.specs.declared.Filter.{Filter}
use Rattle.filter_plan.specs.Plan.{left_of, first_hidden, checked}
use Rattle.filter_plan.specs.Said.{said_went}
use Rattle.filter_plan.specs.Runs.{left_table, verdict_well, verdict_bad}
use Rattle.filter_plan.proofs.check.Goals as goal

pub returns-in-Ok : goal.returns-in-Ok
unfolding checked
returns-in-Ok c =
    let a = c.args in
    let l = left_table a.plan.now _ _ c.leaves-left.ensures in
    c.first_hidden.ensures ∙ ap (λ (x : List Filter). first_hidden x a.wanted.now) l.1
    ∙ verdict_well (left_of a.plan.now) a.wanted.now (sym l.2 ∙ ap said_went c.in-Ok.is)

pub returns-in-Err : goal.returns-in-Err
unfolding checked
returns-in-Err c =
    let a = c.args in
    let l = left_table a.plan.now _ _ c.leaves-left.ensures in
    verdict_bad (left_of a.plan.now) a.wanted.now _ _ (sym l.2 ∙ ap said_went c.in-Err.is)
