use native.Mathlib.Omega.{arith}
use mathlib.Core.Path.{refl, ◌∙◌}
use Rattle.filter_asked.specs.declared.Change.TheVariants.{Clear as clear}
use Rattle.filter_plan.specs.Table.{list_of}
use Rattle.filter_plan.specs.Tables.{count_list}
use Rattle.filter_plan.specs.Stepped.{good_step, cleared_length}
use Rattle.filter_plan.proofs.next.Goals as goal

pub returns-in-Clear-clause-table : goal.returns-in-Clear-clause-table
returns-in-Clear-clause-table c =
    let t = c.args.t.now in
    let f = c.in-Clear.f in
    (good_step (clear f) (list_of t) _ c.clear.new.t refl (omega (arith, cleared_length f (list_of t), c.requires.0, count_list t c.requires)) c.clear.ensures).0

pub returns-in-Clear-clause-step : goal.returns-in-Clear-clause-step
returns-in-Clear-clause-step c =
    let t = c.args.t.now in
    let f = c.in-Clear.f in
    let s = (good_step (clear f) (list_of t) _ c.clear.new.t refl (omega (arith, cleared_length f (list_of t), c.requires.0, count_list t c.requires)) c.clear.ensures).1 in s ∙ rw (← c.in_ok-f.ensures, c.in-Clear.is)
