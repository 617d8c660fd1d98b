use mathlib.Core.Path.{◌∙◌}
use native.Mathlib.Omega.{arith}
use Rattle.filter_plan.specs.Stepped.{hidden_absent, hidden_there}
use Rattle.filter_plan.proofs.hides.Goals as goal

pub returns-in-Some : goal.returns-in-Some
returns-in-Some c =
    let a = c.args in
    let s = c.in-Some in
    c.names.ensures ∙ hidden_there a.t.now c.requires a.address a.instance a.kind s.k s.ensures.told s.ensures.within

pub returns-in-None : goal.returns-in-None
returns-in-None c =
    let a = c.args in
    hidden_absent a.t.now c.requires a.address a.instance a.kind a.t.now.count c.in-None.ensures.told (omega arith)
