use borrow.Author.Tests.{eq-eqb, ne_eqb}
use native.Mathlib.Omega.{arith}
use mathlib.Core.Path.{◌∙◌}
use Rattle.filter_plan.specs.Stepped.{clear_absent, clear_drops, clear_keeps}
use Rattle.filter_plan.proofs.clear.Goals as goal

pub returns-in_default : goal.returns-in_default
returns-in_default c = clear_absent c.args.t.now c.requires c.args.f _ c.in_default.ensures.told (omega arith)

pub returns-then-mask-eq0 : goal.returns-then-mask-eq0
returns-then-mask-eq0 c =
    let s = c.in-Some in
    c.drop.ensures ∙ clear_drops c.args.t.now c.requires c.args.f s.k s.ensures.told s.ensures.within (eq-eqb _ 0 c.if-mask-eq0.true)

pub returns-else-mask-eq0 : goal.returns-else-mask-eq0
returns-else-mask-eq0 c =
    let s = c.in-Some in
    clear_keeps c.args.t.now c.requires c.args.f s.k s.ensures.told s.ensures.within (ne_eqb _ 0 c.if-mask-eq0.false)
