use borrow.Author.Tests.{eq-eqb, ne_eqb}
use native.Mathlib.Omega.{arith}
use Rattle.filter_plan.specs.Stepped.{add_there, add_nothing, add_full, add_made}
use Rattle.filter_plan.proofs.add.Goals as goal

pub returns-in-Some-clause-table : goal.returns-in-Some-clause-table
returns-in-Some-clause-table c = let s = c.in-Some in (add_there c.args.t.now c.requires c.args.f s.k s.ensures.told s.ensures.within).0

pub returns-in-Some-clause-step : goal.returns-in-Some-clause-step
returns-in-Some-clause-step c = let s = c.in-Some in (add_there c.args.t.now c.requires c.args.f s.k s.ensures.told s.ensures.within).1

pub returns-then-f-eq0-clause-step : goal.returns-then-f-eq0-clause-step
returns-then-f-eq0-clause-step c = add_nothing c.args.t.now c.requires c.args.f c.args.t.now.count c.in_default.ensures.told (omega arith) (eq-eqb _ 0 c.if-f-eq0.true)

pub returns-then-t-eq-MOST-clause-step : goal.returns-then-t-eq-MOST-clause-step
returns-then-t-eq-MOST-clause-step c = add_full c.args.t.now c.requires c.args.f c.args.t.now.count c.in_default.ensures.told (omega arith) (ne_eqb _ 0 c.if-f-eq0.false) c.if-t-eq-MOST.true

pub returns-clause-table : goal.returns-clause-table
returns-clause-table c = (add_made c.args.t.now c.requires c.args.f c.args.t.now.count c.in_default.ensures.told (omega arith) (ne_eqb _ 0 c.if-f-eq0.false) (omega (arith, c.requires.0))).0

pub returns-clause-step : goal.returns-clause-step
returns-clause-step c = (add_made c.args.t.now c.requires c.args.f c.args.t.now.count c.in_default.ensures.told (omega arith) (ne_eqb _ 0 c.if-f-eq0.false) (omega (arith, c.requires.0))).1
