use Prim.Native.Nat.{◌*◌}
use borrow.Author.Rules.{rules}
use lib.ListN.{length, length-drop}
use mathlib.Core.Path.{ap}
use native.Mathlib.Omega.{arith}
use Rattle.refusal.specs.Refusals.{number_of}
use Rattle.filter_plan.specs.Runs.{stands_first, stands_on, stands_bad, cut_request, cut_more}
use Rattle.filter_plan.proofs.leaves.Goals as goal

pub loop-request-init : goal.loop-request-init
loop-request-init c = (search rules, search rules, stands_first c.args.plan.now _ (search rules), search rules, search rules, search rules)

pub returns-in-Err : goal.returns-in-Err
returns-in-Err c =
    let p = c.args.plan.now in
    let i = c.loop-request.invariant in
    let t = c.in-Some.ensures.steps in
    let r = c.in-Err in
    let q = cut_request p _ _ _ c.loop-request.request-iterator.count _ i.3 i.4 t.0.1.0 t.0.1.1 in
    rw t.1 (stands_bad p _ c.loop-request.filters i.2 (number_of r.refusal) _ (rw q at r.ensures.step) r.ensures.kept (omega (arith, t.0.1.2, ap length i.3, length-drop (8 * c.loop-request.request-iterator.count) p)))

pub loop-request-preserved : goal.loop-request-preserved
loop-request-preserved c =
    let p = c.args.plan.now in
    let i = c.loop-request.invariant in
    let t = c.in-Some.ensures.steps in
    let r = c.in_default in
    let k = c.loop-request.request-iterator.count in
    let q = cut_request p _ _ _ k _ i.3 i.4 t.0.1.0 t.0.1.1 in (
      search rules,
      search rules,
      stands_on p k c.loop-request.filters i.2 _ _ r.ensures.table (rw q at r.ensures.step) t.2,
      cut_more p _ _ _ k _ i.3 i.4 t.0.1.0 t.0.1.1 _ t.2,
      search rules,
      omega (arith, t.2, t.0.1.2, ap length i.3, length-drop (8 * k) p),
    )
