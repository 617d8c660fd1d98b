use Prim.Native.Nat.{◌*◌}
use borrow.Author.Rules.{rules}
use lib.ListN.{length, length-drop}
use mathlib.Core.Path.{ap, ◌∙◌}
use native.Mathlib.Omega.{arith}
use Rattle.filter_asked.specs.Asked.{asked}
use Rattle.filter_plan.specs.Runs.{cut_request, cut_more}
use Rattle.filter_since.specs.Traced.{traced_first, traced_on}
use Rattle.filter_since.proofs.hidden_since.Goals as goal

pub loop-k-init : goal.loop-k-init
loop-k-init c =
    let a = c.args in
    (search rules, search rules, traced_first a.plan.now a.address a.instance a.kind _ (search rules), search rules, search rules, search rules)

pub loop-k-preserved : goal.loop-k-preserved
loop-k-preserved c =
    let a = c.args in
    let p = a.plan.now in
    let l = c.loop-k in
    let k = l.k-iterator.count in
    let i = l.invariant in
    let t = c.in-Some.ensures.steps in
    let q = cut_request p _ _ _ k _ i.3 i.4 t.0.1.0 t.0.1.1 in (
      search rules,
      search rules,
      traced_on p a.address a.instance a.kind k _ l.since c.trace-since.result _ i.2 (c.read.ensures ∙ ap asked q) (rw t.1 at c.trace-since.ensures) t.2,
      cut_more p _ _ _ k _ i.3 i.4 t.0.1.0 t.0.1.1 _ t.2,
      search rules,
      omega (arith, t.2, t.0.1.2, ap length i.3, length-drop (8 * k) p),
    )
