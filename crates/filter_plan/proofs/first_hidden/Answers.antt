use Prim.Native.Nat.{◌-◌, ◌*◌, ◌≤◌}
use borrow.Author.Rules.{rules}
use lib.ListN.{length, length-drop, length-append}
use mathlib.Core.Path.{◌≡◌, sym, ap, ◌∙◌}
use native.Mathlib.Omega.{arith}
use Rattle.filter_plan.specs.Plan.{wants}
use Rattle.filter_plan.specs.Table.{list_of}
use Rattle.filter_plan.specs.Runs.{shown_on, hidden_here, none_hidden, front_event, front_more}
use Rattle.filter_plan.proofs.first_hidden.Goals as goal

pub returns-then-hides : goal.returns-then-hides
returns-then-hides c =
    let l = list_of c.args.t.now in
    let w = c.args.wanted.now in
    let i = c.loop-j.invariant in
    let t = c.in-Some.ensures.steps in
    let j = c.loop-j.j-iterator.count in
    let f = front_event l w _ _ _ j _ i.3 i.4 t.0.1.0 t.0.1.1 in
    let n : 3 ≤ length w - 3 * j = omega (arith, i.4, t.0.1.1, ap length t.0.1.0, ap length i.3, length-drop (3 * j) w, length-append c.in-Some.e.now c.next.new.self.iter.rest.now) in
    rw t.1 (hidden_here l w j (omega arith) i.2 (sym f ∙ sym c.hides.ensures ∙ c.if-hides.true))

pub loop-j-preserved : goal.loop-j-preserved
loop-j-preserved c =
    let l = list_of c.args.t.now in
    let w = c.args.wanted.now in
    let i = c.loop-j.invariant in
    let t = c.in-Some.ensures.steps in
    let j = c.loop-j.j-iterator.count in
    let f = front_event l w _ _ _ j _ i.3 i.4 t.0.1.0 t.0.1.1 in
    let n : 3 ≤ length w - 3 * j = omega (arith, i.4, t.0.1.1, ap length t.0.1.0, ap length i.3, length-drop (3 * j) w, length-append c.in-Some.e.now c.next.new.self.iter.rest.now) in (
      search rules,
      search rules,
      shown_on l w _ j t.2 i.2 (sym f ∙ sym c.hides.ensures ∙ c.if-hides.false),
      front_more l w _ _ _ j _ i.3 i.4 t.0.1.0 t.0.1.1 _ t.2,
      search rules,
      omega (arith, t.2),
    )

pub returns : goal.returns
returns c =
    let w = c.args.wanted.now in
    let i = c.loop-j.invariant in
    let t = c.in-None.ensures.steps in
    let j = c.loop-j.j-iterator.count in
    let e : j ≡ wants w = omega (arith, i.4, i.5, t.0.1.0, ap length i.3, length-drop (3 * j) w) in
    none_hidden (list_of c.args.t.now) w (λ k h. i.2 k (omega arith))
