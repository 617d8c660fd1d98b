use Rattle.book.proofs.give_up.Goals.{then-over+then-known, else-over, else-over-via-then-over+else-known, else-over-via-else-over}
use mathlib.Core.Path.{sym, ◌∙◌}
use native.Mathlib.Omega.{arith}
use Rattle.book.specs.Old.{looked_most, looked_none, looked_young, looked_free, looked_old}
use Rattle.book.proofs.give_up.Goals as goal

pub loop-n-init : goal.loop-n-init
loop-n-init c = looked_none _ _ _ _

pub overflow_add-count : goal.overflow_add-count
overflow_add-count c = omega (arith, looked_most c.loop-n.invariant)

pub loop-n-preserved : goal.loop-n-preserved
loop-n-preserved c =
    let l = c.loop-n in
    let over = c.over.ensures in
    elim c.if-over.branch [
      | then-over+then-known w ↦ rw (w.asked-is, w.count-is) (looked_old _ _ _ _ _ _ _ l.invariant (sym over ∙ w.if-over.true) (sym w.known.ensures ∙ w.if-known.true))
      | else-over w ↦ rw (w.asked-is, w.count-is) (elim w.else-over.branch [
        | else-over-via-then-over+else-known v ↦ looked_free _ _ _ _ _ _ _ l.invariant (sym v.known.ensures ∙ v.if-known.false)
        | else-over-via-else-over v ↦ looked_young _ _ _ _ _ _ _ l.invariant (sym over ∙ v.if-over.false)
      ])
    ]
