use Prim.Native.Nat.{◌+◌}
use mathlib.Core.Bool.{true}
use mathlib.Core.Path.{sym, ◌∙◌}
use borrow.Author.Rules.{rules}
use Rattle.lent.specs.Behind.{rest_less, rest_none}
use Rattle.filter_text.specs.Putting.{left_from, type_named, type_passed, type_end}
use Rattle.filter_text.proofs.types.Goals as goal
use Rattle.filter_text.proofs.types.Goals.{then-names, else-names}

pub returns : goal.returns
returns c =
    let l = c.loop-t in
    rest_none (type_end _ l.some l.t (search rules)) l.invariant.1

pub loop-t-preserved : goal.loop-t-preserved
loop-t-preserved c =
    let l = c.loop-t in
    let m = c.args.mask in
    let n = c.names.ensures in (
      elim c.if-names.branch [ then-names w ↦ rw w.out-is (search rules) | else-names w ↦ rw w.out-is l.invariant.0 ],
      elim c.if-names.branch [
        | then-names w ↦ rw (w.out-is, w.e-is, w.some-is) (rest_less (left_from m true (l.t + 1)) (rw (type_named m l.some l.t (search rules) (sym n ∙ w.if-names.true)) at l.invariant.1) w.next-e.ensures)
        | else-names w ↦ rw (w.out-is, w.e-is, w.some-is) (rw (type_passed m l.some l.t (search rules) (sym n ∙ w.if-names.false)) at l.invariant.1)
      ],
    )
