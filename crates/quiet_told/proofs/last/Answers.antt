use Rattle.quiet_run.specs.Laws.{first_item}
use native.Mathlib.Omega.{arith}
use mathlib.Core.Path.{sym, ap, ◌∙◌}
use Rattle.lent.specs.Behind.{puts_next, puts_none}
use Rattle.quiet_run.specs.Scan.{said_first}
use Rattle.quiet_told.specs.Putting.{last_none}
use Rattle.quiet_told.proofs.last.Goals as goal

pub returns-in-None : goal.returns-in-None
returns-in-None c = last_none c.args.passed c.args.s.now (ap said_first (sym c.in-None.is) ∙ c.first.ensures) (puts_next c.word.ensures (puts_none _ _))

pub overflow_add-place : goal.overflow_add-place
overflow_add-place c = omega (arith, first_item c.args.s.now _ _ _ (sym (ap said_first (sym c.in-Some.is) ∙ c.first.ensures)))

pub slice_bounds-loud-end : goal.slice_bounds-loud-end
slice_bounds-loud-end c = omega (arith, first_item c.args.s.now _ _ _ (sym (ap said_first (sym c.in-Some.is) ∙ c.first.ensures)))
