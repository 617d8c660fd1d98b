use Rattle.std.proofs.Common.{sym, ◌∙◌}
use Rattle.capture.specs.Says.{follow_bad, follow_good, follow_late}
use Rattle.capture.proofs.follow.Goals as goal

pub returns-in_err-x : goal.returns-in_err-x
returns-in_err-x c = rw c.from_residual.ensures (follow_bad _ _ _ _ _ c.in_err-x.ensures)

pub returns-then-not_before : goal.returns-then-not_before
returns-then-not_before c = follow_good _ _ _ _ c.in_ok-x.x c.in_ok-x.ensures (sym c.not_before.ensures ∙ c.if-not_before.true)

pub returns-else-not_before : goal.returns-else-not_before
returns-else-not_before c = follow_late _ _ _ _ c.in_ok-x.x c.in_ok-x.ensures (sym c.not_before.ensures ∙ c.if-not_before.false)
