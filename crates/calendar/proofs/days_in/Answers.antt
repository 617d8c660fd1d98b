use mathlib.Core.Path.{sym, ◌∙◌}
use Rattle.calendar.specs.Lengths.{february_leap, february_common, other_month, no_month}
use Rattle.calendar.proofs.days_in.Goals as goal

pub returns-then-is_leap : goal.returns-then-is_leap
returns-then-is_leap c =
    let a = c.args in
    february_leap a.year a.month c.if-month-eq2.true (sym c.is_leap.ensures ∙ c.if-is_leap.true)

pub returns-else-is_leap : goal.returns-else-is_leap
returns-else-is_leap c =
    let a = c.args in
    february_common a.year a.month c.if-month-eq2.true (sym c.is_leap.ensures ∙ c.if-is_leap.false)

pub returns-then-month-gt12 : goal.returns-then-month-gt12
returns-then-month-gt12 c = no_month c.args.year c.args.month c.if-month-gt12.true

pub returns : goal.returns
returns c = other_month c.args.year c.args.month c.if-month-eq2.false
