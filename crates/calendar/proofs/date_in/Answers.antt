use Rattle.std.proofs.Common.{◌≡◌, sym, ◌∙◌, arith}
use Rattle.calendar.specs.Walks.{month_found, month_turn, month_end}
use Rattle.calendar.proofs.date_in.Goals as goal

pub returns-then-left-its : goal.returns-then-left-its
returns-then-left-its c =
    let l = c.loop-month in
    sym (month_found c.args.year l.month l.left (omega arith) (omega arith) (rw (← c.days_in-its.ensures) c.if-left-its.true)) ∙ l.invariant.1

pub loop-month-preserved : goal.loop-month-preserved
loop-month-preserved c =
    let l = c.loop-month in (
      omega arith,
      rw c.days_in-its.ensures (sym (month_turn c.args.year l.month l.left (omega arith) (omega arith) (rw (← c.days_in-its.ensures) c.if-left-its.false)) ∙ l.invariant.1),
    )

pub returns : goal.returns
returns c =
    let l = c.loop-month in
    let e : l.month ≡ 13 = omega arith in
    rw e at (sym (month_end c.args.year l.month l.left (omega arith)) ∙ l.invariant.1)
