use Rattle.std.proofs.Common.{◌≡◌, sym, ◌∙◌, arith}
use Rattle.calendar.specs.Walks.{year_found, year_turn, year_end}
use Rattle.calendar.proofs.date_of.Goals as goal

pub returns-then-left-whole : goal.returns-then-left-whole
returns-then-left-whole c =
    let l = c.loop-y in
    c.date_in.ensures ∙ sym (year_found l.y l.left (omega arith) (rw (← c.days_of-whole.ensures) c.if-left-whole.true)) ∙ l.invariant.1

pub loop-y-preserved : goal.loop-y-preserved
loop-y-preserved c =
    let l = c.loop-y in (
      omega arith,
      rw c.days_of-whole.ensures (sym (year_turn l.y l.left (omega arith) (rw (← c.days_of-whole.ensures) c.if-left-whole.false)) ∙ l.invariant.1),
    )

pub returns : goal.returns
returns c =
    let l = c.loop-y in
    let e : l.y ≡ 2106 = omega arith in
    c.date_in-2.ensures ∙ rw e at (sym (year_end l.y l.left (omega arith)) ∙ l.invariant.1)
