use Rattle.std.proofs.Common.{rules, sym, ap, ◌∙◌}
use Rattle.clock_asked.specs.Asked.{within}
use Rattle.clock_asked.specs.Dates.{dated, too_early, too_late, in_time_lem}
use Rattle.clock_asked.proofs.day_of.Goals.{else-year-ge-FIRST_YEAR-via-then-year-ge-FIRST_YEAR+else-year-le-LAST_YEAR, else-year-ge-FIRST_YEAR-via-else-year-ge-FIRST_YEAR}
use Rattle.clock_asked.proofs.day_of.Goals as goal

pub returns-in_err-midnight : goal.returns-in_err-midnight
returns-in_err-midnight c =
    let e = ap within (sym c.in_err-midnight.was ∙ c.boundary_of.ensures) ∙ dated c.args.s.now c.if-s-ne10.false c.if-s-ne45.false in
    rw (← e) (search rules)

pub returns-then-year-le-LAST_YEAR : goal.returns-then-year-le-LAST_YEAR
returns-then-year-le-LAST_YEAR c =
    let m = c.in_ok-midnight.midnight in
    let e = ap within (sym c.in_ok-midnight.was ∙ c.boundary_of.ensures) ∙ dated c.args.s.now c.if-s-ne10.false c.if-s-ne45.false in
    in_time_lem m (rw c.date_of-year.ensures at c.if-year-ge-FIRST_YEAR.true) (rw c.date_of-year.ensures at c.if-year-le-LAST_YEAR.true) ∙ e

pub returns-else-year-ge-FIRST_YEAR : goal.returns-else-year-ge-FIRST_YEAR
returns-else-year-ge-FIRST_YEAR c =
    let m = c.in_ok-midnight.midnight in
    let e = ap within (sym c.in_ok-midnight.was ∙ c.boundary_of.ensures) ∙ dated c.args.s.now c.if-s-ne10.false c.if-s-ne45.false in
    elim c.else-year-ge-FIRST_YEAR.branch [
      | else-year-ge-FIRST_YEAR-via-then-year-ge-FIRST_YEAR+else-year-le-LAST_YEAR w ↦ too_late m (rw c.date_of-year.ensures at w.if-year-ge-FIRST_YEAR.true) (rw c.date_of-year.ensures at w.if-year-le-LAST_YEAR.false) ∙ e
      | else-year-ge-FIRST_YEAR-via-else-year-ge-FIRST_YEAR w ↦ too_early m (rw c.date_of-year.ensures at w.if-year-ge-FIRST_YEAR.false) ∙ e
    ]
