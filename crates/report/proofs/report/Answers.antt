use Rattle.std.proofs.Common.{rules, ◌≡◌, Err, sym, ◌∙◌, arith}
use Rattle.capture.specs.Says.{front_used}
use Rattle.report.specs.Going.{report_front, report_short, report_level, report_full}
use Rattle.report.proofs.report.Goals as goal

pub returns-in_err-layout : goal.returns-in_err-layout
returns-in_err-layout c =
    let z : c.from_residual.result ≡ Err c.in_err-layout.field-0.0 = search rules in
    rw z (report_front _ _ _ _ _ (sym c.in_err-layout.ensures))

pub slice_bounds-over-count : goal.slice_bounds-over-count
slice_bounds-over-count c = omega (arith, front_used _ _ _ (sym c.in_ok-layout.ensures))

pub slice_bounds-over-start : goal.slice_bounds-over-start
slice_bounds-over-start c = omega (arith, front_used _ _ _ (sym c.in_ok-layout.ensures))

pub overflow_sub-used : goal.overflow_sub-used
overflow_sub-used c = omega (arith, front_used _ _ _ (sym c.in_ok-layout.ensures))

pub returns-then-p-used : goal.returns-then-p-used
returns-then-p-used c = report_short _ _ _ _ _ c.nothing.result c.over-p.result (sym c.in_ok-layout.ensures) c.nothing.ensures c.over-p.ensures c.if-p-used.true

pub returns-then-not-rising : goal.returns-then-not-rising
returns-then-not-rising c =
    report_level _ _ _ _ _ c.nothing.result c.over-p.result (sym c.in_ok-layout.ensures) c.nothing.ensures c.over-p.ensures c.if-p-used.false
    (sym c.rising.ensures ∙ c.if-not-rising.true)

pub returns : goal.returns
returns c =
    report_full _ _ _ _ _ c.nothing.result c.over-p.result (sym c.in_ok-layout.ensures) c.nothing.ensures c.over-p.ensures c.if-p-used.false
    (sym c.rising.ensures ∙ c.if-not-rising.false)
