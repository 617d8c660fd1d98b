use Rattle.std.proofs.Common.{rules, ◌≡◌, Err, sym, ◌∙◌, arith}
use Rattle.capture.specs.Says.{step_refused, step_end, step_zero, step_at_lem, said_or}
use Rattle.capture.proofs.step.Goals as goal

pub returns-in_err-layout : goal.returns-in_err-layout
returns-in_err-layout c =
    let z : c.from_residual.result ≡ Err c.in_err-layout.field-0.0 = search rules in
    rw z (step_refused _ _ _ _ (sym c.in_err-layout.ensures))

pub returns-then-place-used : goal.returns-then-place-used
returns-then-place-used c = step_end _ _ _ _ (sym c.in_ok-layout.ensures) c.if-place-used.true

pub returns-then-place-lt1 : goal.returns-then-place-lt1
returns-then-place-lt1 c = step_zero _ _ _ _ (sym c.in_ok-layout.ensures) c.if-place-used.false (omega arith)

pub returns : goal.returns
returns c =
    let a = c.args in
    rw c.ok_or.ensures.value
    (said_or a.buf.now a.used a.place c.read.result ∙ c.read.ensures ∙ step_at_lem _ _ _ _ (sym c.in_ok-layout.ensures) c.if-place-used.false (omega arith))
