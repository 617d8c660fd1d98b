use Rattle.std.proofs.Common.{rules, ◌≡◌, Err, sym, length-take, arith}
use Rattle.capture.specs.Says.{front_used, opened_refused, opened_short, opened_open}
use Rattle.capture.proofs.open.Goals as goal

pub walk-m-requires : goal.walk-m-requires
walk-m-requires c = simp length-take (omega (arith, front_used c.args.buf.now c.args.used _ (sym c.in_ok-layout.ensures)))

pub returns-in_err-layout : goal.returns-in_err-layout
returns-in_err-layout c =
    let z : c.from_residual.result ≡ Err c.in_err-layout.field-0.0 = search rules in
    rw z (opened_refused _ _ _ (sym c.in_err-layout.ensures))

pub returns-then-m-used : goal.returns-then-m-used
returns-then-m-used c = opened_short _ _ _ c.walk-m.result (sym c.in_ok-layout.ensures) c.walk-m.ensures (omega arith)

pub returns : goal.returns
returns c = opened_open _ _ _ c.walk-m.result (sym c.in_ok-layout.ensures) c.walk-m.ensures (omega arith)
